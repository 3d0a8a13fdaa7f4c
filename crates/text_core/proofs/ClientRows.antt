-- The rows of a client make calls that a client may make.
use Rattle.std.proofs.Common.{ℕ, Bool, true, false, IsTrue, List, [], ◌∷◌, refl, Option, Some, None}
use Rattle.std.specs.Prelude.{IfSome, option_map}
use Rattle.frame_core.specs.declared.place.Address.{Address}
use Rattle.state_core.specs.Calls.{is_of_client}
use Rattle.state_core.specs.declared.call.ZoneCall.{ZoneCall}
use Rattle.state_core.specs.declared.call.ZoneCall.TheVariants as zone_call
use Rattle.text_core.specs.declared.token.Token.{Token}
use Rattle.text_core.specs.declared.token.Token.TheVariants.{Number, Map, MapAt, Store, Load, Unmovable, Share, Unmap, Pin, Unpin}
use Rattle.text_core.specs.Grammar.{address_of, client_row, frame_of, load_call, map_at_call, map_call, share_call, store_call, word_of}

-- where there is a call, it is one that a client may make
abbrev OfClient : Option (ZoneCall 8) → Type 0
OfClient call = IfSome call (λ c. IsTrue (is_of_client c))

map_of_client : (a : Option Address) (unmovable : Bool) → OfClient (map_call a unmovable)
map_of_client (Some a) unmovable = refl
map_of_client None unmovable = tt

map_at_of_client : (a : Option Address) (f : Option ℕ) (unmovable : Bool) → OfClient (map_at_call a f unmovable)
map_at_of_client (Some a) (Some f) unmovable = refl
map_at_of_client (Some a) None unmovable = tt
map_at_of_client None f unmovable = tt

store_of_client : (a : Option Address) (w : Option ℕ) (value : ℕ) → OfClient (store_call a w value)
store_of_client (Some a) (Some w) value = refl
store_of_client (Some a) None value = tt
store_of_client None w value = tt

load_of_client : (a : Option Address) (w : Option ℕ) → OfClient (load_call a w)
load_of_client (Some a) (Some w) = refl
load_of_client (Some a) None = tt
load_of_client None w = tt

share_of_client : (a alias : Option Address) → OfClient (share_call a alias)
share_of_client (Some a) (Some alias) = refl
share_of_client (Some a) None = tt
share_of_client None alias = tt

at_address : (f : Address → ZoneCall 8) → ((a : Address) → IsTrue (is_of_client (f a))) → (a : Option Address) → OfClient (option_map f a)
at_address f is (Some a) = is a
at_address f is None = tt

-- the calls of the rows of a client are those that a client may make
pub client_rows : (keyword : Token) (arguments : List Token) → IfSome (client_row keyword arguments) (λ call. IfSome call (λ c. IsTrue (is_of_client c)))
client_rows Map (Number s ∷ Number v ∷ []) = map_of_client (address_of s v) false
client_rows Map (Number s ∷ Number v ∷ Unmovable ∷ []) = map_of_client (address_of s v) true
client_rows MapAt (Number s ∷ Number v ∷ Number f ∷ []) = map_at_of_client (address_of s v) (frame_of f) false
client_rows MapAt (Number s ∷ Number v ∷ Number f ∷ Unmovable ∷ []) = map_at_of_client (address_of s v) (frame_of f) true
client_rows Store (Number s ∷ Number v ∷ Number w ∷ Number x ∷ []) = store_of_client (address_of s v) (word_of w) x
client_rows Load (Number s ∷ Number v ∷ Number w ∷ []) = load_of_client (address_of s v) (word_of w)
client_rows Share (Number s ∷ Number v ∷ Number s2 ∷ Number v2 ∷ []) = share_of_client (address_of s v) (address_of s2 v2)
client_rows Unmap (Number s ∷ Number v ∷ []) = at_address zone_call.Unmap (λ a. refl) (address_of s v)
client_rows Pin (Number s ∷ Number v ∷ []) = at_address zone_call.Pin (λ a. refl) (address_of s v)
client_rows Unpin (Number s ∷ Number v ∷ []) = at_address zone_call.Unpin (λ a. refl) (address_of s v)
client_rows _ _ = tt
