-- The arguments of what a line says are in their ranges.
use Rattle.std.proofs.Common.{◌≡◌, ℕ, ◌<◌, ◌≤◌, Bool, true, false, List, [], ◌∷◌, length, refl, arith, Option, Some, None, Result, Ok, Err}
use Rattle.std.specs.Prelude.{◌&&◌, nat_le, nat_lt, map, if◌then◌else◌, IfSome, ⊤, option_map}
use Rattle.std.specs.Option.{option_or}
use Rattle.std.proofs.lemmas.Bool.{and_parts, leb-true}
use Rattle.frame_core.specs.declared.place.Address.{Address}
use Rattle.state_core.specs.declared.call.ZoneCall.{ZoneCall}
use Rattle.state_core.specs.declared.call.ZoneCall.TheVariants as zone_call
use Rattle.state_core.specs.Calls.{IsInRange as IsZoneCallInRange}
use Rattle.text_core.specs.declared.token.Token.{Token}
use Rattle.text_core.specs.declared.token.Token.TheVariants.{Number, Zone, Map, MapAt, Store, Load, Info, Unmovable, Scan, Take, Copy, Finish, Shut, Look, Share, Unmap, Pin, Unpin, Huge, Give, Fill, Thin, Mark, Unmark, Compact, Pool, During}
use Rattle.text_core.specs.declared.command.Call.{Call}
use Rattle.text_core.specs.declared.command.Call.TheVariants as call
use Rattle.text_core.specs.declared.command.Calls.TheVariants.{Zone as OfZone, One}
use Rattle.text_core.specs.declared.command.Series.{Series}
use Rattle.text_core.specs.declared.command.Command.{Command}
use Rattle.text_core.specs.declared.command.Command.TheVariants.{Open, On, Pool as PoolOn, Profile2}
use Rattle.text_core.specs.declared.pool.PoolBlocks.{PoolBlocks}
use Rattle.text_core.specs.declared.pool.PoolBlocks.TheVariants.{Pageblocks, OfOrder}
use Rattle.text_core.specs.declared.error.ScriptError.{ScriptError}
use Rattle.text_core.specs.declared.error.ScriptError.TheVariants.{LongLine}
use Rattle.text_core.specs.declared.profile.Profile.{Profile}
use Rattle.text_core.specs.declared.profile.Profile.TheVariants.{Untold, One as Profile1, Two}
use Rattle.text_core.specs.Grammar.{address_of, blocks_of, call_on, zone_call_on, command_of, compacting, frame_of, give_order_call, hand_of, load_call, map_at_call, map_call, opening, order_of, own_row, pageblock_of, pooling, row_in, row_of, row_of_profile_2, series_on, share_call, store_call, word_of, zone_of, during_row}
use Rattle.text_core.specs.Line.{command_in, said_or_fault, is_comment, lexemes_say, line_of}
use Rattle.text_core.specs.Pool.{pool_order}
use Rattle.text_core.specs.Profile.{is_profile_2}
use Rattle.text_core.specs.Token.{lexemes, token_of}

-- the arguments of a call are in their ranges
abbrev pub IsCallInRange : Call → Type 0
IsCallInRange (call.Take hand) = (0 < hand) × (hand ≤ 4)
IsCallInRange (call.Copy hand) = (0 < hand) × (hand ≤ 4)
IsCallInRange (call.Finish hand) = (0 < hand) × (hand ≤ 4)
IsCallInRange _ = ⊤

-- where a pool reserves blocks of an order, the order is in its range
abbrev pub HasOrder : PoolBlocks → Type 0
HasOrder blocks = (3 ≤ pool_order blocks) × (pool_order blocks ≤ 9)

-- the arguments of a command are in their ranges
abbrev pub IsInRange : Command → Type 0
IsInRange (Open zone blocks) = (0 < blocks) × (blocks ≤ 8)
IsInRange (On zone (OfZone c)) = IsZoneCallInRange c
IsInRange (On zone (One c)) = IsCallInRange c
IsInRange (PoolOn zone count blocks) = HasOrder blocks
IsInRange _ = ⊤

-- a number that is answered is between its bounds
between : (low high n : ℕ) (b : Bool) → (nat_le low n && nat_le n high) ≡ b → IfSome (if b then Some n else None) (λ k. (low ≤ k) × (k ≤ high))
between low high n true e = let both = and_parts (nat_le low n) _ e in (leb-true low n both.0, leb-true n high both.1)
between low high n false e = tt

-- what an opening, a round, a pool and a call are made of is in range
opening_ranged : (z b : Option ℕ) → IfSome b (λ n. (1 ≤ n) × (n ≤ 8)) → IsInRange (opening z b)
opening_ranged z b r = grind arith

compacting_ranged : (z : Option ℕ) → IsInRange (compacting z)
compacting_ranged z = grind arith

pooling_ranged : (z n : Option ℕ) (b : Option PoolBlocks) → IfSome b HasOrder → IsInRange (pooling z n b)
pooling_ranged z n b r = grind arith

pageblocks_ranged : HasOrder Pageblocks
pageblocks_ranged = (omega arith, omega arith)

of_order_ranged : (o : Option ℕ) → IfSome o (λ k. (3 ≤ k) × (k ≤ 9)) → IfSome (option_map OfOrder o) HasOrder
of_order_ranged o r = grind arith

call_ranged : (z : Option ℕ) (c : Option Call) → IfSome c IsCallInRange → IsInRange (call_on z c)
call_ranged z c r = grind arith

zone_call_ranged : (z : Option ℕ) (c : Option (ZoneCall 8)) → IfSome c IsZoneCallInRange → IsInRange (zone_call_on z c)
zone_call_ranged z c r = grind arith

series_ranged : (z : Option ℕ) (s : Option Series) → IsInRange (series_on z s)
series_ranged z s = grind arith

map_ranged : (o : Option Address) (unmovable : Bool) → IfSome (map_call o unmovable) IsZoneCallInRange
map_ranged o unmovable = grind arith

map_at_ranged : (o : Option Address) (f : Option ℕ) (unmovable : Bool) → IfSome (map_at_call o f unmovable) IsZoneCallInRange
map_at_ranged o f unmovable = grind arith

share_ranged : (o alias : Option Address) → IfSome (share_call o alias) IsZoneCallInRange
share_ranged o alias = grind arith

store_ranged : (o : Option Address) (w : Option ℕ) (x : ℕ) → IfSome (store_call o w x) IsZoneCallInRange
store_ranged o w x = grind arith

load_ranged : (o : Option Address) (w : Option ℕ) → IfSome (load_call o w) IsZoneCallInRange
load_ranged o w = grind arith

give_ranged : (f k : Option ℕ) → IfSome (give_order_call f k) IsZoneCallInRange
give_ranged f k = grind arith

-- a call with one argument, which is in its range
mapped_ranged : {A B : Type 0} (P : A → Type 0) (Q : B → Type 0) (f : A → B) → ((x : A) → P x → Q (f x)) → (o : Option A) → IfSome o P → IfSome (option_map f o) Q
mapped_ranged P Q f g (Some x) r = g x r
mapped_ranged P Q f g None r = tt

any : {A : Type 0} (o : Option A) → IfSome o (λ x. ⊤)
any (Some x) = tt
any None = tt

hand_ranged : (f : ℕ → Call) → ((k : ℕ) → (1 ≤ k) × (k ≤ 4) → IsCallInRange (f k)) → (k : ℕ) → IfSome (option_map f (hand_of k)) IsCallInRange
hand_ranged f g k = mapped_ranged (λ n. (1 ≤ n) × (n ≤ 4)) IsCallInRange f g (hand_of k) (between 1 4 k (nat_le 1 k && nat_le k 4) refl)

at_ranged : {B : Type 0} (Q : B → Type 0) (f : Address → B) → ((a : Address) → Q (f a)) → (s v : ℕ) → IfSome (option_map f (address_of s v)) Q
at_ranged Q f g s v = mapped_ranged (λ a. ⊤) Q f (λ a r. g a) (address_of s v) (any (address_of s v))

-- the commands of the rows that both profiles have are in range
row_ranged : (keyword : Token) (z : Option ℕ) (arguments : List Token) → IfSome (row_of keyword z arguments) IsInRange
row_ranged Zone z (Number b ∷ []) = opening_ranged z (blocks_of b) (between 1 8 b (nat_le 1 b && nat_le b 8) refl)
row_ranged Map z (Number s ∷ Number v ∷ []) = zone_call_ranged z _ (map_ranged (address_of s v) false)
row_ranged Map z (Number s ∷ Number v ∷ Unmovable ∷ []) = zone_call_ranged z _ (map_ranged (address_of s v) true)
row_ranged MapAt z (Number s ∷ Number v ∷ Number f ∷ []) = zone_call_ranged z _ (map_at_ranged (address_of s v) (frame_of f) false)
row_ranged MapAt z (Number s ∷ Number v ∷ Number f ∷ Unmovable ∷ []) = zone_call_ranged z _ (map_at_ranged (address_of s v) (frame_of f) true)
row_ranged Store z (Number s ∷ Number v ∷ Number w ∷ Number x ∷ []) = zone_call_ranged z _ (store_ranged (address_of s v) (word_of w) x)
row_ranged Load z (Number s ∷ Number v ∷ Number w ∷ []) = zone_call_ranged z _ (load_ranged (address_of s v) (word_of w))
row_ranged Info z [] = call_ranged z (Some call.Info) tt
row_ranged Scan z [] = call_ranged z (Some call.Scan) tt
row_ranged Take z (Number k ∷ []) = call_ranged z _ (hand_ranged call.Take (λ n r. r) k)
row_ranged Copy z (Number k ∷ []) = call_ranged z _ (hand_ranged call.Copy (λ n r. r) k)
row_ranged Finish z (Number k ∷ []) = call_ranged z _ (hand_ranged call.Finish (λ n r. r) k)
row_ranged Shut z [] = call_ranged z (Some call.Shut) tt
row_ranged Look z (Number s ∷ Number v ∷ []) = call_ranged z _ (at_ranged IsCallInRange call.Look (λ a. tt) s v)
row_ranged Share z (Number s ∷ Number v ∷ Number s2 ∷ Number v2 ∷ []) = zone_call_ranged z _ (share_ranged (address_of s v) (address_of s2 v2))
row_ranged Unmap z (Number s ∷ Number v ∷ []) = zone_call_ranged z _ (at_ranged IsZoneCallInRange zone_call.Unmap (λ a. tt) s v)
row_ranged Pin z (Number s ∷ Number v ∷ []) = zone_call_ranged z _ (at_ranged IsZoneCallInRange zone_call.Pin (λ a. tt) s v)
row_ranged Unpin z (Number s ∷ Number v ∷ []) = zone_call_ranged z _ (at_ranged IsZoneCallInRange zone_call.Unpin (λ a. tt) s v)
row_ranged Huge z [] = call_ranged z (Some call.Huge) tt
row_ranged Give z (Number b ∷ []) = call_ranged z _ (mapped_ranged (λ n. ⊤) IsCallInRange call.Give (λ n r. tt) (pageblock_of b) (any (pageblock_of b)))
row_ranged Fill z (Number s ∷ Number v ∷ Number n ∷ []) = series_ranged z _
row_ranged Thin z (Number s ∷ Number v ∷ Number n ∷ Number step ∷ []) = series_ranged z _
row_ranged Compact z [] = compacting_ranged z
row_ranged Pool z (Number n ∷ []) = pooling_ranged z (blocks_of n) (Some Pageblocks) pageblocks_ranged
row_ranged _ z _ = tt

-- the commands of the rows that only one profile has are in range
row_of_profile_2_ranged : (keyword : Token) (z : Option ℕ) (arguments : List Token) → IfSome (row_of_profile_2 keyword z arguments) IsInRange
row_of_profile_2_ranged Info z [] = call_ranged z (Some call.InfoWithHeld) tt
row_of_profile_2_ranged Huge z (Number k ∷ []) = zone_call_ranged z _ (mapped_ranged (λ n. (3 ≤ n) × (n ≤ 9)) IsZoneCallInRange zone_call.TakeOrder (λ n r. r) (order_of k) (between 3 9 k (nat_le 3 k && nat_le k 9) refl))
row_of_profile_2_ranged Give z (Number f ∷ Number k ∷ []) = zone_call_ranged z _ (give_ranged (frame_of f) (order_of k))
row_of_profile_2_ranged Mark z (Number b ∷ []) = zone_call_ranged z _ (mapped_ranged (λ n. ⊤) IsZoneCallInRange zone_call.Mark (λ n r. tt) (pageblock_of b) (any (pageblock_of b)))
row_of_profile_2_ranged Unmark z (Number b ∷ []) = zone_call_ranged z _ (mapped_ranged (λ n. ⊤) IsZoneCallInRange zone_call.Unmark (λ n r. tt) (pageblock_of b) (any (pageblock_of b)))
row_of_profile_2_ranged Pool z (Number n ∷ Number k ∷ []) = pooling_ranged z (blocks_of n) _ (of_order_ranged (order_of k) (between 3 9 k (nat_le 3 k && nat_le k 9) refl))
row_of_profile_2_ranged _ z _ = tt

own_row_ranged : (profile : Profile) (keyword : Token) (z : Option ℕ) (arguments : List Token) → IfSome (own_row profile keyword z arguments) IsInRange
own_row_ranged Two keyword z arguments = row_of_profile_2_ranged keyword z arguments
own_row_ranged Untold keyword z arguments = tt
own_row_ranged Profile1 keyword z arguments = tt

either_ranged : (own row : Option Command) → IfSome own IsInRange → IfSome row IsInRange → IfSome (option_or own row) IsInRange
either_ranged (Some c) row r s = r
either_ranged None row r s = s

row_in_ranged : (profile : Profile) (keyword : Token) (z : Option ℕ) (arguments : List Token) → IfSome (row_in profile keyword z arguments) IsInRange
row_in_ranged profile keyword z arguments =
    either_ranged (own_row profile keyword z arguments) (row_of keyword z arguments) (own_row_ranged profile keyword z arguments) (row_ranged keyword z arguments)

during_row_ranged : (keyword : Token) (z : ℕ) (arguments : List Token) → IfSome (during_row keyword z arguments) IsInRange
during_row_ranged During z [] = tt
during_row_ranged _ z _ = tt

either_row_ranged : (row during : Option Command) → IfSome row IsInRange → IfSome during IsInRange → IfSome (option_or row during) IsInRange
either_row_ranged (Some c) during r s = r
either_row_ranged None during r s = s

command_ranged : (profile : Profile) (tokens : List Token) → IfSome (command_of profile tokens) IsInRange
command_ranged profile (keyword ∷ Number z ∷ arguments) =
    either_row_ranged (row_in profile keyword (zone_of z) arguments) (during_row keyword z arguments) (row_in_ranged profile keyword (zone_of z) arguments) (during_row_ranged keyword z arguments)
command_ranged profile _ = tt

-- the commands of lines are in range
command_in_ranged : (profile : Profile) (words : List (List ℕ)) → IfSome (command_in profile words) IsInRange
command_in_ranged Untold words = by_test (is_profile_2 words) where
  by_test : (b : Bool) → IfSome (if b then Some Profile2 else command_of Untold (map token_of words)) IsInRange
  by_test true = tt
  by_test false = command_ranged Untold (map token_of words)
command_in_ranged Profile1 words = command_ranged Profile1 (map token_of words)
command_in_ranged Two words = command_ranged Two (map token_of words)

abbrev pub SaysInRange : Result (Option Command) ScriptError → Type 0
SaysInRange (Ok (Some c)) = IsInRange c
SaysInRange _ = ⊤

or_fault_ranged : (o : Option Command) → IfSome o IsInRange → SaysInRange (said_or_fault o)
or_fault_ranged (Some c) r = r
or_fault_ranged None r = tt

words_ranged : (profile : Profile) (words : List (List ℕ)) → SaysInRange (lexemes_say profile words)
words_ranged profile [] = tt
words_ranged profile (first ∷ more) = by_test (is_comment first) where
  by_test : (b : Bool) → SaysInRange (if b then Ok None else said_or_fault (command_in profile (first ∷ more)))
  by_test true = tt
  by_test false = or_fault_ranged (command_in profile (first ∷ more)) (command_in_ranged profile (first ∷ more))

pub line_ranged : (profile : Profile) (line : List ℕ) → SaysInRange (line_of profile line)
line_ranged profile line = by_test (nat_lt 200 (length line)) where
  by_test : (b : Bool) → SaysInRange (if b then Err LongLine else lexemes_say profile (lexemes line))
  by_test true = tt
  by_test false = words_ranged profile (lexemes line)
