-- What is known of a valid zone.
use Rattle.std.proofs.Common.{◌≡◌, ◌≢◌, ℕ, ◌+◌, ◌^◌, ◌<◌, ◌≤◌, Bool, true, false, cond, length, refl, sym, ap, ◌∙◌, Option, Some, None, IsSome, is_some, nat_eq, ◌||◌, if◌then◌else◌, eq-eqb, ltb-true, arith}
use Rattle.std.specs.FinMap as map
use Rattle.std.specs.FinSet as set
pub use Rattle.std.proofs.lemmas.Bool.{cond-true as taken, cond-false as skipped}
use Rattle.std.proofs.lemmas.Bool.{and_parts, false_from_ne_true}
use Rattle.std.specs.Option.{option_and_then}
use Rattle.std.proofs.lemmas.Option.{option_and_then_some}
use Rattle.frame_core.proofs.OnTheWay.{isolated_within}
use Rattle.frame_core.specs.Address.{InRange, InTable}
use Rattle.frame_core.specs.declared.place.Address.{Address}
use Rattle.frame_core.specs.History.{page_at, pins}
use Rattle.frame_core.specs.Moves.{out, isolated}
use Rattle.state_core.specs.declared.error.ZoneError.TheVariants.{JournalFull}
use Rattle.state_core.specs.declared.placement.Placement.{Placement}
use Rattle.state_core.specs.declared.placement.Placement.TheVariants.{At, Moving}
use Rattle.state_core.specs.Isolating.{isolate_refusal}
use Rattle.state_core.specs.Valid.{IsValidZone}
use Rattle.state_core.specs.ZoneState.{words_frame, ZoneState, frame_count, takes_up, has_address, has_room, placement_at}

pub chosen : {A : Type 0} (n : ℕ) (x y : A) → (if nat_eq n n then x else y) ≡ x
chosen n x y = ap (λ b. if b then x else y) (eq-eqb n n refl)

pub not_none : {A : Type 0} (o : Option A) (x : A) → o ≡ Some x → IsSome o
not_none o x e = ap is_some e

pub some_is : {A : Type 0} (o : Option A) → is_some o ≡ true → (x : A) × (o ≡ Some x)
some_is None e = cc
some_is (Some x) e = (x, refl)

pub none_is : {A : Type 0} (o : Option A) → is_some o ≡ false → o ≡ None
none_is None e = refl
none_is (Some x) e = cc

-- where there is room for a call, the journal has more places than pages are out
pub spare : (v : ZoneState) → has_room v ≡ true → length (out v.records) < v.room
spare v room = ltb-true _ _ room

not_full : (b : Bool) → cond b None (Some JournalFull) ≡ None → b ≡ true
not_full true e = refl
not_full false e = cc

-- where an isolation isn't refused, the journal has its two places
pub room_for_two : (v : ZoneState) → isolate_refusal v ≡ None → length (out v.records) + 1 < v.room
room_for_two v accepted = ltb-true _ _ (not_full _ accepted)

-- a zone has isolated no more pages than a journal has places
pub isolated_bound : (v : ZoneState) → IsValidZone v → isolated v.records ≤ 2 ^ 53
isolated_bound v law = let places = law.journal.places in omega (arith, isolated_within v.records)

-- an address of the zone is in its table
pub in_table : (v : ZoneState) (address : Address) → has_address v address ≡ true → InTable v.spaces v.vpages address
in_table v address e = let both = and_parts _ _ e in record { space = ltb-true _ _ both.0; vpage = ltb-true _ _ both.1 }

-- an address of a table of a zone's size is in range
pub in_range : (v : ZoneState) → IsValidZone v → (address : Address) → InTable v.spaces v.vpages address → InRange address
in_range v law address inside = record { space = omega (arith, inside.space, law.addresses.0); vpage = omega (arith, inside.vpage, law.addresses.1) }

-- an address that names a page is in range
pub named_in_range : (v : ZoneState) → IsValidZone v → (address : Address) (page : ℕ) → page_at v.records address ≡ Some page → InRange address
named_in_range v law address page named = in_range v law address (law.agrees.named address page named).0

-- an address that names a page in a frame
pub page_named : (v : ZoneState) (address : Address) (placement : Placement) → placement_at v address ≡ Some placement → (page : ℕ) × (page_at v.records address ≡ Some page) × (map.get v.placement page ≡ Some placement)
page_named v address placement e = option_and_then_some (map.get v.placement) (page_at v.records address) placement e (λ page is at. (page, is, at))

-- the page of an address has the placement that the address leads to
pub page_stands : (v : ZoneState) (address : Address) (placement : Placement) (page : ℕ) → page_at v.records address ≡ Some page → placement_at v address ≡ Some placement → map.get v.placement page ≡ Some placement
page_stands v address placement page named at = sym (ap (option_and_then (map.get v.placement)) named) ∙ at

-- a page takes up the frame that has its words
pub takes_own : (placement : Placement) → takes_up (Some placement) (words_frame placement) ≡ true
takes_own (At frame) = eq-eqb frame frame refl
takes_own (Moving serial source target) = ap (λ b. b || nat_eq source target) (eq-eqb source source refl)

pub frame_within : (v : ZoneState) → IsValidZone v → (page : ℕ) (placement : Placement) → map.get v.placement page ≡ Some placement → words_frame placement < frame_count v
frame_within v law page placement e = law.pages.within page (words_frame placement) (ap (λ (o : Option Placement). takes_up o (words_frame placement)) e ∙ takes_own placement)

-- the frames with the words of two pages differ
pub frames_differ : (v : ZoneState) → IsValidZone v → (p q : ℕ) (a b : Placement) → map.get v.placement p ≡ Some a → map.get v.placement q ≡ Some b → q ≢ p → words_frame b ≢ words_frame a
frames_differ v law p q a b at_p at_q ne same =
    ne (law.pages.apart q p (words_frame b)
    (ap (λ (o : Option Placement). takes_up o (words_frame b)) at_q ∙ takes_own b)
    (ap (λ (o : Option Placement). takes_up o (words_frame b)) at_p ∙ ap (takes_up (Some a)) same ∙ takes_own a))

-- the words of a page that rests in a frame and has no pin aren't lent
pub unpinned_here : (v : ZoneState) → IsValidZone v → (page frame : ℕ) → map.get v.placement page ≡ Some (At frame) → pins v.records page ≡ 0 → set.contains v.lent_pages page ≡ false
unpinned_here v law page frame at none = false_from_ne_true _ (λ lent. absurd (omega (arith, law.loans.pinned page frame lent at, none)))
