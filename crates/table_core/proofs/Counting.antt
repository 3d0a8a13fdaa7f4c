-- The list of a frame is as long as the number of addresses listed under it.
use Rattle.std.proofs.Common.{◌≡◌, ℕ, ◌<◌, Bool, true, false, List, [], ◌∷◌, length, inl, inr, refl, sym, ap, ◌∙◌, arith}
use Rattle.std.specs.Prelude.{nat_eq, ◌&&◌, ◌||◌}
use Rattle.std.proofs.lemmas.Bool.{eq-eqb, eqb-true, ne_eqb, and_left, and_parts, and_right, false_from_ne_true, or_cases, or_left, or_right}
use Rattle.std.proofs.lemmas.Bool.Decides.{same_from_decides}
use Rattle.frame_core.proofs.Searches.{pairs_same_below, pairs_more, pairs_none}
use Rattle.frame_core.specs.Below.{count_pairs}
use Rattle.frame_core.specs.declared.place.Address.{Address}
use Rattle.frame_core.specs.Address.{InTable}
use Rattle.table_core.specs.Listed.{IsListOf, AreListed}
use Rattle.table_core.specs.Names.{IsIn, IsRising, order_of}
use Rattle.table_core.proofs.Places.{listed_some, listed_inside}
use Rattle.table_core.specs.Tables.{EntryTable, entry_at, is_listed, count_listed}

abbrev named_by : List Address → ℕ → ℕ → Bool
named_by [] space vpage = false
named_by (a ∷ rest) space vpage = (nat_eq a.space space && nat_eq a.vpage vpage) || named_by rest space vpage

named_in : (xs : List Address) (a : Address) → IsIn xs a → named_by xs a.space a.vpage ≡ true
named_in [] a h = absurd h
named_in (x ∷ xs) a (inl e) = or_left _ _ (λ i. eq-eqb x.space a.space (λ j. (e j).space) i && eq-eqb x.vpage a.vpage (λ j. (e j).vpage) i)
named_in (x ∷ xs) a (inr h) = or_right (nat_eq x.space a.space && nat_eq x.vpage a.vpage) _ (named_in xs a h)

in_named : (xs : List Address) (a : Address) → named_by xs a.space a.vpage ≡ true → IsIn xs a
in_named [] a e = cc
in_named (x ∷ xs) a e = elim (or_cases (nat_eq x.space a.space && nat_eq x.vpage a.vpage) (named_by xs a.space a.vpage) e) [
  | inl at ↦ (let two = and_parts _ _ at in inl (λ i. record { space = eqb-true x.space a.space two.0 i; vpage = eqb-true x.vpage a.vpage two.1 i }))
  | inr more ↦ inr (in_named xs a more)
]

length_named : (spaces pages : ℕ) (xs : List Address) → IsRising xs → ((a : Address) → IsIn xs a → InTable spaces pages a) → length xs ≡ count_pairs (named_by xs) spaces pages
length_named spaces pages [] r inside = sym (pairs_none (named_by []) spaces pages (λ i j. refl))
length_named spaces pages (x ∷ xs) r inside =
    let fails : named_by xs x.space x.vpage ≡ false =
    false_from_ne_true _ (λ e. let up : order_of x < order_of x = r.0 x (in_named xs x e) in omega arith) in
    let at = inside x (inl refl) in
    let more = pairs_more (named_by xs) (named_by (x ∷ xs)) spaces pages x.space x.vpage at.space at.vpage fails (named_in (x ∷ xs) x (inl refl))
    (λ k l ne. ap (λ b. b || named_by xs k l) (elim ne [ inl s ↦ and_left _ _ (ne_eqb x.space k (λ e. s (sym e))) | inr v ↦ and_right _ _ (ne_eqb x.vpage l (λ e. v (sym e))) ])) in
    let rest = length_named spaces pages xs r.1 (λ a h. inside a (inr h)) in
    omega arith

pub length_list : (entries : EntryTable) (lists : List (List Address)) → AreListed entries lists → (frame : ℕ) (names : List Address) → IsListOf entries frame names →
    length names ≡ count_listed entries frame
length_list entries lists listed frame names list =
    length_named entries.size.spaces entries.size.pages names list.just.rising (λ a h. listed_inside entries a frame ((list.just.each a).0 h).1)
    ∙ pairs_same_below (named_by names) (λ space vpage. is_listed (entry_at entries (record { space = space; vpage = vpage })) frame) entries.size.spaces entries.size.pages
    (λ space vpage h l. (let a : Address = record { space = space; vpage = vpage } in
    same_from_decides {P = IsIn names a} _ _ (in_named names a, named_in names a)
    (λ e. (list.just.each a).1 (listed.in_range a (listed_some entries a frame e), e), λ k. ((list.just.each a).0 k).1)))
