-- How many addresses name a page, before and after one of them changes.
use Rattle.std.proofs.Common.{◌≡◌, ◌≢◌, ℕ, ◌+◌, ◌<◌, Bool, true, false, List, ◌⊎◌, inl, inr, refl, sym, ap, ◌∙◌, arith}
use Rattle.std.specs.Prelude.{Option, nat_eq}
use Rattle.std.proofs.lemmas.Bool.{and_left, and_parts, and_right, cases_Bool, eqb-true, ne_eqb}
use Rattle.frame_core.proofs.Searches.{pairs_same, pairs_more, pairs_none, pairs_some}
use Rattle.frame_core.specs.Address.{InRange}
use Rattle.frame_core.specs.Below.{one_if}
use Rattle.frame_core.specs.declared.place.Address.{Address}
use Rattle.frame_core.specs.declared.record.Record.{Record}
use Rattle.frame_core.specs.History.{same_address, page_at, is_page, names, maps}

pub no_test : (m n : ℕ) → m ≢ n → nat_eq m n ≡ false
no_test m n ne = ne_eqb m n ne

-- addresses that differ in their space or in their virtual page are not the same
pub two_addresses : (a b : Address) → (a.space ≢ b.space) ⊎ (a.vpage ≢ b.vpage) → same_address a b ≡ false
two_addresses a b (inl ne) = and_left _ _ (no_test a.space b.space ne)
two_addresses a b (inr ne) = and_right _ _ (no_test a.vpage b.vpage ne)

-- addresses that are the same are equal
pub one_address : (a b : Address) → same_address a b ≡ true → a ≡ b
one_address a b e =
    let parts = and_parts (nat_eq a.space b.space) (nat_eq a.vpage b.vpage) e in
    λ i. record { space = eqb-true a.space b.space parts.0 i; vpage = eqb-true a.vpage b.vpage parts.1 i }

module _ (records new : List Record) (page : ℕ) where
  pub maps_same : ((a : Address) → names new a page ≡ names records a page) → maps new page ≡ maps records page
  maps_same same = pairs_same _ _ 256 16777216 (λ i j. same (record { space = i; vpage = j }))

  -- where one more address names the page, its count is one more
  pub maps_more : (at : Address) → at.space < 256 → at.vpage < 16777216 → names records at page ≡ false → names new at page ≡ true → ((a : Address) → same_address a at ≡ false → names new a page ≡ names records a page) → maps new page ≡ maps records page + 1
  maps_more at space vpage before after others =
      pairs_more _ _ 256 16777216 at.space at.vpage space vpage before after
      (λ i j apart. others (record { space = i; vpage = j }) (two_addresses (record { space = i; vpage = j }) at apart))

pub maps_none : (records : List Record) (page : ℕ) → ((a : Address) → names records a page ≡ false) → maps records page ≡ 0
maps_none records page none = pairs_none _ 256 16777216 (λ i j. none (record { space = i; vpage = j }))

pub maps_some : (records : List Record) (page : ℕ) (at : Address) → InRange at → names records at page ≡ true → 0 < maps records page
maps_some records page at range named = pairs_some _ 256 16777216 at.space at.vpage range.space range.vpage named

-- one address changes what it names, and each other address names what it named before
module _ (records new : List Record) (at : Address) (range : InRange at) (others : (a : Address) → same_address a at ≡ false → page_at new a ≡ page_at records a) (page : ℕ) where
  names_there : (a : Address) → same_address a at ≡ false → names new a page ≡ names records a page
  names_there a apart = ap (λ (o : Option ℕ). is_page o page) (others a apart)

  names_kept : names new at page ≡ names records at page → (a : Address) → names new a page ≡ names records a page
  names_kept same a = elim (cases_Bool (same_address a at)) [
    | inl here ↦ (let one = one_address a at here in ap (λ (b : Address). names new b page) one ∙ same ∙ sym (ap (λ (b : Address). names records b page) one))
    | inr there ↦ names_there a there
  ]

  pub maps_changed : maps new page + one_if (names records at page) ≡ maps records page + one_if (names new at page)
  maps_changed = by_names (names records at page) (names new at page) refl refl where
    by_names : (was is : Bool) → names records at page ≡ was → names new at page ≡ is → maps new page + one_if was ≡ maps records page + one_if is
    by_names true true was is = omega (arith, maps_same records new page (names_kept (is ∙ sym was)))
    by_names true false was is = omega (arith, maps_more new records page at range.space range.vpage is was (λ a apart. sym (names_there a apart)))
    by_names false true was is = omega (arith, maps_more records new page at range.space range.vpage was is names_there)
    by_names false false was is = omega (arith, maps_same records new page (names_kept (is ∙ sym was)))
