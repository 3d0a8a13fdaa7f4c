-- Each step of a half keeps the rule.
use Rattle.std.proofs.Common.{◌≡◌, ◌≢◌, ℕ, zero, suc, ◌+◌, ◌<◌, ◌≤◌, ◌==◌, List, [], ◌∷◌, ◌++◌, set, sym, refl, ap, ◌∙◌, ⊎_elim, arith}
use mathlib.Core.Option.{some, some-ne-none, some-injective}
use lib.ListN.{get_elem?}
use prog.Atomic.{either}
use Rattle.atomic_table.specs.Table.{Me, Allows, Splits, Joins, keeps, step}
use Rattle.atomic_table.specs.Table as table
use Rattle.atomic_table.proofs.Lists.{at_set}
use Rattle.frame_core.specs.declared.record.Record.{Record}
use Rattle.hand_core.specs.declared.rule.Part.{Part}
use Rattle.hand_core.proofs.Totals.{total_set, total_new, total_at_most}
use Rattle.hand_core.proofs.EachEnd.{each_set, each_new}
use Rattle.hand_core.specs.Parts.{whole_part, half_part, no_part, both_parts, shares_of, HaveOneList, IsWritten, AreSame}

-- two parts have no more shares than all
shares_of_two : (views : List Part) (id other : ℕ) (v u : Part) → get_elem? views id ≡ some v → get_elem? views other ≡ some u → other ≢ id → v.shares + u.shares ≤ shares_of views
shares_of_two [] id other v u at at_other apart = absurd (some-ne-none v (sym at))
shares_of_two (x ∷ views) zero zero v u at at_other apart = absurd (apart refl)
shares_of_two (x ∷ views) zero (suc other) v u at at_other apart =
    let same : x.shares ≡ v.shares = ap (λ (y : Part). y.shares) (some-injective x v at) in
    let rest = total_at_most (λ u. u.shares) views other u at_other in omega arith
shares_of_two (x ∷ views) (suc id) zero v u at at_other apart =
    let same : x.shares ≡ u.shares = ap (λ (y : Part). y.shares) (some-injective x u at_other) in
    let rest = total_at_most (λ u. u.shares) views id v at in omega arith
shares_of_two (x ∷ views) (suc id) (suc other) v u at at_other apart =
    let rest = shares_of_two views id other v u at at_other (λ same. apart (ap suc same)) in omega arith

-- what the rule says of one part
abbrev Knows : List Record → ℕ → Part → Type 0
Knows list id v = 0 < v.shares → (v.records ≡ list) × (v.others ≡ list)

-- the rule holds of a pair that was just made
pub opens : (words : List ℕ) → HaveOneList (table.opening words [] (whole_part []))
opens words = record { shares = refl; list = []; each = each_new (Knows []) [] (whole_part []) (λ id v at. absurd (some-ne-none v (sym at))) (λ some_share. (refl, refl)) }

-- a part with both shares is cut in two
pub splits : (id : ℕ) (v : Part) → v.shares ≡ 2 → Splits HaveOneList id v (half_part v.records) (half_part v.records)
splits id v both s h at =
    let half : Part = half_part v.records in
    let views : List Part = set s.views id half in
    let same : v.records ≡ h.list = (h.each id v at (omega arith)).0 in
    record {
      shares = let a = total_set (λ u. u.shares) s.views id v half at in let b = total_new (λ u. u.shares) views half in let e = h.shares in omega arith;
      list = h.list;
      each = each_new (Knows h.list) views half (each_set (Knows h.list) s.views id half (λ some_share. (same, same)) (λ j y apart k. h.each j y k)) (λ some_share. (same, same));
    }

-- two halves are put together
pub joins : (id : ℕ) (v : Part) (other : ℕ) (w : Part) → v.shares ≡ 1 → w.shares ≡ 1 → Joins HaveOneList id v other w (both_parts v w) no_part
joins id v other w one one_more s h at apart at_other =
    let both : Part = both_parts v w in
    let views : List Part = set s.views id both in
    let was : get_elem? s.views other ≡ some w = ⊎_elim (λ (x : (other ≡ id) × (both ≡ w)). absurd (apart x.0)) (λ (x : (other ≢ id) × (get_elem? s.views other ≡ some w)). x.1) (at_set s.views id other both w at_other) in
    record {
      shares = let a = total_set (λ u. u.shares) views other w no_part at_other in let b = total_set (λ u. u.shares) s.views id v both at in let e = h.shares in omega arith;
      list = h.list;
      each = each_set (Knows h.list) views other no_part (λ none. absurd (omega arith))
          (λ j u away e. each_set (Knows h.list) s.views id both (λ some_share. ((h.each id v at (omega arith)).0, (h.each other w was (omega arith)).0)) (λ i y far k. h.each i y k) j u e);
    }

-- what a part with both shares knows
same_lists : (id : ℕ) (v : Part) (s : table.State Record Part) (h : HaveOneList s) → v.shares ≡ 2 → get_elem? s.views id ≡ some v → v.others ≡ v.records
same_lists id v s h both at = let known = h.each id v at (omega arith) in known.1 ∙ sym known.0

-- a part with both shares writes a record
pub writes : (slots id : ℕ) (me : Me Record Part) (entry : Record) → me.0.shares ≡ 2
    → Allows HaveOneList slots id me 0 (λ n. either (n == 0) 0 n) (IsWritten (step slots 0 0 0 (some entry)) me)
writes slots id me entry both s h homes at low =
    let longer : List Record = me.0.records ++ entry ∷ [] in
    let w : Part = whole_part longer in (
      w,
      keeps,
      tt,
      record {
        shares = let a = total_set (λ u. u.shares) s.views id me.0 w at in let e = h.shares in omega arith;
        list = longer;
        each = each_set (Knows longer) s.views id w (λ some_share. (refl, refl))
            (λ other u apart e some_share. absurd (let two = shares_of_two s.views id other me.0 u at e apart in let all = h.shares in omega arith));
      },
      (same_lists id me.0 s h both at, refl),
    )

-- a part with both shares compares its lists
pub compares : (slots id : ℕ) (me : Me Record Part) → me.0.shares ≡ 2
    → Allows HaveOneList slots id me 0 (λ n. n) (AreSame (step slots 0 0 0 mathlib.Core.Option.none) me)
compares slots id me both s h homes at low = (
  me.0,
  keeps,
  tt,
  record {
    shares = let a = total_set (λ u. u.shares) s.views id me.0 me.0 at in let e = h.shares in omega arith;
    list = h.list;
    each = each_set (Knows h.list) s.views id me.0 (h.each id me.0 at) (λ other u apart e. h.each other u e);
  },
  (same_lists id me.0 s h both at, refl),
)
