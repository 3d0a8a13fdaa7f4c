use Rattle.std.proofs.Common.{◌≡◌, ℕ, true, false, inl, inr, sym, ap, ◌∙◌}
use Rattle.std.specs.Prelude.{if◌then◌else◌, ◌&&◌, Some, None, nat_eq}
use Rattle.std.specs.FinSet as set
use Rattle.std.specs.Ordering.{nat_cmp}
use Rattle.std.proofs.lemmas.Bool.{both_ways}
use Rattle.std.proofs.lemmas.Bool.Decides.{eqb_tells}
use Rattle.state_core.specs.declared.error.ZoneError.TheVariants.{Lent, OwnMemory}
use Rattle.compactd_c.proofs.zone.lending.end_refusal.Goals as goal

-- a set without members has none of them
is_empty : (s : set.FinSet nat_cmp) → s ≡ set.empty → nat_eq (set.len s) 0 ≡ true
is_empty s none = ap (λ (n : ℕ). nat_eq n 0) (ap set.len none ∙ set.len-empty nat_cmp)

pub returns-then-lends_none : goal.returns-then-lends_none
returns-then-lends_none g c =
    let given = sym c.owns_memory.ensures ∙ c.if-owns_memory.false in
    let none = c.lends_none.ensures.0 c.if-lends_none.true in
    let blocks = is_empty c.args.zone.now.lent none.0 in
    let pages = is_empty c.args.zone.now.lent_pages none.1 in
    sym (λ i. if given i then Some OwnMemory else (if (blocks i && pages i) then None else Some Lent))

pub returns-else-lends_none : goal.returns-else-lends_none
returns-else-lends_none g c =
    let given = sym c.owns_memory.ensures ∙ c.if-owns_memory.false in
    let some : (nat_eq (set.len c.args.zone.now.lent) 0 && nat_eq (set.len c.args.zone.now.lent_pages) 0) ≡ false = elim (eqb_tells (set.len c.args.zone.now.lent) 0) [
      | inl blocks ↦ elim (eqb_tells (set.len c.args.zone.now.lent_pages) 0) [
        | inl pages ↦ absurd (both_ways _ c.if-lends_none.false (c.lends_none.ensures.1 (set.empty_of_len c.args.zone.now.lent blocks.1, set.empty_of_len c.args.zone.now.lent_pages pages.1)))
        | inr other ↦ λ i. blocks.0 i && other.0 i
      ]
      | inr other ↦ ap (λ b. b && nat_eq (set.len c.args.zone.now.lent_pages) 0) other.0
    ] in
    sym (λ i. if given i then Some OwnMemory else (if some i then None else Some Lent))
