use Rattle.std.proofs.Common.{◌≡◌, Bool, true, false, true≢false, inl, inr, refl, sym, ap, subst, ◌∙◌}
use Rattle.std.specs.Prelude.{if◌then◌else◌, ◌&&◌, Option, Some, None, is_none, is_some, nat_eq}
use Rattle.std.specs.FinSet as set
use Rattle.std.specs.Ordering.{nat_cmp}
use Rattle.std.proofs.lemmas.Bool.{both_ways}
use Rattle.std.proofs.lemmas.Bool.Decides.{eqb_tells}
use Rattle.state_core.specs.Lending.{LendsNone}
use Rattle.state_core.specs.ZoneState.{ZoneState}
use Rattle.state_core.specs.declared.error.ZoneError.{ZoneError}
use Rattle.state_core.specs.declared.error.ZoneError.TheVariants.{Lent, OwnMemory}
use Rattle.compactd_c.specs.Memory.{end_refusal}
use Rattle.compactd_c.proofs.memory.compactd_close_in.Goals as goal

is_allowed : (own none : Bool) → ◌≡◌ {A = Option ZoneError} (if own then Some OwnMemory else (if none then None else Some Lent)) None → none ≡ true
is_allowed true none is = absurd (true≢false (ap is_some is))
is_allowed false true is = refl
is_allowed false false is = absurd (true≢false (ap is_some is))

is_empty : (s : set.FinSet nat_cmp) → nat_eq (set.len s) 0 ≡ true → s ≡ set.empty
is_empty s none = elim (eqb_tells (set.len s) 0) [ inl zero ↦ set.empty_of_len s zero.1 | inr other ↦ absurd (both_ways _ other.0 none) ]

parts : (a b : Bool) → (a && b) ≡ true → (a ≡ true) × (b ≡ true)
parts true b is = (refl, is)
parts false b is = absurd (true≢false (sym is))

lends_none : (z : ZoneState) → end_refusal z ≡ None → LendsNone z
lends_none z is =
    let none = parts _ _ (is_allowed (is_none z.memory) (nat_eq (set.len z.lent) 0 && nat_eq (set.len z.lent_pages) 0) is) in
    (is_empty z.lent none.0, is_empty z.lent_pages none.1)

pub ended-requires : goal.ended-requires
ended-requires c z is = same is (lends_none c.in-Some.zone.now (sym c.end_refusal.ensures ∙ c.in_default.is)) where
  same : {z : ZoneState} → Some c.in-Some.zone.now ≡ Some z → LendsNone c.in-Some.zone.now → LendsNone z
  same {z} one none = let which : c.in-Some.zone.now ≡ z = cc in subst LendsNone which none
