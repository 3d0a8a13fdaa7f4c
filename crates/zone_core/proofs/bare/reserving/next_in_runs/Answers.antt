use Rattle.std.proofs.Common.{◌≡◌, ◌∙◌, ◌^◌, ◌+◌, ◌||◌, ℕ, Bool, List, take, refl, sym, ap, subst}
use Rattle.std.specs.Prelude.{Option}
use Rattle.std.specs.List.{list_any}
use Rattle.std.proofs.lemmas.List.{take_all}
use Rattle.std.proofs.lemmas.List.Folds.{list_any_more}
use Rattle.fewest_core.specs.Evacuation.{is_in_run}
use Rattle.zone_core.specs.Reserving.{IsNext, lower}
use Rattle.zone_core.proofs.NextIn.{lower_is}
use Rattle.zone_core.proofs.bare.reserving.next_in_runs.Goals as goal

-- whether a frame is in one of the first so many runs
abbrev in_first : ℕ → List ℕ → ℕ → ℕ → Bool
in_first size firsts n frame = list_any (λ (first : ℕ). is_in_run first size frame) (take n firsts)

pub loop-place-init : goal.loop-place-init
loop-place-init c = λ k low. refl

pub loop-place-preserved : goal.loop-place-preserved
loop-place-preserved c =
    let size = 2 ^ c.args.order in
    let run = c.index-firsts-place.result in
    let before = in_first size c.args.firsts.now c.loop-place.place in
    let law = lower_is before (is_in_run run size) c.args.from c.loop-place.next c.next_in_run.result c.loop-place.invariant c.next_in_run.ensures in
    let now : in_first size c.args.firsts.now (c.loop-place.place + 1) ≡ (λ frame. before frame || is_in_run run size frame) =
    λ i frame. (list_any_more (λ (first : ℕ). is_in_run first size frame) c.args.firsts.now c.loop-place.place run c.loop-place-test.true ∙ ap (λ (first : ℕ). before frame || is_in_run first size frame) (sym c.index-firsts-place.is)) i in
    subst (λ (o : Option ℕ). IsNext (in_first size c.args.firsts.now (c.loop-place.place + 1)) c.args.from o) (sym c.lower-next.ensures)
    (subst (λ (p : ℕ → Bool). IsNext p c.args.from (lower c.loop-place.next c.next_in_run.result)) (sym now) law)

pub returns : goal.returns
returns c =
    let size = 2 ^ c.args.order in
    subst (λ (p : ℕ → Bool). IsNext p c.args.from c.loop-place.next) (λ i frame. list_any (λ (first : ℕ). is_in_run first size frame) (take_all c.loop-place.place c.args.firsts.now c.loop-place-test.false i)) c.loop-place.invariant
