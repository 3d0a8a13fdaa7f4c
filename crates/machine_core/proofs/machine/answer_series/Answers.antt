use Rattle.std.proofs.Common.{◌≡◌, ◌∙◌, ℕ, suc, ◌+◌, ◌-◌, refl, sym, ap, arith}
use Rattle.std.specs.Prelude.{⊤, Result, Ok, Err, OnOk}
use Rattle.machine_core.specs.Machine.{page_step}
use Rattle.machine_core.proofs.SeriesOfCalls.{series_from-on, series_from-saturated}
use Rattle.machine_core.proofs.machine.answer_series.Goals as goal

-- a call of a series that isn't refused is accepted
accepted : {P : Type 0} (made : Result ⊤ ℕ) → ((refusal : ℕ) → made ≡ Err refusal → ⊥) → OnOk made P → P
accepted (Ok _) _ holds = holds
accepted (Err refusal) none _ = absurd (none refusal refl)

pub loop-done-preserved : goal.loop-done-preserved
loop-done-preserved g c =
    let s = c.args.series in
    let done = c.loop-done.done in
    let m = c.get-count.result - (done + 1) in
    let left : c.get-count.result - done ≡ suc m = omega (arith, c.loop-done-test.true) in
    let told = accepted c.answer_at.result c.in_default.not-Err c.answer_at.ensures.ok ∙ ap (page_step s.call c.loop-done.world) c.address.ensures in
    series_from-saturated s.call s.space c.loop-done.page s.step (done + 1) m _ c.answer_at.new.world c.saturating_add-page.ensures
    ∙ sym (series_from-on s.call s.space c.loop-done.page s.step done _ m c.loop-done.world c.answer_at.new.world left told)
    ∙ c.loop-done.invariant
