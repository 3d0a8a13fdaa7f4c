use Rattle.std.proofs.Common.{ap, sym, ◌∙◌}
use Rattle.std.proofs.lemmas.Result.{IfOk-weaker}
use Rattle.text_core.specs.Grammar.{zone_of}
use Rattle.text_core.specs.Script.{command_in_block}
use Rattle.machine_core.specs.OneThread.{OneThread}
use Rattle.script_core.specs.WithThreads.{WithThreads}
use Rattle.script_core.proofs.Rounds.{block_for, block_step}
use Rattle.script_core.proofs.with_threads.WithThreads.answer_block.Goals as goal

pub returns-clause-ok : goal.returns-clause-ok
returns-clause-ok g c =
    let given = c.in-Some-take_closed.ensures.given in
    let there = ap (λ (t : WithThreads). t.single.world) (sym c.self.view_is) ∙ given.0 in
    let is = ap zone_of (sym c.zone.ensures) ∙ sym c.zone-2.ensures ∙ c.in-Some.is in
    IfOk-weaker c.run_beside.result _ _ (λ answers ran. block_step c.in-Some-take_closed.world c.args.self.now _ (command_in_block c.args.block) answers c.run_beside.new.self
    (ap (λ (s : OneThread). s.places) c.in-Some-take_closed.ensures.left ∙ ap (λ (t : WithThreads). t.single.places) c.self.view_is)
    (ap (λ (t : WithThreads). t.client) c.self.view_is)
    there c.requires.whole (block_for c.args.block.zone c.in-Some.zone _ c.in-Some-take_closed.world is there given.1) ran)
    c.run_beside.ensures
