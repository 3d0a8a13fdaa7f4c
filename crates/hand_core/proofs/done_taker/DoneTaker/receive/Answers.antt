use Rattle.std.proofs.Common.{ap, ◌∙◌, arith, rules}
use Rattle.std.proofs.lemmas.Grind.{common_steps}
use Rattle.std.specs.List.{range_with_len}
use Rattle.crossbeam_channel.specs.Claims.{view}
use Rattle.hand_core.specs.CopyEnds.{has_ended}
use Rattle.hand_core.proofs.CopySteps.{off}
use Rattle.hand_core.proofs.Messages.{last_alone}
use Rattle.hand_core.proofs.done_taker.DoneTaker.receive.Goals as goal

pub receive-requires-clause-rule : goal.receive-requires-clause-rule
receive-requires-clause-rule g c = (off _ _ c.self.invariant.takes, λ items views rule at. tt)

pub returns-clause-ok : goal.returns-clause-ok
returns-clause-ok g c = record {
  taken = grind (arith, common_steps);
  end = λ going ended. c.keep.ensures.hand
      ∙ last_alone (view c.self.inside.pass) (view c.receive.new.pass) c.in_ok-message.message (range_with_len 0 c.self.inside.senders)
      c.in_ok-message.ensures.rule (ap has_ended c.self.view_is ∙ going) ended;
  same = search rules;
}
