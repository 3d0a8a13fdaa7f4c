use Rattle.std.proofs.Common.{subst}
use Rattle.script_core.specs.WithThreads.{ComesToByHand}
use Rattle.script_core.proofs.Rounds.{round_over}
use Rattle.script_core.proofs.with_threads.WithThreads.run_round.Goals as goal

pub returns : goal.returns
returns g c =
    let split = c.parts_of-zone.ensures.split in
    record {
      over = round_over c.args.world _ c.compact-zone.result.0 _ c.compact-zone.new.seats c.compact-zone.result.1 split
          c.compact-zone.ensures.kept c.compact-zone.ensures.identity c.compact-zone.ensures.round c.compact-zone.ensures.early c.take_back_after.ensures.exact;
      by_hand = subst (λ z. ComesToByHand z c.compact-zone.result.0 c.compact-zone.result.1) split.same_zone c.compact-zone.ensures.by_hand;
      answer_is = c.reply_to.ensures;
      left = c.take_back_after.ensures.left;
    }
