use Rattle.zone_core.proofs.Moves.{begun_agrees, isolate_agrees, pair_agrees, isolated_agrees, ended_agrees, committed_in_round, put_back_in_round}
use Rattle.zone_core.proofs.agreement.moves_agree.Goals as goal

pub returns : goal.returns
returns c = record {
  begun = begun_agrees;
  refused = isolate_agrees;
  pair = pair_agrees;
  isolated = isolated_agrees;
  ended = ended_agrees;
  committed = committed_in_round;
  put_back = put_back_in_round;
}
