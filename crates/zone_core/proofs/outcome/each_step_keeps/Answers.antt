use Rattle.zone_core.proofs.Coming.{comes_begun, comes_scan, comes_move, comes_put_back}
use Rattle.zone_core.proofs.outcome.each_step_keeps.Goals as goal

pub returns : goal.returns
returns c = record {
  begun = comes_begun;
  scan = comes_scan;
  moved = comes_move;
  put_back = comes_put_back;
}
