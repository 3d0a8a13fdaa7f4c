use Rattle.std.proofs.Common.{◌≡◌, ◌⊎◌, ◌^◌, length, None}
use Rattle.state_core.specs.LentMoves.{lend_move_refusal}
use Rattle.state_core.specs.ZoneState.{frame_count}
use Rattle.worker_threads.specs.Runs.{AreBlocks}
use Rattle.worker_threads.specs.Work.{still_left}
use Rattle.worker_threads.proofs.runs.Runs.lend_next.Given as goal

abbrev pub invariant-loop-first : goal.invariant-loop-first
invariant-loop-first g l = record {
  zone : l.zone ≡ l.fn.zone;
  order : l.self-inside.order ≡ l.fn.self.order;
  left : still_left (2 ^ l.fn.self.order) l.fn.zone l.self-inside.left.items ≡ still_left (2 ^ l.fn.self.order) l.fn.zone l.fn.self.left;
  starts : AreBlocks (frame_count l.fn.zone) (record { order = l.fn.self.order; left = l.self-inside.left.items });
  -- no run was dropped, or none is refused
  refused : (l.self-inside.left.items ≡ l.fn.self.left) ⊎ (lend_move_refusal l.fn.zone ≡ None);
}

abbrev pub decreases-loop-first : goal.decreases-loop-first
decreases-loop-first g l = length l.self-inside.left.items
