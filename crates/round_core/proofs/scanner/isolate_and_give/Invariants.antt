use Rattle.std.proofs.Common.{◌≡◌, ◌+◌, ◌<◌, length, false, IfSome, IfNone}
use Rattle.std.specs.VecDeque.{deque_capacity}
use Rattle.frame_core.specs.Serials.{HasSerialsFrom}
use Rattle.round_core.specs.Scanning.{HasBegun, HasMore, HasStopped, limit_at}
use Rattle.round_core.proofs.scanner.isolate_and_give.Given as goal

abbrev pub invariant-loop : goal.invariant-loop
invariant-loop g l = record {
  open_still : l.giver.closed ≡ false;
  giver : l.giver ≡ record l.fn.giver { given = l.giver.given };
  -- the pages that are to be given next are the last that were isolated
  serials : HasSerialsFrom (l.giver.base + length l.giver.given) l.list.items;
  count : l.scan.count ≡ l.giver.base + length l.giver.given + length l.list.items;
  places : 0 < deque_capacity l.list;
  rounds : l.scan.rounds ≡ l.fn.scan.rounds + 1;
  stopped : IfSome l.stop (HasStopped g.K.Keeping.stops_at (limit_at l.fn.scan.count l.fn.pages.left) l.scan);
  limit : limit_at l.scan.count l.left ≡ limit_at l.fn.scan.count l.fn.pages.left;
  left : IfNone l.stop (HasMore l.left);
  goes_on : IfNone l.stop (HasBegun g.K.Keeping.begins_at l.scan.count);
}
