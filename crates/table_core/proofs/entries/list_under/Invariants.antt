use Rattle.std.proofs.Common.{◌≡◌, length}
use Rattle.table_core.proofs.Passing.{Under}
use Rattle.table_core.proofs.entries.list_under.Given as goal

abbrev pub invariant-loop-name : goal.invariant-loop-name
invariant-loop-name l = record {
  count : length l.frames ≡ length l.fn.frames;
  under : Under l.size.pages l.fn.frames l.frames l.names l.frame l.name-index;
}
