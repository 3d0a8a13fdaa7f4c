use Rattle.std.proofs.Common.{◌≡◌, ◌≤◌, ◌++◌, drop, length}
use Rattle.script_core.specs.WithThreads.{told_of}
use Rattle.script_core.proofs.with_threads.told_of.Given as goal

-- the numbers so far, and those of the blocks that are left
abbrev pub invariant-loop-block : goal.invariant-loop-block
invariant-loop-block l = record {
  few : length l.told.items ≤ l.block-index;
  told : l.told.items ++ told_of l.blocks (drop l.block-index l.got) ≡ told_of l.blocks l.got;
}
