use Rattle.std.proofs.Common.{◌≡◌, ◌+◌, ◌-◌, ◌*◌, ◌^◌, ◌≤◌, min, List, ℕ, length}
use Rattle.std.specs.Io.KnownBytes.{Consumes}
use Rattle.text_core.specs.ReplyBuffer.{empty}
use Rattle.text_core.specs.ScriptRunner.{HasRead}
use Rattle.text_core.proofs.script_runner.ScriptRunner.run.Given as goal

-- what the reader gave was read, at least a byte each time, and no reply to it waits
abbrev pub invariant-loop : goal.invariant-loop
invariant-loop g l = record {
  room : length l.buffer ≡ 4096;
  line : l.self.line ≤ 4096 * l.counter + 1;
  none : l.self.box ≡ empty;
  reads : min (g.R.Input.reads l.fn.reader + l.counter) (2 ^ 64 - 1) ≤ g.R.Input.reads l.reader;
  few : g.R.Input.reads l.reader ≤ g.R.Input.reads l.fn.reader + l.counter;
  past : (past : List ℕ) × Consumes (g.R.Read.remaining l.fn.reader) (g.R.Read.remaining l.reader) past
      × HasRead g.A.Respond.may l.fn.self.machine l.self past (g.W.Write.contents l.fn.writer) (g.W.Write.contents l.writer)
      × (l.counter ≤ length past);
}
