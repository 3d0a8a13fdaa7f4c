use Rattle.std.proofs.Common.{◌≡◌, ◌+◌, ◌≤◌, ◌++◌, List, ℕ, length}
use Rattle.text_core.specs.ScriptRunner.{ReadsOn}
use Rattle.text_core.proofs.Reading.{well}
use Rattle.text_core.proofs.script_runner.ScriptRunner.take_piece.Given as goal

-- the lines before the rest were read
abbrev pub invariant-loop-text : goal.invariant-loop-text
invariant-loop-text g l = record {
  line : l.self.line + length l.rest ≤ l.fn.self.line + length l.piece;
  done : (done : List ℕ) × (l.piece ≡ done ++ l.rest)
      × ReadsOn g.A.Respond.may g.A.Respond.asks l.fn.self l.self done (g.W.Write.contents l.fn.writer) (g.W.Write.contents l.writer) well;
}

abbrev pub decreases-loop-text : goal.decreases-loop-text
decreases-loop-text g l = length l.rest
