use Rattle.std.proofs.Common.{◌≡◌, ◌≤◌, take, length}
use Rattle.std.specs.Prelude.{vec_capacity, vec_len}
use Rattle.script_core.specs.Clients.{AreClientAnswers}
use Rattle.script_core.proofs.beside.play_lines.Given as goal

-- the lines before an index were answered
abbrev pub invariant-loop-line : goal.invariant-loop-line
invariant-loop-line g l = record {
  allowed : g.K.Keeping.allows l.client.number g.J.Telling.pair;
  played : AreClientAnswers l.fn.turn.client (take l.line-index l.line-items) l.answers.items l.client;
  count : vec_len l.answers ≡ l.line-index;
  room : length l.line-items ≤ vec_capacity l.answers;
}
