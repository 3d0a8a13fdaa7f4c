use Rattle.std.proofs.Common.{◌≡◌, ◌≤◌, length}
use Rattle.text_core.specs.Token.{lexemes}
use Rattle.text_core.proofs.token.without_spaces.Given as goal

abbrev pub invariant-loop-rest : goal.invariant-loop-rest
invariant-loop-rest l = record {
  lexemes : lexemes l.rest ≡ lexemes l.text;
  shorter : length l.rest ≤ length l.text;
}

abbrev pub decreases-loop-rest : goal.decreases-loop-rest
decreases-loop-rest l = length l.rest
