use Rattle.std.specs.Prelude.{⊤}
use Rattle.text_core.proofs.token.leading_token.Given as goal

abbrev pub invariant-loop-count : goal.invariant-loop-count
invariant-loop-count l = ⊤
