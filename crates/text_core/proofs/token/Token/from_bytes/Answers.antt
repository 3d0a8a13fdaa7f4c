use Rattle.std.proofs.Common.{◌∙◌, ap, sym, inl, inr}
use Rattle.text_core.specs.Token.{number_or_keyword}
use Rattle.text_core.proofs.Numbers.{one_of_both}
use Rattle.text_core.proofs.token.Token.from_bytes.Goals as goal

pub returns-in_default : goal.returns-in_default
returns-in_default c = elim (one_of_both c.args.bytes.now) [
  | inl none ↦ (c.keyword.ensures ∙ sym (ap (λ n. number_or_keyword n c.args.bytes.now) none))
  | inr other ↦ absurd (c.in_default.not-Other (c.keyword.ensures ∙ other))
]
