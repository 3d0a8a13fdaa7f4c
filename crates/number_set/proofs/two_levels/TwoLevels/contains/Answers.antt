use Rattle.std.proofs.Common.{ap, ◌∙◌}
use Rattle.number_set.proofs.Gathering.{list_members}
use Rattle.number_set.proofs.two_levels.TwoLevels.contains.Goals as goal

pub returns : goal.returns
returns c = c.contains.ensures ∙ ap (λ p. p c.args.number) (list_members c.self.inside.words c.args.self.now c.self.view_is)
