use Rattle.std.proofs.Common.{ap, ◌∙◌}
use Rattle.number_set.specs.Bits.{has_number}
use Rattle.number_set.proofs.Gathering.{list_members}
use Rattle.number_set.proofs.Levels.{members_of}
use Rattle.number_set.proofs.number_set.NumberSet.contains.Goals as goal

pub returns : goal.returns
returns c = c.contains.ensures ∙ ap (λ words. has_number words c.args.number) c.deref.ensures.value ∙ ap (λ p. p c.args.number) (list_members c.self.inside.words.items c.args.self.now.members (members_of c.self.view_is))
