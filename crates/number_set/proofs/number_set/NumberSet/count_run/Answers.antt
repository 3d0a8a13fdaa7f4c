use Rattle.std.proofs.Common.{◌^◌, ap, ◌∙◌}
use Rattle.number_set.specs.Bits.{has_number}
use Rattle.number_set.specs.Runs.{count_in_run}
use Rattle.number_set.proofs.Gathering.{list_members}
use Rattle.number_set.proofs.Levels.{members_of}
use Rattle.number_set.proofs.number_set.NumberSet.count_run.Goals as goal

pub returns : goal.returns
returns c =
    let count = 2 ^ c.args.order in
    c.count_run.ensures ∙ ap (λ words. count_in_run (has_number words) c.args.first count) c.deref.ensures.value ∙ ap (λ p. count_in_run p c.args.first count) (list_members c.self.inside.words.items c.args.self.now.members (members_of c.self.view_is))
