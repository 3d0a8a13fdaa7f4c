use Rattle.std.proofs.Common.{ℕ, ◌*◌, List, length, ap, ◌∙◌, arith}
use Rattle.std.specs.FinSet as set
use Rattle.number_set.specs.Bits.{has_number}
use Rattle.number_set.specs.Numbers.{Numbers}
use Rattle.number_set.specs.Runs.{begins_run, count_in_run}
use Rattle.number_set.proofs.Gathering.{list_members}
use Rattle.number_set.proofs.Levels.{members_of}
use Rattle.number_set.proofs.number_set.NumberSet.count_runs.Goals as goal

pub count_runs-requires : goal.count_runs-requires
count_runs-requires c = record { order = c.requires; few = omega (arith, c.deref.ensures.len, c.self.invariant.0, c.self.invariant.1) }

pub returns : goal.returns
returns c =
    let numbers = λ (words : List ℕ). count_in_run (begins_run (has_number words) c.args.order) 0 (64 * length words) in
    c.count_runs.ensures ∙ ap numbers c.deref.ensures.value
    ∙ ap (λ p. count_in_run (begins_run p c.args.order) 0 (64 * length c.self.inside.words.items)) (list_members c.self.inside.words.items c.args.self.now.members (members_of c.self.view_is))
    ∙ ap (λ (s : Numbers). count_in_run (begins_run (set.contains c.args.self.now.members) c.args.order) 0 s.bound) c.self.view_is
