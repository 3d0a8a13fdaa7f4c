use Rattle.std.proofs.Common.{ap, ◌∙◌, arith}
use Rattle.number_set.specs.Bits.{has_number}
use Rattle.number_set.specs.Numbers.{Numbers}
use Rattle.number_set.specs.Runs.{count_in_run}
use Rattle.number_set.proofs.Gathering.{list_members}
use Rattle.number_set.proofs.Levels.{members_of}
use Rattle.number_set.proofs.number_set.NumberSet.count_from.Goals as goal

pub count_from-requires : goal.count_from-requires
count_from-requires c = record {
  within = omega (arith, c.requires, c.deref.ensures.len, ap (λ (s : Numbers). s.bound) c.self.view_is);
  few = omega (arith, c.deref.ensures.len, c.self.invariant.0, c.self.invariant.1);
}

pub returns : goal.returns
returns c =
    c.count_from.ensures ∙ ap (λ words. count_in_run (has_number words) c.args.first c.args.count) c.deref.ensures.value
    ∙ ap (λ p. count_in_run p c.args.first c.args.count) (list_members c.self.inside.words.items c.args.self.now.members (members_of c.self.view_is))
