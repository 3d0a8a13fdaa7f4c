use Rattle.std.proofs.Common.{subst}
use Rattle.number_set.specs.Bits.{has_number}
use Rattle.number_set.specs.Finds.{IsLastIn}
use Rattle.number_set.proofs.OneAbove.{last_in, none_in}
use Rattle.number_set.proofs.Levels.{members_of}
use Rattle.number_set.proofs.upper_levels.UpperLevels.last.Goals as goal

pub returns-in_default-clause-last : goal.returns-in_default-clause-last
returns-in_default-clause-last c = none_in c.self.inside.words.items c.self.inside.above c.args.self.now.members c.self.invariant.1 (members_of c.self.view_is) c.in_default.ensures.last

pub returns-clause-last : goal.returns-clause-last
returns-clause-last c = last_in c.self.inside.words.items c.self.inside.above c.args.self.now.members c.self.invariant.1 (members_of c.self.view_is) c.in-Some.word c.last_in.result c.in-Some.ensures.last (subst (λ words. IsLastIn (has_number words) c.in-Some.word c.last_in.result) c.deref.ensures.value c.last_in.ensures)
