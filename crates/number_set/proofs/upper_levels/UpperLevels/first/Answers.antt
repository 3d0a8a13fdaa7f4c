use Rattle.std.proofs.Common.{subst}
use Rattle.number_set.specs.Bits.{has_number}
use Rattle.number_set.specs.Finds.{IsFirstIn}
use Rattle.number_set.proofs.OneAbove.{first_in, none_in}
use Rattle.number_set.proofs.Levels.{members_of}
use Rattle.number_set.proofs.upper_levels.UpperLevels.first.Goals as goal

pub returns-in_default-clause-first : goal.returns-in_default-clause-first
returns-in_default-clause-first c = none_in c.self.inside.words.items c.self.inside.above c.args.self.now.members c.self.invariant.1 (members_of c.self.view_is) c.in_default.ensures.first

pub returns-clause-first : goal.returns-clause-first
returns-clause-first c = first_in c.self.inside.words.items c.self.inside.above c.args.self.now.members c.self.invariant.1 (members_of c.self.view_is) c.in-Some.word c.first_in.result c.in-Some.ensures.first (subst (λ words. IsFirstIn (has_number words) c.in-Some.word c.first_in.result) c.deref.ensures.value c.first_in.ensures)
