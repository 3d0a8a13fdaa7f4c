use Rattle.std.proofs.Common.{subst}
use Rattle.number_set.specs.Bits.{has_number}
use Rattle.number_set.specs.Finds.{IsFirstIn, IsNext, NoneAboveIn}
use Rattle.number_set.proofs.OneAbove.{next_in_other, next_in_word, none_next}
use Rattle.number_set.proofs.Levels.{members_of}
use Rattle.number_set.proofs.upper_levels.UpperLevels.after.Goals as goal

pub returns-in-Some-clause-next : goal.returns-in-Some-clause-next
returns-in-Some-clause-next c = next_in_word c.self.inside.words.items c.self.inside.above c.args.self.now.members c.self.invariant.1 (members_of c.self.view_is) c.args.number c.in-Some.found (subst (λ words. IsNext (has_number words) c.args.number c.in-Some.found) c.deref.ensures.value c.in-Some.ensures.next)

pub returns-in_default-after-clause-next : goal.returns-in_default-after-clause-next
returns-in_default-after-clause-next c = none_next c.self.inside.words.items c.self.inside.above c.args.self.now.members c.self.invariant.1 (members_of c.self.view_is) c.args.number (subst (λ words. NoneAboveIn (has_number words) c.args.number) c.deref.ensures.value c.in_default.ensures.next) c.in_default-after.ensures.next

pub returns-clause-next : goal.returns-clause-next
returns-clause-next c = next_in_other c.self.inside.words.items c.self.inside.above c.args.self.now.members c.self.invariant.1 (members_of c.self.view_is) c.args.number c.in-Some-after.word c.first_in.result (subst (λ words. NoneAboveIn (has_number words) c.args.number) c.deref.ensures.value c.in_default.ensures.next) c.in-Some-after.ensures.next (subst (λ words. IsFirstIn (has_number words) c.in-Some-after.word c.first_in.result) c.deref-2.ensures.value c.first_in.ensures)
