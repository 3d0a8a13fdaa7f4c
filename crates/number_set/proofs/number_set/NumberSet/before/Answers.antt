use Rattle.std.proofs.Common.{subst}
use Rattle.number_set.specs.Bits.{has_number}
use Rattle.number_set.specs.Finds.{IsLastIn, IsPrevious, NoneBelowIn}
use Rattle.number_set.proofs.OneAbove.{previous_in_other, previous_in_word, none_previous}
use Rattle.number_set.proofs.Levels.{members_of}
use Rattle.number_set.proofs.number_set.NumberSet.before.Goals as goal

pub returns-in-Some-clause-previous : goal.returns-in-Some-clause-previous
returns-in-Some-clause-previous c = previous_in_word c.self.inside.words.items c.self.inside.above.members c.args.self.now.members c.self.invariant.2 (members_of c.self.view_is) c.args.number c.in-Some.found (subst (λ words. IsPrevious (has_number words) c.args.number c.in-Some.found) c.deref.ensures.value c.in-Some.ensures.previous)

pub returns-in_default-before-clause-previous : goal.returns-in_default-before-clause-previous
returns-in_default-before-clause-previous c = none_previous c.self.inside.words.items c.self.inside.above.members c.args.self.now.members c.self.invariant.2 (members_of c.self.view_is) c.args.number (subst (λ words. NoneBelowIn (has_number words) c.args.number) c.deref.ensures.value c.in_default.ensures.previous) c.in_default-before.ensures.previous

pub returns-clause-previous : goal.returns-clause-previous
returns-clause-previous c = previous_in_other c.self.inside.words.items c.self.inside.above.members c.args.self.now.members c.self.invariant.2 (members_of c.self.view_is) c.args.number c.in-Some-before.word c.last_in.result (subst (λ words. NoneBelowIn (has_number words) c.args.number) c.deref.ensures.value c.in_default.ensures.previous) c.in-Some-before.ensures.previous (subst (λ words. IsLastIn (has_number words) c.in-Some-before.word c.last_in.result) c.deref-2.ensures.value c.last_in.ensures)
