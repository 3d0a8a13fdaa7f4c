use Rattle.std.proofs.Common.{◌∙◌, ap, arith}
use Rattle.number_set.specs.Bits.{has_number}
use Rattle.number_set.specs.Numbers.{Numbers}
use Rattle.number_set.proofs.Gathering.{list_members}
use Rattle.number_set.proofs.Levels.{members_of}
use Rattle.number_set.proofs.Outside.{found_alike}
use Rattle.number_set.proofs.number_set.NumberSet.first_outside.Goals as goal

pub first_outside-requires : goal.first_outside-requires
first_outside-requires c = record {
  few = omega (arith, c.requires.first, ap (λ (s : Numbers). s.bound) c.self.view_is, c.self.invariant.0, c.self.invariant.1);
  first = omega (arith, c.requires.first, c.deref.ensures.len, ap (λ (s : Numbers). s.bound) c.self.view_is);
  second = omega (arith, c.requires.second, c.deref-2.ensures.len, ap (λ (s : Numbers). s.bound) c.second.view_is);
  third = omega (arith, c.requires.third, c.deref-3.ensures.len, ap (λ (s : Numbers). s.bound) c.third.view_is);
}

-- a level has the members of its set
pub returns : goal.returns
returns c =
    let p = ap has_number c.deref.ensures.value ∙ list_members c.self.inside.words.items c.args.self.now.members (members_of c.self.view_is) in
    let q = ap has_number c.deref-2.ensures.value ∙ list_members c.second.inside.words.items c.args.second.now.members (members_of c.second.view_is) in
    let r = ap has_number c.deref-3.ensures.value ∙ list_members c.third.inside.words.items c.args.third.now.members (members_of c.third.view_is) in
    found_alike c.args.from c.args.end c.first_outside.result p q r c.first_outside.ensures
