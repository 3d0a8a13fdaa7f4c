use Rattle.std.proofs.Common.{◌≡◌, ℕ, ◌*◌, ◌/◌, not, length, ap, ◌∙◌, arith}
use Rattle.std.specs.Prelude.{nat_eq, ◌&&◌}
use Rattle.std.specs.Vec.{with_items}
use Rattle.number_set.specs.Bits.{has_number, is_filled}
use Rattle.number_set.proofs.OneAbove.{left_above, numbers_cut, cut_above, written}
use Rattle.number_set.proofs.Levels.{bound_of, members_of}
use Rattle.number_set.proofs.upper_levels.UpperLevels.remove.Goals as goal

pub invariant_of-self : goal.invariant_of-self
invariant_of-self c =
    let long = written c.self.inside.words c.deref_mut.result.now c.remove.new.words c.deref_mut.ensures.value c.remove.ensures.as_long (λ old new. length new ≡ length old) c.remove.ensures.as_long in
    (omega (arith, long, c.self.invariant.0), cut_above c.self.inside.words.items (with_items c.self.inside.words c.remove.new.words).items c.args.number c.remove.result (written c.self.inside.words c.deref_mut.result.now c.remove.new.words c.deref_mut.ensures.value c.remove.ensures.as_long (λ old new. (word : ℕ) → is_filled new word ≡ (not (c.remove.result && nat_eq word (c.args.number / 64)) && is_filled old word)) c.remove.ensures.filled) c.self.inside.above c.self.invariant.1 c.if-remove.true c.remove-then-remove.new.self c.remove-then-remove.ensures)

pub invariant_of-self-else-remove : goal.invariant_of-self-else-remove
invariant_of-self-else-remove c =
    let long = written c.self.inside.words c.deref_mut.result.now c.remove.new.words c.deref_mut.ensures.value c.remove.ensures.as_long (λ old new. length new ≡ length old) c.remove.ensures.as_long in
    (omega (arith, long, c.self.invariant.0), left_above c.self.inside.words.items (with_items c.self.inside.words c.remove.new.words).items c.args.number c.remove.result (written c.self.inside.words c.deref_mut.result.now c.remove.new.words c.deref_mut.ensures.value c.remove.ensures.as_long (λ old new. (word : ℕ) → is_filled new word ≡ (not (c.remove.result && nat_eq word (c.args.number / 64)) && is_filled old word)) c.remove.ensures.filled) c.self.inside.above c.self.invariant.1 c.if-remove.false)

pub returns-then-remove : goal.returns-then-remove
returns-then-remove c =
    let long = written c.self.inside.words c.deref_mut.result.now c.remove.new.words c.deref_mut.ensures.value c.remove.ensures.as_long (λ old new. length new ≡ length old) c.remove.ensures.as_long in
    (λ i. record {
      members = numbers_cut c.self.inside.words.items (with_items c.self.inside.words c.remove.new.words).items c.args.number (written c.self.inside.words c.deref_mut.result.now c.remove.new.words c.deref_mut.ensures.value c.remove.ensures.as_long (λ old new. (n : ℕ) → has_number new n ≡ (not (nat_eq n c.args.number) && has_number old n)) c.remove.ensures.numbers) c.args.self.now.members (members_of c.self.view_is) i;
      bound = (ap (λ n. 64 * n) long ∙ bound_of c.self.view_is) i;
    })

pub returns-else-remove : goal.returns-else-remove
returns-else-remove c =
    let long = written c.self.inside.words c.deref_mut.result.now c.remove.new.words c.deref_mut.ensures.value c.remove.ensures.as_long (λ old new. length new ≡ length old) c.remove.ensures.as_long in
    (λ i. record {
      members = numbers_cut c.self.inside.words.items (with_items c.self.inside.words c.remove.new.words).items c.args.number (written c.self.inside.words c.deref_mut.result.now c.remove.new.words c.deref_mut.ensures.value c.remove.ensures.as_long (λ old new. (n : ℕ) → has_number new n ≡ (not (nat_eq n c.args.number) && has_number old n)) c.remove.ensures.numbers) c.args.self.now.members (members_of c.self.view_is) i;
      bound = (ap (λ n. 64 * n) long ∙ bound_of c.self.view_is) i;
    })
