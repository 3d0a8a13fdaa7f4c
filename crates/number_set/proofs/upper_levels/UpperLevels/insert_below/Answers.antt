use Rattle.std.proofs.Common.{◌≡◌, ℕ, ◌+◌, ◌/◌, length, arith}
use Rattle.std.specs.Prelude.{nat_lt, ◌||◌}
use Rattle.std.specs.Vec.{with_items}
use Rattle.number_set.specs.Bits.{has_number, is_filled}
use Rattle.number_set.proofs.OneAbove.{many_put, all_put_above, written}
use Rattle.number_set.proofs.Levels.{members_of}
use Rattle.number_set.proofs.upper_levels.UpperLevels.insert_below.Goals as goal

pub invariant_of-self : goal.invariant_of-self
invariant_of-self c =
    let long = (written c.self.inside.words c.deref_mut.result.now c.insert_below.new.words c.deref_mut.ensures.value c.insert_below.ensures.as_long (λ old new. length new ≡ length old) c.insert_below.ensures.as_long) in
    (omega (arith, long, c.self.invariant.0), all_put_above c.self.inside.words.items (with_items c.self.inside.words c.insert_below.new.words).items (λ word. nat_lt word ((c.args.bound + 63) / 64)) c.self.inside.above c.self.invariant.1 (written c.self.inside.words c.deref_mut.result.now c.insert_below.new.words c.deref_mut.ensures.value c.insert_below.ensures.as_long (λ old new. (word : ℕ) → is_filled new word ≡ (nat_lt word ((c.args.bound + 63) / 64) || is_filled old word)) c.insert_below.ensures.filled) c.insert_below-2.new.self c.insert_below-2.ensures)

pub returns-clause-numbers : goal.returns-clause-numbers
returns-clause-numbers c = many_put c.self.inside.words.items (with_items c.self.inside.words c.insert_below.new.words).items (λ n. nat_lt n c.args.bound) (written c.self.inside.words c.deref_mut.result.now c.insert_below.new.words c.deref_mut.ensures.value c.insert_below.ensures.as_long (λ old new. (n : ℕ) → has_number new n ≡ (nat_lt n c.args.bound || has_number old n)) c.insert_below.ensures.numbers) c.args.self.now.members (members_of c.self.view_is)
