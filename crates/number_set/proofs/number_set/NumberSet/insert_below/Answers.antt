use Rattle.std.proofs.Common.{◌≡◌, ℕ, ◌+◌, ◌/◌, length, arith}
use Rattle.std.specs.Prelude.{nat_lt, ◌||◌}
use Rattle.std.specs.Vec.{with_items}
use Rattle.number_set.specs.Bits.{has_number, is_filled}
use Rattle.number_set.proofs.OneAbove.{many_put, all_put_above, written}
use Rattle.number_set.proofs.Levels.{members_of}
use Rattle.number_set.proofs.Starting.{starts_above}
use Rattle.number_set.proofs.number_set.NumberSet.insert_below.Goals as goal

pub invariant_of-self : goal.invariant_of-self
invariant_of-self c =
    let words = c.self.inside.words.items in
    let new = (with_items c.self.inside.words c.insert_below.new.words).items in
    let long = written c.self.inside.words c.deref_mut.result.now c.insert_below.new.words c.deref_mut.ensures.value c.insert_below.ensures.as_long (λ old new. length new ≡ length old) c.insert_below.ensures.as_long in
    let put = all_put_above words new (λ word. nat_lt word ((c.args.bound + 63) / 64)) c.self.inside.above.members c.self.invariant.2 (written c.self.inside.words c.deref_mut.result.now c.insert_below.new.words c.deref_mut.ensures.value c.insert_below.ensures.as_long (λ old new. (word : ℕ) → is_filled new word ≡ (nat_lt word ((c.args.bound + 63) / 64) || is_filled old word)) c.insert_below.ensures.filled) c.insert_below-2.new.self.members c.insert_below-2.ensures.numbers in
    (omega (arith, long, c.self.invariant.0, c.insert_below-2.ensures.bound), omega (arith, c.self.invariant.1, c.insert_below-2.ensures.bound), put, starts_above new c.insert_below-2.new.self.members put c.first_or-self-inside.result c.len.result (omega (arith, c.len.ensures)) c.first_or-self-inside.ensures)

pub returns-clause-numbers : goal.returns-clause-numbers
returns-clause-numbers c = many_put c.self.inside.words.items (with_items c.self.inside.words c.insert_below.new.words).items (λ n. nat_lt n c.args.bound) (written c.self.inside.words c.deref_mut.result.now c.insert_below.new.words c.deref_mut.ensures.value c.insert_below.ensures.as_long (λ old new. (n : ℕ) → has_number new n ≡ (nat_lt n c.args.bound || has_number old n)) c.insert_below.ensures.numbers) c.args.self.now.members (members_of c.self.view_is)
