use Rattle.std.proofs.Common.{◌≡◌, ℕ, ◌*◌, ◌/◌, not, length, sym, ap, ◌∙◌, arith}
use Rattle.std.specs.Prelude.{nat_eq, ◌||◌}
use Rattle.std.specs.Vec.{with_items}
use Rattle.number_set.specs.Bits.{has_number, is_filled}
use Rattle.number_set.proofs.OneAbove.{kept_above, numbers_put, put_above, written}
use Rattle.number_set.proofs.Levels.{bound_of, members_of}
use Rattle.number_set.proofs.Starting.{first_of_one, starts_kept, starts_put}
use Rattle.number_set.proofs.number_set.NumberSet.insert.Goals as goal

pub invariant_of-self : goal.invariant_of-self
invariant_of-self c =
    let words = c.self.inside.words.items in
    let new = (with_items c.self.inside.words c.insert.new.words).items in
    let long = written c.self.inside.words c.deref_mut.result.now c.insert.new.words c.deref_mut.ensures.value c.insert.ensures.as_long (λ old new. length new ≡ length old) c.insert.ensures.as_long in
    let filled = written c.self.inside.words c.deref_mut.result.now c.insert.new.words c.deref_mut.ensures.value c.insert.ensures.as_long (λ old new. (word : ℕ) → is_filled new word ≡ (nat_eq word (c.args.number / 64) || is_filled old word)) c.insert.ensures.filled in
    (omega (arith, long, c.self.invariant.0, bound_of c.insert-then-insert.ensures), omega (arith, c.self.invariant.1, bound_of c.insert-then-insert.ensures), put_above words new c.args.number filled c.self.inside.above.members c.self.invariant.2 c.insert-then-insert.new.self.members (members_of c.insert-then-insert.ensures), starts_put words new long (λ word. nat_eq word (c.args.number / 64)) c.self.inside.lowest c.self.invariant.3 filled (c.args.number / 64) c.min-self-inside.result (first_of_one (c.args.number / 64)) c.min-self-inside.ensures)

pub invariant_of-self-else-insert : goal.invariant_of-self-else-insert
invariant_of-self-else-insert c =
    let words = c.self.inside.words.items in
    let new = (with_items c.self.inside.words c.insert.new.words).items in
    let long = written c.self.inside.words c.deref_mut.result.now c.insert.new.words c.deref_mut.ensures.value c.insert.ensures.as_long (λ old new. length new ≡ length old) c.insert.ensures.as_long in
    let kept = kept_above words new c.args.number (written c.self.inside.words c.deref_mut.result.now c.insert.new.words c.deref_mut.ensures.value c.insert.ensures.as_long (λ old new. (word : ℕ) → is_filled new word ≡ (nat_eq word (c.args.number / 64) || is_filled old word)) c.insert.ensures.filled) c.self.inside.above.members c.self.invariant.2 (ap (λ words. not (is_filled words (c.args.number / 64))) (sym c.deref_mut.ensures.value) ∙ sym c.insert.ensures.was_empty ∙ c.if-insert.false) in
    (omega (arith, long, c.self.invariant.0), c.self.invariant.1, kept, starts_kept words c.self.inside.above.members c.self.invariant.2 c.self.inside.lowest c.self.invariant.3 new long kept)

pub returns-then-insert : goal.returns-then-insert
returns-then-insert c =
    let long = written c.self.inside.words c.deref_mut.result.now c.insert.new.words c.deref_mut.ensures.value c.insert.ensures.as_long (λ old new. length new ≡ length old) c.insert.ensures.as_long in
    (λ i. record {
      members = numbers_put c.self.inside.words.items (with_items c.self.inside.words c.insert.new.words).items c.args.number (written c.self.inside.words c.deref_mut.result.now c.insert.new.words c.deref_mut.ensures.value c.insert.ensures.as_long (λ old new. (n : ℕ) → has_number new n ≡ (nat_eq n c.args.number || has_number old n)) c.insert.ensures.numbers) c.args.self.now.members (members_of c.self.view_is) i;
      bound = (ap (λ n. 64 * n) long ∙ bound_of c.self.view_is) i;
    })

pub returns-else-insert : goal.returns-else-insert
returns-else-insert c =
    let long = written c.self.inside.words c.deref_mut.result.now c.insert.new.words c.deref_mut.ensures.value c.insert.ensures.as_long (λ old new. length new ≡ length old) c.insert.ensures.as_long in
    (λ i. record {
      members = numbers_put c.self.inside.words.items (with_items c.self.inside.words c.insert.new.words).items c.args.number (written c.self.inside.words c.deref_mut.result.now c.insert.new.words c.deref_mut.ensures.value c.insert.ensures.as_long (λ old new. (n : ℕ) → has_number new n ≡ (nat_eq n c.args.number || has_number old n)) c.insert.ensures.numbers) c.args.self.now.members (members_of c.self.view_is) i;
      bound = (ap (λ n. 64 * n) long ∙ bound_of c.self.view_is) i;
    })
