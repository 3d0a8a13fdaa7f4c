use Rattle.std.proofs.Common.{◌≡◌, ℕ, ◌*◌, ◌/◌, not, length, sym, ap, ◌∙◌, arith}
use Rattle.std.specs.Prelude.{nat_eq, ◌&&◌}
use Rattle.std.specs.Vec.{with_items}
use Rattle.number_set.specs.Bits.{has_number, is_filled}
use Rattle.number_set.proofs.OneAbove.{left_above, numbers_cut, cut_above, written}
use Rattle.number_set.proofs.Levels.{bound_of, members_of}
use Rattle.number_set.proofs.Starting.{not_emptied, starts_above, starts_cut, starts_kept}
use Rattle.number_set.proofs.number_set.NumberSet.remove.Goals as goal

pub invariant_of-self : goal.invariant_of-self
invariant_of-self c =
    let words = c.self.inside.words.items in
    let new = (with_items c.self.inside.words c.remove.new.words).items in
    let long = written c.self.inside.words c.deref_mut.result.now c.remove.new.words c.deref_mut.ensures.value c.remove.ensures.as_long (λ old new. length new ≡ length old) c.remove.ensures.as_long in
    let filled = written c.self.inside.words c.deref_mut.result.now c.remove.new.words c.deref_mut.ensures.value c.remove.ensures.as_long (λ old new. (word : ℕ) → is_filled new word ≡ (not (c.remove.result && nat_eq word (c.args.number / 64)) && is_filled old word)) c.remove.ensures.filled in
    let cut = cut_above words new c.args.number c.remove.result filled c.self.inside.above.members c.self.invariant.2 c.if-remove.true c.remove-then-remove.new.self.members (members_of c.remove-then-remove.ensures) in
    (omega (arith, long, c.self.invariant.0, bound_of c.remove-then-remove.ensures), omega (arith, c.self.invariant.1, bound_of c.remove-then-remove.ensures), cut, starts_above new c.remove-then-remove.new.self.members cut c.first_or-self-inside.result c.len.result (omega (arith, c.len.ensures)) c.first_or-self-inside.ensures)

pub invariant_of-self-else-number-self : goal.invariant_of-self-else-number-self
invariant_of-self-else-number-self c =
    let words = c.self.inside.words.items in
    let new = (with_items c.self.inside.words c.remove.new.words).items in
    let long = written c.self.inside.words c.deref_mut.result.now c.remove.new.words c.deref_mut.ensures.value c.remove.ensures.as_long (λ old new. length new ≡ length old) c.remove.ensures.as_long in
    let filled = written c.self.inside.words c.deref_mut.result.now c.remove.new.words c.deref_mut.ensures.value c.remove.ensures.as_long (λ old new. (word : ℕ) → is_filled new word ≡ (not (c.remove.result && nat_eq word (c.args.number / 64)) && is_filled old word)) c.remove.ensures.filled in
    let cut = cut_above words new c.args.number c.remove.result filled c.self.inside.above.members c.self.invariant.2 c.if-remove.true c.remove-then-remove.new.self.members (members_of c.remove-then-remove.ensures) in
    (omega (arith, long, c.self.invariant.0, bound_of c.remove-then-remove.ensures), omega (arith, c.self.invariant.1, bound_of c.remove-then-remove.ensures), cut, starts_cut words new long (λ word. c.remove.result && nat_eq word (c.args.number / 64)) c.self.inside.lowest c.self.invariant.3 filled (not_emptied c.remove.result (c.args.number / 64) c.self.inside.lowest (λ same. c.if-number-self.false (sym same))))

pub invariant_of-self-else-remove : goal.invariant_of-self-else-remove
invariant_of-self-else-remove c =
    let words = c.self.inside.words.items in
    let new = (with_items c.self.inside.words c.remove.new.words).items in
    let long = written c.self.inside.words c.deref_mut.result.now c.remove.new.words c.deref_mut.ensures.value c.remove.ensures.as_long (λ old new. length new ≡ length old) c.remove.ensures.as_long in
    let filled = written c.self.inside.words c.deref_mut.result.now c.remove.new.words c.deref_mut.ensures.value c.remove.ensures.as_long (λ old new. (word : ℕ) → is_filled new word ≡ (not (c.remove.result && nat_eq word (c.args.number / 64)) && is_filled old word)) c.remove.ensures.filled in
    let left = left_above words new c.args.number c.remove.result filled c.self.inside.above.members c.self.invariant.2 c.if-remove.false in
    (omega (arith, long, c.self.invariant.0), c.self.invariant.1, left, starts_kept words c.self.inside.above.members c.self.invariant.2 c.self.inside.lowest c.self.invariant.3 new long left)

pub returns-then-number-self : goal.returns-then-number-self
returns-then-number-self c =
    let long = written c.self.inside.words c.deref_mut.result.now c.remove.new.words c.deref_mut.ensures.value c.remove.ensures.as_long (λ old new. length new ≡ length old) c.remove.ensures.as_long in
    (λ i. record {
      members = numbers_cut c.self.inside.words.items (with_items c.self.inside.words c.remove.new.words).items c.args.number (written c.self.inside.words c.deref_mut.result.now c.remove.new.words c.deref_mut.ensures.value c.remove.ensures.as_long (λ old new. (n : ℕ) → has_number new n ≡ (not (nat_eq n c.args.number) && has_number old n)) c.remove.ensures.numbers) c.args.self.now.members (members_of c.self.view_is) i;
      bound = (ap (λ n. 64 * n) long ∙ bound_of c.self.view_is) i;
    })

pub returns-else-number-self : goal.returns-else-number-self
returns-else-number-self c =
    let long = written c.self.inside.words c.deref_mut.result.now c.remove.new.words c.deref_mut.ensures.value c.remove.ensures.as_long (λ old new. length new ≡ length old) c.remove.ensures.as_long in
    (λ i. record {
      members = numbers_cut c.self.inside.words.items (with_items c.self.inside.words c.remove.new.words).items c.args.number (written c.self.inside.words c.deref_mut.result.now c.remove.new.words c.deref_mut.ensures.value c.remove.ensures.as_long (λ old new. (n : ℕ) → has_number new n ≡ (not (nat_eq n c.args.number) && has_number old n)) c.remove.ensures.numbers) c.args.self.now.members (members_of c.self.view_is) i;
      bound = (ap (λ n. 64 * n) long ∙ bound_of c.self.view_is) i;
    })

pub returns-else-remove : goal.returns-else-remove
returns-else-remove c =
    let long = written c.self.inside.words c.deref_mut.result.now c.remove.new.words c.deref_mut.ensures.value c.remove.ensures.as_long (λ old new. length new ≡ length old) c.remove.ensures.as_long in
    (λ i. record {
      members = numbers_cut c.self.inside.words.items (with_items c.self.inside.words c.remove.new.words).items c.args.number (written c.self.inside.words c.deref_mut.result.now c.remove.new.words c.deref_mut.ensures.value c.remove.ensures.as_long (λ old new. (n : ℕ) → has_number new n ≡ (not (nat_eq n c.args.number) && has_number old n)) c.remove.ensures.numbers) c.args.self.now.members (members_of c.self.view_is) i;
      bound = (ap (λ n. 64 * n) long ∙ bound_of c.self.view_is) i;
    })
