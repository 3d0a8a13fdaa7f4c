use Rattle.std.proofs.Common.{◌+◌, ◌*◌, ◌/◌, sym, subst}
use Rattle.number_set.specs.Bits.{has_number}
use Rattle.number_set.specs.Finds.{IsFirstOutside}
use Rattle.number_set.proofs.Outside.{none_left, first_left}
use Rattle.number_set.proofs.words.outside_in_word.Goals as goal

pub returns-in_err-bit : goal.returns-in_err-bit
returns-in_err-bit c =
    subst (IsFirstOutside (has_number c.args.first.now) (has_number c.args.second.now) (has_number c.args.third.now) c.args.number (64 * (c.args.number / 64) + 64)) (sym c.from_residual.ensures)
    (none_left c.args.first.now c.args.second.now c.args.third.now c.args.number (λ i. (c.type_inv.first i).fits) (λ i. (c.type_inv.second i).fits) (λ i. (c.type_inv.third i).fits) c.in_err-bit.ensures.next)

pub returns : goal.returns
returns c =
    first_left c.args.first.now c.args.second.now c.args.third.now c.args.number (λ i. (c.type_inv.first i).fits) (λ i. (c.type_inv.second i).fits) (λ i. (c.type_inv.third i).fits) c.in_ok-bit.bit c.in_ok-bit.ensures.within c.in_ok-bit.ensures.next
