use Rattle.std.proofs.Common.{◌≤◌, ◌*◌, ℕ, subst}
use Rattle.compactd_c.proofs.LentMoves.{outside_of_moves}
use Rattle.compactd_c.proofs.zone.lent_moves.frame_no.Goals as goal

pub returns-then-number-blocks-clause-none : goal.returns-then-number-blocks-clause-none
returns-then-number-blocks-clause-none g c none =
    outside_of_moves c.args.zone.now c.blocks-2.ensures.valid c.args.number (subst (λ (n : ℕ). 512 * n ≤ c.args.number) c.blocks-2.ensures.blocks c.if-number-blocks.true)
