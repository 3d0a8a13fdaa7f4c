use Rattle.std.proofs.Common.{refl}
use Rattle.std.proofs.lemmas.Bool.{both_ways}
use Rattle.compactd_c.proofs.LentMoves.{moving_on_way}
use Rattle.compactd_c.proofs.zone.lent_moves.way_of.Goals as goal

pub returns-in_err-page_no-clause-none : goal.returns-in_err-page_no-clause-none
returns-in_err-page_no-clause-none g c none at =
    let held = c.args.held.now in
    both_ways _ (c.page_no.ensures.none (c.in_err-page_no.was) held.serial) (moving_on_way c.args.zone.now held.page held.serial held.source held.target at)

pub returns-in_err-frame_no-clause-none : goal.returns-in_err-frame_no-clause-none
returns-in_err-frame_no-clause-none g c none at =
    let held = c.args.held.now in
    (c.frame_no.ensures.none (c.in_err-frame_no.was) held.page held.serial held.source held.target at).0 refl

pub returns-in_err-frame_no-2-clause-none : goal.returns-in_err-frame_no-2-clause-none
returns-in_err-frame_no-2-clause-none g c none at =
    let held = c.args.held.now in
    (c.frame_no-2.ensures.none (c.in_err-frame_no-2.was) held.page held.serial held.source held.target at).1 refl
