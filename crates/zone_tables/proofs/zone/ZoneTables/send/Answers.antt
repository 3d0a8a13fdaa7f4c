use Rattle.std.proofs.Common.{◌∙◌, ap, arith}
use Rattle.std.specs.Prelude.{is_some}
use Rattle.fewest_core.specs.FewestMoves.{Move}
use Rattle.state_core.specs.ZoneState.{ZoneState}
use Rattle.zone_tables.proofs.LendingMoves.{begun_at, begun_here}
use Rattle.zone_tables.proofs.zone.ZoneTables.send.Goals as goal

pub lend_rows-requires : goal.lend_rows-requires
lend_rows-requires g c =
    let forgot = c.forget_round.new.self in
    let begun = c.start_move-way.ensures in
    let m : Move = record { page = c.args.page; source = c.args.source; target = c.args.target } in
    let at = begun_at forgot c.start_move-way.new.self m c.start_move-way.result begun.way (ap (λ (u : ZoneState). u.placement) begun.step) in
    let here = begun_here forgot c.start_move-way.new.self m c.start_move-way.result begun.way begun.here in
    (omega arith, (at, (here, ap (λ (u : ZoneState). is_some u.memory) begun.step ∙ ap (λ (u : ZoneState). is_some u.memory) c.forget_round.ensures.step ∙ c.requires.given)))
