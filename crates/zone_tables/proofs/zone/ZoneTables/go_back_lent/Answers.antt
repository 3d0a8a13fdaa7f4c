use Rattle.std.proofs.Common.{◌≡◌, ◌∙◌, refl, ap, subst, sym, arith}
use Rattle.std.specs.FinMap as map
use Rattle.std.specs.FinSet as set
use Rattle.frame_core.specs.History.{pins}
use Rattle.state_core.specs.Ending.{HasCause, put_back_to_source}
use Rattle.state_core.specs.LentMoves.{IsLentMove, LentMove, move_returned}
use Rattle.state_core.specs.ZoneState.{ZoneState}
use Rattle.state_core.proofs.Entries.{contains_remove_same}
use Rattle.zone_tables.proofs.Facts.{Becomes}
use Rattle.zone_tables.proofs.LendingMoves.{filled_holds, move_of, parts_of, rows_of_move}
use Rattle.zone_tables.proofs.MoveEnds.{source_row, target_row}
use Rattle.zone_tables.proofs.zone.ZoneTables.go_back_lent.Given.{Over}
use Rattle.zone_tables.proofs.zone.ZoneTables.go_back_lent.Goals as goal
use Rattle.zone_tables.proofs.zone.ZoneTables.go_back_lent.Goals.{After-way-1, After-take_rows_back}

-- the move is that of the rows
parts : {g : Over} (c : After-way-1 g) → move_of c.into_parts-way.result.0 c.into_parts-way.result.1 c.into_parts-way.result.2 ≡ c.args.lent
parts c = parts_of c.into_parts-way.ensures.way c.into_parts-way.ensures.rows

its : {g : Over} (c : After-way-1 g) → IsLentMove c.args.self.now (move_of c.into_parts-way.result.0 c.into_parts-way.result.1 c.into_parts-way.result.2)
its c = subst (IsLentMove c.args.self.now) (sym (parts c)) c.requires.lent

pub take_rows_back-requires : goal.take_rows_back-requires
take_rows_back-requires g c =
    let way = c.into_parts-way.result.0 in
    let low = source_row c.self.view_is c.self.invariant way.page (its c).way in
    let high = target_row c.self.view_is c.self.invariant way.page (its c).way in
    (omega arith, (low, (high, rows_of_move c.self.view_is c.self.invariant way.page (its c).way c.into_parts-way.result.1 c.into_parts-way.result.2 (its c))))

-- the rows came back
back : {g : Over} (c : After-take_rows_back g) → Becomes (record c.self.inside { words = c.take_rows_back.new.words }) (move_returned c.args.self.now c.into_parts-way.result.0.page)
back c =
    filled_holds c.self.view_is c.self.invariant c.into_parts-way.result.0.page (its c.before).way c.take_rows_back.new.words c.into_parts-way.result.2.words (its c.before).sizes.1
    c.take_rows_back.ensures.rows c.take_rows_back.ensures.at c.take_rows_back.ensures.lent

pub invariant_of-self : goal.invariant_of-self
invariant_of-self g c = (back c).0

pub go_back-requires : goal.go_back-requires
go_back-requires g c =
    let v = c.args.self.now in
    let page = c.into_parts-way.result.0.page in
    let view = (back c.before.before).1 in (
      omega arith,
      (
        ap (λ (u : ZoneState). map.get u.placement page) view ∙ (its c.before.before.before).way,
        (
          ap (λ (u : ZoneState). set.contains u.lent_pages page) view ∙ contains_remove_same v.lent_pages page page refl,
          subst (HasCause c.args.cause) (sym (ap (λ (u : ZoneState). pins u.records page) view ∙ ap (λ (m : LentMove). pins v.records m.page) (parts c.before.before.before))) c.requires.cause,
        ),
      ),
    )

pub returns-clause-step : goal.returns-clause-step
returns-clause-step g c =
    let is = parts c.before.before.before.before in
    let view = (back c.before.before.before).1 ∙ ap (λ (m : LentMove). move_returned c.args.self.now m.page) is in
    c.go_back.ensures.step ∙ (λ i. put_back_to_source (view i) (is i).serial (is i).page c.args.cause)
