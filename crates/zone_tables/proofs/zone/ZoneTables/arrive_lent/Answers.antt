use Rattle.std.proofs.Common.{◌≡◌, ◌∙◌, ap, subst, sym, arith}
use Rattle.frame_core.specs.History.{pins}
use Rattle.state_core.specs.LentMoves.{IsCopiedMove, LentMove}
use Rattle.zone_tables.proofs.LendingMoves.{move_of, parts_of}
use Rattle.zone_tables.proofs.zone.ZoneTables.arrive_lent.Goals as goal

pub arrive_with-requires : goal.arrive_with-requires
arrive_with-requires g c =
    let v = c.args.self.now in
    let is : move_of c.into_parts-way.result.0 c.into_parts-way.result.1 c.into_parts-way.result.2 ≡ c.args.copied = parts_of c.into_parts-way.ensures.way c.into_parts-way.ensures.rows ∙ c.into_lent.ensures in
    let its = subst (IsCopiedMove v) (sym is) c.requires.copied in
    (omega arith, (its.lent.way, (ap (λ (m : LentMove). pins v.records m.page) is ∙ c.requires.unpinned, (its.lent.lent, (tt, its)))))
