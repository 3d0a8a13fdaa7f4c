use Rattle.std.proofs.Common.{◌≡◌, ◌+◌, ◌-◌, ap, rules, arith}
use Rattle.zone_tables.specs.Moves.{Moves}
use Rattle.zone_tables.proofs.moves.Moves.isolate.Goals as goal

pub returns-clause-noted : goal.returns-clause-noted
returns-clause-noted c =
    let was = c.self.inside in
    let moved : was.isolated + 1 - (was.out + 1) - was.back ≡ was.isolated - was.out - was.back = omega arith in search rules

pub returns-clause-serial : goal.returns-clause-serial
returns-clause-serial c = ap (λ (v : Moves). v.isolated) c.self.view_is
