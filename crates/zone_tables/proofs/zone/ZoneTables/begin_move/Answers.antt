use Rattle.std.proofs.Common.{ℕ, ◌+◌, subst, sym, arith}
use Rattle.fewest_core.proofs.Rounds.{round_moves}
use Rattle.state_core.specs.Isolating.{isolated_next}
use Rattle.state_core.specs.Swept.{SweptIfQuiet}
use Rattle.state_core.proofs.Settled.{swept_if_isolated}
use Rattle.zone_tables.proofs.Facts.{is_sound}
use Rattle.zone_tables.proofs.zone.ZoneTables.begin_move.Goals as goal

pub start_move-requires : goal.start_move-requires
start_move-requires g c =
    let v = c.args.self.now in
    let pair = c.args.pair in
    let is = c.requires.pair in
    let law = (is_sound c.self.view_is c.self.invariant).valid in
    let low = is.to.low in
    let high = is.to.high in
    let fingers = law.fingers.ordered in
    let swept = subst (λ (fingers : ℕ × ℕ). SweptIfQuiet (record (isolated_next v pair) { migrate = fingers.0 + 1; free = fingers.1 })) (λ i. (sym c.get.ensures.value i, sym c.get-2.ensures.value i)) (swept_if_isolated v pair law is) in
    (omega arith, ((round_moves v pair law is).0, (c.requires.accepted, ((omega (arith, low, c.get.ensures.value, c.get-2.ensures.value), omega (arith, high, fingers.1, c.get-2.ensures.value)), swept))))
