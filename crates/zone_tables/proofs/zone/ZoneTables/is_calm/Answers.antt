use Rattle.std.proofs.Common.{◌∙◌, not, length, ap, sym}
use Rattle.std.specs.Prelude.{nat_eq, ◌&&◌}
use Rattle.frame_core.specs.Below.{some_below}
use Rattle.frame_core.specs.Moves.{out as out_now}
use Rattle.state_core.specs.Pairs.{is_stuck}
use Rattle.state_core.specs.ZoneState.{frame_count}
use Rattle.zone_tables.proofs.Scanning.{any_stuck_seen}
use Rattle.zone_tables.proofs.zone.ZoneTables.is_calm.Goals as goal
use Rattle.zone_tables.proofs.OutAndEnded.{out_seen}
use Rattle.std.proofs.lemmas.Bool.{eq-eqb, ne_eqb}

pub returns-then-out-eq0 : goal.returns-then-out-eq0
returns-then-out-eq0 g c =
    let out = out_seen c.self.view_is c.self.invariant c.out.ensures in
    let stuck = c.is_any_stuck.ensures ∙ any_stuck_seen c.self.view_is c.self.invariant in
    ap not stuck ∙ sym (ap (λ b. b && not (some_below (is_stuck c.args.self.now) (frame_count c.args.self.now))) (eq-eqb (length (out_now c.args.self.now.records)) 0 (sym out ∙ c.if-out-eq0.true)))

pub returns-else-out-eq0 : goal.returns-else-out-eq0
returns-else-out-eq0 g c =
    let out = out_seen c.self.view_is c.self.invariant c.out.ensures in
    let some = ne_eqb (length (out_now c.args.self.now.records)) 0 (λ e. c.if-out-eq0.false (out ∙ e)) in
    ap (λ n. nat_eq n 0) out ∙ some ∙ sym (ap (λ b. b && not (some_below (is_stuck c.args.self.now) (frame_count c.args.self.now))) some)
