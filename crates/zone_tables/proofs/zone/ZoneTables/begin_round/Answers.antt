use Rattle.std.proofs.Common.{◌*◌, subst, sym, ap, ◌∙◌, ◌≡◌, Some, length, refl}
use Rattle.scan_core.specs.declared.fingers.Fingers.{Fingers}
use Rattle.zone_tables.specs.declared.zone.ZoneTables.TheInside.{Inside}
use Rattle.zone_tables.specs.History.{History}
use Rattle.zone_tables.specs.Sound.{IsSound, state_of}
use Rattle.state_core.specs.declared.round.RoundStart.{RoundStart}
use Rattle.state_core.specs.Pairs.{is_calm}
use Rattle.state_core.specs.ZoneState.{ZoneState, frame_count}
use Rattle.zone_tables.proofs.Rounds.{begun_sound}
use Rattle.zone_tables.proofs.zone.ZoneTables.begin_round.Goals as goal

pub invariant_of-self : goal.invariant_of-self
invariant_of-self g c =
    let z = c.self.inside in
    let at_ends : ZoneState → Fingers = λ v. record { migrate = 0; free = frame_count v } in
    let S : Inside g.row.W → Type 0 = λ u. IsSound u (state_of u) in
    let start : RoundStart = record { records = length z.history.records; calm = c.is_calm-calm.result } in
    let begun : c.begin_round.new.self ≡ record z.history { round = Some start } = c.begin_round.ensures in
    subst (λ (fingers : Fingers). S (record z { fingers = fingers; history = c.begin_round.new.self })) (sym (c.fingers_at_ends-self-inside.ensures.ends ∙ ap at_ends (sym c.self.view_is)))
    (subst (λ (history : History). S (record z { fingers = record { migrate = 0; free = 512 * z.size.blocks }; history = history })) (sym begun)
    (begun_sound z (state_of z) c.self.invariant start refl (c.is_calm-calm.ensures ∙ ap is_calm (sym c.self.view_is))))

pub returns-clause-valid : goal.returns-clause-valid
returns-clause-valid g c = (invariant_of-self g c).valid
