use Rattle.std.proofs.Common.{rules, ◌≡◌, refl, sym, subst, ◌∙◌}
use Rattle.std.specs.Prelude.{None}
use Rattle.state_core.specs.Isolating.{isolate_refusal, next_state}
use Rattle.state_core.specs.Pairs.{next_pair}
use Rattle.state_core.specs.ZoneState.{ZoneState}
use Rattle.zone_core.specs.ByHand.{scan_step}
use Rattle.zone_core.proofs.Steps.{stepped}
use Rattle.round_core.proofs.NoReceipt.{leaves, scan_tells_none}
use Rattle.round_core.proofs.under_lock.isolate_page.Goals as goal
use Rattle.round_core.proofs.under_lock.isolate_page.Goals.{in-Ok-Page, in-Ok-Met, in-Err}

pub invariant_of-room : goal.invariant_of-room
invariant_of-room g c =
    let zone = c.room.inside.zone in
    let zone_new = c.isolate_next.new.self in
    let inv = c.room.invariant in
    let kept = subst g.K.Keeping.keeps_scanning (sym c.room.view_is) c.requires in
    let scanned_kept = g.K.Keeping.lets_go (scan_step zone) (g.K.Keeping.scans zone inv.0 kept) in
    let none = scan_tells_none g.K.Keeping.told g.K.Keeping.tells_none zone inv.0 in
    elim c.match-isolate_next.branch [
      | in-Ok-Page w ↦
          (let made = w.in-Ok-Page.ensures in
          leaves g.K.Keeping.told g.K.Keeping.keeps zone (scan_step zone) zone_new (made.ok ∙ stepped zone made.refused) made.valid made.identity scanned_kept none inv.1 inv.3)
      | in-Ok-Met w ↦
          (let made = w.in-Ok-Met.ensures in
          leaves g.K.Keeping.told g.K.Keeping.keeps zone (scan_step zone) zone_new (made.ok ∙ stepped zone made.refused) made.valid made.identity scanned_kept none inv.1 inv.3)
      | in-Err w ↦
          (let made = w.in-Err.ensures in
          leaves g.K.Keeping.told g.K.Keeping.keeps zone zone zone_new made.err made.valid made.identity inv.2 refl inv.1 inv.3)
    ]

pub returns-clause-serial : goal.returns-clause-serial
returns-clause-serial g c = search rules

pub returns-clause-count : goal.returns-clause-count
returns-clause-count g c = search rules

pub returns-clause-same : goal.returns-clause-same
returns-clause-same g c = search rules
