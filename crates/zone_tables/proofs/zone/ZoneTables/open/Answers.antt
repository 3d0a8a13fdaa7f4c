use Rattle.std.proofs.Common.{◌∙◌, ap, sym, subst, arith}
use Rattle.std.specs.Prelude.{Some, None, if◌then◌else◌}
use Rattle.state_core.specs.Opening.{opened_sized, places_of}
use Rattle.state_core.specs.Valid.{IsValidZone}
use Rattle.state_core.proofs.Opened.{opened_valid}
use Rattle.zone_tables.specs.Fresh.{AreFresh}
use Rattle.zone_tables.proofs.Opened.{blank_sized}
use Rattle.zone_tables.proofs.zone.ZoneTables.open.Goals as goal

pub of-requires : goal.of-requires
of-requires g c =
    let fresh = c.in_ok-parts.ensures in
    let rows = blank_sized g.row.W _ c.in_ok-words.words.rows c.in_ok-words.ensures.blank in
    (omega arith, (omega arith, (c.requires.«open», (subst (AreFresh c.in_ok-parts.parts c.args.size) (sym (ap (λ h. h.room) fresh.history)) fresh, ((c.in_ok-words.ensures.frames, rows), c.in_ok-words.ensures.here)))))

pub returns-clause-ok : goal.returns-clause-ok
returns-clause-ok g c =
    let room = ap (λ h. h.room) c.in_ok-parts.ensures.history in
    let own = c.in_ok-words.ensures.own in
    c.of.ensures ∙ (λ i. record (opened_sized g.row.W c.args.number c.args.size (room i)) { memory = if own i then Some c.in_ok-words.words.at else None })

pub returns-clause-valid : goal.returns-clause-valid
returns-clause-valid g c =
    subst IsValidZone (sym (returns-clause-ok g c)) (opened_valid g.row.W c.args.number c.args.size (places_of c.args.places) c.requires.«open» c.in_ok-parts.ensures.few)
