use Rattle.std.proofs.Common.{◌∙◌, ap, sym, subst, arith}
use Rattle.std.specs.Prelude.{Some, None, if◌then◌else◌}
use Rattle.state_core.specs.Opening.{opened_sized, places_of}
use Rattle.state_core.specs.Valid.{IsValidZone}
use Rattle.state_core.proofs.Opened.{opened_in_valid}
use Rattle.zone_tables.specs.Fresh.{AreFresh}
use Rattle.zone_tables.proofs.zone.ZoneTables.open_in.Goals as goal

pub open_in-requires : goal.open_in-requires
open_in-requires g c = (omega arith, (c.requires.words, (c.requires.count, c.requires.blank)))

pub of-requires : goal.of-requires
of-requires g c =
    let fresh = c.in-Ok.ensures in
    (omega arith, (omega arith, (c.requires.«open», (subst (AreFresh c.in-Ok.parts c.args.size) (sym (ap (λ h. h.room) fresh.history)) fresh, ((c.in_ok-words.ensures.frames, c.in_ok-words.ensures.sized), c.in_ok-words.ensures.here)))))

pub returns-clause-ok : goal.returns-clause-ok
returns-clause-ok g c =
    let room = ap (λ h. h.room) c.in-Ok.ensures.history in
    let lies = c.in_ok-words.ensures.at in
    c.of.ensures ∙ (λ i. record (opened_sized g.row.W c.args.number c.args.size (room i)) { memory = if lies.1 i then Some (lies.0 i) else None })

pub returns-clause-valid : goal.returns-clause-valid
returns-clause-valid g c =
    subst IsValidZone (sym (returns-clause-ok g c)) (opened_in_valid g.row.W c.args.number c.args.size (places_of c.args.places) c.args.memory.at c.requires.«open» c.in-Ok.ensures.few)
