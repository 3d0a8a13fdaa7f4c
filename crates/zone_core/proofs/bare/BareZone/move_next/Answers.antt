use Rattle.std.proofs.Common.{◌∙◌, ap, arith}
use Rattle.std.specs.FinSet as set
use Rattle.state_core.specs.ZoneState.{ZoneState}
use Rattle.zone_core.proofs.InTurn.{begun_here, begun_placed, begun_unpinned}
use Rattle.zone_core.proofs.bare.BareZone.move_next.Goals as goal

pub carry-requires : goal.carry-requires
carry-requires g c =
    let z = c.deref_mut.result.now in
    let same = c.deref_mut.ensures.value ∙ c.self.view_is in
    let begun = c.deref_mut-in-Ok-Some.ensures.value ∙ c.begin_move-way.ensures.step in
    let is_pair = rw c.in-Ok-Some.field-0-is at c.in-Ok-Some.ensures.is_pair in
    let placed = begun_placed c.args.self.now z c.deref_mut-in-Ok-Some.result.now c.in-Ok-Some.pair c.begin_move-way.result same c.begin_move-way.ensures.way begun in
    let unpinned = begun_unpinned c.args.self.now z c.deref_mut-in-Ok-Some.result.now c.in-Ok-Some.pair c.begin_move-way.result same c.begin_move-way.ensures.way begun is_pair.from.movable in
    let here = begun_here c.args.self.now z c.deref_mut-in-Ok-Some.result.now c.in-Ok-Some.pair c.begin_move-way.result same c.begin_move-way.ensures.way begun
    (ap (λ (v : ZoneState). set.contains v.lent_pages c.in-Ok-Some.pair.page) c.deref_mut-in-Ok-Some.ensures.value ∙ c.begin_move-way.ensures.here) in
    (omega arith, (placed, (here, unpinned)))
