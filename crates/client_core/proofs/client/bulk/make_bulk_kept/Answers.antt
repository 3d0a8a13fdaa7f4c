use Rattle.std.proofs.Common.{rules}
use Rattle.frame_core.specs.Access.{access_record}
use Rattle.hand_core.specs.Told.{pair_of}
use Rattle.client_core.specs.Bulk.{records_each}
use Rattle.client_core.proofs.ManyCalls.{kept_by}
use Rattle.client_core.proofs.client.bulk.make_bulk_kept.Goals as goal

pub invariant_of-room-2 : goal.invariant_of-room-2
invariant_of-room-2 g c =
    let zone = c.room.inside.zone in
    let zone_new = c.make.new.zone in
    let access = g.C.Bulk.access c.args.call.now in
    let client = access.client in
    let pair = pair_of c.args.slip.now in
    let entries = records_each (access_record access) (g.C.Bulk.from c.args.call.now) (g.C.Bulk.values c.args.call.now c.make.new.words) in
    let inv = c.room.invariant in
    let kept = kept_by g.K.Keeping.keeps g.K.Keeping.told client
    (λ z left law call kept. g.K.Keeping.calls z left client pair c.requires.allows law call kept)
    (λ z left call kept. g.K.Keeping.tells z left client pair c.requires.allows call kept)
    entries zone zone_new c.room.inside.stub c.in_ok-make.ensures.calls inv.2 inv.3 in
    let told = kept.1 in (
      search rules,
      search rules,
      kept.0,
      search (rules, told),
    )
