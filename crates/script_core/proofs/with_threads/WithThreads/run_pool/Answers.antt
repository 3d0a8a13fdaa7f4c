use Rattle.std.proofs.Common.{◌≡◌, ◌∙◌, ℕ, length, subst, arith}
use Rattle.std.specs.Prelude.{◌↔◌}
use Rattle.huge_core.specs.ByHand.{IsReservedByHand}
use Rattle.huge_core.specs.declared.report.Stop.TheVariants as stop
use Rattle.zone_core.specs.Alone.{IsAtRest}
use Rattle.script_core.proofs.Pools.{pool_done}
use Rattle.script_core.proofs.with_threads.WithThreads.run_pool.Goals as goal

pub returns : goal.returns
returns g c =
    let report = c.reserve_alone-zone.result.1 in
    let collector = c.collector-collector in
    let reserved = c.reserve_alone-zone.ensures in
    pool_done c.args.world c.args.self.now.client c.args.self.now.single.places c.args.count c.args.blocks
    c.parts_of-zone.result.0 c.reserve_alone-zone.result.0 _ c.reserve_alone-zone.new.seats
    collector.result report c.pool_reply.result c.take_back.new.self
    c.parts_of-zone.ensures.split
    collector.ensures.rounds (collector.ensures.order ∙ c.order.ensures)
    reserved.kept reserved.identity reserved.got (omega (arith, reserved.most, c.get-n.ensures.value))
    (subst (λ (k : ℕ). (report.stop ≡ stop.Enough) ↔ (length report.got.items ≡ k)) c.get-n.ensures.value reserved.enough)
    reserved.rounds c.take_back.ensures.exact
    (subst (λ (k : ℕ). IsAtRest c.parts_of-zone.result.0 → IsReservedByHand collector.result k c.parts_of-zone.result.0 c.reserve_alone-zone.result.0 report) c.get-n.ensures.value reserved.exact)
    c.pool_reply.ensures c.take_back.ensures.left
