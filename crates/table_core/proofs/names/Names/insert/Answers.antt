use Rattle.std.proofs.Common.{◌≡◌, ◌<◌, ◌+◌, List, length, take, ap, ◌∙◌, arith, length-take-le}
use Rattle.std.specs.Prelude.{slice_set, insert}
use Rattle.frame_core.specs.declared.place.Address.{Address}
use Rattle.table_core.specs.Names.{inserted}
use Rattle.table_core.proofs.Rising.{insert_at_rank}
use Rattle.table_core.proofs.Shifting.{shifted_in}
use Rattle.table_core.proofs.names.Names.insert.Goals as goal

pub returns : goal.returns
returns c =
    let z = c.self.inside in
    let front = take z.count z.addresses in
    let size : length front ≡ z.count = length-take-le z.count z.addresses (omega (arith, c.self.invariant)) in
    let room : z.count < length z.addresses = omega (arith, c.requires, ap length c.self.view_is, c.self.invariant) in
    ap (λ (all : List Address). take (z.count + 1) (slice_set all c.rank-place.result c.args.address)) c.copy_within.ensures.after
    ∙ shifted_in z.addresses c.rank-place.result z.count c.args.address (omega (arith, c.rank-place.ensures.within)) room
    ∙ ap (λ k. insert front k c.args.address) c.rank-place.ensures.value
    ∙ insert_at_rank front c.args.address
    ∙ ap (λ (names : List Address). inserted names c.args.address) c.self.view_is
