use Rattle.std.proofs.Common.{◌≡◌, ◌-◌, List, length, take, ap, sym, subst, ◌∙◌, arith, length-take-le}
use Rattle.std.specs.Prelude.{remove}
use Rattle.frame_core.specs.declared.place.Address.{Address}
use Rattle.table_core.specs.Names.{IsIn, IsRising, without}
use Rattle.table_core.proofs.Rising.{rank_within, remove_at_rank}
use Rattle.table_core.proofs.Shifting.{shifted_out}
use Rattle.table_core.proofs.names.Names.remove.Goals as goal

pub returns : goal.returns
returns c =
    let z = c.self.inside in
    let front = take z.count z.addresses in
    let size : length front ≡ z.count = length-take-le z.count z.addresses (omega (arith, c.self.invariant)) in
    let rising = subst IsRising (sym c.self.view_is) c.requires.rising in
    let named = subst (λ (names : List Address). IsIn names c.args.address.now) (sym c.self.view_is) c.requires.named in
    ap (take (z.count - 1)) c.copy_within.ensures.after
    ∙ shifted_out z.addresses c.rank-place.result z.count (omega (arith, c.rank-place.ensures.value, rank_within front c.args.address.now rising named)) (omega (arith, c.self.invariant))
    ∙ ap (remove front) c.rank-place.ensures.value
    ∙ remove_at_rank front c.args.address.now rising named
    ∙ ap (λ (names : List Address). without names c.args.address.now) c.self.view_is
