use Rattle.std.proofs.Common.{◌≡◌, ◌*◌, ◌^◌, ℕ, ap, subst, sym, arith}
use Rattle.std.proofs.lemmas.Nat.{pow_pos}
use Rattle.state_core.specs.Valid.{IsValidZone}
use Rattle.zone_core.proofs.Picking.{runs_fit}
use Rattle.zone_core.proofs.bare.BareZone.pages_to_reserve.Goals as goal

pub overflow_cast-blocks : goal.overflow_cast-blocks
overflow_cast-blocks g c =
    let law = subst IsValidZone c.self.view_is c.self.invariant in
    omega (arith, law.size.1, (runs_fit c.args.self.now (2 ^ c.args.order) c.args.blocks (pow_pos c.args.order) (sym c.in-Some.ensures.there)).0)

pub overflow_mul-frames : goal.overflow_mul-frames
overflow_mul-frames g c =
    let law = subst IsValidZone c.self.view_is c.self.invariant in
    let same : c.frames.result * c.args.blocks ≡ 2 ^ c.args.order * c.args.blocks = ap (λ (k : ℕ). k * c.args.blocks) c.frames.ensures.value in
    omega (arith, same, law.size.1, (runs_fit c.args.self.now (2 ^ c.args.order) c.args.blocks (pow_pos c.args.order) (sym c.in-Some.ensures.there)).1)
