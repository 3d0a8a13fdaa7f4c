use Rattle.std.proofs.Common.{◌∙◌, ◌^◌, ℕ, ap}
use Rattle.std.specs.Prelude.{nat_le}
use Rattle.state_core.specs.Packed.{unmarked_free}
use Rattle.zone_core.proofs.Evacuated.{enough_spare}
use Rattle.zone_core.proofs.bare.BareZone.has_spare_frames.Goals as goal

pub returns : goal.returns
returns g c =
    ap (λ (k : ℕ). nat_le k c.vacant.result) c.frames.ensures.value
    ∙ ap (nat_le (2 ^ c.args.order)) (c.vacant.ensures ∙ ap unmarked_free (c.deref.ensures ∙ c.self.view_is))
    ∙ enough_spare c.args.self.now c.args.first c.args.order c.requires.block c.requires.«open»
