use Rattle.std.proofs.Common.{◌∙◌, length, refl, sym, ap, arith}
use Rattle.std.specs.Prelude.{slice_get}
use Rattle.std.proofs.lemmas.Option.{slice_get_read}
use Rattle.scan_core.specs.Frames.{Frames}
use Rattle.scan_core.proofs.Sounding.{frames_kept}
use Rattle.scan_core.proofs.frames.Frames.movable.Goals as goal

pub index-requires : goal.index-requires
index-requires c = omega (arith, c.requires, frames_kept c.self.inside c.self.invariant c.self.view_is, c.self.invariant.movable, c.get.ensures.value)

pub returns : goal.returns
returns c =
    ap (λ (frames : Frames). slice_get frames.movable c.args.frame) (sym c.self.view_is) ∙ ap (slice_get c.self.inside.movable.items) (sym c.get.ensures.value)
    ∙ slice_get_read c.self.inside.movable.items (length c.self.inside.movable.items) c.get.result c.index.result.now refl (omega (arith, c.requires, frames_kept c.self.inside c.self.invariant c.self.view_is, c.self.invariant.movable, c.get.ensures.value)) c.index.ensures
