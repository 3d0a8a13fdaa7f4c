use Rattle.std.proofs.Common.{◌∙◌, length, refl, sym, ap, arith}
use Rattle.std.specs.Prelude.{slice_get}
use Rattle.std.specs.FinSet as set
use Rattle.std.proofs.lemmas.Option.{slice_get_read}
use Rattle.scan_core.specs.Frames.{Frames, page_held}
use Rattle.scan_core.proofs.Sounding.{frames_kept}
use Rattle.scan_core.proofs.Seeing.{page_seen, seen_get}
use Rattle.scan_core.proofs.frames.Frames.held_page.Goals as goal

pub index-requires : goal.index-requires
index-requires c = omega (arith, c.requires, frames_kept c.self.inside c.self.invariant c.self.view_is, c.get.ensures.value)

pub returns : goal.returns
returns c =
    let z = c.self.inside in
    let read = ap (slice_get z.kept.items) (sym c.get.ensures.value) ∙ slice_get_read z.kept.items (length z.kept.items) c.get.result c.index.result.now refl (omega (arith, c.requires, frames_kept c.self.inside c.self.invariant c.self.view_is, c.get.ensures.value)) c.index.ensures in
    c.held_page.ensures ∙ ap page_held (sym read)
    ∙ sym (page_seen (set.contains z.held.members c.args.frame) (slice_get z.kept.items c.args.frame) (c.self.invariant.held c.args.frame))
    ∙ ap page_held (sym (seen_get (set.contains z.held.members) z.kept.items c.args.frame))
    ∙ ap (λ (frames : Frames). page_held (slice_get frames.states c.args.frame)) c.self.view_is
