use Rattle.std.proofs.Common.{◌≡◌, ◌∙◌, false, length, refl, sym, ap, arith}
use Rattle.std.specs.Prelude.{Some, slice_get}
use Rattle.std.specs.FinSet as set
use Rattle.std.proofs.lemmas.Option.{slice_get_read}
use Rattle.scan_core.specs.Frames.{Frames, is_free_state}
use Rattle.scan_core.proofs.Sounding.{frames_kept}
use Rattle.scan_core.proofs.Seeing.{seen_get, seen_state}
use Rattle.scan_core.proofs.Spanning.{same_by}
use Rattle.scan_core.proofs.frames.Frames.state.Goals as goal
use Rattle.scan_core.proofs.frames.Frames.state.Goals.{else-is_free-via-then-is_free+else-contains, else-is_free-via-else-is_free}

pub index-kept-requires : goal.index-kept-requires
index-kept-requires c = omega (arith, c.requires, frames_kept c.self.inside c.self.invariant c.self.view_is, c.get.ensures.value)

pub contains-requires : goal.contains-requires
contains-requires c =
    omega (arith, c.requires, frames_kept c.self.inside c.self.invariant c.self.view_is, c.self.invariant.held_room, c.get-then-is_free.ensures.value)

pub returns-then-contains : goal.returns-then-contains
returns-then-contains c =
    let z = c.self.inside in
    let held = ap (set.contains z.held.members) (sym c.get-then-is_free.ensures.value) ∙ sym c.contains.ensures ∙ c.if-contains.true in
    ap (λ (frames : Frames). slice_get frames.states c.args.frame) (sym c.self.view_is)
    ∙ seen_get (set.contains z.held.members) z.kept.items c.args.frame
    ∙ (λ i. seen_state (held i) (c.self.invariant.held c.args.frame held i))

-- a frame that is kept as used isn't held
pub returns : goal.returns
returns c =
    let z = c.self.inside in
    let read = ap (slice_get z.kept.items) (sym c.get.ensures.value) ∙ slice_get_read z.kept.items (length z.kept.items) c.get.result c.index-kept.result.now refl (omega (arith, c.requires, frames_kept c.self.inside c.self.invariant c.self.view_is, c.get.ensures.value)) c.index-kept.ensures in
    let unheld : set.contains z.held.members c.args.frame ≡ false = elim c.else-is_free.branch [
      | else-is_free-via-then-is_free+else-contains w ↦ ap (set.contains z.held.members) (sym w.get-then-is_free.ensures.value) ∙ sym w.contains.ensures ∙ w.if-contains.false
      | else-is_free-via-else-is_free w ↦ same_by (set.contains z.held.members c.args.frame) false (λ e. sym w.if-is_free.false ∙ c.is_free.ensures ∙ ap is_free_state (sym read ∙ c.self.invariant.held c.args.frame e)) (λ e. cc)
    ] in
    ap (λ (frames : Frames). slice_get frames.states c.args.frame) (sym c.self.view_is)
    ∙ seen_get (set.contains z.held.members) z.kept.items c.args.frame ∙ (λ i. seen_state (unheld i) (read i)) ∙ ap Some (sym c.state.ensures)
