use Rattle.std.proofs.Common.{◌∙◌, sym, ap, arith}
use Rattle.std.specs.Prelude.{nat_le, ◌&&◌}
use Rattle.std.specs.FinSet as set
use Rattle.frame_core.specs.Below.{lowest}
use Rattle.scan_core.specs.Frames.{Frames, source_at}
use Rattle.scan_core.proofs.Found.{some_is}
use Rattle.scan_core.proofs.Scanning.{movable_none, movable_past, movable_here, movable_met}
use Rattle.scan_core.proofs.Sounding.{frames_kept, movable_found_in}
use Rattle.scan_core.proofs.frames.Frames.next_movable.Goals as goal

pub returns-then-from-end : goal.returns-then-from-end
returns-then-from-end c =
    sym (movable_met (source_at c.args.self.now.states c.args.self.now.movable) c.args.from c.args.end c.if-from-end.true)

pub at_or_after-requires : goal.at_or_after-requires
at_or_after-requires c =
    omega (arith, c.if-from-end.false, c.requires, frames_kept c.self.inside c.self.invariant c.self.view_is, c.self.invariant.sources_room)

pub returns-in_err-frame : goal.returns-in_err-frame
returns-in_err-frame c =
    c.from_residual.ensures
    ∙ sym (movable_none (set.contains c.self.inside.candidates.sources.members) c.args.from c.args.end c.in_err-frame.ensures.next)
    ∙ movable_found_in c.self.inside c.self.invariant c.args.from c.args.end
    ∙ ap (λ (frames : Frames). lowest (λ frame. nat_le c.args.from frame && source_at frames.states frames.movable frame) c.args.end) c.self.view_is

pub returns-then-frame-end : goal.returns-then-frame-end
returns-then-frame-end c =
    sym (movable_past (set.contains c.self.inside.candidates.sources.members) c.args.from c.args.end c.in_ok-frame.frame c.in_ok-frame.ensures.next c.if-frame-end.true)
    ∙ movable_found_in c.self.inside c.self.invariant c.args.from c.args.end
    ∙ ap (λ (frames : Frames). lowest (λ frame. nat_le c.args.from frame && source_at frames.states frames.movable frame) c.args.end) c.self.view_is

pub returns : goal.returns
returns c =
    let same = frames_kept c.self.inside c.self.invariant c.self.view_is in
    some_is _ c.in_ok-frame.frame (c.in_any_zone.ensures.valid.1 (omega (arith, c.if-frame-end.false, c.requires, same, c.self.invariant.few))) c.in_any_zone.ensures.value
    ∙ sym (movable_here (set.contains c.self.inside.candidates.sources.members) c.args.from c.args.end c.in_ok-frame.frame c.in_ok-frame.ensures.next (omega (arith, c.if-frame-end.false)))
    ∙ movable_found_in c.self.inside c.self.invariant c.args.from c.args.end
    ∙ ap (λ (frames : Frames). lowest (λ frame. nat_le c.args.from frame && source_at frames.states frames.movable frame) c.args.end) c.self.view_is
