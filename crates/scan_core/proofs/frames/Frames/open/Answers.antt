use Rattle.std.proofs.Common.{◌∙◌, length, ap, arith}
use Rattle.frame_core.specs.declared.state.FrameState.TheVariants.{Free}
use Rattle.std.specs.Prelude.{◌*◌, replicate}
use Rattle.std.proofs.lemmas.List.{length-replicate}
use Rattle.scan_core.proofs.Steps.{sound_free}
use Rattle.scan_core.proofs.frames.Frames.open.Goals as goal

pub invariant_of-result : goal.invariant_of-result
invariant_of-result c =
    (sound_free (record { kept = c.in_ok-kept.kept; movable = c.in_ok-movable.movable; held = c.in_ok-held.held; free = c.in_ok-free.free; candidates = c.in_ok-candidates.candidates }) c.args.blocks c.requires.some (omega (arith, c.requires.room)) (c.in_ok-kept.ensures.items ∙ ap (replicate (512 * c.args.blocks)) c.of-free.ensures) c.in_ok-movable.ensures.items c.in_ok-held.ensures.empty c.in_ok-held.ensures.enough c.in_ok-free.ensures.members c.in_ok-free.ensures.bound c.in_ok-candidates.ensures.sources c.in_ok-candidates.ensures.room c.in_ok-candidates.ensures.stuck).0

pub returns-clause-open : goal.returns-clause-open
returns-clause-open c =
    let states = (sound_free (record { kept = c.in_ok-kept.kept; movable = c.in_ok-movable.movable; held = c.in_ok-held.held; free = c.in_ok-free.free; candidates = c.in_ok-candidates.candidates }) c.args.blocks c.requires.some (omega (arith, c.requires.room)) (c.in_ok-kept.ensures.items ∙ ap (replicate (512 * c.args.blocks)) c.of-free.ensures) c.in_ok-movable.ensures.items c.in_ok-held.ensures.empty c.in_ok-held.ensures.enough c.in_ok-free.ensures.members c.in_ok-free.ensures.bound c.in_ok-candidates.ensures.sources c.in_ok-candidates.ensures.room c.in_ok-candidates.ensures.stuck).1 in
    λ i. record { states = states i; movable = c.in_ok-movable.ensures.items i; unmovable = c.in_ok-free.ensures.unmovable i }

pub returns-clause-frames : goal.returns-clause-frames
returns-clause-frames c =
    let states = (sound_free (record { kept = c.in_ok-kept.kept; movable = c.in_ok-movable.movable; held = c.in_ok-held.held; free = c.in_ok-free.free; candidates = c.in_ok-candidates.candidates }) c.args.blocks c.requires.some (omega (arith, c.requires.room)) (c.in_ok-kept.ensures.items ∙ ap (replicate (512 * c.args.blocks)) c.of-free.ensures) c.in_ok-movable.ensures.items c.in_ok-held.ensures.empty c.in_ok-held.ensures.enough c.in_ok-free.ensures.members c.in_ok-free.ensures.bound c.in_ok-candidates.ensures.sources c.in_ok-candidates.ensures.room c.in_ok-candidates.ensures.stuck).1 in
    ap length states ∙ length-replicate (512 * c.args.blocks) Free
