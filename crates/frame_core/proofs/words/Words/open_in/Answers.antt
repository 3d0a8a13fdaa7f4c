use Rattle.std.proofs.Common.{ℕ, List, true, false, length, replicate, sym, ap, subst, ◌*◌, ◌∙◌}
use lib.ListN.{length-replicate}
use Rattle.frame_core.specs.BlankFrames.{AreBlank}
use Rattle.frame_core.specs.FrameSet.{has_frame}
use Rattle.frame_core.specs.LentInside.{here_of}
use Rattle.frame_core.specs.Words.{rows_of}
use Rattle.frame_core.proofs.FlatRows.{given_blank, length-rows_of, rows_sized}
use Rattle.frame_core.proofs.FrameSets.{none_in}
use Rattle.frame_core.proofs.LentFrames.{here_of-replicate}
use Rattle.frame_core.proofs.words.Words.open_in.Goals as goal

pub invariant_of-result : goal.invariant_of-result
invariant_of-result g c =
    let blank = given_blank g.row.W c.args.frames c.args.memory.words c.args.blank c.requires.count c.requires.blank _ c.in-Ok.ensures.0 in (
      c.requires.size,
      ap length c.over.ensures.words ∙ c.requires.count,
      c.over.ensures.here ∙ ap (λ (k : ℕ). replicate k true) c.requires.count ∙ sym (here_of-replicate g.row.W c.args.frames false) ∙ ap (here_of g.row.W) (sym c.in-Ok.ensures.1),
      ap length c.in-Ok.ensures.0 ∙ length-replicate c.args.frames c.args.blank,
      subst (λ (words : List ℕ). AreBlank g.row.W c.in-Ok.blank_frames (rows_of g.row.W c.args.frames words)) (sym c.over.ensures.words) blank,
      ap length c.in-Ok.ensures.1 ∙ length-replicate c.args.frames false,
    )

pub returns-clause-frames : goal.returns-clause-frames
returns-clause-frames g c = length-rows_of g.row.W c.args.frames c.over.result.words

pub returns-clause-sized : goal.returns-clause-sized
returns-clause-sized g c = rows_sized g.row.W c.args.frames c.over.result.words (ap length c.over.ensures.words ∙ c.requires.count)

pub returns-clause-here : goal.returns-clause-here
returns-clause-here g c = λ frame. ap (λ lent. has_frame lent frame) c.in-Ok.ensures.1 ∙ none_in c.args.frames frame
