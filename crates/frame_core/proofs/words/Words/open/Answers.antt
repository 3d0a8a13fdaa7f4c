use Rattle.std.proofs.Common.{rules, ◌*◌, true, false, length, ap, sym, ◌∙◌}
use lib.ListN.{length-replicate}
use Rattle.frame_core.proofs.FlatRows.{blank_rows, length-rows_of, opened_blank}
use Rattle.frame_core.specs.LentInside.{here_of}
use Rattle.frame_core.proofs.FrameSets.{none_in}
use Rattle.frame_core.proofs.LentFrames.{here_of-replicate}
use Rattle.frame_core.proofs.words.Words.open.Goals as goal

pub invariant_of-result : goal.invariant_of-result
invariant_of-result g c = (
  c.requires,
  ap length c.in_ok-ground.ensures.words ∙ length-replicate (c.args.frames * g.row.W) 0,
  c.in_ok-ground.ensures.here ∙ sym (here_of-replicate g.row.W c.args.frames false) ∙ ap (here_of g.row.W) (sym c.in_ok-blank_frames.ensures.1),
  ap length c.in_ok-blank_frames.ensures.0 ∙ length-replicate c.args.frames true,
  opened_blank g.row.W c.args.frames _ c.in_ok-ground.ensures.words _ c.in_ok-blank_frames.ensures.0,
  ap length c.in_ok-blank_frames.ensures.1 ∙ length-replicate c.args.frames false,
)

pub returns-clause-blank : goal.returns-clause-blank
returns-clause-blank g c = search (rules, blank_rows)

pub returns-clause-frames : goal.returns-clause-frames
returns-clause-frames g c = search (rules, length-rows_of)

pub returns-clause-here : goal.returns-clause-here
returns-clause-here g c = search (rules, none_in)
