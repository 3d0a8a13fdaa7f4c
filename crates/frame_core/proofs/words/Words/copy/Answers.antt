use Rattle.std.proofs.Common.{refl, length, ap, sym, ◌∙◌}
use Rattle.frame_core.proofs.FlatRows.{copied_blank, copied_long, copied_over, length-rows_of, rows_beside, source_ends, source_here, target_ends, target_here, target_listed}
use Rattle.frame_core.proofs.LentFrames.{only_rows}
use Rattle.frame_core.proofs.words.Words.copy.Goals as goal

pub remove_block-requires : goal.remove_block-requires
remove_block-requires g c = target_listed g.row.W _ _ c.self.invariant.1 _ c.self.view_is _ _ c.requires.source.0 c.requires.target.0 _ refl _ refl _ c.self.invariant.3

pub copy_within-requires-clause-within : goal.copy_within-requires-clause-within
copy_within-requires-clause-within g c =
    let ends = target_ends g.row.W _ _ c.self.invariant.1 _ c.self.view_is _ _ c.requires.source.0 c.requires.target.0 _ c.get.ensures.value _ c.get-2.ensures.value in
    let begin = source_ends g.row.W _ _ c.self.invariant.1 _ c.self.view_is _ _ c.requires.source.0 c.requires.target.0 _ c.get.ensures.value _ c.get-2.ensures.value in
    (begin, ends)

pub copy_within-requires-clause-beside : goal.copy_within-requires-clause-beside
copy_within-requires-clause-beside g c = rows_beside g.row.W _ _ c.self.invariant.1 _ c.self.view_is _ _ c.requires.source.0 c.requires.target.0 _ c.get.ensures.value _ c.get-2.ensures.value c.requires.apart

pub copy_within-requires-clause-source : goal.copy_within-requires-clause-source
copy_within-requires-clause-source g c = source_here g.row.W _ _ c.self.invariant.1 _ c.self.view_is _ _ c.requires.source.0 c.requires.target.0 _ c.get.ensures.value _ c.get-2.ensures.value _ c.self.invariant.2 c.self.invariant.5 c.requires.source.1

pub copy_within-requires-clause-target : goal.copy_within-requires-clause-target
copy_within-requires-clause-target g c = target_here g.row.W _ _ c.self.invariant.1 _ c.self.view_is _ _ c.requires.source.0 c.requires.target.0 _ c.get.ensures.value _ c.get-2.ensures.value _ c.self.invariant.2 c.self.invariant.5 c.requires.target.1

pub invariant_of-self : goal.invariant_of-self
invariant_of-self g c =
    let blank = copied_blank g.row.W _ _ c.self.invariant.1 _ c.self.view_is _ _ c.requires.source.0 c.requires.target.0 _ c.get.ensures.value _ c.get-2.ensures.value _ c.self.invariant.3 c.self.invariant.4 _ c.remove_block.ensures _ c.copy_within.ensures.words in (
      c.self.invariant.0,
      copied_long g.row.W _ _ c.self.invariant.1 _ c.self.view_is _ _ c.requires.source.0 c.requires.target.0 _ c.get.ensures.value _ c.get-2.ensures.value _ c.copy_within.ensures.words,
      c.copy_within.ensures.here ∙ c.self.invariant.2,
      blank.0,
      blank.1,
      c.self.invariant.5,
    )

pub returns-clause-copied : goal.returns-clause-copied
returns-clause-copied g c =
    only_rows c.args.self.now _ _ (c.copy_within.ensures.at.0 ∙ ap (λ s. s.at) c.self.view_is, ap (λ s. s.lent) c.self.view_is, c.copy_within.ensures.at.1 ∙ ap (λ s. s.given) c.self.view_is)
    (copied_over g.row.W _ _ c.self.invariant.1 _ c.self.view_is _ _ c.requires.source.0 c.requires.target.0 _ c.get.ensures.value _ c.get-2.ensures.value _ c.copy_within.ensures.words)

pub returns-clause-frames : goal.returns-clause-frames
returns-clause-frames g c = length-rows_of g.row.W c.self.inside.frames _ ∙ sym (length-rows_of g.row.W c.self.inside.frames _) ∙ ap (λ s. length s.rows) c.self.view_is
