use Rattle.std.proofs.Common.{ℕ, List, true, length, refl, sym, ap, subst, ◌∙◌}
use Rattle.frame_core.specs.BlankFrames.{AreBlank}
use Rattle.frame_core.specs.Words.{rows_of}
use Rattle.frame_core.proofs.FlatRows.{among_listed, ends, here_after, lent_after, lent_at, lent_count, lent_here, lent_words}
use Rattle.frame_core.proofs.words.Words.lend_block.Goals as goal

pub insert_block-requires : goal.insert_block-requires
insert_block-requires g c = among_listed g.row.W _ _ c.self.invariant.1 _ c.self.view_is c.args.first c.args.frames c.requires.frames _ refl _ c.self.invariant.5

pub lend-requires-clause-within : goal.lend-requires-clause-within
lend-requires-clause-within g c = ends g.row.W _ _ c.self.invariant.1 _ c.self.view_is c.args.first c.args.frames c.requires.frames _ c.get.ensures.value

pub lend-requires-clause-here : goal.lend-requires-clause-here
lend-requires-clause-here g c = lent_here g.row.W _ _ c.self.invariant.1 _ c.self.view_is c.args.first c.args.frames c.requires.frames _ c.get.ensures.value _ c.self.invariant.2 c.self.invariant.5 c.requires.here

pub invariant_of-self : goal.invariant_of-self
invariant_of-self g c =
    let after = here_after g.row.W _ _ c.self.invariant.1 _ c.self.view_is c.args.first c.args.frames c.requires.frames _ c.get.ensures.value _ c.self.invariant.2 c.self.invariant.5 _ true c.lend.ensures.here _ c.insert_block.ensures in (
      c.self.invariant.0,
      ap length c.lend.ensures.words ∙ c.self.invariant.1,
      after.0,
      c.self.invariant.3,
      subst (λ (words : List ℕ). AreBlank g.row.W c.self.inside.blank_frames (rows_of g.row.W c.self.inside.frames words)) (sym c.lend.ensures.words) c.self.invariant.4,
      after.1,
    )

pub returns-clause-row : goal.returns-clause-row
returns-clause-row g c = (
  c.lend.ensures.row.0 ∙ lent_at g.row.W _ _ c.self.invariant.1 _ c.self.view_is c.args.first c.args.frames c.requires.frames _ c.get.ensures.value,
  c.lend.ensures.row.1 ∙ lent_words g.row.W _ _ c.self.invariant.1 _ c.self.view_is c.args.first c.args.frames c.requires.frames _ c.get.ensures.value,
)

pub returns-clause-count : goal.returns-clause-count
returns-clause-count g c = ap length c.lend.ensures.row.1 ∙ lent_count g.row.W _ _ c.self.invariant.1 _ c.self.view_is c.args.first c.args.frames c.requires.frames _ c.get.ensures.value

pub returns-clause-lent : goal.returns-clause-lent
returns-clause-lent g c = lent_after g.row.W _ _ c.self.invariant.1 _ c.self.view_is c.args.first c.args.frames c.requires.frames _ c.get.ensures.value _ c.self.invariant.2 c.self.invariant.5 true _ c.insert_block.ensures
