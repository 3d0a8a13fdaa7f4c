use Rattle.std.proofs.Common.{ℕ, true, false, replicate, refl, sym, ap, ◌*◌, ◌∙◌, arith}
use Rattle.row_core.specs.Parts.{part, spliced}
use Rattle.frame_core.proofs.FlatRows.{among_listed, came_back, came_blank, came_long, came_sized, ends, here_after, lent_after, lent_at, were_lent}
use Rattle.frame_core.proofs.words.Words.take_block_back.Goals as goal

pub remove_block-requires : goal.remove_block-requires
remove_block-requires g c = among_listed g.row.W _ _ c.self.invariant.1 _ c.self.view_is c.args.first c.args.frames c.requires.frames _ refl _ c.self.invariant.3

pub remove_block-requires-2 : goal.remove_block-requires-2
remove_block-requires-2 g c = among_listed g.row.W _ _ c.self.invariant.1 _ c.self.view_is c.args.first c.args.frames c.requires.frames _ refl _ c.self.invariant.5

pub take_back-requires-clause-within : goal.take_back-requires-clause-within
take_back-requires-clause-within g c = omega (arith, c.requires.count, ends g.row.W _ _ c.self.invariant.1 _ c.self.view_is c.args.first c.args.frames c.requires.frames _ c.get.ensures.value)

pub take_back-requires-clause-place : goal.take_back-requires-clause-place
take_back-requires-clause-place g c = c.requires.place ∙ sym (lent_at g.row.W _ _ c.self.invariant.1 _ c.self.view_is c.args.first c.args.frames c.requires.frames _ c.get.ensures.value)

pub invariant_of-self : goal.invariant_of-self
invariant_of-self g c =
    let is = c.take_back.ensures.words ∙ ap (λ (k : ℕ). spliced c.self.inside.ground.words (c.get.result * g.row.W) k c.args.row.words) c.requires.count in
    let here = c.take_back.ensures.here ∙ ap (λ (k : ℕ). spliced c.self.inside.ground.here (c.get.result * g.row.W) k (replicate k true)) c.requires.count in
    let blank = came_blank g.row.W _ _ c.self.invariant.1 _ c.self.view_is c.args.first c.args.frames c.requires.frames _ c.get.ensures.value _ c.self.invariant.3 c.self.invariant.4 _ c.remove_block.ensures _ _ (came_back g.row.W _ _ c.self.invariant.1 _ c.self.view_is c.args.first c.args.frames c.requires.frames _ c.get.ensures.value _ _ is c.requires.count) in
    let after = here_after g.row.W _ _ c.self.invariant.1 _ c.self.view_is c.args.first c.args.frames c.requires.frames _ c.get.ensures.value _ c.self.invariant.2 c.self.invariant.5 _ false here _ c.remove_block-2.ensures in (
      c.self.invariant.0,
      came_long g.row.W _ _ c.self.invariant.1 _ c.self.view_is c.args.first c.args.frames c.requires.frames _ c.get.ensures.value _ _ is c.requires.count,
      after.0,
      blank.0,
      blank.1,
      after.1,
    )

pub returns-clause-rows : goal.returns-clause-rows
returns-clause-rows g c =
    came_back g.row.W _ _ c.self.invariant.1 _ c.self.view_is c.args.first c.args.frames c.requires.frames _ c.get.ensures.value _ _
    (c.take_back.ensures.words ∙ ap (λ (k : ℕ). spliced c.self.inside.ground.words (c.get.result * g.row.W) k c.args.row.words) c.requires.count) c.requires.count

pub returns-clause-lent : goal.returns-clause-lent
returns-clause-lent g c = lent_after g.row.W _ _ c.self.invariant.1 _ c.self.view_is c.args.first c.args.frames c.requires.frames _ c.get.ensures.value _ c.self.invariant.2 c.self.invariant.5 false _ c.remove_block-2.ensures

pub returns-clause-was_lent : goal.returns-clause-was_lent
returns-clause-was_lent g c = λ some.
    were_lent g.row.W _ _ c.self.invariant.1 _ c.self.view_is c.args.first c.args.frames c.requires.frames _ c.get.ensures.value _ c.self.invariant.2 c.self.invariant.5 some
    (ap (λ (k : ℕ). part c.self.inside.ground.here (c.get.result * g.row.W) k) (sym c.requires.count) ∙ c.take_back.ensures.was_out ∙ ap (λ (k : ℕ). replicate k false) c.requires.count)

pub returns-clause-sized : goal.returns-clause-sized
returns-clause-sized g c =
    came_sized g.row.W _ _ c.self.invariant.1 _ c.self.view_is c.args.first c.args.frames c.requires.frames _ c.get.ensures.value _ _
    (c.take_back.ensures.words ∙ ap (λ (k : ℕ). spliced c.self.inside.ground.words (c.get.result * g.row.W) k c.args.row.words) c.requires.count) c.requires.count
