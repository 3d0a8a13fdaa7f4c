use Rattle.std.proofs.Common.{refl, ◌∙◌, ℕ, List, subst}
use Rattle.std.specs.Fn.{FnOnceReturnsAtMut}
use Rattle.frame_core.proofs.FlatRows.{came_back, among_listed, came_blank, came_long, came_sized, ends, lent_here, lent_words}
use Rattle.frame_core.proofs.words.Words.with_block.Goals as goal

pub remove_block-requires : goal.remove_block-requires
remove_block-requires g c = among_listed g.row.W _ _ c.self.invariant.1 _ c.self.view_is c.args.first c.args.frames c.requires.frames _ refl _ c.self.invariant.3

pub with-requires-clause-within : goal.with-requires-clause-within
with-requires-clause-within g c = ends g.row.W _ _ c.self.invariant.1 _ c.self.view_is c.args.first c.args.frames c.requires.frames _ c.get.ensures.value

pub with-requires-clause-here : goal.with-requires-clause-here
with-requires-clause-here g c = lent_here g.row.W _ _ c.self.invariant.1 _ c.self.view_is c.args.first c.args.frames c.requires.frames _ c.get.ensures.value _ c.self.invariant.2 c.self.invariant.5 c.requires.here

pub with-requires-clause-callable : goal.with-requires-clause-callable
with-requires-clause-callable g c = λ p is. c.requires.callable p (is ∙ lent_words g.row.W _ _ c.self.invariant.1 _ c.self.view_is c.args.first c.args.frames c.requires.frames _ c.get.ensures.value)

pub invariant_of-self : goal.invariant_of-self
invariant_of-self g c =
    let blank = came_blank g.row.W _ _ c.self.invariant.1 _ c.self.view_is c.args.first c.args.frames c.requires.frames _ c.get.ensures.value _ c.self.invariant.3 c.self.invariant.4 _ c.remove_block.ensures _ _ (came_back g.row.W _ _ c.self.invariant.1 _ c.self.view_is c.args.first c.args.frames c.requires.frames _ c.get.ensures.value _ c.with.ensures.changed.0 c.with.ensures.changed.3 c.with.ensures.changed.1) in (
      c.self.invariant.0,
      came_long g.row.W _ _ c.self.invariant.1 _ c.self.view_is c.args.first c.args.frames c.requires.frames _ c.get.ensures.value _ c.with.ensures.changed.0 c.with.ensures.changed.3 c.with.ensures.changed.1,
      c.with.ensures.here ∙ c.self.invariant.2,
      blank.0,
      blank.1,
      c.self.invariant.5,
    )

pub returns-clause-changed : goal.returns-clause-changed
returns-clause-changed g c =
    let left = c.with.ensures.changed.0 in (
      left,
      c.with.ensures.changed.1,
      subst (λ (words : List ℕ). FnOnceReturnsAtMut g.F.FnOnce c.args.change words c.with.result left) (lent_words g.row.W _ _ c.self.invariant.1 _ c.self.view_is c.args.first c.args.frames c.requires.frames _ c.get.ensures.value) c.with.ensures.changed.2,
      came_back g.row.W _ _ c.self.invariant.1 _ c.self.view_is c.args.first c.args.frames c.requires.frames _ c.get.ensures.value _ left c.with.ensures.changed.3 c.with.ensures.changed.1,
    )

pub returns-clause-sized : goal.returns-clause-sized
returns-clause-sized g c = came_sized g.row.W _ _ c.self.invariant.1 _ c.self.view_is c.args.first c.args.frames c.requires.frames _ c.get.ensures.value _ c.with.ensures.changed.0 c.with.ensures.changed.3 c.with.ensures.changed.1
