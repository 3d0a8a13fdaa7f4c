use Rattle.std.proofs.Common.{refl, ◌*◌, ◌∙◌}
use lib.ListN.{length-replicate}
use Rattle.frame_core.proofs.FlatRows.{came_back, among_listed, came_blank, came_long, came_sized, ends, lent_here}
use Rattle.frame_core.proofs.words.Words.blank_block.Goals as goal

pub remove_block-requires : goal.remove_block-requires
remove_block-requires g c = among_listed g.row.W _ _ c.self.invariant.1 _ c.self.view_is c.args.first c.args.frames c.requires.frames _ refl _ c.self.invariant.3

pub clear-requires-clause-within : goal.clear-requires-clause-within
clear-requires-clause-within g c = ends g.row.W _ _ c.self.invariant.1 _ c.self.view_is c.args.first c.args.frames c.requires.frames _ c.get.ensures.value

pub clear-requires-clause-here : goal.clear-requires-clause-here
clear-requires-clause-here g c = lent_here g.row.W _ _ c.self.invariant.1 _ c.self.view_is c.args.first c.args.frames c.requires.frames _ c.get.ensures.value _ c.self.invariant.2 c.self.invariant.5 c.requires.here

pub invariant_of-self : goal.invariant_of-self
invariant_of-self g c =
    let blank = came_blank g.row.W _ _ c.self.invariant.1 _ c.self.view_is c.args.first c.args.frames c.requires.frames _ c.get.ensures.value _ c.self.invariant.3 c.self.invariant.4 _ c.remove_block.ensures _ _ (came_back g.row.W _ _ c.self.invariant.1 _ c.self.view_is c.args.first c.args.frames c.requires.frames _ c.get.ensures.value _ _ c.clear.ensures.words (length-replicate (c.args.frames * g.row.W) 0)) in (
      c.self.invariant.0,
      came_long g.row.W _ _ c.self.invariant.1 _ c.self.view_is c.args.first c.args.frames c.requires.frames _ c.get.ensures.value _ _ c.clear.ensures.words (length-replicate (c.args.frames * g.row.W) 0),
      c.clear.ensures.here ∙ c.self.invariant.2,
      blank.0,
      blank.1,
      c.self.invariant.5,
    )

pub returns-clause-blank : goal.returns-clause-blank
returns-clause-blank g c = came_back g.row.W _ _ c.self.invariant.1 _ c.self.view_is c.args.first c.args.frames c.requires.frames _ c.get.ensures.value _ _ c.clear.ensures.words (length-replicate (c.args.frames * g.row.W) 0)

pub returns-clause-sized : goal.returns-clause-sized
returns-clause-sized g c = came_sized g.row.W _ _ c.self.invariant.1 _ c.self.view_is c.args.first c.args.frames c.requires.frames _ c.get.ensures.value _ _ c.clear.ensures.words (length-replicate (c.args.frames * g.row.W) 0)
