use Rattle.std.proofs.Common.{length, ap, ◌∙◌}
use Rattle.frame_core.proofs.FlatRows.{ends, lent_count, lent_here, lent_words}
use Rattle.frame_core.proofs.words.Words.block.Goals as goal

pub part-requires-clause-within : goal.part-requires-clause-within
part-requires-clause-within g c = ends g.row.W _ _ c.self.invariant.1 _ c.self.view_is c.args.first c.args.frames c.requires.frames _ c.get.ensures.value

pub part-requires-clause-here : goal.part-requires-clause-here
part-requires-clause-here g c = lent_here g.row.W _ _ c.self.invariant.1 _ c.self.view_is c.args.first c.args.frames c.requires.frames _ c.get.ensures.value _ c.self.invariant.2 c.self.invariant.5 c.requires.here

pub returns-clause-words : goal.returns-clause-words
returns-clause-words g c = c.part.ensures ∙ lent_words g.row.W _ _ c.self.invariant.1 _ c.self.view_is c.args.first c.args.frames c.requires.frames _ c.get.ensures.value

pub returns-clause-count : goal.returns-clause-count
returns-clause-count g c = ap length c.part.ensures ∙ lent_count g.row.W _ _ c.self.invariant.1 _ c.self.view_is c.args.first c.args.frames c.requires.frames _ c.get.ensures.value
