use Rattle.std.proofs.Common.{refl, length, sym, ap, ◌∙◌}
use Rattle.frame_core.proofs.FlatRows.{among_listed, came_blank, lent_count, lent_words, values_end, values_here, values_long, values_put, values_sized}
use Rattle.frame_core.proofs.words.Words.store_block.Goals as goal

pub remove_block-requires : goal.remove_block-requires
remove_block-requires g c = among_listed g.row.W _ _ c.self.invariant.1 _ c.self.view_is c.args.first c.args.frames c.requires.frames _ refl _ c.self.invariant.3

pub store-requires-clause-within : goal.store-requires-clause-within
store-requires-clause-within g c = values_end g.row.W _ _ c.self.invariant.1 _ c.self.view_is c.args.first c.args.frames c.requires.frames _ c.get.ensures.value c.args.from c.args.values.now c.requires.within

pub store-requires-clause-here : goal.store-requires-clause-here
store-requires-clause-here g c = values_here g.row.W _ _ c.self.invariant.1 _ c.self.view_is c.args.first c.args.frames c.requires.frames _ c.get.ensures.value c.args.from c.args.values.now c.requires.within _ c.self.invariant.2 c.self.invariant.5 c.requires.here

pub invariant_of-self : goal.invariant_of-self
invariant_of-self g c =
    let blank = came_blank g.row.W _ _ c.self.invariant.1 _ c.self.view_is c.args.first c.args.frames c.requires.frames _ c.get.ensures.value _ c.self.invariant.3 c.self.invariant.4 _ c.remove_block.ensures _ _ (values_put g.row.W _ _ c.self.invariant.1 _ c.self.view_is c.args.first c.args.frames c.requires.frames _ c.get.ensures.value c.args.from c.args.values.now c.requires.within _ c.store.ensures.words) in (
      c.self.invariant.0,
      values_long g.row.W _ _ c.self.invariant.1 _ c.self.view_is c.args.first c.args.frames c.requires.frames _ c.get.ensures.value c.args.from c.args.values.now c.requires.within _ c.store.ensures.words,
      c.store.ensures.here ∙ c.self.invariant.2,
      blank.0,
      blank.1,
      c.self.invariant.5,
    )

pub returns-clause-stored : goal.returns-clause-stored
returns-clause-stored g c = values_put g.row.W _ _ c.self.invariant.1 _ c.self.view_is c.args.first c.args.frames c.requires.frames _ c.get.ensures.value c.args.from c.args.values.now c.requires.within _ c.store.ensures.words

pub returns-clause-count : goal.returns-clause-count
returns-clause-count g c = ap length (sym (lent_words g.row.W _ _ c.self.invariant.1 _ c.self.view_is c.args.first c.args.frames c.requires.frames _ c.get.ensures.value)) ∙ lent_count g.row.W _ _ c.self.invariant.1 _ c.self.view_is c.args.first c.args.frames c.requires.frames _ c.get.ensures.value

pub returns-clause-sized : goal.returns-clause-sized
returns-clause-sized g c = values_sized g.row.W _ _ c.self.invariant.1 _ c.self.view_is c.args.first c.args.frames c.requires.frames _ c.get.ensures.value c.args.from c.args.values.now c.requires.within _ c.store.ensures.words
