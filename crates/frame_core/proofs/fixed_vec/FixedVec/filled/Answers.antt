use Rattle.std.proofs.Common.{List, ◌++◌, ◌∷◌, [], ap, ◌∙◌, replicate, length, arith}
use Rattle.std.proofs.lemmas.List.{replicate_more, length-replicate}
use Rattle.frame_core.proofs.fixed_vec.FixedVec.filled.Goals as goal

pub loop-preserved : goal.loop-preserved
loop-preserved g c = record {
  copies = c.push_reserved.ensures.items ∙ ap (λ (l : List g.row.T.Denot). l ++ c.args.item ∷ []) c.loop.invariant.copies ∙ replicate_more _ c.args.item;
  room = c.push_reserved.ensures.capacity ∙ c.loop.invariant.room;
}

pub returns-clause-items : goal.returns-clause-items
returns-clause-items g c = c.loop.invariant.copies ∙ ap (λ n. replicate n c.args.item) (omega (arith, c.loop.auto.counter-end, c.loop-test.false))

pub returns-clause-room : goal.returns-clause-room
returns-clause-room g c = (let len = c.loop.list.ok.0 ∙ ap length c.loop.invariant.copies ∙ length-replicate c.loop.counter c.args.item in omega (arith, len, c.loop.invariant.room, c.loop.auto.counter-end, c.loop-test.false))
