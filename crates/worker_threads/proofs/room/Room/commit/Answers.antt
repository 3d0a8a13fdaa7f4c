use Rattle.std.proofs.Common.{◌∙◌, ap, subst, sym, arith}
use Rattle.state_core.specs.LentMoves.{LentMove}
use Rattle.worker_threads.specs.Hands.{AreOf, PageInHand}
use Rattle.worker_threads.specs.Work.{page_ended}
use Rattle.worker_threads.proofs.KeptFacts.{keeps_committed}
use Rattle.worker_threads.proofs.Rooms.{few_ended, halves_meet, its_copy, places_meet, room_commits, still_lent}
use Rattle.worker_threads.proofs.room.Room.commit.Goals as goal
use Rattle.zone_tables.specs.declared.ending.Move.{Move}

pub rejoin-requires-clause-halves : goal.rejoin-requires-clause-halves
rejoin-requires-clause-halves g c = halves_meet _ _ _ _ _ c.self.invariant.0 c.place.result (record { way = c.way-way.result; half = c.in-Some.half }) c.in-Some.ensures.half c.into_rows-from.result.0 c.into_rows-from.result.1 (subst (λ (w : Move). AreOf g.K.MemoryIdentity.memory g.row.W w c.into_rows-from.result.0 c.into_rows-from.result.1) (ap (λ (p : PageInHand). p.way) (c.into_page.ensures.page ∙ sym c.page.ensures) ∙ sym c.way-way.ensures) c.into_rows-from.ensures.lie)

pub rejoin-requires-clause-place : goal.rejoin-requires-clause-place
rejoin-requires-clause-place g c = places_meet _ _ _ _ _ c.self.invariant.0 c.place.result (record { way = c.way-way.result; half = c.in-Some.half }) c.in-Some.ensures.half c.into_rows-from.result.0 c.into_rows-from.result.1 (subst (λ (w : Move). AreOf g.K.MemoryIdentity.memory g.row.W w c.into_rows-from.result.0 c.into_rows-from.result.1) (ap (λ (p : PageInHand). p.way) (c.into_page.ensures.page ∙ sym c.page.ensures) ∙ sym c.way-way.ensures) c.into_rows-from.ensures.lie)

pub commit-requires : goal.commit-requires
commit-requires g c = (
  omega arith,
  λ its.
      its_copy _ _ _ _ _ c.self.invariant.0 c.place.result (record { way = c.way-way.result; half = c.in-Some.half }) c.in-Some.ensures.half c.into_rows-from.result.0 c.into_rows-from.result.1 (subst (λ (w : Move). AreOf g.K.MemoryIdentity.memory g.row.W w c.into_rows-from.result.0 c.into_rows-from.result.1) (ap (λ (p : PageInHand). p.way) (c.into_page.ensures.page ∙ sym c.page.ensures) ∙ sym c.way-way.ensures) c.into_rows-from.ensures.lie) c.of-moved.result c.rejoin.result c.rejoin.ensures.row (c.of-moved.ensures ∙ c.of.ensures)
      (c.into_rows-from.ensures.words.1 ∙ c.into_page.ensures.same ∙ sym c.into_rows-from.ensures.words.0 ∙ c.rejoin.ensures.same ∙ sym c.rejoin.ensures.row.1),
)

pub unreachable-requires : goal.unreachable-requires
unreachable-requires g c = (let no = c.in_default-commit.ensures.own.1 (still_lent _ _ _ _ _ c.self.invariant.0 c.place.result (record { way = c.way-way.result; half = c.in-Some.half }) c.in-Some.ensures.half c.into_rows-from.result.0 c.into_rows-from.result.1 (subst (λ (w : Move). AreOf g.K.MemoryIdentity.memory g.row.W w c.into_rows-from.result.0 c.into_rows-from.result.1) (ap (λ (p : PageInHand). p.way) (c.into_page.ensures.page ∙ sym c.page.ensures) ∙ sym c.way-way.ensures) c.into_rows-from.ensures.lie) c.of-moved.result c.rejoin.result c.rejoin.ensures.row (c.of-moved.ensures ∙ c.of.ensures)) in cc)

pub count-requires : goal.count-requires
count-requires g c = few_ended _ _ _ _ _ c.self.invariant.0 c.place.result (record { way = c.way-way.result; half = c.in-Some.half }) c.in-Some.ensures.half c.into_rows-from.result.0 c.into_rows-from.result.1 (subst (λ (w : Move). AreOf g.K.MemoryIdentity.memory g.row.W w c.into_rows-from.result.0 c.into_rows-from.result.1) (ap (λ (p : PageInHand). p.way) (c.into_page.ensures.page ∙ sym c.page.ensures) ∙ sym c.way-way.ensures) c.into_rows-from.ensures.lie)

pub invariant_of-self-2 : goal.invariant_of-self-2
invariant_of-self-2 g c =
    let its = c.self.invariant.0.halves.each c.place.result (record { way = c.way-way.result; half = c.in-Some.half }) c.in-Some.ensures.half in
    let way = c.way-way.result in
    let step = c.in-Ok.ensures.ok ∙ ap (λ (m : LentMove). page_ended c.self.inside.work c.self.inside.zone m.serial m.page m.source) (c.of-moved.ensures ∙ c.of.ensures) in (
      room_commits _ _ _ _ _ c.self.invariant.0 c.place.result (record { way = c.way-way.result; half = c.in-Some.half }) c.in-Some.ensures.half c.into_rows-from.result.0 c.into_rows-from.result.1 (subst (λ (w : Move). AreOf g.K.MemoryIdentity.memory g.row.W w c.into_rows-from.result.0 c.into_rows-from.result.1) (ap (λ (p : PageInHand). p.way) (c.into_page.ensures.page ∙ sym c.page.ensures) ∙ sym c.way-way.ensures) c.into_rows-from.ensures.lie)
          c.commit.new.zone c.take_half.new.kept.items c.count.new.self c.in-Ok.ended (c.commit.ensures.valid c.self.invariant.0.valid) c.commit.ensures.identity step c.in-Some.ensures.taken c.count.ensures (c.in-Ok.ensures.met c.self.invariant.0.valid),
      keeps_committed _ c.self.invariant.1 c.commit.new.zone way.serial way.page way.source c.take_half.new.kept.items c.count.new.self c.in-Ok.ended step c.count.ensures
          (g.K.Keeping.commits c.self.inside.work c.self.inside.rounds c.self.inside.zone way.page way.serial way.source way.target c.self.invariant.0.valid its.lent.way),
    )
