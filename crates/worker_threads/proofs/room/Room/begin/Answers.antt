use Rattle.std.proofs.Common.{◌∙◌, ap, subst, sym, true}
use Rattle.frame_core.specs.Moves.{out}
use Rattle.state_core.specs.ZoneState.{frame_count}
use Rattle.worker_threads.specs.Kept.{IsRoom, Keeps}
use Rattle.worker_threads.specs.Rooms.{Room, in_hand}
use Rattle.worker_threads.specs.Work.{AreRuns}
use Rattle.worker_threads.specs.declared.round.Round.{Round}
use Rattle.worker_threads.proofs.KeptFacts.{keeps_begun}
use Rattle.worker_threads.proofs.Rooms.{room_begun}
use Rattle.worker_threads.proofs.room.Room.begin.Goals as goal

pub invariant_of-self : goal.invariant_of-self
invariant_of-self g c =
    let r = c.self.inside in
    let is = c.self.invariant in
    let work = c.args.work in
    let rounds = c.saturating_add-self-inside.result in
    let none = ap (λ (r : Room). out r.zone.records) c.self.view_is ∙ c.requires.none in (
      subst (λ (w : Round). IsRoom _ _ _ _ (record { zone = c.begin.new.zone; kept = r.kept.items; work = work; rounds = rounds; is_under_way = true; round = w })) (sym c.new-self-inside.ensures)
          (room_begun _ _ _ _ _ work c.begin.new.zone rounds is.0 (subst (λ (r : Room). AreRuns (frame_count r.zone) work) (sym c.self.view_is) c.requires.runs)
          (ap (λ (r : Room). in_hand r.kept) c.self.view_is ∙ c.requires.hands) c.begin.ensures.begun (c.begin.ensures.valid is.0.valid) c.begin.ensures.identity),
      subst (λ (w : Round). Keeps g.K.Keeping.keeps g.K.Keeping.stops_at (record { zone = c.begin.new.zone; kept = r.kept.items; work = work; rounds = rounds; is_under_way = true; round = w })) (sym c.new-self-inside.ensures)
          (keeps_begun _ is.1 work c.begin.new.zone rounds c.begin.ensures.begun c.saturating_add-self-inside.ensures (g.K.Keeping.begins r.work work r.rounds r.zone c.requires.may is.0.valid none)),
    )
