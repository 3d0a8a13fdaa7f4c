use Rattle.std.proofs.Common.{subst, sym, false}
use Rattle.worker_threads.specs.Kept.{IsRoom, Keeps}
use Rattle.worker_threads.specs.declared.round.Round.{Round}
use Rattle.worker_threads.specs.declared.work.Work.TheVariants.{Compact}
use Rattle.worker_threads.proofs.Rooms.{room_new}
use Rattle.worker_threads.proofs.room.Room.new.Goals as goal

pub invariant_of-result : goal.invariant_of-result
invariant_of-result g c = (
  subst (λ (w : Round). IsRoom _ _ _ _ (record { zone = c.args.zone; kept = c.args.kept.items; work = Compact; rounds = 0; is_under_way = false; round = w })) (sym c.new.ensures)
      (room_new _ _ _ _ c.args.zone c.args.kept.items c.requires.valid c.requires.identity c.requires.memory.0 c.requires.memory.1 c.requires.free),
  subst (λ (w : Round). Keeps g.K.Keeping.keeps g.K.Keeping.stops_at (record { zone = c.args.zone; kept = c.args.kept.items; work = Compact; rounds = 0; is_under_way = false; round = w })) (sym c.new.ensures)
      (record { fact = c.requires.keeps; stops = λ reason noted. cc }),
)
