use Rattle.std.proofs.Common.{rules, ◌≡◌, ◌+◌, ◌∙◌, ap, Some}
use Rattle.std.specs.Prelude.{Ok}
use Rattle.state_core.specs.declared.moves.Next.TheVariants as next
use Rattle.zone_core.specs.Seats.{ScanSeat, scan_amount}
use Rattle.zone_core.specs.declared.seats.Answered.TheVariants as answered
use Rattle.zone_core.proofs.StaysBooked.{seat_counted, booked_met, booked_page, booked_full}
use Rattle.zone_core.proofs.rounds.ZoneInOf+W+Z.isolate_next.Goals as goal

pub invariant_of-self-in-Ok-Met : goal.invariant_of-self-in-Ok-Met
invariant_of-self-in-Ok-Met g c =
    let seat = c.args.seat.now in
    let left = c.isolate_next-answer.ensures in
    let is : c.isolate_next-answer.result ≡ Ok next.Met = search rules in
    let marked = c.note.ensures.book ∙ ap (λ (s : ScanSeat). scan_amount s.count (Some answered.Met)) c.tell.ensures.seat in (
      booked_met seat.count seat.last c.isolate_next-answer.result is left.answer left.ok left.pair c.self.invariant.0 c.tell.ensures.total marked,
      c.self.invariant.1,
      left.valid,
    )

pub invariant_of-self : goal.invariant_of-self
invariant_of-self g c =
    let left = c.isolate_next-answer.ensures in
    let is : c.isolate_next-answer.result ≡ Ok (next.Page c.in-Ok-Page.field-0-0) = search rules in
    let marked = c.count.ensures.book ∙ ap (λ (s : ScanSeat). scan_amount (s.count + 1) (Some answered.Page)) c.tell.ensures.seat in (
      booked_page c.args.seat.now.count c.args.seat.now.last c.isolate_next-answer.result is left.answer left.ok c.self.invariant.0 c.tell.ensures.total marked,
      c.self.invariant.1,
      left.valid,
    )

pub invariant_of-self-in-Err : goal.invariant_of-self-in-Err
invariant_of-self-in-Err g c =
    let left = c.isolate_next-answer.ensures in
    let marked = c.note-in-Err.ensures.book ∙ ap (λ (s : ScanSeat). scan_amount s.count (Some answered.JournalFull)) c.tell.ensures.seat in (
      booked_full c.args.seat.now.count c.args.seat.now.last c.isolate_next-answer.result c.in-Err.is left.err c.self.invariant.0 c.tell.ensures.total marked,
      c.self.invariant.1,
      left.valid,
    )

pub returns-in-Ok-Page-clause-serial : goal.returns-in-Ok-Page-clause-serial
returns-in-Ok-Page-clause-serial g c = rw (← c.self.view_is) (seat_counted c.args.seat.now.count c.args.seat.now.last c.self.invariant.0 c.tell.ensures.total)

pub returns-in-Ok-Met-clause-serial : goal.returns-in-Ok-Met-clause-serial
returns-in-Ok-Met-clause-serial g c = rw (← c.self.view_is) (seat_counted c.args.seat.now.count c.args.seat.now.last c.self.invariant.0 c.tell.ensures.total)

pub returns-in-Err-clause-serial : goal.returns-in-Err-clause-serial
returns-in-Err-clause-serial g c = rw (← c.self.view_is) (seat_counted c.args.seat.now.count c.args.seat.now.last c.self.invariant.0 c.tell.ensures.total)
