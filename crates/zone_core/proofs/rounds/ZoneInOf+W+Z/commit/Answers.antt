use Rattle.std.proofs.Common.{◌∙◌, sym}
use Rattle.zone_core.proofs.StaysBooked.{booked_moved, booked_pinned}
use Rattle.zone_core.proofs.rounds.ZoneInOf+W+Z.commit.Goals as goal

pub invariant_of-self-in-Moved : goal.invariant_of-self-in-Moved
invariant_of-self-in-Moved g c =
    let left = c.in_ok-ended.ensures in (
      booked_moved c.args.copied.serial c.args.copied.page.number c.self.invariant.2 c.self.invariant.0 left.ok (sym left.ended ∙ c.in-Moved.is) c.count_moved.ensures.book left.met,
      c.self.invariant.1,
      left.valid,
    )

pub invariant_of-self-in-Back : goal.invariant_of-self-in-Back
invariant_of-self-in-Back g c =
    let left = c.in_ok-ended.ensures in (
      booked_pinned c.args.copied.serial c.args.copied.page.number c.self.invariant.2 c.self.invariant.0 left.ok (sym left.ended ∙ c.in-Back.is) c.count_back.ensures.book,
      c.self.invariant.1,
      left.valid,
    )
