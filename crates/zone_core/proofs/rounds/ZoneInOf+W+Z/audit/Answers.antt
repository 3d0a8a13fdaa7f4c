use Rattle.std.proofs.Common.{◌≡◌, ◌∙◌, true, ap, subst, sym, Some}
use Rattle.std.specs.Prelude.{OnOk}
use Rattle.std.proofs.lemmas.Bool.{eqb-true}
use Rattle.frame_core.specs.Moves.{isolated}
use Rattle.state_core.specs.Valid.{IsValidZone}
use Rattle.state_core.specs.Packed.{IsPacked}
use Rattle.state_core.specs.Pairs.{HaveMet}
use Rattle.state_core.specs.ZoneState.{ZoneState, is_quiet}
use Rattle.zone_core.specs.Seats.{EndSeat}
use Rattle.zone_core.specs.declared.seats.Answered.TheVariants as answered
use Rattle.zone_core.proofs.StaysBooked.{seat_counted, seat_met}
use Rattle.zone_core.proofs.Seated.{audited, counts_most, ok_packed, passes_exactly, part_missing}
use Rattle.zone_core.proofs.rounds.ZoneInOf+W+Z.audit.Given.{Over}
use Rattle.zone_core.proofs.rounds.ZoneInOf+W+Z.audit.Goals as goal
use Rattle.zone_core.proofs.rounds.ZoneInOf+W+Z.audit.Goals.{After-audit}

whole_seat : (g : Over) (c : After-audit g) → c.args.ends.now.parts ≡ 64
whole_seat g c = ap (λ (s : EndSeat). s.parts) (sym c.tell-2.ensures.seat) ∙ eqb-true _ 64 (sym c.is_whole.ensures.whole ∙ c.if-not-is_whole.false)

-- the seat counted the pages that were isolated
counted_as : (g : Over) (c : After-audit g) → c.args.scan.now.count ≡ isolated c.self.inside.bare.records
counted_as g c = seat_counted c.args.scan.now.count c.args.scan.now.last c.self.invariant.0 c.tell.ensures.total

pub returns-clause-ok : goal.returns-clause-ok
returns-clause-ok g c =
    audited c.args.scan.now c.args.ends.now c.audit.result c.self.invariant.2 c.self.invariant.0
    (counted_as g c) (c.tell-2.ensures.moved (whole_seat g c)) (c.tell-2.ensures.back (whole_seat g c)) c.args.self.now c.self.view_is c.audit.ensures.ok

pub returns-clause-packed : goal.returns-clause-packed
returns-clause-packed g c =
    subst (λ (z : ZoneState). OnOk c.audit.result (is_quiet z ≡ true → c.args.scan.now.last ≡ Some answered.Met → IsPacked z)) (sym c.self.view_is)
    (ok_packed c.args.self.now c.args.scan.now c.args.ends.now c.audit.result (subst IsValidZone c.self.view_is c.self.invariant.2) (returns-clause-ok g c)
    (subst (λ (z : ZoneState). c.args.scan.now.last ≡ Some answered.Met → is_quiet z ≡ true → HaveMet z) c.self.view_is
    (seat_met c.args.scan.now.count c.args.scan.now.last c.self.invariant.0 c.tell.ensures.total)))

pub returns-clause-exact : goal.returns-clause-exact
returns-clause-exact g c most =
    passes_exactly c.args.scan.now c.args.ends.now c.audit.result c.self.invariant.2 c.self.invariant.0
    (counted_as g c) (c.tell-2.ensures.moved (whole_seat g c)) (c.tell-2.ensures.back (whole_seat g c)) c.audit.ensures.refused

pub returns-then-not-is_whole-clause-exact : goal.returns-then-not-is_whole-clause-exact
returns-then-not-is_whole-clause-exact g c least =
    absurd (part_missing c.args.ends.now c.tell-2.new.self c.tell-2.ensures.seat (sym c.is_whole.ensures.whole ∙ c.if-not-is_whole.true) c.is_whole.ensures.most least)

pub returns-clause-most : goal.returns-clause-most
returns-clause-most g c most =
    counts_most c.args.scan.now c.args.ends.now c.audit.result c.self.invariant.2 c.self.invariant.0
    (counted_as g c) (c.tell-2.ensures.moved (whole_seat g c)) (c.tell-2.ensures.back (whole_seat g c))

pub returns-then-not-is_whole-clause-most : goal.returns-then-not-is_whole-clause-most
returns-then-not-is_whole-clause-most g c least =
    absurd (part_missing c.args.ends.now c.tell-2.new.self c.tell-2.ensures.seat (sym c.is_whole.ensures.whole ∙ c.if-not-is_whole.true) c.is_whole.ensures.most least)

pub returns-clause-serial : goal.returns-clause-serial
returns-clause-serial g c = rw (← c.self.view_is) (counted_as g c)

pub returns-then-not-is_whole-clause-serial : goal.returns-then-not-is_whole-clause-serial
returns-then-not-is_whole-clause-serial g c = rw (← c.self.view_is) (seat_counted c.args.scan.now.count c.args.scan.now.last c.self.invariant.0 c.tell.ensures.total)
