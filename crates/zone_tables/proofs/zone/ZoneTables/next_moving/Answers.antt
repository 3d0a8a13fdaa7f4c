use Rattle.std.proofs.Common.{◌≡◌, length, arith}
use Rattle.frame_core.specs.Moves.{out as out_now}
use Rattle.state_core.proofs.Holding.{at_rest}
use Rattle.zone_tables.proofs.Facts.{is_sound}
use Rattle.zone_tables.proofs.MovingPages.{left_by_none, left_by_one, lowest_left}
use Rattle.zone_tables.proofs.OutAndEnded.{out_seen}
use Rattle.zone_tables.proofs.zone.ZoneTables.next_moving.Goals as goal

pub returns-then-out-eq0-clause-none : goal.returns-then-out-eq0-clause-none
returns-then-out-eq0-clause-none g c = λ none frame low page serial target at.
    let none_out : length (out_now c.args.self.now.records) ≡ 0 = omega (arith, out_seen c.self.view_is c.self.invariant c.out.ensures, c.if-out-eq0.true) in
    at_rest c.args.self.now (is_sound c.self.view_is c.self.invariant).valid none_out page serial frame target at

pub returns-in_err-source-clause-none : goal.returns-in_err-source-clause-none
returns-in_err-source-clause-none g c = λ none frame low.
    left_by_none c.args.self.now c.self.inside.frames.states (is_sound c.self.view_is c.self.invariant).frames frame (c.in_err-source.ensures.next frame low)

pub moving_from-requires : goal.moving_from-requires
moving_from-requires g c = (omega arith, omega (arith, c.in_ok-source.ensures.within, (is_sound c.self.view_is c.self.invariant).frames.count))

pub returns : goal.returns
returns g c =
    let z = c.args.self.now in
    let states = c.self.inside.frames.states in
    let fit = (is_sound c.self.view_is c.self.invariant).frames in
    let next = c.in_ok-source.ensures.next in
    record {
      some = lowest_left z c.args.from c.in_ok-source.source c.moving_from.result next.least
          (λ frame low less. left_by_none z states fit frame (next.between frame low less)) c.moving_from.ensures.some;
      none = λ none. absurd (left_by_one z states fit c.in_ok-source.source (omega (arith, c.in_ok-source.ensures.within, fit.count)) next.passes (c.moving_from.ensures.none none));
    }
