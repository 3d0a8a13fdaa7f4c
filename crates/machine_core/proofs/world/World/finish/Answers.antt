use Rattle.std.proofs.Common.{rules, ◌≡◌, sym, ap, ◌∙◌}
use Rattle.std.specs.Prelude.{Some}
use Rattle.std.specs.VecDeque.{deque_capacity}
use Rattle.machine_core.specs.Carried.{world_of}
use Rattle.machine_core.specs.World.{WorldState, finish_step, finished_as}
use Rattle.zone_core.specs.Seats.{seat_ended}
use Rattle.machine_core.specs.declared.finished.Finished.{Finished}
use Rattle.machine_core.proofs.Holding.{where_none, own_in_hand, step_finished, carried_finished}
use Rattle.machine_core.proofs.Refusing.{finish_refused}
use Rattle.machine_core.proofs.world.World.finish.Given.{Over}
use Rattle.machine_core.proofs.world.World.finish.Goals as goal
use Rattle.machine_core.proofs.world.World.finish.Goals.{After-finish_in}

seat_is : (g : Over) (c : After-finish_in g) → c.finish_in.new.ends ≡ seat_ended c.self.inside.ends (finished_as c.self.inside.zone c.in-Some.copy.serial).ended
seat_is g c = c.finish_in.ensures.seat ∙ ap (λ (f : Finished). seat_ended c.self.inside.ends f.ended) c.finish_in.ensures.finished

pub finish_in-requires : goal.finish_in-requires
finish_in-requires g c =
    let z = c.self.inside in
    (search rules, (search rules, (c.self.invariant.orderly.valid, own_in_hand z.zone z.scan z.ends z.is_open c.in-Some.copy z.waiting.items z.hands.held c.args.hand (deque_capacity z.waiting) c.in-Some.ensures.number.0 c.in-Some.ensures.number.1 (sym c.in-Some.ensures.copy) c.self.invariant)))

pub invariant_of-self-2 : goal.invariant_of-self-2
invariant_of-self-2 g c =
    let z = c.self.inside in
    rw (c.finish_in.ensures.zone, c.in-Some.ensures.some, seat_is g c)
    (carried_finished z.zone z.scan z.ends z.is_open c.in-Some.copy z.waiting.items z.hands.held c.args.hand (deque_capacity z.waiting) c.in-Some.ensures.number.0 c.in-Some.ensures.number.1 (sym c.in-Some.ensures.copy) c.self.invariant)

pub returns-clause-ok : goal.returns-clause-ok
returns-clause-ok g c =
    let z = c.self.inside in
    ap (λ (w : WorldState). finish_step w c.args.hand) (sym c.self.view_is)
    ∙ step_finished z.zone z.scan z.ends z.is_open c.in-Some.copy z.waiting.items z.hands.held c.args.hand (deque_capacity z.waiting) c.in-Some.ensures.number.0 c.in-Some.ensures.number.1 (sym c.in-Some.ensures.copy) c.self.invariant
    ∙ (λ i. Some (sym c.finish_in.ensures.finished i, world_of (sym c.finish_in.ensures.zone i) z.scan (sym (seat_is g c) i) z.is_open z.waiting.items (sym c.in-Some.ensures.some i)))

pub returns-clause-orderly : goal.returns-clause-orderly
returns-clause-orderly g c = (invariant_of-self-2 g c).orderly

pub returns-in_default-clause-err : goal.returns-in_default-clause-err
returns-in_default-clause-err g c = rw (where_none c.copy_from.result _ c.in_default.not-Some c.copy_from.ensures.none) c.self.view_is

pub returns-in_default-clause-orderly : goal.returns-in_default-clause-orderly
returns-in_default-clause-orderly g c = rw (where_none c.copy_from.result _ c.in_default.not-Some c.copy_from.ensures.none) c.self.invariant.orderly

pub returns-in_default-clause-refused : goal.returns-in_default-clause-refused
returns-in_default-clause-refused g c =
    let z = c.self.inside in
    ap (λ (w : WorldState). finish_step w c.args.hand) (sym c.self.view_is)
    ∙ finish_refused z.zone z.scan z.ends z.is_open z.waiting.items z.hands.held c.args.hand c.copy_from.result c.in_default.not-Some c.copy_from.ensures.copy
