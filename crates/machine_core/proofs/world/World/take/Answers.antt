use Rattle.std.proofs.Common.{◌≡◌, ◌∷◌, true, List, sym, ap, subst, ◌∙◌}
use Rattle.std.specs.Prelude.{Some}
use Rattle.std.specs.VecDeque.{deque_capacity}
use Rattle.frame_core.specs.Page.{IsolatedPage}
use Rattle.machine_core.specs.Carried.{world_of, IsCarried}
use Rattle.machine_core.specs.Hands.{is_nothing, held_at}
use Rattle.machine_core.specs.World.{WorldState, IsOrderly, take_step}
use Rattle.machine_core.proofs.HandsTaking.{least_taken}
use Rattle.machine_core.proofs.Holding.{none_left, step_taken, carried_taken}
use Rattle.machine_core.proofs.Refusing.{empty_if, take_refused, take_refused-none}
use Rattle.machine_core.proofs.world.World.take.Given.{Over}
use Rattle.machine_core.proofs.world.World.take.Goals as goal
use Rattle.machine_core.proofs.world.World.take.Goals.{After-put}

carried : (g : Over) (c : After-put g) → IsCarried c.self.inside.zone c.self.inside.scan c.self.inside.ends c.self.inside.is_open (c.in-Some.page ∷ c.pop_front.new.self.items) c.self.inside.hands.held (deque_capacity c.self.inside.waiting)
carried g c =
    let z = c.self.inside in
    subst (λ (list : List IsolatedPage). IsCarried z.zone z.scan z.ends z.is_open list z.hands.held (deque_capacity z.waiting)) c.in-Some.ensures.items c.self.invariant

nothing : (g : Over) (c : After-put g) → is_nothing (held_at c.self.inside.hands.held c.args.hand) ≡ true
nothing g c = sym c.is_empty.ensures.nothing ∙ c.if-not-is_empty.false

pub invariant_of-self-2 : goal.invariant_of-self-2
invariant_of-self-2 g c =
    let z = c.self.inside in
    rw (c.put.ensures, c.pop_front.ensures.capacity)
    (carried_taken z.zone z.scan z.ends z.is_open c.in-Some.page c.pop_front.new.self.items z.hands.held c.args.hand (deque_capacity z.waiting) c.is_empty.ensures.number.0 c.is_empty.ensures.number.1 (nothing g c) (carried g c))

pub returns-clause-ok : goal.returns-clause-ok
returns-clause-ok g c =
    let z = c.self.inside in
    let list = c.pop_front.new.self.items in
    ap (λ (w : WorldState). take_step w c.args.hand) (sym c.self.view_is ∙ ap (λ (all : List IsolatedPage). world_of z.zone z.scan z.ends z.is_open all z.hands.held) c.in-Some.ensures.items)
    ∙ step_taken z.zone z.scan z.ends z.is_open c.in-Some.page list z.hands.held c.args.hand (deque_capacity z.waiting) c.is_empty.ensures.number.0 c.is_empty.ensures.number.1 (nothing g c) (carried g c)
    ∙ (λ i. Some (sym c.serial-serial.ensures i, world_of z.zone z.scan z.ends z.is_open list (sym c.put.ensures i)))

pub returns-clause-orderly : goal.returns-clause-orderly
returns-clause-orderly g c = (invariant_of-self-2 g c).orderly

pub returns-then-not-is_empty-clause-orderly : goal.returns-then-not-is_empty-clause-orderly
returns-then-not-is_empty-clause-orderly g c = subst IsOrderly c.self.view_is c.self.invariant.orderly

pub returns-in_default-clause-err : goal.returns-in_default-clause-err
returns-in_default-clause-err g c = rw (← none_left c.pop_front.result _ _ c.in_default.not-Some c.pop_front.ensures.items) c.self.view_is

pub returns-in_default-clause-orderly : goal.returns-in_default-clause-orderly
returns-in_default-clause-orderly g c = rw (← none_left c.pop_front.result _ _ c.in_default.not-Some c.pop_front.ensures.items) c.self.invariant.orderly

pub returns-clause-least : goal.returns-clause-least
returns-clause-least g c = least_taken c.args.self.now c.args.hand c.serial-serial.result _ c.is_empty.ensures.number.0 c.is_empty.ensures.number.1 (subst IsOrderly c.self.view_is c.self.invariant.orderly) (returns-clause-ok g c)

pub returns-then-not-is_empty-clause-refused : goal.returns-then-not-is_empty-clause-refused
returns-then-not-is_empty-clause-refused g c =
    let z = c.self.inside in
    ap (λ (w : WorldState). take_step w c.args.hand) (sym c.self.view_is)
    ∙ take_refused z.zone z.scan z.ends z.is_open z.waiting.items z.hands.held c.args.hand (sym c.is_empty.ensures.nothing ∙ c.if-not-is_empty.true)

pub returns-in_default-clause-refused : goal.returns-in_default-clause-refused
returns-in_default-clause-refused g c =
    let z = c.self.inside in
    ap (λ (w : WorldState). take_step w c.args.hand) (sym c.self.view_is)
    ∙ take_refused-none z.zone z.scan z.ends z.is_open z.waiting.items z.hands.held c.args.hand (empty_if z.waiting.items (c.in_default.ensures.items ∙ c.in_default.ensures.rest))
