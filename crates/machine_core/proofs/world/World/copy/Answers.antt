use Rattle.std.proofs.Common.{◌≡◌, ◌-◌, List, sym, ap, ◌∙◌}
use Rattle.std.specs.Prelude.{Some, slice_set}
use Rattle.std.specs.VecDeque.{deque_capacity}
use Rattle.std.proofs.lemmas.List.{set-set}
use Rattle.frame_core.specs.Page.{IsolatedPage}
use Rattle.machine_core.specs.declared.hands.Held.TheVariants.{Copy}
use Rattle.machine_core.specs.Carried.{InHand, world_of}
use Rattle.machine_core.specs.World.{WorldState, copy_step}
use Rattle.machine_core.proofs.Holding.{where_none, step_copied, carried_copied}
use Rattle.machine_core.proofs.Refusing.{copy_refused}
use Rattle.machine_core.proofs.world.World.copy.Given.{Over}
use Rattle.machine_core.proofs.world.World.copy.Goals as goal
use Rattle.machine_core.proofs.world.World.copy.Goals.{After-put}

hands_are : (g : Over) (c : After-put g) → c.put.new.self.held ≡ slice_set c.self.inside.hands.held (c.args.hand - 1) (Copy c.in-Some.page)
hands_are g c =
    let i = c.args.hand - 1 in
    c.put.ensures
    ∙ ap (λ (held : List InHand). slice_set held i (Copy c.copy_into_new.result)) c.in-Some.ensures.some
    ∙ set-set c.self.inside.hands.held i _ (Copy c.copy_into_new.result)
    ∙ ap (λ (p : IsolatedPage). slice_set c.self.inside.hands.held i (Copy p)) c.copy_into_new.ensures

pub invariant_of-self-2 : goal.invariant_of-self-2
invariant_of-self-2 g c =
    let z = c.self.inside in
    rw (hands_are g c) (carried_copied z.zone z.scan z.ends z.is_open c.in-Some.page z.waiting.items z.hands.held c.args.hand (deque_capacity z.waiting) c.in-Some.ensures.number.0 c.in-Some.ensures.number.1 (sym c.in-Some.ensures.page) c.self.invariant)

pub returns-clause-ok : goal.returns-clause-ok
returns-clause-ok g c =
    let z = c.self.inside in
    ap (λ (w : WorldState). copy_step w c.args.hand) (sym c.self.view_is)
    ∙ step_copied z.zone z.scan z.ends z.is_open c.in-Some.page z.waiting.items z.hands.held c.args.hand (deque_capacity z.waiting) c.in-Some.ensures.number.0 c.in-Some.ensures.number.1 (sym c.in-Some.ensures.page) c.self.invariant
    ∙ ap (λ (held : List InHand). Some (world_of z.zone z.scan z.ends z.is_open z.waiting.items held)) (sym (hands_are g c))

pub returns-clause-orderly : goal.returns-clause-orderly
returns-clause-orderly g c = (invariant_of-self-2 g c).orderly

pub returns-in_default-clause-err : goal.returns-in_default-clause-err
returns-in_default-clause-err g c = rw (where_none c.page_from.result _ c.in_default.not-Some c.page_from.ensures.none) c.self.view_is

pub returns-in_default-clause-orderly : goal.returns-in_default-clause-orderly
returns-in_default-clause-orderly g c = rw (where_none c.page_from.result _ c.in_default.not-Some c.page_from.ensures.none) c.self.invariant.orderly

pub returns-in_default-clause-refused : goal.returns-in_default-clause-refused
returns-in_default-clause-refused g c =
    let z = c.self.inside in
    ap (λ (w : WorldState). copy_step w c.args.hand) (sym c.self.view_is)
    ∙ copy_refused z.zone z.scan z.ends z.is_open z.waiting.items z.hands.held c.args.hand c.page_from.result c.in_default.not-Some c.page_from.ensures.page
