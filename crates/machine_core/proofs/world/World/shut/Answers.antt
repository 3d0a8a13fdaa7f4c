use Rattle.std.proofs.Common.{rules, ◌≡◌, ℕ, ◌+◌, false, sym, ap, subst, ◌∙◌}
use Rattle.std.specs.Prelude.{Some}
use Rattle.std.specs.VecDeque.{deque_capacity}
use Rattle.machine_core.specs.Carried.{world_of}
use Rattle.zone_core.specs.Seats.{EndSeat}
use Rattle.machine_core.specs.World.{IsOrderly, shut_step}
use Rattle.machine_core.proofs.Closing.{short_list, step_shut, carried_shut, not_shut}
use Rattle.machine_core.proofs.world.World.shut.Goals as goal

-- the end seat counts the pages that waited
counted_back : (ends now : EndSeat) (count waited : ℕ) → now ≡ record ends { back = ends.back + waited } → count ≡ waited → now ≡ record ends { back = ends.back + count }
counted_back ends now count waited seat same = seat ∙ ap (λ (n : ℕ). record ends { back = ends.back + n }) (sym same)

pub put_all_back_in-count-requires : goal.put_all_back_in-count-requires
put_all_back_in-count-requires g c =
    let z = c.self.inside in (
      search rules,
      (
        search rules,
        (
          c.self.invariant.orderly.valid,
          (
            c.self.invariant.waiting,
            (
              c.self.invariant.orderly.rising,
              short_list z.zone z.scan z.ends z.is_open z.waiting.items z.hands.held (deque_capacity z.waiting) c.self.invariant,
            ),
          ),
        ),
      ),
    )

pub invariant_of-self : goal.invariant_of-self
invariant_of-self g c =
    let z = c.self.inside in
    let done = c.put_all_back_in-count.ensures in
    rw (done.waiting, done.capacity, counted_back z.ends c.put_all_back_in-count.new.ends c.put_all_back_in-count.result _ done.seat done.count)
    (carried_shut z.zone c.put_all_back_in-count.new.zone z.scan z.ends z.is_open z.waiting.items z.hands.held (deque_capacity z.waiting) c.put_all_back_in-count.result
    c.self.invariant (sym c.are_empty.ensures ∙ c.if-not-are_empty.false) done.zone done.blocks done.count)

pub returns-clause-ok : goal.returns-clause-ok
returns-clause-ok g c =
    let z = c.self.inside in
    let done = c.put_all_back_in-count.ensures in
    ap shut_step (sym c.self.view_is)
    ∙ step_shut z.zone c.put_all_back_in-count.new.zone z.scan z.ends z.is_open z.waiting.items z.hands.held (deque_capacity z.waiting) c.put_all_back_in-count.result
    c.self.invariant (sym c.are_empty.ensures ∙ c.if-not-are_empty.false) done.zone done.blocks done.count
    ∙ (λ i. Some (c.put_all_back_in-count.result, world_of c.put_all_back_in-count.new.zone z.scan (sym (counted_back z.ends c.put_all_back_in-count.new.ends c.put_all_back_in-count.result _ done.seat done.count) i) false (sym done.waiting i) z.hands.held))

pub returns-then-not-are_empty-clause-refused : goal.returns-then-not-are_empty-clause-refused
returns-then-not-are_empty-clause-refused g c =
    let z = c.self.inside in
    ap shut_step (sym c.self.view_is) ∙ not_shut z.zone z.scan z.ends z.is_open z.waiting.items z.hands.held (sym c.are_empty.ensures ∙ c.if-not-are_empty.true)

pub returns-clause-orderly : goal.returns-clause-orderly
returns-clause-orderly g c = (invariant_of-self g c).orderly

pub returns-then-not-are_empty-clause-orderly : goal.returns-then-not-are_empty-clause-orderly
returns-then-not-are_empty-clause-orderly g c = subst IsOrderly c.self.view_is c.self.invariant.orderly
