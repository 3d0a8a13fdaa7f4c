use Rattle.std.proofs.Common.{rules, ℕ, ◌+◌, add-zero, add_assoc, ◌∷◌, List, length, refl, sym, ap, subst, ◌∙◌, arith}
use Rattle.frame_core.specs.Page.{IsolatedPage}
use Rattle.state_core.specs.ZoneState.{ZoneState}
use Rattle.zone_core.specs.Seats.{EndSeat}
use Rattle.machine_core.proofs.Closing.{IsClosing, closing_first, closing_next}
use Rattle.machine_core.proofs.ending.put_all_back_in.Goals as goal

pub loop-page-init : goal.loop-page-init
loop-page-init g c = record {
  closing = closing_first c.args.zone.now c.args.waiting.now.items c.requires.own c.requires.rising;
  valid = c.requires.valid;
  capacity = refl;
  seat = ap (λ (n : ℕ). record c.args.ends.now { back = n }) (sym (add-zero c.args.ends.now.back));
}

pub put_back_in-requires : goal.put_back_in-requires
put_back_in-requires g c =
    let was : IsClosing c.loop-page.zone (c.in-Some.page ∷ c.pop_front.new.self.items) c.loop-page.count c.args.zone.now c.args.waiting.now.items =
    subst (λ (list : List IsolatedPage). IsClosing c.loop-page.zone list c.loop-page.count c.args.zone.now c.args.waiting.now.items) c.in-Some.ensures.items c.loop-page.invariant.closing in
    (search rules, (search rules, (c.loop-page.invariant.valid, was.own 0 c.in-Some.page refl)))

pub overflow_add-count : goal.overflow_add-count
overflow_add-count g c =
    omega (arith, c.loop-page.invariant.closing.counted, c.requires.few, ap (length {A = IsolatedPage}) c.in-Some.ensures.items)

pub loop-page-preserved : goal.loop-page-preserved
loop-page-preserved g c =
    let was : IsClosing c.loop-page.zone (c.in-Some.page ∷ c.pop_front.new.self.items) c.loop-page.count c.args.zone.now c.args.waiting.now.items =
    subst (λ (list : List IsolatedPage). IsClosing c.loop-page.zone list c.loop-page.count c.args.zone.now c.args.waiting.now.items) c.in-Some.ensures.items c.loop-page.invariant.closing in
    record {
      closing = subst (λ (zone : ZoneState). IsClosing zone c.pop_front.new.self.items (c.loop-page.count + 1) c.args.zone.now c.args.waiting.now.items) (sym c.put_back_in.ensures.zone)
          (closing_next c.loop-page.zone c.in-Some.page c.pop_front.new.self.items c.loop-page.count c.args.zone.now c.args.waiting.now.items was c.put_back_in.ensures.page);
      valid = c.put_back_in.ensures.valid;
      capacity = c.pop_front.ensures.capacity ∙ c.loop-page.invariant.capacity;
      seat = c.put_back_in.ensures.seat ∙ ap (λ (seat : EndSeat). record seat { back = seat.back + 1 }) c.loop-page.invariant.seat ∙ ap (λ (n : ℕ). record c.args.ends.now { back = n }) (add_assoc c.args.ends.now.back c.loop-page.count 1);
    }
