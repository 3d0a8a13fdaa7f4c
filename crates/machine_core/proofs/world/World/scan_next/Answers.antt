use Rattle.std.proofs.Common.{◌≡◌, true, ap, sym, subst, ◌∙◌, arith}
use Rattle.std.specs.Prelude.{None}
use Rattle.std.specs.VecDeque.{deque_capacity}
use Rattle.state_core.specs.declared.moves.Next.TheVariants.{Page}
use Rattle.state_core.specs.Isolating.{Scans, isolate_refusal}
use Rattle.state_core.specs.Pairs.{next_pair}
use Rattle.zone_core.specs.Seats.{seat_noted}
use Rattle.machine_core.specs.World.{WorldState, isolated_by}
use Rattle.machine_core.proofs.Carrying.{IsTaken, is_taken, met_same, carried_noted, carried_scanned, place_left, world_is}
use Rattle.machine_core.proofs.Refusing.{full_if}
use Rattle.machine_core.proofs.world.World.scan_next.Goals as goal

pub push_back_reserved-requires : goal.push_back_reserved-requires
push_back_reserved-requires g c =
    let z = c.self.inside in
    let zone = c.isolate_next.new.self in
    let p = c.in-Ok-Page.page in
    let opened : z.is_open ≡ true = ap (λ (w : WorldState). w.is_open) c.self.view_is ∙ c.requires.«open» in
    let room : isolate_refusal z.zone ≡ None = sym c.in-Ok-Page.ensures.refused in
    let take : IsTaken z.zone zone p = is_taken z.zone zone p (sym c.in-Ok-Page.field-0-is ∙ c.in-Ok-Page.ensures.answer) c.in-Ok-Page.ensures.ok in
    let scans : Scans z.zone zone (Page p) = subst (Scans z.zone zone) c.in-Ok-Page.field-0-is c.in-Ok-Page.ensures.pair in
    omega (arith, z.waiting.ok.0, place_left z.zone zone z.scan z.ends z.is_open z.waiting.items z.hands.held (deque_capacity z.waiting) p c.self.invariant opened room take scans)

pub invariant_of-self : goal.invariant_of-self
invariant_of-self g c =
    let z = c.self.inside in
    let zone = c.isolate_next.new.self in
    let p = c.in-Ok-Page.page in
    let opened : z.is_open ≡ true = ap (λ (w : WorldState). w.is_open) c.self.view_is ∙ c.requires.«open» in
    let room : isolate_refusal z.zone ≡ None = sym c.in-Ok-Page.ensures.refused in
    let take : IsTaken z.zone zone p = is_taken z.zone zone p (sym c.in-Ok-Page.field-0-is ∙ c.in-Ok-Page.ensures.answer) c.in-Ok-Page.ensures.ok in
    let scans : Scans z.zone zone (Page p) = subst (Scans z.zone zone) c.in-Ok-Page.field-0-is c.in-Ok-Page.ensures.pair in
    let seat : c.isolate_next.new.seat ≡ seat_noted z.scan (Page p) = c.in-Ok-Page.ensures.seat ∙ ap (seat_noted z.scan) c.in-Ok-Page.field-0-is in
    rw (c.push_back_reserved.ensures.items, c.push_back_reserved.ensures.capacity, seat)
    (carried_scanned z.zone zone z.scan z.ends z.is_open z.waiting.items z.hands.held (deque_capacity z.waiting) p c.self.invariant opened room take scans)

pub invariant_of-self-in-Ok-Met : goal.invariant_of-self-in-Ok-Met
invariant_of-self-in-Ok-Met g c =
    let z = c.self.inside in
    rw (met_same z.zone c.isolate_next.new.self (sym c.in-Ok-Met.field-0-is ∙ c.in-Ok-Met.ensures.answer) c.in-Ok-Met.ensures.ok)
    (carried_noted z.zone z.scan z.ends z.is_open z.waiting.items z.hands.held (deque_capacity z.waiting) c.self.invariant c.isolate_next.new.seat)

pub invariant_of-self-in-Err : goal.invariant_of-self-in-Err
invariant_of-self-in-Err g c =
    let z = c.self.inside in
    rw c.in-Err.ensures.err
    (carried_noted z.zone z.scan z.ends z.is_open z.waiting.items z.hands.held (deque_capacity z.waiting) c.self.invariant c.isolate_next.new.seat)

pub returns-in-Ok-Page-clause-orderly : goal.returns-in-Ok-Page-clause-orderly
returns-in-Ok-Page-clause-orderly g c = (invariant_of-self g c).orderly

pub returns-in-Ok-Page-clause-ok : goal.returns-in-Ok-Page-clause-ok
returns-in-Ok-Page-clause-ok g c =
    let z = c.self.inside in
    let zone = c.isolate_next.new.self in
    let p = c.in-Ok-Page.page in
    let opened : z.is_open ≡ true = ap (λ (w : WorldState). w.is_open) c.self.view_is ∙ c.requires.«open» in
    let room : isolate_refusal z.zone ≡ None = sym c.in-Ok-Page.ensures.refused in
    let take : IsTaken z.zone zone p = is_taken z.zone zone p (sym c.in-Ok-Page.field-0-is ∙ c.in-Ok-Page.ensures.answer) c.in-Ok-Page.ensures.ok in
    let scans : Scans z.zone zone (Page p) = subst (Scans z.zone zone) c.in-Ok-Page.field-0-is c.in-Ok-Page.ensures.pair in
    let seat : c.isolate_next.new.seat ≡ seat_noted z.scan (Page p) = c.in-Ok-Page.ensures.seat ∙ ap (seat_noted z.scan) c.in-Ok-Page.field-0-is in
    let after = world_is z.zone zone z.scan z.ends z.is_open z.waiting.items z.hands.held (deque_capacity z.waiting) p c.self.invariant opened room take scans in
    rw (c.push_back_reserved.ensures.items, seat)
    (sym after ∙ ap (λ (w : WorldState). isolated_by w (next_pair w.zone)) c.self.view_is)

pub returns-in-Ok-Met-clause-orderly : goal.returns-in-Ok-Met-clause-orderly
returns-in-Ok-Met-clause-orderly g c = (invariant_of-self-in-Ok-Met g c).orderly

pub returns-in-Err-clause-orderly : goal.returns-in-Err-clause-orderly
returns-in-Err-clause-orderly g c = (invariant_of-self-in-Err g c).orderly

pub returns-in-Err-clause-refused : goal.returns-in-Err-clause-refused
returns-in-Err-clause-refused g c =
    let z = c.self.inside in
    ap (λ (w : WorldState). isolate_refusal w.zone) (sym c.self.view_is) ∙ full_if z.zone c.in-Err.error c.in-Err.ensures.refused
