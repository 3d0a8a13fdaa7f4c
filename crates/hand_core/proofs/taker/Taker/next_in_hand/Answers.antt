use Rattle.std.proofs.Common.{◌≡◌, ◌++◌, ◌∷◌, [], Bool, List, None, Some, Option, MatchOption, IfSome, ap, sym, ◌∙◌, subst}
use Rattle.std.specs.Option.{option_to_list}
use Rattle.crossbeam_channel.specs.Claims.{view}
use Rattle.frame_core.specs.Page.{IsolatedPage}
use Rattle.frame_core.specs.Serials.{IsRising}
use Rattle.hand_core.specs.Batches.{before_hand}
use Rattle.hand_core.specs.PageEnds.{Taker, HandOver, off}
use Rattle.hand_core.proofs.Hands.{hand_whole, hand_step, empty_step, next_taken}
use Rattle.hand_core.proofs.taker.Taker.next_in_hand.Goals as goal

pub invariant_of-self : goal.invariant_of-self
invariant_of-self c =
    let t = c.self.inside in
    let k = c.self.invariant in
    let before = k.hand in
    let next = c.next.ensures.steps in
    record {
      seat = k.seat;
      takes = k.takes;
      share = k.share;
      rising = k.rising;
      hand = (before.0 ++ option_to_list c.next.result, hand_step (view t.pass).off before.0 t.hand c.next.new.self c.next.result before.1 next);
      empty = λ ended. empty_step t.hand c.next.new.self c.next.result (k.empty ended) next;
      marked = k.marked;
    }

-- what contracts see of the taker afterwards
seen : (hand_over : HandOver) (ended : Bool) (now : Taker) (came in_hand rest : List IsolatedPage) (next : Option IsolatedPage)
    → record { hand_over = hand_over; taken = before_hand came in_hand; in_hand = in_hand; ended = ended } ≡ now
    → IfSome next (λ p. before_hand came rest ≡ before_hand came in_hand ++ p ∷ [])
    → IfSome next (λ p. record { hand_over = hand_over; taken = before_hand came rest; in_hand = rest; ended = ended } ≡ record now { taken = now.taken ++ p ∷ []; in_hand = rest })
seen hand_over ended now came in_hand rest None is longer = tt
seen hand_over ended now came in_hand rest (Some p) is longer =
    let with_taken : List IsolatedPage → Taker = λ l. record { hand_over = hand_over; taken = l; in_hand = rest; ended = ended } in
    ap with_taken longer ∙ ap (λ (t : Taker). record t { taken = t.taken ++ p ∷ []; in_hand = rest }) is

pub returns-clause-some : goal.returns-clause-some
returns-clause-some c =
    let t = c.self.inside in
    let before = c.self.invariant.hand in
    seen _ t.ended c.args.self.now (view t.pass).off t.hand c.next.new.self c.next.result c.self.view_is
    (next_taken (view t.pass).off before.0 t.hand c.next.new.self c.next.result before.1 c.next.ensures.steps)

-- what came off is what it was, with fewer pages in hand
whole : (came before in_hand rest : List IsolatedPage) (next : Option IsolatedPage) → came ≡ before ++ in_hand → MatchOption next ((in_hand ≡ []) × (rest ≡ [])) (λ p. in_hand ≡ p ∷ rest)
    → before_hand came rest ++ rest ≡ came
whole came before in_hand rest next is steps = hand_whole came (before ++ option_to_list next) rest (hand_step came before in_hand rest next is steps)

pub returns-clause-off : goal.returns-clause-off
returns-clause-off c =
    let t = c.self.inside in
    let before = c.self.invariant.hand in
    whole (view t.pass).off before.0 t.hand c.next.new.self c.next.result before.1 c.next.ensures.steps
    ∙ sym (hand_whole (view t.pass).off before.0 t.hand before.1)
    ∙ ap off c.self.view_is

pub returns-clause-rising : goal.returns-clause-rising
returns-clause-rising c =
    let t = c.self.inside in
    let k = c.self.invariant in
    subst IsRising (sym (whole (view t.pass).off k.hand.0 t.hand c.next.new.self c.next.result k.hand.1 c.next.ensures.steps)) k.rising
