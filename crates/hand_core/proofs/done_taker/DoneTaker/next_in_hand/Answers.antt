use Rattle.std.proofs.Common.{◌≡◌, ◌∷◌, ◌++◌, [], List, IfSome, subst}
use Rattle.std.specs.Option.{option_to_list}
use Rattle.crossbeam_channel.specs.Claims.{view}
use Rattle.frame_core.specs.Page.{IsolatedPage}
use Rattle.hand_core.specs.CopyEnds.{DoneTaker, copies_in, copies_taken}
use Rattle.hand_core.specs.Batches.{before_hand}
use Rattle.hand_core.proofs.Hands.{hand_step, next_taken}
use Rattle.hand_core.proofs.done_taker.DoneTaker.next_in_hand.Goals as goal

pub invariant_of-self : goal.invariant_of-self
invariant_of-self c =
    let k = c.self.invariant in
    record {
      seat = k.seat;
      takes = k.takes;
      made = k.made;
      few = k.few;
      noted = k.noted;
      hand = (k.hand.0 ++ option_to_list c.next.result, hand_step _ k.hand.0 c.self.inside.hand _ c.next.result k.hand.1 c.next.ensures.steps);
    }

pub returns-clause-some : goal.returns-clause-some
returns-clause-some c =
    let t = c.self.inside in
    let k = c.self.invariant in
    let came : List IsolatedPage = copies_in (view t.pass).came in
    subst (λ (was : DoneTaker). IfSome c.next.result (λ copy. before_hand came c.next.new.self ≡ copies_taken was ++ copy ∷ [])) c.self.view_is
    (next_taken came k.hand.0 t.hand c.next.new.self c.next.result k.hand.1 c.next.ensures.steps)
