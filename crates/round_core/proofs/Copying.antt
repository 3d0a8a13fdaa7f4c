-- A copier that goes on after it took a page.
use Rattle.std.proofs.Common.{◌≡◌, List, refl, ◌∙◌}
use Rattle.frame_core.specs.Page.{IsolatedPage}
use Rattle.hand_core.specs.PageEnds.{Taker}
use Rattle.hand_core.specs.CopyEnds.{DoneSender}
use Rattle.round_core.specs.Copying.{IsCarried, IsUnderWay}
use Rattle.round_core.specs.declared.copier.Carried.{Carried}

module _ {taker : Taker} {sender : DoneSender} {carried : Carried} {copies : List IsolatedPage} (way : IsUnderWay taker sender carried copies) where
  -- it is under way with what it has
  pub from_here : IsUnderWay carried.taker carried.sender carried copies
  from_here = record {
    hand_over = refl;
    queue = refl;
    number = refl;
    most = refl;
    taking = way.taking;
    sending = way.sending;
    going = way.going;
    serials = way.serials;
    copies = way.copies;
    few = way.few;
    kept = way.kept;
  }

  -- where it goes on from there, it is under way with what it was given
  pub goes_on : {carried_new : Carried} {copies_new : List IsolatedPage} → IsUnderWay carried.taker carried.sender carried_new copies_new → IsUnderWay taker sender carried_new copies_new
  goes_on next = record {
    hand_over = next.hand_over ∙ way.hand_over;
    queue = next.queue ∙ way.queue;
    number = next.number ∙ way.number;
    most = next.most ∙ way.most;
    taking = next.taking;
    sending = next.sending;
    going = next.going;
    serials = next.serials;
    copies = next.copies;
    few = next.few;
    kept = next.kept;
  }

  -- what it hands back from there it hands back of what it was given
  pub comes_back : {carried_new : Carried} → IsCarried carried.taker carried.sender carried_new → IsCarried taker sender carried_new
  comes_back back = record {
    hand_over = back.hand_over ∙ way.hand_over;
    queue = back.queue ∙ way.queue;
    number = back.number ∙ way.number;
    serials = back.serials;
    copies = back.copies;
    ended = back.ended;
    gave_up = back.gave_up;
    closed = back.closed;
  }
