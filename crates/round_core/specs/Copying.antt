-- What a copier hands back.
use Rattle.std.specs.Prelude.{◌≡◌, ◌<◌, ◌++◌, [], List, length, true, false, ◌⊎◌}
use Rattle.frame_core.specs.Page.{IsolatedPage}
use Rattle.frame_core.specs.Serials.{serials_of}
use Rattle.hand_core.specs.PageEnds.{Taker}
use Rattle.hand_core.specs.CopyEnds.{DoneSender}
use Rattle.round_core.specs.declared.copier.Carried.{Carried}

-- a copier hands back the taker and the sender that it was given. Where it came to the end, its list has the serials of the
-- pages that it took, and it sent the copies of these pages, in their order
pub record IsCarried (taker : Taker) (sender : DoneSender) (carried : Carried) : Type 0 where
  pub hand_over : carried.taker.hand_over ≡ taker.hand_over
  pub queue : carried.sender.queue ≡ sender.queue
  pub number : carried.sender.number ≡ sender.number
  pub serials : carried.whole ≡ true → carried.serials.items ≡ serials_of carried.taker.taken
  pub copies : carried.whole ≡ true → carried.sender.sent ≡ carried.taker.taken
  -- both queues had their end marks
  pub ended : carried.whole ≡ true → (carried.taker.ended ≡ true) × (carried.sender.marked ≡ true)
  -- where it gave up, one of them had none
  pub gave_up : carried.whole ≡ false → (carried.taker.ended ≡ false) ⊎ (carried.sender.marked ≡ false)
  -- it closed its sender exactly where its taker ended
  pub closed : carried.sender.closed ≡ carried.taker.ended

-- a copier that is under way with the taker and the sender that it was given: its list has the serials of the pages taken so far, and
-- their copies were sent, except for these, which wait while more pages are in hand
pub record IsUnderWay (taker : Taker) (sender : DoneSender) (carried : Carried) (waiting : List IsolatedPage) : Type 0 where
  pub hand_over : carried.taker.hand_over ≡ taker.hand_over
  pub queue : carried.sender.queue ≡ sender.queue
  pub number : carried.sender.number ≡ sender.number
  pub most : carried.sender.most ≡ sender.most
  pub taking : carried.taker.ended ≡ false
  pub sending : carried.sender.closed ≡ false
  pub going : carried.whole ≡ false
  pub serials : carried.serials.items ≡ serials_of carried.taker.taken
  pub copies : carried.sender.sent ++ waiting ≡ carried.taker.taken
  pub few : length waiting < carried.sender.most
  pub kept : carried.taker.in_hand ≡ [] → waiting ≡ []
