-- What holds of the fields of a sender of copies, and of the taker.
use Rattle.std.specs.Prelude.{◌≡◌, ◌<◌, ◌≤◌, true, false, Bool, List, [], ◌∷◌, ◌++◌, All, length}
use Rattle.crossbeam_channel.specs.Claims.{view, IsSeatAt}
use Rattle.crossbeam_channel.specs.Ends.{sends_on, receives_on}
use Rattle.hand_core.specs.declared.done_sender.DoneSender.TheInside as sender
use Rattle.hand_core.specs.declared.done_taker.DoneTaker.TheInside as taker
use Rattle.hand_core.specs.declared.copy_queue.Message.{Message}
use Rattle.hand_core.specs.CopyEnds.{has_mark, copies_in}
use Rattle.hand_core.specs.Batches.{Batch}
use Rattle.frame_core.specs.Page.{IsolatedPage}

-- the sender's pass is a seat at its channel, it sent no batch of more copies than one may have, and it put no mark unless it is
-- closed
pub record IsSending (s : sender.Inside) : Type 0 where
  pub seat : IsSeatAt (sends_on s.to) s.pass
  pub sends : (view s.pass).sends ≡ true
  pub sender : (view s.pass).sender ≡ s.number
  pub small : All (λ (h : Batch). length h.items ≤ s.most) (view s.pass).sent
  pub some : (0 < s.most) × (s.most ≤ 8)
  pub fresh : s.closed ≡ false → (view s.pass).marked ≡ false

-- for each of four senders whether its mark is among some messages
abbrev pub marks_of_four : List Message → List Bool
marks_of_four came = has_mark came 0 ∷ has_mark came 1 ∷ has_mark came 2 ∷ has_mark came 3 ∷ []

-- the taker's pass is a seat at its channel, the fields say whose marks were received, and the copies received end with those in hand
pub record IsReceiving (t : taker.Inside) : Type 0 where
  pub seat : IsSeatAt (receives_on t.from) t.pass
  pub takes : (view t.pass).takes ≡ true
  pub made : (view t.pass).made ≡ t.senders
  pub few : t.senders ≤ 4
  pub noted : t.marked ≡ marks_of_four (view t.pass).came
  pub hand : (before : List IsolatedPage) × (copies_in (view t.pass).came ≡ before ++ t.hand)
