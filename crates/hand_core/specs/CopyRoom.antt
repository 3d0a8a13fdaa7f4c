-- The senders of a queue of copies, which keep to its batches.
use Rattle.std.specs.Prelude.{◌≡◌, ℕ, ◌<◌, ◌≤◌, true, List, length, All, Contains}
use mathlib.Core.Option.{some}
use lib.ListN.{get_elem?}
use Rattle.hand_core.specs.declared.copy_queue.Message.{Message}
use Rattle.hand_core.specs.declared.copy_queue.Account.{Account}
use Rattle.hand_core.specs.CopyEnds.{DoneSender, DoneTaker, Holds}
use Rattle.hand_core.specs.Batches.{Batch}

-- one of these ends is the sender's, and it sent no batch of more copies than a batch has at most
pub record IsAmong (ends : List Account) (s : DoneSender) : Type 0 where
  pub number : ℕ
  pub knows : Account
  pub at : get_elem? ends number ≡ some knows
  pub sends : knows.sends ≡ true
  pub sender : knows.sender ≡ s.number
  pub small : All (λ (h : Batch). length h.items ≤ s.most) knows.sent

-- the queue holds this, its taker and its senders are these, and the rule holds of them. The channel holds no more messages than it
-- has room for
pub record HoldsWith (queue : List Message) (t : DoneTaker) (senders : List DoneSender) : Type 0 where
  pub room : length queue ≤ t.room
  pub holds : Holds queue t
  pub among : All (IsAmong holds.ends) senders
  -- each sender that was made is one of these
  pub each : (number : ℕ) → number < t.senders → (s : DoneSender) × Contains senders s × (s.number ≡ number)
