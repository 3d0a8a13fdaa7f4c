-- What contracts see of the two ends of the copies' queue.
use Rattle.std.specs.Prelude.{◌≡◌, ℕ, ◌==◌, Bool, true, false, List, [], ◌∷◌, Option, None, Some}
use Rattle.std.specs.List.{list_all, list_any, flat_map, range_with_len}
use mathlib.Core.Option.{some}
use lib.ListN.{get_elem?}
use Rattle.frame_core.specs.Page.{IsolatedPage}
use Rattle.hand_core.specs.declared.copy_queue.Message.{Message}
use Rattle.hand_core.specs.declared.copy_queue.Message.TheVariants.{Copies, Mark}
use Rattle.hand_core.specs.declared.copy_queue.Account.{Account}
use Rattle.hand_core.specs.declared.done_taker.Came.{Came}
use Rattle.hand_core.specs.Queue.{QueueName}
use Rattle.hand_core.specs.CopyQueue.{messages_of, InTurn}
use Rattle.hand_core.specs.Batches.{before_hand}

-- the name of the queue of copies that an end belongs to
abbrev pub QueueOfCopies : Type 0
QueueOfCopies = QueueName Message

-- a sender: its queue, how many copies a batch has at most, its number, the copies that it sent, in their order, whether it put its
-- mark, and whether it is closed
pub record DoneSender : Type 0 where
  pub queue : QueueOfCopies
  pub most : ℕ
  pub number : ℕ
  pub sent : List IsolatedPage
  pub marked : Bool
  pub closed : Bool

-- the taker of a queue of copies: its queue, the queue's room in batches, the number of senders, the messages received, in their
-- order, and the copies of the last batch that no call has answered yet
pub record DoneTaker : Type 0 where
  pub queue : QueueOfCopies
  pub room : ℕ
  pub senders : ℕ
  pub came : List Message
  pub in_hand : List IsolatedPage

-- the copies of a message; a mark has none
abbrev pub copies_in_one : Message → List IsolatedPage
copies_in_one (Copies sender copies) = copies.items
copies_in_one (Mark sender) = []

-- the copies of some messages, in their order
abbrev pub copies_in : List Message → List IsolatedPage
copies_in came = flat_map copies_in_one came

-- the copies of one sender among some messages, in their order
abbrev pub copies_of : ℕ → List Message → List IsolatedPage
copies_of sender came = copies_in (messages_of sender came)

-- whether a message is the sender's mark
abbrev pub is_mark_of : ℕ → Message → Bool
is_mark_of sender (Copies other copies) = false
is_mark_of sender (Mark other) = other == sender

-- whether the sender's mark is among some messages
abbrev pub has_mark : List Message → ℕ → Bool
has_mark came sender = list_any (is_mark_of sender) came

-- whether the taker received the mark of every sender
abbrev pub has_ended : DoneTaker → Bool
has_ended t = list_all (has_mark t.came) (range_with_len 0 t.senders)

-- the queue holds this, and its taker is this one, by the rule
pub record Holds (queue : List Message) (t : DoneTaker) : Type 0 where
  pub ends : List Account
  pub rule : InTurn queue ends
  pub number : ℕ
  pub taker : Account
  pub at : get_elem? ends number ≡ some taker
  pub takes : taker.takes ≡ true
  pub came : taker.came ≡ t.came
  pub made : taker.made ≡ t.senders

-- the copies that calls of the taker answered, in their order
abbrev pub copies_taken : DoneTaker → List IsolatedPage
copies_taken t = before_hand (copies_in t.came) t.in_hand

-- the copy that an answer of the taker has, if it has one
abbrev pub copy_answered : Came → List IsolatedPage
copy_answered (Came.Copy copy) = copy ∷ []
copy_answered Came.End = []
copy_answered Came.Gone = []

-- a message was received, with no copy in hand before: its copies are in hand, and none was answered. Where it was the last mark that
-- the taker waited for, no copy is in hand
pub record IsReceived (t u : DoneTaker) : Type 0 where
  pub taken : copies_taken u ≡ copies_taken t
  pub end : has_ended t ≡ false → has_ended u ≡ true → u.in_hand ≡ []
  pub same : u ≡ record t { came = u.came; in_hand = u.in_hand }

-- the answer is the end exactly where the mark of every sender was received; with it, and where the senders are gone, every copy
-- that was received has been answered
abbrev pub IsEndInTime : DoneTaker → Came → Type 0
IsEndInTime t (Came.Copy copy) = has_ended t ≡ false
IsEndInTime t Came.End = (has_ended t ≡ true) × (t.in_hand ≡ [])
IsEndInTime t Came.Gone = (has_ended t ≡ false) × (t.in_hand ≡ [])

-- the copy that the answer of a try has, if it has one
abbrev pub copy_tried : Option Came → List IsolatedPage
copy_tried None = []
copy_tried (Some came) = copy_answered came

-- the answer of a try is the end exactly where the mark of every sender was received; where nothing was there, a mark has yet to come,
-- and every copy that was received has been answered
abbrev pub IsTriedInTime : DoneTaker → Option Came → Type 0
IsTriedInTime t None = (has_ended t ≡ false) × (t.in_hand ≡ [])
IsTriedInTime t (Some came) = IsEndInTime t came
