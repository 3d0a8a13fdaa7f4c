-- The rule of the copies' queue, from several senders to one taker: what holds of the queue and of its ends after each step.
use Rattle.std.specs.Prelude.{◌≡◌, ℕ, ◌<◌, ◌≤◌, ◌==◌, Bool, true, false, if◌then◌else◌, List, [], ◌∷◌, ◌++◌, map, filter}
use Rattle.hand_core.specs.declared.copy_queue.Message.{Message}
use Rattle.hand_core.specs.declared.copy_queue.Message.TheVariants.{Copies, Mark}
use Rattle.hand_core.specs.declared.copy_queue.Account.{Account}
use Rattle.hand_core.specs.Batches.{Batch}
use Rattle.hand_core.specs.Queue.{Each}

-- what an end knows, made from its parts
abbrev pub account : Bool → ℕ → List Batch → Bool → Bool → ℕ → List Message → Account
account sends sender sent marked takes made came = record { sends = sends; sender = sender; sent = sent; marked = marked; takes = takes; made = made; came = came }

-- what the taker knows at first
abbrev pub taker_account : Account
taker_account = account false 0 [] false true 0 []

-- what a sender knows at first
abbrev pub sender_account : ℕ → Account
sender_account sender = account true sender [] false false 0 []

-- the number of a message's sender
abbrev pub sender_of : Message → ℕ
sender_of (Copies sender copies) = sender
sender_of (Mark sender) = sender

-- the messages of one sender, in their order
abbrev pub messages_of : ℕ → List Message → List Message
messages_of sender messages = filter (λ m. sender_of m == sender) messages

-- the messages of a sender that sent these batches: the batches in their order, and its mark after them if it put one
abbrev pub sent_by : ℕ → List Batch → Bool → List Message
sent_by sender batches marked = map (Copies sender) batches ++ (if marked then Mark sender ∷ [] else [])

-- all messages that an end sent
abbrev pub all_sent : Account → List Message
all_sent v = sent_by v.sender v.sent v.marked

-- The messages `came` were received, by the end with the number `taker`. As many senders as `made` says were made, and each is one end.
pub record InTurn (queue : List Message) (ends : List Account) : Type 0 where
  pub came : List Message
  pub taker : ℕ
  pub made : ℕ
  pub end_of : ℕ → ℕ
  -- of each sender, the messages received and then those in the queue are all that it sent, in its order
  pub sent : Each ends (λ number v. v.sends ≡ true → (end_of v.sender ≡ number) × (v.sender < made) × (messages_of v.sender (came ++ queue) ≡ all_sent v))
  -- whether or not a sender's end is there, they are batches and then its mark, if it put one
  pub closed : (sender : ℕ) → (batches : List Batch) × (marked : Bool) × (messages_of sender (came ++ queue) ≡ sent_by sender batches marked)
  -- no message is of anyone else
  pub others : (sender : ℕ) → made ≤ sender → messages_of sender (came ++ queue) ≡ []
  -- one end takes, and it knows all messages received
  pub taken : Each ends (λ number v. v.takes ≡ true → (number ≡ taker) × (v.came ≡ came) × (v.made ≡ made))

-- what a sender knows after it sent a batch or its mark
abbrev pub after_send : Account → Message → Account
after_send v (Copies sender copies) = record v { sent = v.sent ++ copies ∷ [] }
after_send v (Mark sender) = record v { marked = true }

-- the taker received this message, and it is from one of the senders
abbrev pub Comes : Account → Message → Account → Type 0
Comes v message w = (w ≡ record v { came = v.came ++ message ∷ [] }) × (sender_of message < v.made)

-- what the taker knows after it got the knowledge of a sender
abbrev pub folded : Account → Account → Account
folded v sender = record v { sends = true; sender = sender.sender; sent = sender.sent; marked = sender.marked }

-- what an end knows that gave its knowledge away
abbrev pub nothing_known : Account
nothing_known = account false 0 [] false false 0 []

-- what the taker learns from its own knowledge and that of a sender: the messages received of the sender and those in the
-- queue are all that it sent
abbrev pub Tells : Account → List Message → Type 0
Tells v queue = (v.sender < v.made)
    × (messages_of v.sender (v.came ++ queue) ≡ all_sent v)
