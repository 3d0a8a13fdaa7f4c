-- What contracts see of a client, and what it means that its receipts are its records in a journal.
use Rattle.std.specs.Prelude.{◌≡◌, ℕ, List, [], ◌∷◌, ◌++◌, Option, None, Some, reverse}
use Rattle.std.specs.List.{filter}
use Rattle.frame_core.specs.declared.record.Record.{Record}
use Rattle.hand_core.specs.Told.{Told}
use Rattle.round_core.specs.Calls.{IsAddedBeside, is_of}

-- a client: its number, and the receipts of its accepted calls, the oldest first
pub record Client : Type 0 where
  pub number : ℕ
  pub receipts : List Record

-- the client with one more receipt
abbrev pub with_receipt : Client → Record → Client
with_receipt client receipt = record client { receipts = client.receipts ++ receipt ∷ [] }

-- the client with these receipts more
abbrev pub with_receipts : Client → List Record → Client
with_receipts client receipts = record client { receipts = client.receipts ++ receipts }

-- the records of a client in a journal, the oldest first; the journal has the newest first
abbrev pub records_of : ℕ → List Record → List Record
records_of number journal = filter (is_of number) (reverse journal)

-- a client's receipts are its records in a journal
abbrev pub Agrees : List Record → Client → Type 0
Agrees journal client = records_of client.number journal ≡ client.receipts

-- what is on a client's slip, if it has one, are its receipts since these
abbrev pub AreSince : List Record → Option Told → List Record → Type 0
AreSince before None receipts = Unit {0}
AreSince before (Some slip) receipts = receipts ≡ before ++ slip.records

-- of the records that a journal has more, those of a client are just the receipts that it has more, in their order; all others are of steps of a round
pub record IsToldBeside (client client_new : Client) (before after : List Record) : Type 0 where
  pub beside : IsAddedBeside client.number before after
  pub receipts : client_new.receipts ≡ client.receipts ++ records_of client.number beside.added
