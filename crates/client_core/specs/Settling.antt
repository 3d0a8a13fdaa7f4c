-- Where clients and a journal differ, and what is not settled then.
use Rattle.std.specs.Prelude.{◌≡◌, ◌≢◌, ℕ, ◌+◌, ◌≤◌, List, length, take, slice_get, All, IsSomeAnd}
use Rattle.frame_core.specs.declared.record.Record.{Record}
use Rattle.state_core.specs.ZoneState.{ZoneState}
use Rattle.client_core.specs.Receipts.{Client, records_of, Agrees}
use Rattle.client_core.specs.declared.settling.Mismatch.{Mismatch}
use Rattle.client_core.specs.declared.settling.Unsettled.{Unsettled}
use Rattle.client_core.specs.declared.settling.Unsettled.TheVariants as unsettled

-- two lists are the same before an index; at the index they differ, or only one of them has ended
pub record IsFirstDifference {X : Type 0} (xs ys : List X) (index : ℕ) : Type 0 where
  pub before : take index xs ≡ take index ys
  pub there : slice_get xs index ≢ slice_get ys index

-- a client's records and its receipts first differ where the mismatch says
pub record Differs (journal : List Record) (client : Client) (mismatch : Mismatch) : Type 0 where
  pub number : client.number ≡ mismatch.client
  pub index : IsFirstDifference (records_of client.number journal) client.receipts mismatch.index

-- the clients before the one of the mismatch agree with the journal, and this one doesn't
pub record IsFirstMismatch (journal : List Record) (clients : List Client) (mismatch : Mismatch) : Type 0 where
  pub place : ℕ
  pub before : All (Agrees journal) (take place clients)
  pub there : IsSomeAnd (slice_get clients place) (λ client. Differs journal client mismatch)

-- the journal of a zone is kept: it has at most 65,536 places. One that is unrecorded has more
abbrev pub HasKeptJournal : ZoneState → Type 0
HasKeptJournal zone = length zone.records + zone.room ≤ 65536

-- why clients aren't settled with a zone: its journal is unrecorded, or else they first differ from it where the mismatch says
abbrev pub IsUnsettled : ZoneState → List Client → Unsettled → Type 0
IsUnsettled zone clients unsettled.NotKept = ¬ HasKeptJournal zone
IsUnsettled zone clients (unsettled.Mismatch mismatch) = HasKeptJournal zone × IsFirstMismatch zone.records clients mismatch
