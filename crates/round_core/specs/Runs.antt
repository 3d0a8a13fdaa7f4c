-- What the threads of a round start with, and how they ran.
use Rattle.std.specs.Prelude.{◌≡◌, ◌+◌, ◌*◌, ◌/◌, ◌<◌, ◌≤◌, min, max, ℕ, true, false, [], All, map, Option, Some, IfSome, IfNone, OnSome, length, vec_len, vec_capacity}
use Rattle.std.specs.VecDeque.{deque_capacity}
use Rattle.hand_core.specs.PageEnds.{Giver}
use Rattle.hand_core.specs.CopyEnds.{has_ended}
use Rattle.zone_core.specs.Seats.{ScanSeat, EndSeat}
use Rattle.round_core.specs.Counts.{CountsOn}
use Rattle.round_core.specs.Crews.{IsUnused, IsUnsent, AreListed}
use Rattle.round_core.specs.Rounds.{answer_at}
use Rattle.round_core.specs.Scanning.{HasMore, IsAllowed, limit_at}
use Rattle.round_core.specs.declared.memory.CopierResults.{CopierResults}
use Rattle.round_core.specs.declared.memory.Memory.{Memory}
use Rattle.round_core.specs.declared.memory.CopierParts.{CopierParts}
use Rattle.round_core.specs.declared.crew.RoundRun.{RoundRun}
use Rattle.round_core.specs.declared.round.Stop.{Stop}

-- a giver that gave nothing, whose first page has this serial
pub record IsFresh (serial : ℕ) (g : Giver) : Type 0 where
  pub base : g.base ≡ serial
  pub none : g.given ≡ []
  pub open_still : g.closed ≡ false

-- each copier has a taker that took nothing, a sender that sent nothing and an empty list, and there is room for it among those
-- that are started
pub record IsUnstarted (o : CopierParts) : Type 0 where
  pub takers : All (IsUnused o.giver.hand_over) o.takers.items
  pub senders : (vec_len o.senders ≡ vec_len o.takers) × All IsUnsent o.senders.items
  pub serials : (vec_len o.serials ≡ vec_len o.takers) × All (λ list. list.items ≡ []) o.serials.items
  pub copiers : (o.copiers.items ≡ []) × (vec_len o.takers ≤ vec_capacity o.copiers)

-- nothing was joined, and there is room for what this many copiers hand back
pub record IsEmpty (copiers : ℕ) (j : CopierResults) : Type 0 where
  pub takers : (j.takers.items ≡ []) × (copiers ≤ vec_capacity j.takers)
  pub lists : (j.lists.items ≡ []) × (copiers ≤ vec_capacity j.lists)

-- the memory of a round that isn't begun yet, whose first page has this serial
pub record IsReady (serial : ℕ) (m : Memory) : Type 0 where
  pub giver : IsFresh serial m.copier_parts.giver
  pub copier_parts : IsUnstarted m.copier_parts
  pub copies : has_ended m.copies.taker ≡ false
  pub pages : (m.pages.list.items ≡ []) × (0 < deque_capacity m.pages.list)
  pub more : HasMore m.pages.left
  pub joined : IsEmpty (vec_len m.copier_parts.takers) m.joined

-- how many pages or copies a batch has at most, over queues with room for `cap`
abbrev pub batch_for : (cap : ℕ) → ℕ
batch_for cap = min cap 8

-- how many pages are isolated, or copies committed, under one hold of the lock at most: as many as a queue has room for, or as there are
-- in a batch for each copier where that is more
abbrev pub hold_for : (copiers cap : ℕ) → ℕ
hold_for copiers cap = max cap (batch_for cap * copiers)

-- the memory of a round with this many copiers has room for so many pages, for as many copies, and for so many serials of each copier
pub record HasRoom (copiers cap serials : ℕ) (m : Memory) : Type 0 where
  -- each queue has as many batches as go into its room
  pub most : m.copier_parts.giver.most ≡ batch_for cap
  pub pages : m.copier_parts.giver.room ≡ cap / batch_for cap
  pub sent : All (λ s. s.most ≡ batch_for cap) m.copier_parts.senders.items
  pub copies : m.copies.taker.room ≡ cap / batch_for cap
  -- and each list has what goes through it under one hold of the lock
  pub isolated : deque_capacity m.pages.list ≡ hold_for copiers cap
  pub gathered : deque_capacity m.copies.gathered ≡ hold_for copiers cap
  -- pages are divided among the copiers
  pub divided : m.pages.division.copiers ≡ copiers
  pub listed : All (λ list. vec_capacity list ≡ serials) m.copier_parts.serials.items

-- the threads of a round can be run with this memory, by the seats before it: a round may begin where so many pages are isolated, and
-- the end seat has a part for the committer
pub record CanRun (begins_at : ℕ → Type 0) (scan : ScanSeat) (ends : EndSeat) (m : Memory) : Type 0 where
  pub memory : IsReady scan.count m
  pub parts : 1 < ends.parts
  pub begins : begins_at scan.count

-- the takers are of the giver's hand-over, and where all copiers came to their ends the lists have the serials of the pages that they took
pub record AreJoined (g : Giver) (j : CopierResults) : Type 0 where
  pub takers : All (λ t. t.hand_over ≡ g.hand_over) j.takers.items
  pub listed : j.whole ≡ true → AreListed (map (λ v. v.items) j.lists.items) j.takers.items

-- how a round ran whose first page has this serial, given the scan seat after it
pub record HasRun (serial : ℕ) (scan : ScanSeat) (ran : RoundRun) : Type 0 where
  pub base : ran.giver.base ≡ serial
  pub joined : AreJoined ran.giver ran.joined
  -- where the scanner came to an end, each page that it counted was given
  pub count : IfSome ran.stop (λ _. scan.count ≡ ran.giver.base + length ran.giver.given)
  pub stopped : IfSome ran.stop (λ stop. scan.last ≡ Some (answer_at stop))

-- how a round with this many copiers ran, by the seats before and after it, where the scanner may stop as told, and at the limit if there is
-- one. Where it came to an end, and no moving page has a pin, no page was put back
pub record IsRunOver (stops_at : ℕ → Stop → Type 0) (unpinned : Type 0) (most : Option ℕ) (copiers : ℕ) (scan scan_new : ScanSeat) (ends ends_new : EndSeat) (ran : RoundRun) : Type 0 where
  pub has_run : HasRun scan.count scan_new ran
  -- each copier has its list
  pub lists : vec_len ran.joined.lists ≡ copiers
  pub stops : IfSome ran.stop (IsAllowed stops_at (limit_at scan.count most) scan_new.count)
  pub back : OnSome ran.stop (unpinned → ends_new.back ≡ ends.back)
  pub rounds : scan_new.rounds ≡ scan.rounds + 1

-- what came of running the threads of a round with this many copiers, by the seats before and after it: it ran, or one of them couldn't be
-- started, and then the scan seat is as it was. The end seat counts no fewer pages than before
pub record IsRunOrNot (stops_at : ℕ → Stop → Type 0) (unpinned : Type 0) (most : Option ℕ) (copiers : ℕ) (scan scan_new : ScanSeat) (ends ends_new : EndSeat) (result : Option RoundRun) : Type 0 where
  pub ran : IfSome result (IsRunOver stops_at unpinned most copiers scan scan_new ends ends_new)
  pub none : IfNone result (scan_new ≡ scan)
  pub counts : CountsOn ends ends_new

-- the borrow that was lent comes back, by the names of the two
pub record IsLentBack (lent back : ℕ) : Type 0 where
  pub same : back ≡ lent
