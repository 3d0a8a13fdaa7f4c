-- What the ends of the queues are when a round starts, and what the copiers together hand back.
use Rattle.std.specs.Prelude.{◌≡◌, ◌+◌, ℕ, false, [], List, map, length}
use Rattle.frame_core.specs.Serials.{serials_of}
use Rattle.hand_core.specs.PageEnds.{Giver, Taker, HandOver}
use Rattle.hand_core.specs.CopyEnds.{DoneSender}

-- a taker of the hand-over that took nothing
pub record IsUnused (hand_over : HandOver) (t : Taker) : Type 0 where
  pub of_it : t.hand_over ≡ hand_over
  pub open_still : t.ended ≡ false
  pub none : t.taken ≡ []

-- a sender that sent nothing
pub record IsUnsent (s : DoneSender) : Type 0 where
  pub open_still : s.closed ≡ false
  pub none : s.sent ≡ []

-- an open giver whose next page has this serial
pub record IsNext (serial : ℕ) (g : Giver) : Type 0 where
  pub open_still : g.closed ≡ false
  pub serial_is : serial ≡ g.base + length g.given

-- each list has the serials of the pages that its taker took
abbrev pub AreListed : List (List ℕ) → List Taker → Type 0
AreListed lists takers = lists ≡ map (λ (t : Taker). serials_of t.taken) takers
