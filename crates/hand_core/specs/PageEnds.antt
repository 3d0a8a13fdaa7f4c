-- What contracts see of the two ends of a hand-over of pages.
use Rattle.std.specs.Prelude.{◌≡◌, ◌≢◌, ℕ, ◌+◌, Bool, true, if◌then◌else◌, List, [], ◌∷◌, ◌++◌}
use Rattle.std.specs.List.{flat_map, list_all}
use Rattle.frame_core.specs.Page.{IsolatedPage}
use Rattle.hand_core.specs.declared.page_queue.Note.{Note}
use Rattle.hand_core.specs.declared.taker.Took.{Took}
use Rattle.hand_core.specs.Queue.{QueueName}

-- the name of the hand-over that an end belongs to
abbrev pub HandOver : Type 0
HandOver = QueueName Note

-- a giver: its hand-over, the queue's room in batches, how many pages a batch has at most, the number of takers, the first serial,
-- the pages given, in their order, the number of end marks put, and whether it is closed
pub record Giver : Type 0 where
  pub hand_over : HandOver
  pub room : ℕ
  pub most : ℕ
  pub takers : ℕ
  pub base : ℕ
  pub given : List IsolatedPage
  pub marks : ℕ
  pub closed : Bool

-- a taker: its hand-over, the pages that it took, in their order, those that were received with the last one and that no call
-- has answered yet, and whether it took an end mark
pub record Taker : Type 0 where
  pub hand_over : HandOver
  pub taken : List IsolatedPage
  pub in_hand : List IsolatedPage
  pub ended : Bool

-- the pages that came off for a taker, in their order: those that it took, and then those in hand
abbrev pub off : Taker → List IsolatedPage
off t = t.taken ++ t.in_hand

-- the pages that all these takers took
abbrev pub taken_by : List Taker → List IsolatedPage
taken_by takers = flat_map (λ (t : Taker). t.taken) takers

-- the pages that came off for all these takers together
abbrev pub off_by : List Taker → List IsolatedPage
off_by takers = flat_map off takers

-- how many of these takers took an end mark
abbrev pub count_ended : List Taker → ℕ
count_ended [] = 0
count_ended (t ∷ takers) = (if t.ended then 1 else 0) + count_ended takers

-- whether each taker took an end mark
abbrev pub have_ended : List Taker → Bool
have_ended takers = list_all (λ (t : Taker). t.ended) takers

-- what an answer changes: a page joins those that the taker took. Where pages were in hand it is the first of them, and nothing more
-- comes off; else it comes off, with those that are in hand then. The end mark and the answer that the giver is gone need an empty
-- hand; the end mark ends the taker, and the other changes nothing
abbrev pub IsAnswered : Taker → Took → Taker → Type 0
IsAnswered t (Took.Page p) u = (u ≡ record t { taken = t.taken ++ p ∷ []; in_hand = u.in_hand }) × (t.in_hand ≢ [] → off u ≡ off t)
IsAnswered t Took.End u = (u ≡ record t { ended = true }) × (t.in_hand ≡ [])
IsAnswered t Took.Gone u = (u ≡ t) × (t.in_hand ≡ [])
