-- What is true of a hand-over of pages after each step, in every schedule.
use Rattle.std.specs.Prelude.{◌≡◌, ℕ, ◌+◌, ◌-◌, ◌*◌, ◌<◌, ◌≤◌, Bool, true, false, if◌then◌else◌, List, [], ◌∷◌, ◌++◌, length, map, replicate, take, drop}
use Rattle.std.specs.List.{flat_map, range_with_len}
use Rattle.std.specs.List.Sorted.{IsPermutation}
use Rattle.frame_core.specs.Page.{IsolatedPage}
use Rattle.frame_core.specs.Serials.{serials_of, HasSerialsFrom}
use Rattle.hand_core.specs.declared.page_queue.Note.{Note}
use Rattle.hand_core.specs.declared.page_queue.Note.TheVariants.{Pages, Mark}
use Rattle.hand_core.specs.declared.page_queue.Known.{Known}
use Rattle.hand_core.specs.Batches.{Batch}
use Rattle.hand_core.specs.PageEnds.{Giver, Taker, off, off_by, count_ended}
use Rattle.hand_core.specs.PageQueue.{known, InOrder}

-- what a taker's pass knows
abbrev pub known_to : Taker → Known
known_to t = known 1 false [] 0 0 (off t) (if t.ended then 1 else 0)

-- what the passes of a giver and of all its takers know, where the largest batch that was given has so many pages
abbrev pub ends_of : ℕ → Giver → List Taker → List Known
ends_of largest g takers = known (1024 - length takers) true g.given g.marks largest [] 0 ∷ map known_to takers

-- the pages of a batch; an end mark has none
abbrev pub pages_in_one : Note → List IsolatedPage
pages_in_one (Pages h) = h.items
pages_in_one Mark = []

-- whether a message is an end mark
abbrev pub is_mark : Note → Bool
is_mark (Pages h) = false
is_mark Mark = true

-- the pages that a queue holds, in their order
abbrev pub pages_in : List Note → List IsolatedPage
pages_in queue = flat_map pages_in_one queue

-- the queue holds this, its giver and takers are these, and the rule holds of them. The channel holds no more messages than it has
-- room for, and no batch was given with more pages than one may have
pub record Holds (queue : List Note) (g : Giver) (takers : List Taker) : Type 0 where
  pub room : length queue ≤ g.room
  pub largest : ℕ
  pub most : largest ≤ g.most
  pub rule : InOrder queue (ends_of largest g takers)

-- n pages were given, of which h came off for all takers together: the lengths of `g.given` and of `off_by takers`
pub record IsHandedOver (queue : List Note) (g : Giver) (takers : List Taker) : Type 0 where
  pub base : ℕ
  -- the pages given have the serials base .. base + n - 1, in their order
  pub given : HasSerialsFrom base g.given
  -- the serials of the pages that came off are base .. base + h - 1, each once
  pub off : IsPermutation (serials_of (off_by takers)) (range_with_len base (length (off_by takers)))
  -- the pages in the queue have the serials base + h .. base + n - 1, in their order
  pub queued : HasSerialsFrom (base + length (off_by takers)) (pages_in queue)
  -- a page that came off or is in the queue is the one given under its serial, with its number, flags and words
  pub off_whole : IsPermutation (off_by takers) (take (length (off_by takers)) g.given)
  pub queued_whole : pages_in queue ≡ drop (length (off_by takers)) g.given
  -- after the pages the queue has the end marks that were put and that ended no taker yet
  pub marks : (batches : List Batch) × (queue ≡ map Pages batches ++ replicate (g.marks - count_ended takers) Mark)
  -- where a taker has ended, h is n, and where each mark that was put has ended one, the queue is empty
  pub ended : 0 < count_ended takers → length (off_by takers) ≡ length g.given
  pub empty : 0 < count_ended takers → count_ended takers ≡ g.marks → queue ≡ []
  -- no more pages are in the queue than it has room for
  pub few : length (pages_in queue) ≤ g.room * g.most
