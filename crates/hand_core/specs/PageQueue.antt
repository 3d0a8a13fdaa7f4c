-- The rule of the pages' queue, from one giver to several takers: what holds of the queue and of its ends after each step.
use Rattle.std.specs.Prelude.{◌≡◌, ℕ, ◌+◌, ◌<◌, ◌≤◌, max, Bool, true, false, List, [], ◌++◌, length, All, map, replicate}
use Rattle.std.specs.List.{flat_map}
use Rattle.std.specs.List.Sorted.{IsPermutation}
use Rattle.frame_core.specs.Page.{IsolatedPage}
use Rattle.hand_core.specs.declared.page_queue.Note.{Note}
use Rattle.hand_core.specs.declared.page_queue.Note.TheVariants.{Pages, Mark}
use Rattle.hand_core.specs.declared.page_queue.Known.{Known}
use Rattle.frame_core.specs.Serials.{HasSerialsFrom, IsRising}
use Rattle.hand_core.specs.Batches.{Batch, pages_of}
use Rattle.hand_core.specs.Queue.{Each}
pub use Rattle.hand_core.specs.Queue.{total}

-- what an end knows, made from its parts
abbrev pub known : ℕ → Bool → List IsolatedPage → ℕ → ℕ → List IsolatedPage → ℕ → Known
known shares gives given marks largest off ended = record { shares = shares; gives = gives; given = given; marks = marks; largest = largest; off = off; ended = ended }

-- what the giver knows at first: it has every share; 1024 could be any number above that of the takers
abbrev pub giver_knows : Known
giver_knows = known 1024 true [] 0 0 [] 0

-- what a taker knows at first
abbrev pub taker_knows : Known
taker_knows = known 1 false [] 0 0 [] 0

-- the pages that came off for all takers
abbrev pub all_off : List Known → List IsolatedPage
all_off ends = flat_map (λ (v : Known). v.off) ends

-- how many takers have ended
abbrev pub all_ended : List Known → ℕ
all_ended ends = total (λ v. v.ended) ends

-- Of the pages given, `off` came off for takers, and those of the batches `waiting` are in the queue, with `marks` end marks after them.
-- `giver` is the number of the giver's end, and `base` is the first serial.
pub record InOrder (queue : List Note) (ends : List Known) : Type 0 where
  pub giver : ℕ
  pub base : ℕ
  pub off : List IsolatedPage
  pub waiting : List Batch
  pub marks : ℕ
  -- the pages given have the serials base, base + 1, .. in their order
  pub serials : HasSerialsFrom base (off ++ pages_of waiting)
  -- the queue is the batches that wait, in this order, and then the end marks
  pub queued : queue ≡ map Pages waiting ++ replicate marks Mark
  -- the takers' lists together are the pages that came off, each whole and once
  pub together : IsPermutation (all_off ends) off
  -- each taker's list is strictly rising
  pub rising : Each ends (λ _ v. v.gives ≡ false → IsRising v.off)
  -- where a taker has ended, no page waits
  pub done : 0 < all_ended ends → waiting ≡ []
  -- one end gives: it gave these pages, and put each end mark that waits or that ended a taker
  pub given : Each ends (λ number v. v.gives ≡ true → (number ≡ giver) × (v.given ≡ off ++ pages_of waiting) × (v.marks ≡ all_ended ends + marks))
  -- no batch that waits has more pages than the largest one that was given
  pub fits : Each ends (λ _ v. v.gives ≡ true → All (λ (h : Batch). length h.items ≤ v.largest) waiting)
  -- for an end with no share nothing came off, so an end with every share knows all lists
  pub shares : total (λ v. v.shares) ends ≡ 1024
  pub spent : Each ends (λ _ v. v.shares ≡ 0 → (v.off ≡ []) × (v.ended ≡ 0))

-- what the giver knows after it gave a batch or put an end mark
abbrev pub after_put : Known → Note → Known
after_put v (Pages h) = record v { given = v.given ++ h.items; largest = max v.largest (length h.items) }
after_put v Mark = record v { marks = v.marks + 1 }

-- what a taker knows after it took a batch or an end mark
abbrev pub after_take : Known → Note → Known
after_take v (Pages h) = record v { off = v.off ++ h.items }
after_take v Mark = record v { ended = v.ended + 1 }

-- a taker took this message, and its list still rises
abbrev pub Takes : Known → Note → Known → Type 0
Takes v note w = (w ≡ after_take v note) × IsRising w.off

-- what the giver knows after it took back a taker's share with what the taker knows
abbrev pub joined : Known → Known → Known
joined v taker = record v { shares = v.shares + taker.shares; off = v.off ++ taker.off; ended = v.ended + taker.ended }

-- what an end knows that gave its share back
abbrev pub nothing_known : Known
nothing_known = known 0 false [] 0 0 [] 0

-- what the giver learns once it has every share and each end mark ended a taker: each page given came off once, and the queue is
-- empty
abbrev pub Settles : Known → List Note → Type 0
Settles v queue = IsPermutation v.off v.given × (queue ≡ [])
