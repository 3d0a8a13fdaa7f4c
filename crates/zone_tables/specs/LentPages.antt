-- The pages whose words are lent, as the tables have them.
use Rattle.std.specs.Prelude.{◌≡◌, ℕ, Bool, true, false, List, Option, Some, None}
use Rattle.std.specs.FinMap as map
use Rattle.std.specs.FinSet as set
use Rattle.std.specs.Ordering.{nat_cmp}
use Rattle.frame_core.specs.FrameSet.{has_frame}
use Rattle.scan_core.specs.NumberSet.{gathered}
use Rattle.state_core.specs.declared.placement.Placement.{Placement}
use Rattle.state_core.specs.ZoneState.{takes_up, words_frame}

-- whether the frame is lent that has the words of a page with this placement
abbrev pub has_words_lent : List Bool → Option Placement → Bool
has_words_lent lent None = false
has_words_lent lent (Some place) = has_frame lent (words_frame place)

-- the pages below a number of which it is
abbrev pub pages_lent : List Bool → map.FinMap nat_cmp Placement → ℕ → set.FinSet nat_cmp
pages_lent lent placement pages = gathered (λ page. has_words_lent lent (map.get placement page)) pages

-- each frame that a page with this placement takes up is lent now, or none of them is; each other frame is lent if it was
pub record IsLentNow (old new : List Bool) (place : Placement) (goes : Bool) : Type 0 where
  pub taken : (frame : ℕ) → takes_up (Some place) frame ≡ true → has_frame new frame ≡ goes
  pub others : (frame : ℕ) → takes_up (Some place) frame ≡ false → has_frame new frame ≡ has_frame old frame
