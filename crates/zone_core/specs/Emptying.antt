-- While frames are emptied, one after the other: what is done, and what there has to be for it.
use Rattle.std.specs.Prelude.{◌≡◌, ℕ, ◌+◌, ◌*◌, ◌<◌, ◌≤◌, Bool, true, false, ◌&&◌, length}
use Rattle.frame_core.specs.Below.{count_below}
use Rattle.frame_core.specs.Moves.{moved, out}
use Rattle.fewest_core.specs.Evacuation.{is_beside, IsCarriedFrom}
use Rattle.fewest_core.specs.FewestMoves.{is_shut}
use Rattle.state_core.specs.ZoneState.{ZoneState, frame_count, is_used}

-- how many of the first n frames that pass are taken up by a page
abbrev pub pages_below : (ℕ → Bool) → ZoneState → ℕ → ℕ
pages_below is_in z n = count_below (λ frame. is_in frame && is_used z frame) n

-- how many frames may take a page of those that pass
abbrev pub frames_beside : (ℕ → Bool) → ZoneState → ℕ
frames_beside is_in z = count_below (is_beside is_in z) (frame_count z)

-- while the frames that pass are emptied, the lowest first: those below a frame are done
pub record IsEmptying (is_in : ℕ → Bool) (old z : ZoneState) (n : ℕ) : Type 0 where
  pub number : z.number ≡ old.number
  pub blocks : z.blocks ≡ old.blocks
  -- none of them is shut; those that are done are empty, and the others hold what they held
  pub unshut : (frame : ℕ) → is_in frame ≡ true → is_shut z frame ≡ false
  pub empty : (frame : ℕ) → is_in frame ≡ true → frame < n → is_used z frame ≡ false
  pub rest : (frame : ℕ) → is_in frame ≡ true → n ≤ frame → is_used z frame ≡ is_used old frame
  -- each page that went took a spare frame and two places of the journal
  pub spare : frames_beside is_in old ≤ frames_beside is_in z + pages_below is_in old n
  pub out_same : length (out z.records) ≡ length (out old.records)
  pub room : z.room + 2 * pages_below is_in old n ≡ old.room
  pub moved : moved z.records ≡ moved old.records + pages_below is_in old n
  pub carried : IsCarriedFrom is_in old z

-- there is enough of all for their pages
pub record HasEnough (is_in : ℕ → Bool) (old : ZoneState) : Type 0 where
  pub spare : pages_below is_in old (frame_count old) ≤ frames_beside is_in old
  pub room : length (out old.records) + 2 * pages_below is_in old (frame_count old) ≤ old.room
