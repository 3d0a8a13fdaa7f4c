-- While pages leave a run in steps, one after the other.
use Rattle.std.specs.Prelude.{◌≡◌, ℕ, ◌+◌, ◌*◌, ◌^◌, Bool, true, false, ◌&&◌, ◌||◌, is_some, length, nat_lt}
use Rattle.frame_core.specs.Below.{count_from}
use Rattle.frame_core.specs.Moves.{moved, out}
use Rattle.fewest_core.specs.Claims.{highest_vacant, pages_to_go}
use Rattle.fewest_core.specs.Evacuation.{is_in_run, IsCarriedOut}
use Rattle.state_core.specs.Claiming.{is_claimed}
use Rattle.state_core.specs.HandingOut.{has_block}
use Rattle.state_core.specs.ZoneState.{ZoneState, is_free}

-- whether a step would do something for a run: a frame of it is free, or a page of it may go and there is a frame for it
abbrev pub is_unfinished : ZoneState → (first order : ℕ) → Bool
is_unfinished z first order =
    has_block z order first
    && (nat_lt 0 (count_from (is_free z) first (2 ^ order)) || (nat_lt 0 (pages_to_go first (2 ^ order) z) && is_some (highest_vacant z)))

-- n pages of a run went, none of whose frames is free
pub record IsStepping (first size : ℕ) (old z : ZoneState) (n : ℕ) : Type 0 where
  pub number : z.number ≡ old.number
  pub blocks : z.blocks ≡ old.blocks
  -- no frame of the run is free, and what was claimed stays so
  pub shut : (frame : ℕ) → is_in_run first size frame ≡ true → is_free z frame ≡ false
  pub kept : (frame : ℕ) → is_claimed old frame ≡ true → is_claimed z frame ≡ true
  -- each page that went took two places of the journal
  pub out_same : length (out z.records) ≡ length (out old.records)
  pub room : z.room + 2 * n ≡ old.room
  pub moved : moved z.records ≡ moved old.records + n
  pub carried : IsCarriedOut first size old z
