-- A reservation: the n cheapest open runs are emptied and handed out, which moves the fewest pages. Which runs are picked, when it
-- is refused, and what it leaves.
use Rattle.std.specs.Prelude.{◌≡◌, ℕ, zero, suc, ◌+◌, ◌*◌, ◌/◌, ◌^◌, ◌<◌, Bool, true, not, ◌&&◌, ◌||◌, List, length, nat_eq, nat_le, nat_lt, if◌then◌else◌, Option, Some, None, slice_index}
use Rattle.std.specs.List.{list_any}
use Rattle.frame_core.specs.Below.{count_below, highest}
use Rattle.frame_core.specs.Moves.{out}
use Rattle.state_core.specs.declared.error.ZoneError.{ZoneError}
use Rattle.state_core.specs.declared.error.ZoneError.TheVariants.{NoBlock, JournalFull}
use Rattle.state_core.specs.HandingOut.{block_taken, has_block}
use Rattle.state_core.specs.Packed.{unmarked_free}
use Rattle.state_core.specs.Pairs.{holder}
use Rattle.state_core.specs.ZoneState.{ZoneState, frame_count}
use Rattle.fewest_core.specs.Evacuation.{is_beside, is_in_run, moved_out}
use Rattle.fewest_core.specs.FewestMoves.{cost, costs, is_open, least, run_count}

-- whether, by these costs, a run goes before another: it is cheaper, or as dear and lower
abbrev pub goes_before : (ℕ → ℕ) → ℕ → ℕ → Bool
goes_before cost_at a b = nat_lt (cost_at a) (cost_at b) || (nat_eq (cost_at a) (cost_at b) && nat_lt a b)

-- the rank of a run: how many open runs go before it
abbrev pub rank : ZoneState → ℕ → ℕ → ℕ
rank z size run = count_below (λ other. is_open z size other && goes_before (cost z size) other run) (run_count z size)

-- whether a run is one of the n cheapest open runs, the lowest first of equals
abbrev pub is_picked : ZoneState → ℕ → ℕ → ℕ → Bool
is_picked z size n run = is_open z size run && nat_lt (rank z size run) n

-- these are the first frames of the cheapest open runs of an order, the cheapest first, and the lowest first of equals
pub record ArePicked (z : ZoneState) (order : ℕ) (firsts : List ℕ) : Type 0 where
  pub block : (place : ℕ) → place < length firsts → has_block z order (slice_index firsts place) ≡ true
  pub opened : (place : ℕ) → place < length firsts → is_open z (2 ^ order) (slice_index firsts place / 2 ^ order) ≡ true
  pub ranked : (place : ℕ) → place < length firsts → rank z (2 ^ order) (slice_index firsts place / 2 ^ order) ≡ place

-- whether the pages of n runs can go out of them: so many are open, and the zone has as many free frames as they have frames
abbrev pub can_reserve : ZoneState → ℕ → ℕ → Bool
can_reserve z n size = nat_le n (length (costs z size)) && nat_le (size * n) (unmarked_free z)

-- whether the journal has places for so many isolations and their ends and for handing out so many blocks, besides those for the ends
-- of the pages that are out
abbrev pub has_room_to_reserve : ZoneState → ℕ → ℕ → Bool
has_room_to_reserve z pages blocks = nat_le (length (out z.records) + 2 * pages + blocks) z.room

-- why the reservation of n blocks is refused, if it is
abbrev pub reserve_refusal : ZoneState → ℕ → ℕ → Option ZoneError
reserve_refusal z n order =
    if not (can_reserve z n (2 ^ order)) then Some NoBlock
    else if not (has_room_to_reserve z (least n z (2 ^ order)) n) then Some JournalFull
    else None

-- whether a frame is in one of the runs of so many frames from these first ones on
abbrev pub is_in_runs : List ℕ → ℕ → ℕ → Bool
is_in_runs firsts size frame = list_any (λ first. is_in_run first size frame) firsts

-- the highest frame that may take a page of the frames that pass, if there is one
abbrev pub highest_beside : (ℕ → Bool) → ZoneState → Option ℕ
highest_beside is_in z = highest (is_beside is_in z) (frame_count z)

-- the zone after those of the first n frames that pass were emptied, the lowest first: the page of each went to the highest free frame
-- of an unmarked pageblock that doesn't pass
abbrev pub cleared : (ℕ → Bool) → ZoneState → ℕ → ZoneState
cleared is_in z zero = z
cleared is_in z (suc n) =
    let before = cleared is_in z n in
    if is_in n then moved_out before (holder before n) n (highest_beside is_in before) else before

-- the zone after the first n of these blocks were handed out
abbrev pub blocks_taken : ZoneState → ℕ → List ℕ → ℕ → ZoneState
blocks_taken z order firsts zero = z
blocks_taken z order firsts (suc n) = block_taken (blocks_taken z order firsts n) (slice_index firsts n) order

-- the zone after these runs were emptied and handed out
abbrev pub reserved : ZoneState → ℕ → List ℕ → ZoneState
reserved z order firsts = blocks_taken (cleared (is_in_runs firsts (2 ^ order)) z (frame_count z)) order firsts (length firsts)
