-- A page is sent out of a run: it is isolated outside of a round, and the words of its two frames are lent. When they come back its move
-- ends, and the frame that it left is claimed. Which page is next, when the calls are refused, and what they leave.
use Rattle.std.specs.Prelude.{ℕ, not, if◌then◌else◌, Option, Some, None}
use Rattle.std.specs.FinSet as set
use Rattle.std.specs.Option.{option_map}
use Rattle.state_core.specs.declared.error.ZoneError.{ZoneError}
use Rattle.state_core.specs.declared.error.ZoneError.TheVariants.{Range}
use Rattle.state_core.specs.declared.moves.Ended.{Ended}
use Rattle.state_core.specs.declared.moves.Ended.TheVariants as ended
use Rattle.state_core.specs.Claiming.{claimed_at}
use Rattle.state_core.specs.Ending.{ended_as}
use Rattle.state_core.specs.HandingOut.{has_block}
use Rattle.state_core.specs.LentMoves.{LentMove, lend_move_refusal, lent_committed}
use Rattle.state_core.specs.Pairs.{holder}
use Rattle.state_core.specs.ZoneState.{ZoneState}
use Rattle.fewest_core.specs.Claims.{highest_vacant, next_to_go}
use Rattle.fewest_core.specs.FewestMoves.{Move, under_way}

-- the move of the page that a source holds to a target, if there are all three
abbrev pub move_between : ZoneState → Option ℕ → Option ℕ → Option Move
move_between z (Some source) (Some target) = option_map (λ page. record { page = page; source = source; target = target }) (holder z source)
move_between z _ _ = None

-- the move of the page that goes next out of a run: the lowest one that may go, to the highest free frame of an unmarked pageblock
abbrev pub next_move_from : ℕ → ℕ → ZoneState → Option Move
next_move_from first size z = move_between z (next_to_go first size z) (highest_vacant z)

-- the zone while the page of such a move is moving, and the words of its two frames are lent: the latest round is forgotten
abbrev pub sent : ZoneState → Move → ZoneState
sent z m = record (under_way z m) { lent_pages = set.insert z.lent_pages m.page; round = None }

-- the zone after the call that sends the next page, which changes nothing where there is none
abbrev pub next_sent : ZoneState → Option Move → ZoneState
next_sent z None = z
next_sent z (Some m) = sent z m

-- why that call is refused, if it is
abbrev pub send_refusal : ZoneState → ℕ → ℕ → Option ZoneError
send_refusal z first order = if not (has_block z order first) then Some Range else lend_move_refusal z

-- the zone with a frame claimed, if the move that ended left it
abbrev pub claimed_if_moved : Ended → ZoneState → ℕ → ZoneState
claimed_if_moved ended.Moved z source = claimed_at z source
claimed_if_moved ended.Back z source = z

-- the zone after both rows came back and the copy was committed: a page with no pin is moved, and the frame that it left is claimed; a page
-- with a pin is put back
abbrev pub sent_committed : ZoneState → LentMove → ZoneState
sent_committed z m = claimed_if_moved (ended_as z m.page) (lent_committed z m) m.source
