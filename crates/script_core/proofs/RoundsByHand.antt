-- A round by hand and a reservation by hand leave a zone in which no page is moving, and change no address and no word.
use Rattle.std.proofs.Common.{◌≡◌, ℕ, zero, suc, ◌≤◌, Bool, true, false, refl, Option, Some, None}
use Rattle.std.specs.FinMap as map
use Rattle.std.specs.Prelude.{if◌then◌else◌}
use Rattle.zone_core.specs.Alone.{IsAtRest}
use Rattle.zone_core.specs.ByHand.{all_isolated, by_hand, moved_below, moved_if_moving, scan_pair, scan_step, scan_steps}
use Rattle.round_core.specs.Rounds.{stop_by_hand}
use Rattle.huge_core.proofs.SameByHand.{rest_by_hand, rest_taken}
use Rattle.state_core.specs.declared.error.ZoneError.{ZoneError}
use Rattle.state_core.specs.declared.error.ZoneError.TheVariants as zone
use Rattle.state_core.specs.declared.placement.Placement.{Placement}
use Rattle.state_core.specs.declared.placement.Placement.TheVariants.{At, Moving}
use Rattle.state_core.specs.declared.round.Pair.{Pair}
use Rattle.state_core.specs.HandingOut.{take_order_refusal}
use Rattle.state_core.specs.Isolating.{next_state}
use Rattle.state_core.specs.Rounds.{round_begun}
use Rattle.state_core.specs.ZoneState.{ZoneState, frame_count}
use Rattle.huge_core.specs.ByHand.{Reservation, asked, idle_stop, lowest_first, lowest_taken, moves, reserved_by_hand, stopped, taking, with_block, with_round}
use Rattle.huge_core.specs.declared.report.Stop.TheVariants as stop
use Rattle.script_core.proofs.PagesMoved.{LeavesCells, leaves_all, leaves_then}

-- no page is moving after it, and each address names the same page, and each word has the same value
pub record Rests (z after : ZoneState) : Type 0 where
  pub rest : IsAtRest after
  pub leaves : LeavesCells z after

pub rests_all : (z : ZoneState) → IsAtRest z → Rests z z
rests_all z rest = record { rest = rest; leaves = leaves_all z }

pub rests_then : (a b c : ZoneState) → Rests a b → Rests b c → Rests a c
rests_then a b c first second = record { rest = second.rest; leaves = leaves_then a b c first.leaves second.leaves }

-- A round by hand
next_leaves : (z : ZoneState) (pair : Option Pair) → LeavesCells z (next_state z pair)
next_leaves z None = leaves_all z
next_leaves z (Some pair) = record { blocks = refl; names = λ address. refl; words = λ page word. refl }

scan_leaves : (n : ℕ) (z : ZoneState) → LeavesCells z (scan_steps n z)
scan_leaves zero z = leaves_all z
scan_leaves (suc n) z = leaves_then z (scan_step z) (scan_steps n (scan_step z)) (next_leaves z (scan_pair z)) (scan_leaves n (scan_step z))

one_leaves : (place : Option Placement) (z : ZoneState) (page : ℕ) → LeavesCells z (moved_if_moving place z page)
one_leaves None z page = leaves_all z
one_leaves (Some (At frame)) z page = leaves_all z
one_leaves (Some (Moving serial source target)) z page = record { blocks = refl; names = λ address. refl; words = λ page word. refl }

moves_leave : (n : ℕ) (z : ZoneState) → LeavesCells z (moved_below n z)
moves_leave zero z = leaves_all z
moves_leave (suc n) z =
    let next : ZoneState = moved_if_moving (map.get z.placement n) z n in
    leaves_then z next (moved_below n next) (one_leaves (map.get z.placement n) z n) (moves_leave n next)

round_leaves : (z : ZoneState) → LeavesCells z (by_hand z)
round_leaves z =
    leaves_then z (all_isolated z) (by_hand z)
    (leaves_then z (round_begun z) (all_isolated z) (record { blocks = refl; names = λ address. refl; words = λ page word. refl }) (scan_leaves (frame_count z) (round_begun z)))
    (moves_leave (frame_count z) (all_isolated z))

pub round_rests : (z : ZoneState) → IsAtRest z → Rests z (by_hand z)
round_rests z rest = record { rest = rest_by_hand z rest; leaves = round_leaves z }

-- A reservation by hand of blocks of an order
module _ (order : ℕ) (low : 3 ≤ order) (high : order ≤ 9) where
  taken_rests : (z : ZoneState) → IsAtRest z → take_order_refusal z order ≡ None → Rests z (lowest_taken z order)
  taken_rests z rest accepted = record {
    rest = rest_taken order low high z rest accepted;
    leaves = record { blocks = refl; names = λ address. refl; words = λ page word. refl };
  }

  -- blocks are taken, and where none is free it goes on so that it rests
  taking_rests : (none : ℕ → ZoneState → Reservation) → ((left : ℕ) (now : ZoneState) → IsAtRest now → Rests now (none left now).zone) → (n : ℕ) (z : ZoneState) → IsAtRest z → Rests z (taking order n z none).zone
  taking_rests none go zero z rest = rests_all z rest
  taking_rests none go (suc n) z rest = by_refusal (take_order_refusal z order) refl (λ at_rest. taking_rests none go n (lowest_taken z order) at_rest) where
    next : Reservation
    next = taking order n (lowest_taken z order) none

    by_refusal : (o : Option ZoneError) → take_order_refusal z order ≡ o → (IsAtRest (lowest_taken z order) → Rests (lowest_taken z order) next.zone)
        → Rests z (asked o (with_block (lowest_first z order) next) (stopped stop.JournalFull z) (none (suc n) z)).zone
    by_refusal None accepted more = let taken = taken_rests z rest accepted in rests_then z (lowest_taken z order) next.zone taken (more taken.rest)
    by_refusal (Some zone.JournalFull) e more = rests_all z rest
    by_refusal (Some _) e more = go (suc n) z rest

  -- where no block is free a round is run, and the reservation goes on after it if the round moved a page
  round_then : (b : Bool) (after : Reservation) (now : ZoneState) → IsAtRest now → (IsAtRest (by_hand now) → Rests (by_hand now) after.zone)
      → Rests now (with_round (if b then after else stopped (idle_stop (stop_by_hand now)) (by_hand now))).zone
  round_then true after now rest more = let round = round_rests now rest in rests_then now (by_hand now) after.zone round (more round.rest)
  round_then false after now rest more = round_rests now rest

  pub reserved_rests : (rounds n : ℕ) (z : ZoneState) → IsAtRest z → Rests z (reserved_by_hand order rounds n z).zone
  reserved_rests zero n z rest = taking_rests (λ left now. stopped stop.Rounds now) (λ left now at_rest. rests_all now at_rest) n z rest
  reserved_rests (suc rounds) n z rest = taking_rests
      (λ left now. with_round (if moves now then reserved_by_hand order rounds left (by_hand now) else stopped (idle_stop (stop_by_hand now)) (by_hand now)))
      (λ left now at_rest. round_then (moves now) (reserved_by_hand order rounds left (by_hand now)) now at_rest (λ moved. reserved_rests rounds left (by_hand now) moved)) n z rest
