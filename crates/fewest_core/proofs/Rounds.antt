-- A page that a round isolates and then moves makes a move.
use Rattle.std.proofs.Common.{◌≡◌, ◌+◌, not, refl, ap, arith}
use Rattle.std.specs.Prelude.{Option}
use Rattle.std.specs.FinMap as map
use Rattle.std.proofs.lemmas.Bool.{and_from}
use Rattle.frame_core.specs.Moves.{isolated}
use Rattle.frame_core.specs.declared.record.Record.TheVariants.{Moved}
use Rattle.state_core.proofs.Entries.{get_insert_same}
use Rattle.state_core.proofs.Facts.{not_none}
use Rattle.state_core.specs.Carrying.{relocated}
use Rattle.state_core.specs.Ending.{moved_to_target, target_of}
use Rattle.state_core.specs.Isolating.{isolated_next}
use Rattle.state_core.specs.Pairs.{IsPair, is_marked}
use Rattle.state_core.specs.Valid.{IsValidZone}
use Rattle.state_core.specs.ZoneState.{ZoneState, is_free}
use Rattle.state_core.specs.declared.placement.Placement.{Placement}
use Rattle.state_core.specs.declared.placement.Placement.TheVariants.{At, Moving}
use Rattle.state_core.specs.declared.round.Pair.{Pair}
use Rattle.fewest_core.specs.FewestMoves.{IsMove, move_of, after_move}

pair_moves : (z : ZoneState) (pair : Pair) → IsValidZone z → IsPair z pair.page pair.source pair.target → IsMove z (move_of pair)
pair_moves z pair law is = record {
  known = law.pages.numbered pair.page (not_none (map.get z.placement pair.page) (At pair.source) is.from.here);
  here = is.from.here;
  movable = is.from.movable;
  within = omega (arith, is.to.high, law.fingers.ordered.1);
  vacant = and_from (not (is_marked z pair.target)) (is_free z pair.target) (ap not is.to.unmarked) is.to.free;
}

moved_alike : (z : ZoneState) (pair : Pair) → moved_to_target (isolated_next z pair) (isolated z.records) pair.page ≡ record (after_move z (move_of pair)) { migrate = pair.source + 1; free = pair.target }
moved_alike z pair =
    let way = get_insert_same z.placement pair.page pair.page (Moving (isolated z.records) pair.source pair.target) refl in
    ap (λ (o : Option Placement). relocated (isolated_next z pair) (Moved (isolated z.records)) pair.page (At (target_of o))) way

pub round_moves : (z : ZoneState) (pair : Pair) → IsValidZone z → IsPair z pair.page pair.source pair.target → IsMove z (move_of pair) × (moved_to_target (isolated_next z pair) (isolated z.records) pair.page ≡ record (after_move z (move_of pair)) { migrate = pair.source + 1; free = pair.target })
round_moves z pair law is = (pair_moves z pair law is, moved_alike z pair)
