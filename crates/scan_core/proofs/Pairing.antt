-- What the scanners find is the pair, and where they find none there is none.
use Rattle.std.proofs.Common.{◌≡◌, ℕ, ◌<◌, ◌≤◌, Bool, true, not, List, inl, inr, sym, ap, ◌∙◌, arith}
use Rattle.std.specs.Prelude.{Some, None, nat_le, nat_lt, ◌&&◌}
use Rattle.std.proofs.lemmas.Bool.{and_parts, ltb-true, leb-true, lt-ltb, le-leb, not-true}
use Rattle.std.proofs.lemmas.Bool.Decides.{leb_tells}
use Rattle.frame_core.specs.declared.state.FrameState.{FrameState}
use Rattle.frame_core.specs.Below.{highest}
use Rattle.frame_core.proofs.Searches.{lowest_some, lowest_before, no_lowest}
use Rattle.scan_core.specs.declared.fingers.Fingers.{Fingers}
use Rattle.scan_core.specs.Frames.{free_at, holds_at, true_at}
use Rattle.scan_core.specs.Pairs.{IsSource, IsTarget, IsPair, is_marked, is_source, is_target, next_source, next_target}
use Rattle.frame_core.proofs.Bounds.{highest_some, highest_above, no_highest}
use Rattle.scan_core.proofs.Masking.{clash}

module _ (states : List (FrameState ℕ)) (movable marked : List Bool) (fingers : Fingers) where
  source_stops : (frame : ℕ) → IsSource states movable marked fingers frame → (nat_le fingers.migrate frame && is_source states movable marked frame) ≡ true
  source_stops frame is =
      let low = le-leb fingers.migrate frame is.low in
      (λ i. low i && (not (is.unmarked i) && (is.holds i && is.can_move i)))

  stops_source : (frame : ℕ) → frame < fingers.free → (nat_le fingers.migrate frame && is_source states movable marked frame) ≡ true → IsSource states movable marked fingers frame
  stops_source frame high e =
      let parts = and_parts (nat_le fingers.migrate frame) (is_source states movable marked frame) e in
      let inner = and_parts (not (is_marked marked frame)) (holds_at states frame && true_at movable frame) parts.1 in
      let own = and_parts (holds_at states frame) (true_at movable frame) inner.1 in
      record {
        holds = own.0;
        can_move = own.1;
        unmarked = not-true (is_marked marked frame) inner.0;
        low = leb-true fingers.migrate frame parts.0;
        high = high;
      }

  target_stops : (source frame : ℕ) → IsTarget states marked fingers source frame → (nat_lt source frame && is_target states marked frame) ≡ true
  target_stops source frame is =
      let low = lt-ltb source frame is.low in
      (λ i. low i && (not (is.unmarked i) && is.free i))

  stops_target : (source frame : ℕ) → frame < fingers.free → (nat_lt source frame && is_target states marked frame) ≡ true → IsTarget states marked fingers source frame
  stops_target source frame high e =
      let parts = and_parts (nat_lt source frame) (is_target states marked frame) e in
      let inner = and_parts (not (is_marked marked frame)) (free_at states frame) parts.1 in
      record {
        free = inner.1;
        unmarked = not-true (is_marked marked frame) inner.0;
        low = ltb-true source frame parts.0;
        high = high;
      }

  -- where no source was found there is no pair
  pub no_source : next_source states movable marked fingers ≡ None → (source target : ℕ) → IsPair states movable marked fingers source target → ⊥
  no_source none source target pair =
      clash _ (source_stops source pair.from) (no_lowest _ fingers.free source none pair.from.high)

  -- the source that was found is the lowest
  pub source_found : (source : ℕ) → next_source states movable marked fingers ≡ Some source → IsSource states movable marked fingers source
  source_found source from =
      let at = lowest_some _ fingers.free source from in stops_source source at.0 at.1

  lowest_found : (source frame : ℕ) → next_source states movable marked fingers ≡ Some source → IsSource states movable marked fingers frame → source ≤ frame
  lowest_found source frame from is = elim (leb_tells source frame) [
    | inl most ↦ most.1
    | inr less ↦ absurd (clash _ (source_stops frame is) (lowest_before _ fingers.free source frame from less.1))
  ]

  -- where the lowest source has no target there is no pair
  pub no_target : (found : ℕ) → next_source states movable marked fingers ≡ Some found → next_target states marked fingers found ≡ None → (source target : ℕ) → IsPair states movable marked fingers source target → ⊥
  no_target found from none source target pair =
      let low : found ≤ source = lowest_found found source from pair.from in
      let high : source ≤ found = pair.lowest found (source_found found from) in
      let same : source ≡ found = omega arith in
      clash _ (ap (λ s. nat_lt s target && is_target states marked target) (sym same) ∙ target_stops source target pair.to)
      (no_highest _ fingers.free target none pair.to.high)

  -- a source and a target that are found are the pair
  pub pair_found : (source target : ℕ) → next_source states movable marked fingers ≡ Some source → next_target states marked fingers source ≡ Some target → IsPair states movable marked fingers source target
  pair_found source target from to =
      let high = highest_some _ fingers.free target to in
      record {
        from = source_found source from;
        lowest = λ frame is. lowest_found source frame from is;
        to = stops_target source target high.0 high.1;
        highest = λ frame is. elim (leb_tells frame target) [
          | inl most ↦ most.1
          | inr more ↦ absurd (clash _ (target_stops source frame is) (highest_above _ fingers.free target frame to more.1 is.high))
        ];
      }

-- the target that was found is above the source and below the free finger
pub target_between : (free : ℕ → Bool) (marked : List Bool) (fingers : Fingers) (source target : ℕ) → highest (λ frame. nat_lt source frame && (not (is_marked marked frame) && free frame)) fingers.free ≡ Some target → (source < target) × (target < fingers.free)
target_between free marked fingers source target found =
    let at = highest_some _ fingers.free target found in
    let parts = and_parts (nat_lt source target) (not (is_marked marked target) && free target) at.1 in
    (ltb-true source target parts.0, at.0)
