-- The pair that a search finds is the next one, and where it finds none there is none.
use Rattle.std.proofs.Common.{◌≡◌, ℕ, ◌<◌, ◌≤◌, Bool, true, not, inl, inr, refl, sym, ap, subst, ◌∙◌, arith, Option, Some, None, IfNone, nat_le, nat_lt, ◌&&◌}
use Rattle.std.proofs.lemmas.Bool.{and_parts, both_ways, false_from_ne_true, not-true, ltb-true, leb-true, lt-ltb, le-leb}
use Rattle.std.proofs.lemmas.Bool.Decides.{leb_tells}
use Rattle.std.proofs.lemmas.Option.{same_Some, none-some}
use Rattle.frame_core.proofs.Searches.{lowest_is, lowest_some, lowest_before}
use Rattle.state_core.specs.declared.round.Pair.{Pair}
use Rattle.state_core.specs.Valid.{IsValidZone}
use Rattle.state_core.specs.Pairs.{IsSource, IsTarget, IsPair, HaveMet, is_marked, can_move, can_move_if_some, holder, holds_movable, is_free_unmarked, next_source, next_target, pair_from, pair_at, next_pair}
use Rattle.state_core.specs.ZoneState.{ZoneState, frame_count, is_free}
use Rattle.frame_core.proofs.Bounds.{highest_is, highest_some, highest_above}
use Rattle.state_core.proofs.Holding.{holder_at, holder_found}

-- where a page that may be none may be taken, there is one
page_of_some : (v : ZoneState) (o : Option ℕ) → can_move_if_some v o ≡ true →
    (page : ℕ) × (o ≡ Some page) × (can_move v page ≡ true)
page_of_some v None e = cc
page_of_some v (Some page) e = (page, refl, e)

-- whether the search for a source stops at a frame
abbrev pub is_from : ZoneState → ℕ → Bool
is_from v frame = nat_le v.migrate frame && holds_movable v frame

abbrev pub is_to : ZoneState → ℕ → ℕ → Bool
is_to v source frame = nat_lt source frame && is_free_unmarked v frame

module _ (v : ZoneState) (law : IsValidZone v) where
  pub source_passes : (page frame : ℕ) → IsSource v page frame → is_from v frame ≡ true
  source_passes page frame is =
      let holds = holder_at v law page frame is.here in
      let low = le-leb v.migrate frame is.low in
      (λ i. low i && (not (is.unmarked i) && can_move_if_some v (holds i))) ∙ is.movable

  pub passes_source : (frame : ℕ) → frame < v.free → is_from v frame ≡ true →
      (page : ℕ) × (holder v frame ≡ Some page) × IsSource v page frame
  passes_source frame high e =
      let parts = and_parts (nat_le v.migrate frame) (holds_movable v frame) e in
      let inner = and_parts (not (is_marked v frame)) (can_move_if_some v (holder v frame)) parts.1 in
      let page = page_of_some v (holder v frame) inner.1 in (
        page.0,
        page.1,
        record {
          here = holder_found v page.0 frame page.1;
          movable = page.2;
          unmarked = not-true (is_marked v frame) inner.0;
          low = leb-true v.migrate frame parts.0;
          high = high;
        },
      )

  pub target_passes : (source frame : ℕ) → IsTarget v source frame → is_to v source frame ≡ true
  target_passes source frame is =
      let low = lt-ltb source frame is.low in
      (λ i. low i && (not (is.unmarked i) && is_free v frame)) ∙ is.free

  passes_target : (source frame : ℕ) → frame < v.free → is_to v source frame ≡ true → IsTarget v source frame
  passes_target source frame high e =
      let parts = and_parts (nat_lt source frame) (is_free_unmarked v frame) e in
      let inner = and_parts (not (is_marked v frame)) (is_free v frame) parts.1 in
      record {
        free = inner.1;
        unmarked = not-true (is_marked v frame) inner.0;
        low = ltb-true source frame parts.0;
        high =
            high;
      }

  -- where there is a pair, the search finds it
  pair_is : (page source target : ℕ) → IsPair v page source target →
      next_pair v ≡ Some (record { page = page; source = source; target = target })
  pair_is page source target pair =
      let from : next_source v ≡ Some source =
      lowest_is (is_from v) v.free source pair.from.high (source_passes page source pair.from)
      (λ j h. false_from_ne_true (is_from v j) (λ e.
      (let one = passes_source j (let high = pair.from.high in omega arith) e in
      let least : source ≤ j = pair.lowest one.0 j one.2 in omega arith))) in
      let to : next_target v source ≡ Some target =
      highest_is (is_to v source) v.free target pair.to.high (target_passes source target pair.to)
      (λ j h high. false_from_ne_true (is_to v source j) (λ e.
      (let most : j ≤ target = pair.highest j (passes_target source j high e) in omega arith))) in
      ap (pair_at v) from ∙ ap (λ (o : Option ℕ). pair_from source o (next_target v source))
      (holder_at v law page source pair.from.here)
      ∙ ap (pair_from source (Some page)) to

  -- what the search finds is the pair
  pub found_pair : (page source target : ℕ) → next_source v ≡ Some source → holder v source ≡ Some page →
      next_target v source ≡ Some target → IsPair v page source target
  found_pair page source target from holds to =
      let low = lowest_some (is_from v) v.free source from in
      let one = passes_source source low.0 low.1 in
      let same : one.0 ≡ page = same_Some one.0 page (sym one.1 ∙ holds) in
      let high = highest_some (is_to v source) v.free target to in
      record {
        from = subst (λ p. IsSource v p source) same one.2;
        lowest = λ other frame is. elim (leb_tells source frame) [
          | inl most ↦ most.1
          | inr less ↦ absurd (both_ways _ (lowest_before (is_from v) v.free source frame from less.1)
              (source_passes other frame is))
        ];
        to = passes_target source target high.0 high.1;
        highest = λ frame is. elim (leb_tells frame target) [
          | inl most ↦ most.1
          | inr more ↦ absurd (both_ways _ (highest_above (is_to v source) v.free target frame to more.1 is.high)
              (target_passes source frame is))
        ];
      }

pub pair_found : (v : ZoneState) → IsValidZone v → (pair : Pair) → next_pair v ≡ Some pair → IsPair v pair.page pair.source pair.target
pair_found v law pair e = by_source (next_source v) refl e where
  by_parts : (source : ℕ) (p t : Option ℕ) → next_source v ≡ Some source → holder v source ≡ p → next_target v source ≡ t → pair_from source p t ≡ Some pair → IsPair v pair.page pair.source pair.target
  by_parts source None t from holds to e = cc
  by_parts source (Some page) None from holds to e = cc
  by_parts source (Some page) (Some target) from holds to e = subst (λ (q : Pair). IsPair v q.page q.source q.target) (same_Some _ pair e) (found_pair v law page source target from holds to)

  by_source : (o : Option ℕ) → next_source v ≡ o → pair_at v o ≡ Some pair → IsPair v pair.page pair.source pair.target
  by_source None from e = cc
  by_source (Some source) from e = by_parts source (holder v source) (next_target v source) from refl refl e

-- where the search finds no pair there is none
pub no_pair : (v : ZoneState) → IsValidZone v → next_pair v ≡ None → HaveMet v
no_pair v law none page source target pair = none-some _ (sym none ∙ pair_is v law page source target pair)

-- the same, for a search whose result has a name
pub none_found : (v : ZoneState) → IsValidZone v → (o : Option Pair) → o ≡ None → next_pair v ≡ None →
    IfNone o (HaveMet v)
none_found v law None e none = no_pair v law none
none_found v law (Some pair) e none = cc

no_target : (source : ℕ) (o : Option ℕ) → pair_from source o None ≡ None
no_target source None = refl
no_target source (Some page) = refl

pub no_target_pair : (v : ZoneState) (source : ℕ) → next_source v ≡ Some source → next_target v source ≡ None →
    next_pair v ≡ None
no_target_pair v source from none = ap (pair_at v) from ∙ ap (pair_from source (holder v source)) none
    ∙ no_target source (holder v source)

pub no_page_pair : (v : ZoneState) (source : ℕ) → next_source v ≡ Some source → holder v source ≡ None → next_pair v ≡ None
no_page_pair v source from none = ap (pair_at v) from ∙ ap (λ (o : Option ℕ). pair_from source o (next_target v source)) none

-- a source that is found is in the zone
pub source_within : (v : ZoneState) → IsValidZone v → (source : ℕ) → next_source v ≡ Some source → source < frame_count v
source_within v law source from =
    let found = lowest_some (is_from v) v.free source from in
    omega (arith, found.0, law.fingers.ordered.1)

-- the pair that the search finds has the source, its page and the target that were found
pub pair_of : (v : ZoneState) (source page target : ℕ) → next_source v ≡ Some source →
    next_target v source ≡ Some target → holder v source ≡ Some page →
    next_pair v ≡ Some (record { page = page; source = source; target = target })
pair_of v source page target from to holds =
    ap (pair_at v) from ∙ (λ i. pair_from source (holds i) (to i))
