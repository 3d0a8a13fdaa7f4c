-- What the scanner doesn't see: which of the moving pages have been moved already.
use Rattle.std.proofs.Common.{◌≡◌, ℕ, zero, suc, ◌+◌, ◌*◌, ◌/◌, ◌<◌, ◌≤◌, Bool, not, cond, ◌&&◌, ◌||◌, length, inl, inr, refl, sym, ap, ◌∙◌, arith, nat_eq, nat_le, nat_lt, Option, Some, None, is_none, ne_eqb}
use Rattle.std.specs.FinMap as map
use Rattle.std.specs.FinSet as set
use Rattle.std.proofs.lemmas.Bool.{and_parts, leb-true}
use Rattle.std.proofs.lemmas.Bool.Decides.{leb_tells}
use Rattle.frame_core.proofs.Searches.{lowest_same, lowest_some, some_same}
use Rattle.frame_core.specs.Below.{highest, lowest, some_below}
use Rattle.frame_core.specs.History.{pins}
use Rattle.frame_core.specs.Moves.{isolated, out}
use Rattle.state_core.specs.declared.placement.Placement.{Placement}
use Rattle.state_core.specs.declared.placement.Placement.TheVariants.{At, Moving}
use Rattle.state_core.specs.declared.error.ZoneError.TheVariants.{JournalFull}
use Rattle.state_core.specs.Isolating.{has_room_for_two, isolate_refusal}
use Rattle.state_core.specs.Packed.{is_place}
use Rattle.state_core.specs.Pairs.{is_marked, can_move, can_move_if_some, stands_in, holder, holds_movable, is_free_unmarked, next_source, next_target, pair_from, pair_at, next_pair}
use Rattle.state_core.specs.ZoneState.{ZoneState, frame_count, takes_up, covers, is_used, is_held}
use Rattle.zone_core.specs.Alone.{AreCarriedUp, IsSeenAs}
use Rattle.zone_core.specs.ByHand.{scan_pair}
use Rattle.zone_core.specs.Outcome.{Outcome, outcome_of, final_frame}
use Rattle.zone_core.proofs.Records.{pins-without_ends, isolated-without_ends}

pub same_highest : (p q : ℕ → Bool) (n : ℕ) → ((k : ℕ) → k < n → p k ≡ q k) → highest p n ≡ highest q n
same_highest p q zero same = refl
same_highest p q (suc n) same = λ i. cond (same n (omega arith) i) (Some n) (same_highest p q n (λ k h. same k (omega arith)) i)

-- between the fingers a moving page isn't seen

module _ (z : ZoneState) (carried : AreCarriedUp z) (page frame : ℕ) where
  seen_standing : frame < z.free → stands_in (map.get z.placement page) frame ≡ is_place (final_frame (map.get z.placement page)) frame
  seen_standing high = by (map.get z.placement page) refl where
    by : (o : Option Placement) → map.get z.placement page ≡ o → stands_in o frame ≡ is_place (final_frame o) frame
    by None e = refl
    by (Some (At f)) e = refl
    by (Some (Moving serial source target)) e = let past = (carried.each page serial source target e).high in sym (ne_eqb frame target (λ is. omega arith))

  seen_taking : z.migrate ≤ frame → takes_up (map.get z.placement page) frame ≡ is_place (final_frame (map.get z.placement page)) frame
  seen_taking low = by (map.get z.placement page) refl where
    by : (o : Option Placement) → map.get z.placement page ≡ o → takes_up o frame ≡ is_place (final_frame o) frame
    by None e = refl
    by (Some (At f)) e = refl
    by (Some (Moving serial source target)) e = let past = (carried.each page serial source target e).low in ap (λ b. b || nat_eq frame target) (ne_eqb frame source (λ is. omega arith))

pub seen_refl : (z : ZoneState) → IsSeenAs z z
seen_refl z = record { blocks = refl; migrate = refl; free = refl; marked = refl; claimed = refl; handed_out = refl; unmovable = refl; pins_are = λ p. refl; count = refl; spare = refl; stands = λ p f low high. refl; takes = λ p f low high. refl }

pub seen_trans : (z w v : ZoneState) → IsSeenAs z w → IsSeenAs w v → IsSeenAs z v
seen_trans z w v a b =
    let migrate = a.migrate in
    let free = a.free in
    record {
      blocks = a.blocks ∙ b.blocks;
      migrate = a.migrate ∙ b.migrate;
      free = a.free ∙ b.free;
      marked = a.marked ∙ b.marked;
      claimed = a.claimed ∙ b.claimed;
      handed_out = a.handed_out ∙ b.handed_out;
      unmovable = a.unmovable ∙ b.unmovable;
      pins_are = λ p. a.pins_are p ∙ b.pins_are p;
      count = a.count ∙ b.count;
      spare = a.spare ∙ b.spare;
      stands = λ p f low high. a.stands p f low high ∙ b.stands p f (omega arith) (omega arith);
      takes = λ p f low high. a.takes p f low high ∙ b.takes p f (omega arith) (omega arith);
    }

module _ (z w : ZoneState) (seen : IsSeenAs z w) where
  frames_same : frame_count z ≡ frame_count w
  frames_same = ap (λ n. 512 * n) seen.blocks

  holder_same : (frame : ℕ) → z.migrate ≤ frame → frame < z.free → holder z frame ≡ holder w frame
  holder_same frame low high =
      ap (lowest (λ page. stands_in (map.get z.placement page) frame)) frames_same
      ∙ lowest_same (λ page. stands_in (map.get z.placement page) frame) (λ page. stands_in (map.get w.placement page) frame) (frame_count w) (λ page h. seen.stands page frame low high)

  held_same : (frame : ℕ) → is_held z frame ≡ is_held w frame
  held_same frame = λ i. some_below (λ first. covers (map.get (seen.handed_out i) first) first frame) (512 * seen.blocks i) || set.contains (seen.claimed i) frame

  marked_same : (frame : ℕ) → is_marked z frame ≡ is_marked w frame
  marked_same frame = ap (λ m. set.contains m (frame / 512)) seen.marked

  can_move_same : (page : ℕ) → can_move z page ≡ can_move w page
  can_move_same page = λ i. nat_eq (seen.pins_are page i) 0 && not (set.contains (seen.unmovable i) page)

  if_some_same : (o : Option ℕ) → can_move_if_some z o ≡ can_move_if_some w o
  if_some_same None = refl
  if_some_same (Some page) = can_move_same page

  used_same : (frame : ℕ) → z.migrate ≤ frame → frame < z.free → is_used z frame ≡ is_used w frame
  used_same frame low high =
      ap (some_below (λ page. takes_up (map.get z.placement page) frame)) frames_same
      ∙ sym (some_same (λ page. takes_up (map.get z.placement page) frame) (λ page. takes_up (map.get w.placement page) frame) (frame_count w) (λ page h. seen.takes page frame low high))

  room_same : (frame : ℕ) → z.migrate ≤ frame → frame < z.free → is_free_unmarked z frame ≡ is_free_unmarked w frame
  room_same frame low high = λ i. not (marked_same frame i) && (not (used_same frame low high i) && not (held_same frame i))

  movable_same : (frame : ℕ) → z.migrate ≤ frame → frame < z.free → holds_movable z frame ≡ holds_movable w frame
  movable_same frame low high =
      let page = ap (can_move_if_some z) (holder_same frame low high) ∙ if_some_same (holder w frame) in
      λ i. not (marked_same frame i) && page i

  source_test : (frame : ℕ) → frame < z.free → (nat_le z.migrate frame && holds_movable z frame) ≡ (nat_le w.migrate frame && holds_movable w frame)
  source_test frame high = elim (leb_tells z.migrate frame) [
    | inl above ↦ (λ i. nat_le (seen.migrate i) frame && movable_same frame above.1 high i)
    | inr under ↦
        (let same = ap (λ n. nat_le n frame) seen.migrate in
        ap (λ b. b && holds_movable z frame) under.0 ∙ sym (ap (λ b. b && holds_movable w frame) (sym same ∙ under.0)))
  ]

  source_same : next_source z ≡ next_source w
  source_same =
      lowest_same (λ frame. nat_le z.migrate frame && holds_movable z frame) (λ frame. nat_le w.migrate frame && holds_movable w frame) z.free source_test
      ∙ ap (lowest (λ frame. nat_le w.migrate frame && holds_movable w frame)) seen.free

  target_test : (source frame : ℕ) → z.migrate ≤ source → frame < z.free → (nat_lt source frame && is_free_unmarked z frame) ≡ (nat_lt source frame && is_free_unmarked w frame)
  target_test source frame low high = elim (leb_tells (suc source) frame) [
    | inl above ↦ ap (λ b. nat_lt source frame && b) (room_same frame (omega (arith, above.1)) high)
    | inr under ↦ ap (λ b. b && is_free_unmarked z frame) under.0 ∙ sym (ap (λ b. b && is_free_unmarked w frame) under.0)
  ]

  target_same : (source : ℕ) → z.migrate ≤ source → next_target z source ≡ next_target w source
  target_same source low =
      same_highest (λ frame. nat_lt source frame && is_free_unmarked z frame) (λ frame. nat_lt source frame && is_free_unmarked w frame) z.free (λ frame h. target_test source frame low h)
      ∙ ap (highest (λ frame. nat_lt source frame && is_free_unmarked w frame)) seen.free

  at_same : (o : Option ℕ) → next_source z ≡ o → pair_at z o ≡ pair_at w o
  at_same None e = refl
  at_same (Some source) e =
      let found = lowest_some (λ frame. nat_le z.migrate frame && holds_movable z frame) z.free source e in
      let low = leb-true z.migrate source (and_parts (nat_le z.migrate source) (holds_movable z source) found.1).0 in
      λ i. pair_from source (holder_same source low found.0 i) (target_same source low i)

  pub pair_same : next_pair z ≡ next_pair w
  pair_same = at_same (next_source z) refl ∙ ap (pair_at w) source_same

  room_for_two : has_room_for_two z ≡ has_room_for_two w
  room_for_two =
      let spare = seen.spare in
      elim (leb_tells (suc (length (out z.records) + 1)) z.room) [
        | inl a ↦ elim (leb_tells (suc (length (out w.records) + 1)) w.room) [ inl b ↦ a.0 ∙ sym b.0 | inr b ↦ absurd (omega (arith, a.1, b.1, spare)) ]
        | inr a ↦ elim (leb_tells (suc (length (out w.records) + 1)) w.room) [ inl b ↦ absurd (omega (arith, a.1, b.1, spare)) | inr b ↦ a.0 ∙ sym b.0 ]
      ]

  pub refusal_same : isolate_refusal z ≡ isolate_refusal w
  refusal_same = λ i. cond (room_for_two i) None (Some JournalFull)

  pub pair_seen : scan_pair z ≡ scan_pair w
  pair_seen = λ i. cond (is_none (refusal_same i)) (pair_same i) None

-- the scanner can't tell zones apart that come to the same

module _ (z w : ZoneState) (same : outcome_of z ≡ outcome_of w) (carried_z : AreCarriedUp z) (carried_w : AreCarriedUp w) where
  free_same : z.free ≡ w.free
  free_same = ap (λ (r : Outcome). r.free) same

  migrate_same : z.migrate ≡ w.migrate
  migrate_same = ap (λ (r : Outcome). r.migrate) same

  pub seen_outcome : IsSeenAs z w
  seen_outcome = record {
    blocks = ap (λ (r : Outcome). r.blocks) same;
    migrate = migrate_same;
    free = free_same;
    marked = ap (λ (r : Outcome). r.marked) same;
    claimed = ap (λ (r : Outcome). r.claimed) same;
    handed_out = ap (λ (r : Outcome). r.handed_out) same;
    unmovable = ap (λ (r : Outcome). r.unmovable) same;
    pins_are = λ page. sym (pins-without_ends z.records page) ∙ ap (λ (r : Outcome). pins r.records page) same ∙ pins-without_ends w.records page;
    count = sym (isolated-without_ends z.records) ∙ ap (λ (r : Outcome). isolated r.records) same ∙ isolated-without_ends w.records;
    spare = ap (λ (r : Outcome). r.room) same;
    stands = λ page frame low high.
        seen_standing z carried_z page frame high
        ∙ ap (λ (r : Outcome). is_place (r.frame page) frame) same
        ∙ sym (seen_standing w carried_w page frame (omega (arith, free_same)));
    takes = λ page frame low high.
        seen_taking z carried_z page frame low
        ∙ ap (λ (r : Outcome). is_place (r.frame page) frame) same
        ∙ sym (seen_taking w carried_w page frame (omega (arith, migrate_same)));
  }

  pub pair_of_outcome : scan_pair z ≡ scan_pair w
  pair_of_outcome = pair_seen z w seen_outcome
