-- Workers who empty runs come to what one thread comes to: each step of theirs keeps it.
use Rattle.std.proofs.Common.{◌≡◌, ◌≢◌, ◌⊎◌, ℕ, zero, suc, ◌+◌, ◌-◌, ◌*◌, ◌/◌, ◌^◌, ◌<◌, ◌≤◌, Bool, true, false, not, ◌&&◌, ◌||◌, cond, List, [], ◌∷◌, length, inl, inr, refl, sym, ap, subst, ◌∙◌, arith, Option, Some, None, All, is_some, nat_eq, if◌then◌else◌}
use Rattle.std.specs.Prelude.{⊤, option_map}
use Rattle.std.specs.Cmp.{nat_cmp_total}
use Rattle.std.specs.FinMap as map
use Rattle.std.specs.FinSet as set
use Rattle.std.proofs.Math.Bool.{or-false}
use Rattle.std.proofs.lemmas.Bool.{and_from, and_left, and_parts, and_right, both_ways, cases_Bool, cond_both, eq-eqb, eqb-true, false≢true, false_from_ne_true, lt-ltb, ne_eqb, not-true, or_cases, or_from, or_left, or_parts, or_right}
use Rattle.std.proofs.lemmas.Bool.Decides.{eqb_tells}
use Rattle.std.proofs.lemmas.Option.{same_Some}
use Rattle.frame_core.proofs.Bounds.{highest_some}
use Rattle.frame_core.proofs.Searches.{count_more, count_none, count_same, lowest_none, lowest_same, lowest_some, no_lowest, none_some, some_at, some_none, some_same}
use Rattle.frame_core.specs.Below.{count_below, highest, lowest, some_below}
use Rattle.frame_core.specs.declared.record.Record.{Record}
use Rattle.frame_core.specs.declared.record.Record.TheVariants.{Back, Isolate, Moved}
use Rattle.frame_core.specs.History.{pins}
use Rattle.frame_core.specs.Moves.{isolated, moved, out, put_back}
use Rattle.state_core.specs.declared.error.ZoneError.TheVariants.{JournalFull}
use Rattle.state_core.specs.declared.moves.Ended.TheVariants as ended
use Rattle.state_core.specs.declared.placement.Placement.{Placement}
use Rattle.state_core.specs.declared.placement.Placement.TheVariants.{At, Moving}
use Rattle.frame_core.specs.declared.record.Cause.TheVariants.{Pinned}
use Rattle.state_core.specs.Claiming.{claimed_at, run_claimed}
use Rattle.state_core.specs.Ending.{ended_as, moved_to_target, put_back_to_source, target_of}
use Rattle.state_core.specs.Isolating.{isolate_refusal}
use Rattle.state_core.specs.LentMoves.{move_returned}
use Rattle.state_core.specs.Pairs.{can_move, can_move_if_some, holder, is_free_unmarked, stands_in}
use Rattle.state_core.specs.Valid.{IsValidZone}
use Rattle.state_core.specs.ZoneState.{ZoneState, covers, frame_count, is_free, is_handed_out, is_held, is_used, takes_up}
use Rattle.state_core.proofs.Claiming.{valid_claimed_at, valid_run_claimed, with_run_has}
use Rattle.state_core.proofs.Ending.{out_fewer}
use Rattle.state_core.proofs.Entries.{contains_insert_same, contains_insert_other, get_insert_same, get_insert_other}
use Rattle.state_core.proofs.Facts.{not_none, room_for_two}
use Rattle.state_core.proofs.Holding.{at_rest, at_takes, holder_found, stands_at}
use Rattle.fewest_core.specs.Claims.{highest_vacant, may_go, next_to_go}
use Rattle.fewest_core.specs.Evacuation.{is_in_run, moved_away}
use Rattle.fewest_core.specs.FewestMoves.{Move, IsMove, under_way}
use Rattle.fewest_core.specs.Reservation.{is_in_runs}
use Rattle.fewest_core.specs.Sending.{claimed_if_moved, move_between, next_move_from, sent}
use Rattle.fewest_core.proofs.Evacuation.{as_many_out, valid_moved_away}
use Rattle.fewest_core.proofs.Moves.{free_unused, others_same, page_there, stays_used}
use Rattle.fewest_core.proofs.OpenRuns.{block_within}
use Rattle.fewest_core.proofs.Reached.{HasOwnFrames, own_if_valid, source_unused}
use Rattle.worker_threads.specs.Alone.{unlent}
use Rattle.worker_threads.specs.AloneLaws.{valid_unlent}
use Rattle.worker_threads.specs.Emptied.{AreGoingOut, ComesTo, Emptying, HasComeTo, emptying_begun, is_leaving, is_left, moved_out_by, page_out, pages_out, places_for_moves, to_go}
use Rattle.worker_threads.specs.Runs.{AreBlocks, Runs}
use Rattle.worker_threads.specs.Work.{first_move, move_out, page_ended, runs_claimed, still_left, work_begun}
use Rattle.worker_threads.specs.declared.work.Work.TheVariants.{Empty}
use Rattle.zone_core.specs.Outcome.{IsSame, Outcome, final_frame, outcome_of, without_ends}
use Rattle.zone_core.proofs.ByHand.{same_outcome}
use Rattle.zone_core.proofs.Records.{isolated-without_ends, pins-without_ends}
use Rattle.zone_core.proofs.Scanning.{not_moving, placed_same}

-- a number passes one of two tests
both_or : (a b c d : Bool) → ((a || b) || (c || d)) ≡ ((a || c) || (b || d))
both_or a b c d = grind arith

some_or : (p q r : ℕ → Bool) (n : ℕ) → ((k : ℕ) → p k ≡ (q k || r k)) → some_below p n ≡ (some_below q n || some_below r n)
some_or p q r zero each = refl
some_or p q r (suc n) each = (λ i. each n i || some_or p q r n each i) ∙ both_or (q n) (r n) (some_below q n) (some_below r n)

-- where a page is once its move ended, if it is moving
abbrev arrived : Option Placement → Option Placement
arrived None = None
arrived (Some (At frame)) = Some (At frame)
arrived (Some (Moving serial source target)) = Some (At target)

arrived_is : (o p : Option Placement) → ((s a b : ℕ) → p ≡ Some (Moving s a b) → ⊥) → final_frame o ≡ final_frame p → p ≡ arrived o
arrived_is o (Some (Moving s a b)) never e = absurd (never s a b refl)
arrived_is None None never e = refl
arrived_is (Some (At f)) (Some (At g)) never e = ap (λ (n : ℕ). Some (At n)) (sym (same_Some f g e))
arrived_is (Some (Moving s a b)) (Some (At g)) never e = ap (λ (n : ℕ). Some (At n)) (sym (same_Some b g e))
arrived_is (Some (At f)) None never e = cc
arrived_is (Some (Moving s a b)) None never e = cc
arrived_is None (Some (At g)) never e = cc

stands_arrived : (o : Option Placement) (frame : ℕ) → ((s a b : ℕ) → o ≡ Some (Moving s a b) → nat_eq frame b ≡ false) → stands_in o frame ≡ stands_in (arrived o) frame
stands_arrived None frame off = refl
stands_arrived (Some (At f)) frame off = refl
stands_arrived (Some (Moving s a b)) frame off = sym (off s a b refl)

or_swapped : (a b : Bool) → (a || b) ≡ (b || a)
or_swapped a b = grind arith

takes_arrived : (o : Option Placement) (frame : ℕ) → takes_up o frame ≡ (takes_up (arrived o) frame || is_leaving o frame)
takes_arrived None frame = refl
takes_arrived (Some (At f)) frame = sym (or-false (nat_eq frame f))
takes_arrived (Some (Moving s a b)) frame = or_swapped (nat_eq frame a) (nat_eq frame b)

-- what is free where the frames that pages leave are used, and where they are claimed
free_either : (used left handed claim : Bool) → (not (used || left) && not (handed || claim)) ≡ (not used && not (handed || (claim || left)))
free_either used left handed claim = grind arith

-- two tests that are alike where a first one passes
if_there : (is_in : ℕ → Bool) (frame : ℕ) (a b : Bool) → (is_in frame ≡ true → a ≡ b) → (is_in frame && a) ≡ (is_in frame && b)
if_there is_in frame a b same = elim (cases_Bool (is_in frame)) [
  | inl there ↦ ap (λ c. is_in frame && c) (same there)
  | inr off ↦ and_left _ _ off ∙ sym (and_left _ _ off)
]

-- the frames of each of these runs pass
abbrev AreWithin : (ℕ → Bool) → ℕ → List ℕ → Type 0
AreWithin is_in size [] = ⊤
AreWithin is_in size (first ∷ firsts) = ((frame : ℕ) → is_in_run first size frame ≡ true → is_in frame ≡ true) × AreWithin is_in size firsts

within_more : (a b : ℕ → Bool) (size : ℕ) (firsts : List ℕ) → ((frame : ℕ) → a frame ≡ true → b frame ≡ true) → AreWithin a size firsts → AreWithin b size firsts
within_more a b size [] more within = tt
within_more a b size (first ∷ firsts) more within = (λ frame there. more frame (within.0 frame there), within_more a b size firsts more within.1)

within_runs : (size : ℕ) (firsts : List ℕ) → AreWithin (is_in_runs firsts size) size firsts
within_runs size [] = tt
within_runs size (first ∷ firsts) = (
  λ frame there. or_left (is_in_run first size frame) _ there,
  within_more (is_in_runs firsts size) (is_in_runs (first ∷ firsts) size) size firsts (λ frame there. or_right (is_in_run first size frame) _ there) (within_runs size firsts),
)

within_left : (is_in : ℕ → Bool) (size : ℕ) (z : ZoneState) (firsts : List ℕ) → AreWithin is_in size firsts → AreWithin is_in size (still_left size z firsts)
within_left is_in size z [] within = tt
within_left is_in size z (first ∷ firsts) within = cond_both (is_some (next_move_from first size z)) (first ∷ firsts) (still_left size z firsts) (AreWithin is_in size) (λ e. within) (λ e. within_left is_in size z firsts within.1)

within_out : (is_in : ℕ → Bool) (size n : ℕ) (e : Emptying) → AreWithin is_in size e.left → AreWithin is_in size (pages_out size n e).left
within_out is_in size zero e within = within
within_out is_in size (suc n) e within = let before = pages_out size n e in within_left is_in size before.zone before.left (within_out is_in size n e within)

-- the move of a page from a source to a target
abbrev move_at : ℕ → ℕ → ℕ → Move
move_at source target page = record { page = page; source = source; target = target }

-- a move has its page from its source, which goes to the highest vacant frame
record IsBetween (z : ZoneState) (o p : Option ℕ) (m : Move) : Type 0 where
  source_is : o ≡ Some m.source
  target_is : p ≡ Some m.target
  holds : holder z m.source ≡ Some m.page

move_held : (z : ZoneState) (source target : ℕ) (m : Move) (h : Option ℕ) → holder z source ≡ h → option_map (move_at source target) h ≡ Some m → IsBetween z (Some source) (Some target) m
move_held z source target m None holds e = cc
move_held z source target m (Some page) holds e =
    let same : move_at source target page ≡ m = same_Some _ m e in
    record {
      source_is = ap (λ (n : Move). Some n.source) same;
      target_is = ap (λ (n : Move). Some n.target) same;
      holds = sym (ap (λ (n : Move). holder z n.source) same) ∙ holds ∙ ap (λ (n : Move). Some n.page) same;
    }

move_found : (z : ZoneState) (o p : Option ℕ) (m : Move) → move_between z o p ≡ Some m → IsBetween z o p m
move_found z (Some source) (Some target) m e = move_held z source target m (holder z source) refl e
move_found z (Some source) None m e = cc
move_found z None p m e = cc

between_same : (z w : ZoneState) (o p : Option ℕ) → ((source : ℕ) → o ≡ Some source → holder z source ≡ holder w source) → move_between z o p ≡ move_between w o p
between_same z w (Some source) (Some target) same = ap (option_map (move_at source target)) (same source refl)
between_same z w (Some source) None same = refl
between_same z w None p same = refl

-- a frame that isn't free stays so where a page goes and its source is claimed
shut_still : (z : ZoneState) (m : Move) → IsMove z m → (frame : ℕ) → is_free z frame ≡ false → is_free (claimed_at (moved_away z m) m.source) frame ≡ false
shut_still z m may frame shut = elim (eqb_tells frame m.source) [
  | inl same ↦ and_right (not (is_used (moved_away z m) frame)) _ (ap not (or_right (is_handed_out z frame) _ (contains_insert_same z.claimed m.source frame same.1)))
  | inr other ↦ false_from_ne_true _ (λ free.
      (let parts = and_parts (not (is_used (moved_away z m) frame)) (not (is_held (claimed_at (moved_away z m) m.source) frame)) free in
      let held : is_held (claimed_at (moved_away z m) m.source) frame ≡ is_held z frame = ap (λ b. is_handed_out z frame || b) (contains_insert_other z.claimed m.source frame other.1) in
      let unused : is_used z frame ≡ false = false_from_ne_true _ (λ used. both_ways _ (not-true _ parts.0) (stays_used z m may frame other.1 used)) in
      both_ways _ shut (and_from (not (is_used z frame)) (not (is_held z frame)) (ap not unused) (ap not (sym held ∙ not-true _ parts.1)))))
]

-- a page goes to a frame that is free
module _ (z : ZoneState) (own : HasOwnFrames z) (first size : ℕ) (m : Move) (next : next_move_from first size z ≡ Some m) where
  between : IsBetween z (next_to_go first size z) (highest_vacant z) m
  between = move_found z (next_to_go first size z) (highest_vacant z) m next

  source_goes : (m.source < frame_count z) × ((is_in_run first size m.source && may_go z m.source) ≡ true)
  source_goes = lowest_some (λ frame. is_in_run first size frame && may_go z frame) (frame_count z) m.source between.source_is

  goes : may_go z m.source ≡ true
  goes = (and_parts (is_in_run first size m.source) _ source_goes.1).1

  target_free : (m.target < frame_count z) × (is_free_unmarked z m.target ≡ true)
  target_free = highest_some (is_free_unmarked z) (frame_count z) m.target between.target_is

  was_here : map.get z.placement m.page ≡ Some (At m.source)
  was_here = holder_found z m.page m.source between.holds

  is_move : IsMove z m
  is_move = record { known = own.numbered m.page m.source (at_takes _ m.source was_here); here = was_here; movable = ap (can_move_if_some z) (sym between.holds) ∙ goes; within = target_free.0; vacant = target_free.1 }

  abbrev gone_out : ZoneState
  gone_out = claimed_at (moved_away z m) m.source

  -- each frame is still of one page at most
  took : (page frame : ℕ) → takes_up (map.get gone_out.placement page) frame ≡ true → ((page ≡ m.page) × (frame ≡ m.target)) ⊎ ((page ≢ m.page) × (takes_up (map.get z.placement page) frame ≡ true))
  took page frame takes = elim (eqb_tells page m.page) [
    | inl same ↦ inl (same.1, eqb-true frame m.target (sym (ap (λ o. takes_up o frame) (ap (map.get gone_out.placement) same.1 ∙ page_there z m)) ∙ takes))
    | inr other ↦ inr (other.1, sym (ap (λ o. takes_up o frame) (others_same z m page other.1)) ∙ takes)
  ]

  untaken : (page frame : ℕ) → frame ≡ m.target → takes_up (map.get z.placement page) frame ≡ true → ⊥
  untaken page frame same takes =
      let there = ap (takes_up (map.get z.placement page)) (sym same) ∙ takes in
      both_ways _ (free_unused z m.target target_free.1) (some_at (λ q. takes_up (map.get z.placement q) m.target) (frame_count z) page (own.numbered page m.target there) there)

  own_after : HasOwnFrames gone_out
  own_after = record {
    numbered = λ page frame takes. elim (took page frame takes) [ inl mine ↦ omega (arith, mine.0, is_move.known) | inr other ↦ own.numbered page frame other.1 ];
    apart = λ p q frame a b. elim (took p frame a) [
      | inl x ↦ elim (took q frame b) [ inl y ↦ x.0 ∙ sym y.0 | inr y ↦ absurd (untaken q frame x.1 y.1) ]
      | inr x ↦ elim (took q frame b) [ inl y ↦ absurd (untaken p frame y.1 x.1) | inr y ↦ own.apart p q frame x.1 y.1 ]
    ];
  }

  -- the source is free until it is claimed, and no page is left in it
  source_left : IsValidZone z → is_free (moved_away z m) m.source ≡ true
  source_left law = and_from _ _ (ap not (source_unused z m is_move own)) (ap not (law.pages.clear m.page m.source (at_takes _ m.source was_here)))

  source_stays : may_go gone_out m.source ≡ false
  source_stays = ap (can_move_if_some gone_out) (lowest_none (λ page. stands_in (map.get gone_out.placement page) m.source) (frame_count z) (λ page h. false_from_ne_true _ (λ stands.
      both_ways _ (some_none (λ q. takes_up (map.get gone_out.placement q) m.source) (frame_count z) (source_unused z m is_move own) page h) (at_takes _ m.source (stands_at _ m.source stands)))))

  module _ (is_in : ℕ → Bool) (within : (frame : ℕ) → is_in_run first size frame ≡ true → is_in frame ≡ true) (shut : (frame : ℕ) → is_in frame ≡ true → is_free z frame ≡ false) where
    not_target : (frame : ℕ) → is_in frame ≡ true → frame ≢ m.target
    not_target frame there same = both_ways _ (shut frame there) (ap (is_free z) same ∙ (and_parts _ _ target_free.1).1)

    shut_after : (frame : ℕ) → is_in frame ≡ true → is_free gone_out frame ≡ false
    shut_after frame there = shut_still z m is_move frame (shut frame there)

    -- the other frames of the runs hold the same pages
    by_some : (o : Option ℕ) → can_move_if_some gone_out o ≡ can_move_if_some z o
    by_some None = refl
    by_some (Some page) = refl

    others_stay : (frame : ℕ) → is_in frame ≡ true → frame ≢ m.source → may_go gone_out frame ≡ may_go z frame
    others_stay frame there ne =
        by_some (holder gone_out frame)
        ∙ ap (can_move_if_some z) (lowest_same (λ page. stands_in (map.get gone_out.placement page) frame) (λ page. stands_in (map.get z.placement page) frame) (frame_count z) (λ page h. elim (eqb_tells page m.page) [
          | inl same ↦
              (ap (λ o. stands_in o frame) (ap (map.get gone_out.placement) same.1 ∙ page_there z m) ∙ ne_eqb frame m.target (not_target frame there)
              ∙ sym (ap (λ o. stands_in o frame) (ap (map.get z.placement) same.1 ∙ was_here) ∙ ne_eqb frame m.source ne))
          | inr other ↦ ap (λ o. stands_in o frame) (others_same z m page other.1)
        ]))

    gone_one : to_go is_in z ≡ to_go is_in gone_out + 1
    gone_one = count_more (λ frame. is_in frame && may_go gone_out frame) (λ frame. is_in frame && may_go z frame) (frame_count z) m.source source_goes.0
        (and_right (is_in m.source) _ source_stays)
        (and_from _ _ (within m.source (and_parts (is_in_run first size m.source) _ source_goes.1).0) goes)
        (λ frame ne. if_there is_in frame (may_go z frame) (may_go gone_out frame) (λ there. sym (others_stay frame there ne)))

    -- a page that may not go doesn't later
    stays_done : (frame : ℕ) → is_in frame ≡ true → may_go z frame ≡ false → may_go gone_out frame ≡ false
    stays_done frame there done = elim (eqb_tells frame m.source) [
      | inl same ↦ ap (may_go gone_out) same.1 ∙ source_stays
      | inr other ↦ others_stay frame there other.1 ∙ done
    ]

-- a zone and the one that it comes to
module _ (is_in : ℕ → Bool) (w z : ZoneState) (c : ComesTo is_in w z) where
  stands : (page serial source target : ℕ) → map.get w.placement page ≡ Some (Moving serial source target) → ⊥
  stands = at_rest w c.valid (ap length c.rests)

  frame_same : (page : ℕ) → final_frame (map.get z.placement page) ≡ final_frame (map.get w.placement page)
  frame_same page = ap (λ (r : Outcome). r.frame page) c.outcome

  there : (page : ℕ) → map.get w.placement page ≡ arrived (map.get z.placement page)
  there page = arrived_is (map.get z.placement page) (map.get w.placement page) (stands page) (frame_same page)

  blocks_same : z.blocks ≡ w.blocks
  blocks_same = ap (λ (r : Outcome). r.blocks) c.outcome

  pins_same : (page : ℕ) → pins z.records page ≡ pins w.records page
  pins_same page = sym (pins-without_ends z.records page) ∙ ap (λ (r : Outcome). pins r.records page) c.outcome ∙ pins-without_ends w.records page

  serial_same : isolated z.records ≡ isolated w.records
  serial_same = sym (isolated-without_ends z.records) ∙ ap (λ (r : Outcome). isolated r.records) c.outcome ∙ isolated-without_ends w.records

  can_same : (page : ℕ) → can_move z page ≡ can_move w page
  can_same page = (λ i. nat_eq (pins_same page i) 0 && not (set.contains z.unmovable page)) ∙ ap (λ (r : Outcome). nat_eq (pins w.records page) 0 && not (set.contains r.unmovable page)) c.outcome

  -- a frame of the runs holds the same page in both
  off_target : (frame : ℕ) → is_in frame ≡ true → (page s a b : ℕ) → map.get z.placement page ≡ Some (Moving s a b) → nat_eq frame b ≡ false
  off_target frame within page s a b at = ne_eqb frame b (λ same. both_ways _ (c.going.outside page s a b at) (ap is_in (sym same) ∙ within))

  holder_same : (frame : ℕ) → is_in frame ≡ true → holder z frame ≡ holder w frame
  holder_same frame within =
      lowest_same (λ page. stands_in (map.get z.placement page) frame) (λ page. stands_in (map.get w.placement page) frame) (frame_count z)
      (λ page h. stands_arrived (map.get z.placement page) frame (off_target frame within page) ∙ sym (ap (λ o. stands_in o frame) (there page)))
      ∙ ap (λ n. lowest (λ page. stands_in (map.get w.placement page) frame) (512 * n)) blocks_same

  by_holder : (o : Option ℕ) → can_move_if_some z o ≡ can_move_if_some w o
  by_holder None = refl
  by_holder (Some page) = can_same page

  may_go_same : (frame : ℕ) → is_in frame ≡ true → may_go z frame ≡ may_go w frame
  may_go_same frame within = by_holder (holder z frame) ∙ ap (can_move_if_some w) (holder_same frame within)

  -- the same frames are free
  used_either : (frame : ℕ) → is_used z frame ≡ (is_used w frame || is_left z frame)
  used_either frame =
      some_or (λ page. takes_up (map.get z.placement page) frame) (λ page. takes_up (map.get w.placement page) frame) (λ page. is_leaving (map.get z.placement page) frame) (frame_count z)
      (λ page. takes_arrived (map.get z.placement page) frame ∙ sym (ap (λ o. takes_up o frame || is_leaving (map.get z.placement page) frame) (there page)))
      ∙ ap (λ n. some_below (λ page. takes_up (map.get w.placement page) frame) (512 * n) || is_left z frame) blocks_same

  handed_same : (frame : ℕ) → is_handed_out z frame ≡ is_handed_out w frame
  handed_same frame = ap (λ (r : Outcome). some_below (λ first. covers (map.get r.handed_out first) first frame) (512 * r.blocks)) c.outcome

  free_same : (frame : ℕ) → is_free z frame ≡ is_free w frame
  free_same frame =
      (λ i. not (used_either frame i) && not (handed_same frame i || set.contains z.claimed frame))
      ∙ free_either (is_used w frame) (is_left z frame) (is_handed_out w frame) (set.contains z.claimed frame)
      ∙ sym (ap (λ b. not (is_used w frame) && not (is_handed_out w frame || b)) (c.claimed frame))

  vacant_same : highest_vacant z ≡ highest_vacant w
  vacant_same =
      (λ i. highest (λ frame. not (set.contains z.marked (frame / 512)) && free_same frame i) (frame_count z))
      ∙ ap (λ (r : Outcome). highest (λ frame. not (set.contains r.marked (frame / 512)) && is_free w frame) (512 * r.blocks)) c.outcome

  -- the same page goes next out of a run
  module _ (first size : ℕ) (within : (frame : ℕ) → is_in_run first size frame ≡ true → is_in frame ≡ true) where
    goes_same : (frame : ℕ) → (is_in_run first size frame && may_go z frame) ≡ (is_in_run first size frame && may_go w frame)
    goes_same frame = if_there (is_in_run first size) frame (may_go z frame) (may_go w frame) (λ here. may_go_same frame (within frame here))

    next_same : next_to_go first size z ≡ next_to_go first size w
    next_same =
        lowest_same (λ frame. is_in_run first size frame && may_go z frame) (λ frame. is_in_run first size frame && may_go w frame) (frame_count z) (λ frame h. goes_same frame)
        ∙ ap (λ n. lowest (λ frame. is_in_run first size frame && may_go w frame) (512 * n)) blocks_same

    source_there : (source : ℕ) → next_to_go first size w ≡ Some source → is_in source ≡ true
    source_there source e = within source (and_parts _ _ (lowest_some (λ frame. is_in_run first size frame && may_go w frame) (frame_count w) source e).1).0

    move_same : next_move_from first size z ≡ next_move_from first size w
    move_same =
        (λ i. move_between z (next_same i) (vacant_same i))
        ∙ between_same z w (next_to_go first size w) (highest_vacant w) (λ source e. holder_same source (source_there source e))

  left_same : (size : ℕ) (firsts : List ℕ) → AreWithin is_in size firsts → still_left size z firsts ≡ still_left size w firsts
  left_same size [] within = refl
  left_same size (first ∷ firsts) within = λ i. if is_some (move_same first size within.0 i) then first ∷ firsts else left_same size firsts within.1 i

  first_same : (size : ℕ) (firsts : List ℕ) → AreWithin is_in size firsts → first_move size z firsts ≡ first_move size w firsts
  first_same size [] within = refl
  first_same size (first ∷ firsts) within = move_same first size within.0

empty_if : (serials : List ℕ) → length serials ≡ 0 → serials ≡ []
empty_if [] e = refl
empty_if (serial ∷ serials) e = absurd (omega (arith, e))

-- the next page is sent out of a run
module _ (is_in : ℕ → Bool) (w z : ZoneState) (c : ComesTo is_in w z) (first size : ℕ) (within : (frame : ℕ) → is_in_run first size frame ≡ true → is_in frame ≡ true) (m : Move) (next : next_move_from first size w ≡ Some m) (accepted : isolate_refusal z ≡ None) where
  own : HasOwnFrames w
  own = own_if_valid w c.valid

  may : IsMove w m
  may = is_move w own first size m next

  source_is : next_to_go first size w ≡ Some m.source
  source_is = (between w own first size m next).source_is

  spare_same : z.room - length (out z.records) ≡ w.room - length (out w.records)
  spare_same = ap (λ (r : Outcome). r.room) c.outcome

  abbrev after : ZoneState
  after = claimed_at (moved_away w m) m.source

  abbrev going_out : ZoneState
  going_out = record (under_way z m) { round = None }

  abbrev way : Placement
  way = Moving (isolated z.records) m.source m.target

  here : map.get z.placement m.page ≡ Some (At m.source)
  here = holder_found z m.page m.source (holder_same is_in w z c m.source (source_there is_in w z c first size within m.source source_is) ∙ (between w own first size m next).holds)

  valid_after : IsValidZone after
  valid_after =
      let enough = room_for_two z accepted in
      let room : isolate_refusal w ≡ None = ap (λ (b : Bool). cond b None (Some JournalFull)) (lt-ltb (length (out w.records) + 1) w.room (omega (arith, spare_same, enough))) in
      valid_claimed_at (moved_away w m) (valid_moved_away w m c.valid may room) m.source
      (source_left w own first size m next c.valid)
      (source_goes w own first size m next).0

  target_off : is_in m.target ≡ false
  target_off = false_from_ne_true _ (λ there. both_ways _ (c.shut m.target there) (and_parts _ _ may.vacant).1)

  going_after : AreGoingOut is_in going_out
  going_after = record {
    unpinned = λ page serial source target at. elim (eqb_tells page m.page) [
      | inl same ↦ ap (pins z.records) same.1 ∙ pins_same is_in w z c m.page ∙ eqb-true (pins w.records m.page) 0 (and_parts _ _ may.movable).0
      | inr other ↦ c.going.unpinned page serial source target (sym (get_insert_other z.placement m.page page way other.1) ∙ at)
    ];
    outside = λ page serial source target at. elim (eqb_tells page m.page) [
      | inl same ↦
          (let two : Some way ≡ Some (Moving serial source target) = sym (get_insert_same z.placement m.page page way same.1) ∙ at in
          let to : target ≡ m.target = cc in
          ap is_in to ∙ target_off)
      | inr other ↦ c.going.outside page serial source target (sym (get_insert_other z.placement m.page page way other.1) ∙ at)
    ];
    forgotten = λ page serial source target at. refl;
  }

  frame_after : (page : ℕ) → final_frame (map.get going_out.placement page) ≡ final_frame (map.get after.placement page)
  frame_after page = elim (eqb_tells page m.page) [
    | inl same ↦ ap final_frame (get_insert_same z.placement m.page page way same.1) ∙ sym (ap final_frame (get_insert_same (under_way w m).placement m.page page (At m.target) same.1))
    | inr other ↦ ap final_frame (get_insert_other z.placement m.page page way other.1) ∙ frame_same is_in w z c page ∙ sym (ap final_frame (others_same w m page other.1))
  ]

  outcome_after : outcome_of (record going_out { claimed = after.claimed }) ≡ outcome_of after
  outcome_after =
      let enough = room_for_two z accepted in
      let serial = serial_same is_in w z c in
      let both : length z.records + z.room ≡ length w.records + w.room = ap (λ (r : Outcome). r.places) c.outcome in
      let room : (z.room - 1) - length (isolated z.records ∷ out z.records) ≡ ((w.room - 1) - 1) - length (out after.records) = omega (arith, spare_same, enough, as_many_out w m c.valid may) in
      let places : length (Isolate m.page (isolated z.records) ∷ z.records) + (z.room - 1) ≡ length after.records + ((w.room - 1) - 1) = omega (arith, spare_same, enough, both) in
      λ i. record (c.outcome i) {
        records = Isolate m.page (serial i) ∷ (c.outcome i).records;
        room = room i;
        places = places i;
        frame = λ page. frame_after page i;
        claimed = after.claimed;
        round = None;
      }

  claimed_after : (frame : ℕ) → set.contains after.claimed frame ≡ (set.contains z.claimed frame || is_left going_out frame)
  claimed_after frame = elim (eqb_tells frame m.source) [
    | inl same ↦
        (let known : m.page < frame_count z = omega (arith, may.known, blocks_same is_in w z c) in
        contains_insert_same w.claimed m.source frame same.1
        ∙ sym (or_right (set.contains z.claimed frame) _ (some_at (λ page. is_leaving (map.get going_out.placement page) frame) (frame_count z) m.page known
        (ap (λ o. is_leaving o frame) (get_insert_same z.placement m.page m.page way refl) ∙ eq-eqb frame m.source same.1))))
    | inr other ↦
        (contains_insert_other w.claimed m.source frame other.1 ∙ c.claimed frame
        ∙ ap (λ b. set.contains z.claimed frame || b) (some_same (λ page. is_leaving (map.get going_out.placement page) frame) (λ page. is_leaving (map.get z.placement page) frame) (frame_count z)
        (λ page h. placed_same (λ o. is_leaving o frame) z.placement m.page page way (ne_eqb frame m.source other.1 ∙ sym (ap (λ o. is_leaving o frame) here)))))
  ]

  comes_sent : ComesTo is_in after going_out
  comes_sent = record {
    valid = valid_after;
    rests = empty_if (out after.records) (as_many_out w m c.valid may ∙ ap length c.rests);
    going = going_after;
    outcome = outcome_after;
    claimed = claimed_after;
    back = c.back;
    shut = λ frame there. shut_still w m may frame (c.shut frame there);
  }

-- the move of a page ends: it is moved, and the frame that it left is claimed
module _ (is_in : ℕ → Bool) (w z : ZoneState) (c : ComesTo is_in w z) (law : IsValidZone z) (page serial source target : ℕ) (at : map.get z.placement page ≡ Some (Moving serial source target)) where
  abbrev there_now : Placement
  there_now = At (target_of (map.get z.placement page))

  abbrev arrived_zone : ZoneState
  arrived_zone = claimed_at (moved_to_target z serial page) source

  was_moving : (q s a b : ℕ) → map.get arrived_zone.placement q ≡ Some (Moving s a b) → map.get z.placement q ≡ Some (Moving s a b)
  was_moving q s a b now = elim (eqb_tells q page) [
    | inl same ↦ absurd (not_moving _ s a b (sym (get_insert_same z.placement page q there_now same.1) ∙ now))
    | inr other ↦ sym (get_insert_other z.placement page q there_now other.1) ∙ now
  ]

  outcome_ended : outcome_of (record arrived_zone { claimed = w.claimed }) ≡ outcome_of (record z { claimed = w.claimed })
  outcome_ended =
      let left = law.journal.room_left in
      let fewer = out_fewer z page serial source target law at in
      let room : (z.room - 1) - length (out (Moved serial ∷ z.records)) ≡ z.room - length (out z.records) = omega arith in
      let places : length (Moved serial ∷ z.records) + (z.room - 1) ≡ length z.records + z.room = omega arith in
      let frame = λ (q : ℕ). placed_same final_frame z.placement page q there_now (ap Some (ap target_of at) ∙ sym (ap final_frame at)) in
      let round = sym (c.going.forgotten page serial source target at) in
      λ i. record (outcome_of (record z { claimed = w.claimed })) { room = room i; places = places i; frame = λ q. frame q i; round = round i }

  claimed_ended : (frame : ℕ) → set.contains w.claimed frame ≡ (set.contains arrived_zone.claimed frame || is_left arrived_zone frame)
  claimed_ended frame = c.claimed frame ∙ elim (eqb_tells frame source) [
    | inl same ↦
        (or_right (set.contains z.claimed frame) _ (some_at (λ q. is_leaving (map.get z.placement q) frame) (frame_count z) page (law.pages.numbered page (not_none _ _ at)) (ap (λ o. is_leaving o frame) at ∙ eq-eqb frame source same.1))
        ∙ sym (or_left _ (is_left arrived_zone frame) (contains_insert_same z.claimed source frame same.1)))
    | inr other ↦
        (let left : is_left z frame ≡ is_left arrived_zone frame = some_same (λ q. is_leaving (map.get arrived_zone.placement q) frame) (λ q. is_leaving (map.get z.placement q) frame) (frame_count z)
        (λ q h. placed_same (λ o. is_leaving o frame) z.placement page q there_now (sym (ap (λ o. is_leaving o frame) at ∙ ne_eqb frame source other.1))) in
        λ i. sym (contains_insert_other z.claimed source frame other.1) i || left i)
  ]

  comes_ended : ComesTo is_in w arrived_zone
  comes_ended = record {
    valid = c.valid;
    rests = c.rests;
    going = record {
      unpinned = λ q s a b now. c.going.unpinned q s a b (was_moving q s a b now);
      outside = λ q s a b now. c.going.outside q s a b (was_moving q s a b now);
      forgotten = λ q s a b now. refl;
    };
    outcome = outcome_ended ∙ c.outcome;
    claimed = claimed_ended;
    back = c.back;
    shut = c.shut;
  }

-- the first of these runs has the next page, if there is one
first_found : (size : ℕ) (z : ZoneState) (firsts : List ℕ) (m : Move) → first_move size z firsts ≡ Some m → (first : ℕ) × (rest : List ℕ) × (firsts ≡ first ∷ rest) × (next_move_from first size z ≡ Some m)
first_found size z [] m e = cc
first_found size z (first ∷ rest) m e = (first, rest, refl, e)

-- none is left where there is no next page
by_next : (size : ℕ) (z : ZoneState) (first : ℕ) (firsts : List ℕ) (o : Option Move) → next_move_from first size z ≡ o → (first_move size z (still_left size z firsts) ≡ None → still_left size z firsts ≡ [])
    → first_move size z (if is_some o then first ∷ firsts else still_left size z firsts) ≡ None → (if is_some o then first ∷ firsts else still_left size z firsts) ≡ []
by_next size z first firsts None is rest none = rest none
by_next size z first firsts (Some m) is rest none = (let both : Some m ≡ None = sym is ∙ none in cc)

pub none_left : (size : ℕ) (z : ZoneState) (firsts : List ℕ) → move_out size z firsts ≡ None → still_left size z firsts ≡ []
none_left size z [] none = refl
none_left size z (first ∷ firsts) none = by_next size z first firsts (next_move_from first size z) refl (none_left size z firsts) none

-- the free frames of the runs are claimed
module _ (size : ℕ) where
  records_same : (firsts : List ℕ) (z : ZoneState) → (runs_claimed size firsts z).records ≡ z.records
  records_same [] z = refl
  records_same (first ∷ firsts) z = records_same firsts (run_claimed first size z)

  room_same : (firsts : List ℕ) (z : ZoneState) → (runs_claimed size firsts z).room ≡ z.room
  room_same [] z = refl
  room_same (first ∷ firsts) z = room_same firsts (run_claimed first size z)

  pub places_claimed : (firsts : List ℕ) (z : ZoneState) → places_for_moves (runs_claimed size firsts z) ≡ places_for_moves z
  places_claimed firsts z = λ i. room_same firsts z i - length (out (records_same firsts z i)) + 2 * isolated (records_same firsts z i)

  pub unlent_claimed : (firsts : List ℕ) (z : ZoneState) → unlent (runs_claimed size firsts z) ≡ runs_claimed size firsts (unlent z)
  unlent_claimed [] z = refl
  unlent_claimed (first ∷ firsts) z = unlent_claimed firsts (run_claimed first size z)

  -- a frame that is free after the free frames of a run were claimed was free, and isn't in the run
  free_before : (first : ℕ) (z : ZoneState) (frame : ℕ) → is_free (run_claimed first size z) frame ≡ true → (is_free z frame ≡ true) × (is_in_run first size frame ≡ false)
  free_before first z frame free =
      let parts = and_parts (not (is_used z frame)) (not (is_held (run_claimed first size z) frame)) free in
      let unheld = or_parts (is_handed_out z frame) _ (not-true _ parts.1) in
      let unclaimed = or_parts (set.contains z.claimed frame) _ (sym (with_run_has (is_free z) z.claimed first size frame) ∙ unheld.1) in
      let was = and_from (not (is_used z frame)) (not (is_held z frame)) parts.0 (ap not (or_from (is_handed_out z frame) _ unheld.0 unclaimed.0)) in
      (was, false_from_ne_true _ (λ there. both_ways _ unclaimed.1 (and_from _ _ there was)))

  stays_shut : (firsts : List ℕ) (z : ZoneState) (frame : ℕ) → is_free z frame ≡ false → is_free (runs_claimed size firsts z) frame ≡ false
  stays_shut [] z frame shut = shut
  stays_shut (first ∷ firsts) z frame shut = stays_shut firsts (run_claimed first size z) frame (false_from_ne_true _ (λ free. both_ways _ shut (free_before first z frame free).0))

  runs_shut : (firsts : List ℕ) (z : ZoneState) (frame : ℕ) → is_in_runs firsts size frame ≡ true → is_free (runs_claimed size firsts z) frame ≡ false
  runs_shut [] z frame there = absurd (false≢true there)
  runs_shut (first ∷ firsts) z frame there = elim (or_cases (is_in_run first size frame) _ there) [
    | inl here ↦ stays_shut firsts (run_claimed first size z) frame (false_from_ne_true _ (λ free. both_ways _ (free_before first z frame free).1 here))
    | inr later ↦ runs_shut firsts (run_claimed first size z) frame later
  ]

  valid_runs : (firsts : List ℕ) (z : ZoneState) → IsValidZone z → All (λ first. first + size ≤ frame_count z) firsts → IsValidZone (runs_claimed size firsts z)
  valid_runs [] z law fit = law
  valid_runs (first ∷ firsts) z law fit = valid_runs firsts (run_claimed first size z) (valid_run_claimed z law first size (fit 0 0 (omega arith))) (λ k d h. fit (suc k) d (omega (arith, h)))

-- where no page is moving, none is leaving a frame
unleft : (o : Option Placement) (frame : ℕ) → ((s a b : ℕ) → o ≡ Some (Moving s a b) → ⊥) → is_leaving o frame ≡ false
unleft None frame stands = refl
unleft (Some (At f)) frame stands = refl
unleft (Some (Moving s a b)) frame stands = absurd (stands s a b refl)

unleft_all : (z : ZoneState) (frame : ℕ) → ((page serial source target : ℕ) → map.get z.placement page ≡ Some (Moving serial source target) → ⊥) → is_left z frame ≡ false
unleft_all z frame stands = none_some (λ page. is_leaving (map.get z.placement page) frame) (frame_count z) (λ page h. unleft (map.get z.placement page) frame (stands page))

-- how many frames each of these runs has
abbrev pub frames_of : Runs → ℕ
frames_of runs = 2 ^ runs.order

-- the work begins where no page is moving
module _ (start : ZoneState) (runs : Runs) (law : IsValidZone start) (none : out start.records ≡ []) (blocks : AreBlocks (frame_count start) runs) where
  abbrev begun : ZoneState
  begun = runs_claimed (frames_of runs) runs.left (unlent start)

  valid_begun : IsValidZone begun
  valid_begun = valid_runs (frames_of runs) runs.left (unlent start) (valid_unlent start law) (λ k d h. block_within start _ runs.order (blocks k d h))

  none_begun : out begun.records ≡ []
  none_begun = ap out (records_same (frames_of runs) runs.left (unlent start)) ∙ none

  never : (page serial source target : ℕ) → map.get begun.placement page ≡ Some (Moving serial source target) → ⊥
  never = at_rest begun valid_begun (ap length none_begun)

  pub emptying_begins : HasComeTo (unlent start) runs runs.left (unlent (work_begun (Empty runs) start)) 0
  emptying_begins = record {
    left_is = refl;
    comes = subst (ComesTo (is_in_runs runs.left (frames_of runs)) begun) (sym (unlent_claimed (frames_of runs) runs.left start)) (record {
      valid = valid_begun;
      rests = none_begun;
      going = record {
        unpinned = λ page s a b at. absurd (never page s a b at);
        outside = λ page s a b at. absurd (never page s a b at);
        forgotten = λ page s a b at. absurd (never page s a b at);
      };
      outcome = refl;
      claimed = λ frame. sym (or-false _) ∙ ap (λ b. set.contains begun.claimed frame || b) (sym (unleft_all begun frame never));
      back = refl;
      shut = runs_shut (frames_of runs) runs.left (unlent start);
    });
  }

-- the steps
module _ (start : ZoneState) (runs : Runs) (left : List ℕ) (z : ZoneState) (n : ℕ) (come : HasComeTo start runs left (unlent z) n) where
  abbrev pub is_theirs : ℕ → Bool
  is_theirs = is_in_runs runs.left (frames_of runs)

  abbrev pub one_thread : Emptying
  one_thread = pages_out (frames_of runs) n (emptying_begun runs start)

  within : AreWithin is_theirs (frames_of runs) left
  within = subst (AreWithin is_theirs (frames_of runs)) (sym come.left_is) (within_out is_theirs (frames_of runs) n (emptying_begun runs start) (within_runs (frames_of runs) runs.left))

  left_now : still_left (frames_of runs) z left ≡ (page_out (frames_of runs) one_thread).left
  left_now = left_same is_theirs one_thread.zone (unlent z) come.comes (frames_of runs) left within ∙ ap (still_left (frames_of runs) one_thread.zone) come.left_is

  one_more : (next : ZoneState) → ComesTo is_theirs (moved_out_by one_thread.zone (move_out (frames_of runs) z left)) next → HasComeTo start runs (still_left (frames_of runs) z left) next (n + 1)
  one_more next comes =
      let same : n + 1 ≡ suc n = omega arith in
      subst (HasComeTo start runs (still_left (frames_of runs) z left) next) (sym same) (record {
        left_is = left_now;
        comes = subst (λ (o : Option Move). ComesTo is_theirs (moved_out_by one_thread.zone o) next)
            (first_same is_theirs one_thread.zone (unlent z) come.comes (frames_of runs) (still_left (frames_of runs) z left) (within_left is_theirs (frames_of runs) z left within) ∙ ap (first_move (frames_of runs) one_thread.zone) left_now)
            comes;
      })

  -- a page is sent
  pub sends_next : (m : Move) → isolate_refusal z ≡ None → move_out (frames_of runs) z left ≡ Some m → HasComeTo start runs (still_left (frames_of runs) z left) (unlent (sent z m)) (n + 1)
  sends_next m accepted next =
      let found = first_found (frames_of runs) z (still_left (frames_of runs) z left) m next in
      let in_first = (subst (AreWithin is_theirs (frames_of runs)) found.2 (within_left is_theirs (frames_of runs) z left within)).0 in
      let there : next_move_from found.0 (frames_of runs) one_thread.zone ≡ Some m = sym (move_same is_theirs one_thread.zone (unlent z) come.comes found.0 (frames_of runs) in_first) ∙ found.3 in
      one_more (unlent (sent z m)) (subst (λ (o : Option Move). ComesTo is_theirs (moved_out_by one_thread.zone o) (unlent (sent z m))) (sym next)
      (comes_sent is_theirs one_thread.zone (unlent z) come.comes found.0 (frames_of runs) in_first m there accepted))

  pub places_sent : (m : Move) → isolate_refusal z ≡ None → places_for_moves (unlent (sent z m)) ≡ places_for_moves (unlent z)
  places_sent m accepted = (let enough = room_for_two z accepted in omega (arith, enough))

  -- or none is left to send
  pub sends_none : move_out (frames_of runs) z left ≡ None → HasComeTo start runs (still_left (frames_of runs) z left) (unlent z) (n + 1) × (still_left (frames_of runs) z left ≡ [])
  sends_none none = (
    one_more (unlent z) (subst (λ (o : Option Move). ComesTo is_theirs (moved_out_by one_thread.zone o) (unlent z)) (sym none) come.comes),
    none_left (frames_of runs) z left none,
  )

  -- the move of a page ends
  module _ (law : IsValidZone z) (page serial source target : ℕ) (at : map.get z.placement page ≡ Some (Moving serial source target)) where
    unpinned : nat_eq (pins z.records page) 0 ≡ true
    unpinned = eq-eqb _ 0 (come.comes.going.unpinned page serial source target at)

    pub ends_moved : ended_as z page ≡ ended.Moved
    ends_moved = ap (λ b. if b then ended.Moved else ended.Back) unpinned

    ended_zone : (b : Bool) → b ≡ true → unlent (claimed_if_moved (if b then ended.Moved else ended.Back) (move_returned (if b then moved_to_target z serial page else put_back_to_source z serial page Pinned) page) source) ≡ claimed_at (moved_to_target (unlent z) serial page) source
    ended_zone true e = refl
    ended_zone false e = absurd (false≢true e)

    pub ends_one : HasComeTo start runs left (unlent (page_ended (Empty runs) z serial page source)) n
    ends_one = record {
      left_is = come.left_is;
      comes = subst (ComesTo is_theirs one_thread.zone) (sym (ended_zone (nat_eq (pins z.records page) 0) unpinned)) (comes_ended is_theirs one_thread.zone (unlent z) come.comes (valid_unlent z law) page serial source target at);
    }

    pub places_ended : places_for_moves (unlent (page_ended (Empty runs) z serial page source)) ≡ places_for_moves (unlent z)
    places_ended =
        let fewer = out_fewer z page serial source target law at in
        let left = law.journal.room_left in
        let ended : places_for_moves (claimed_at (moved_to_target (unlent z) serial page) source) ≡ places_for_moves (unlent z) = omega (arith, fewer, left) in
        ap places_for_moves (ended_zone (nat_eq (pins z.records page) 0) unpinned) ∙ ended

  -- where no page is out any more, the zone is the one after as many pages went by one thread
  pub emptied_same : IsValidZone z → out z.records ≡ [] → IsSame one_thread.zone (unlent z)
  emptied_same law none =
      let c = come.comes in
      let stands = at_rest z law (ap length none) in
      let claims : z.claimed ≡ one_thread.zone.claimed = set.same_set nat_cmp_total set.nat_cmp-IsAntisymmetric z.claimed one_thread.zone.claimed (λ frame. sym (c.claimed frame ∙ ap (λ b. set.contains z.claimed frame || b) (unleft_all z frame stands) ∙ or-false _)) in
      same_outcome one_thread.zone (unlent z) (λ page low. at_rest one_thread.zone c.valid (ap length c.rests) page) (λ page low. stands page) c.rests none (sym c.back)
      (sym (ap (λ s. outcome_of (record (unlent z) { claimed = s })) claims ∙ c.outcome))

-- The pages that one thread moves are those that may go.

-- where a frame is vacant, no page may go of a run that has no next page
module _ (size : ℕ) (z : ZoneState) (target : ℕ) (vacant : highest_vacant z ≡ Some target) (frame : ℕ) (low : frame < frame_count z) where
  moves_if : (source : ℕ) (h : Option ℕ) → holder z source ≡ h → can_move_if_some z h ≡ true → move_between z (Some source) (Some target) ≡ None → ⊥
  moves_if source None is may none = false≢true may
  moves_if source (Some page) is may none = (let some : Some (move_at source target page) ≡ None = sym (ap (option_map (move_at source target)) is) ∙ none in cc)

  by_source : (first : ℕ) (o : Option ℕ) → next_to_go first size z ≡ o → move_between z o (Some target) ≡ None → is_in_run first size frame ≡ true → may_go z frame ≡ false
  by_source first None is none there = false_from_ne_true _ (λ may. both_ways _ (no_lowest (λ f. is_in_run first size f && may_go z f) (frame_count z) frame is low) (and_from _ _ there may))
  by_source first (Some source) is none there = absurd (moves_if source (holder z source) refl (and_parts (is_in_run first size source) _ (lowest_some (λ f. is_in_run first size f && may_go z f) (frame_count z) source is).1).1 none)

  by_move : (first : ℕ) (firsts : List ℕ) (o : Option Move) → next_move_from first size z ≡ o → (is_in_runs firsts size frame ≡ true → is_in_runs (still_left size z firsts) size frame ≡ false → may_go z frame ≡ false)
      → is_in_runs (first ∷ firsts) size frame ≡ true → is_in_runs (if is_some o then first ∷ firsts else still_left size z firsts) size frame ≡ false → may_go z frame ≡ false
  by_move first firsts (Some m) is rest there off = absurd (both_ways _ off there)
  by_move first firsts None is rest there off = elim (or_cases (is_in_run first size frame) _ there) [
    | inl here ↦ by_source first (next_to_go first size z) refl (ap (move_between z (next_to_go first size z)) (sym vacant) ∙ is) here
    | inr later ↦ rest later off
  ]

  dropped : (firsts : List ℕ) → is_in_runs firsts size frame ≡ true → is_in_runs (still_left size z firsts) size frame ≡ false → may_go z frame ≡ false
  dropped [] there off = absurd (false≢true there)
  dropped (first ∷ firsts) there off = by_move first firsts (next_move_from first size z) refl (dropped firsts) there off

-- while one thread empties runs
record IsEmptying (is_in : ℕ → Bool) (size count : ℕ) (e : Emptying) : Type 0 where
  own : HasOwnFrames e.zone
  each : AreWithin is_in size e.left
  shut : (frame : ℕ) → is_in frame ≡ true → is_free e.zone frame ≡ false
  counted : moved e.zone.records + to_go is_in e.zone ≡ count
  -- where a frame is vacant, no page may go of the runs that are done with
  done : (target frame : ℕ) → highest_vacant e.zone ≡ Some target → frame < frame_count e.zone → is_in frame ≡ true → is_in_runs e.left size frame ≡ false → may_go e.zone frame ≡ false

module _ (is_in : ℕ → Bool) (size count : ℕ) where
  module _ (e : Emptying) (is : IsEmptying is_in size count e) where
    abbrev next_left : List ℕ
    next_left = still_left size e.zone e.left

    done_now : (target frame : ℕ) → highest_vacant e.zone ≡ Some target → frame < frame_count e.zone → is_in frame ≡ true → is_in_runs next_left size frame ≡ false → may_go e.zone frame ≡ false
    done_now target frame vacant low there off = elim (cases_Bool (is_in_runs e.left size frame)) [
      | inl here ↦ dropped size e.zone target vacant frame low e.left here off
      | inr past ↦ is.done target frame vacant low there past
    ]

    by_first : (o : Option Move) → first_move size e.zone next_left ≡ o → IsEmptying is_in size count (record { left = next_left; zone = moved_out_by e.zone o })
    by_first None first = record { own = is.own; each = within_left is_in size e.zone e.left is.each; shut = is.shut; counted = is.counted; done = done_now }
    by_first (Some m) first =
        let found = first_found size e.zone next_left m first in
        let each = within_left is_in size e.zone e.left is.each in
        let in_first = (subst (AreWithin is_in size) found.2 each).0 in
        record {
          own = own_after e.zone is.own found.0 size m found.3;
          each = each;
          shut = shut_after e.zone is.own found.0 size m found.3 is_in in_first is.shut;
          counted = omega (arith, is.counted, gone_one e.zone is.own found.0 size m found.3 is_in in_first is.shut);
          done = λ target frame vacant low there off. stays_done e.zone is.own found.0 size m found.3 is_in in_first is.shut frame there
              (done_now m.target frame (between e.zone is.own found.0 size m found.3).target_is low there off);
        }

  pages_go : (n : ℕ) (e : Emptying) → IsEmptying is_in size count e → IsEmptying is_in size count (pages_out size n e)
  pages_go zero e is = is
  pages_go (suc n) e is = let before = pages_out size n e in by_first before (pages_go n e is) (first_move size before.zone (still_left size before.zone before.left)) refl

to_go_same : (is_in : ℕ → Bool) (size : ℕ) (firsts : List ℕ) (z : ZoneState) → to_go is_in (runs_claimed size firsts z) ≡ to_go is_in z
to_go_same is_in size [] z = refl
to_go_same is_in size (first ∷ firsts) z = to_go_same is_in size firsts (run_claimed first size z)

own_claimed : (size : ℕ) (firsts : List ℕ) (z : ZoneState) → HasOwnFrames z → HasOwnFrames (runs_claimed size firsts z)
own_claimed size [] z own = own
own_claimed size (first ∷ firsts) z own = own_claimed size firsts (run_claimed first size z) (record { numbered = own.numbered; apart = own.apart })

module _ (start : ZoneState) (runs : Runs) (law : IsValidZone start) (n : ℕ) where
  abbrev pub in_theirs : ℕ → Bool
  in_theirs = is_in_runs runs.left (frames_of runs)

  abbrev pub emptied : Emptying
  emptied = pages_out (frames_of runs) n (emptying_begun runs start)

  emptied_is : IsEmptying in_theirs (frames_of runs) (moved start.records + to_go in_theirs start) emptied
  emptied_is = pages_go in_theirs (frames_of runs) (moved start.records + to_go in_theirs start) n (emptying_begun runs start) (record {
    own = own_claimed (frames_of runs) runs.left start (own_if_valid start law);
    each = within_runs (frames_of runs) runs.left;
    shut = runs_shut (frames_of runs) runs.left start;
    counted = λ i. moved (records_same (frames_of runs) runs.left start i) + to_go_same in_theirs (frames_of runs) runs.left start i;
    done = λ target frame vacant low there off. absurd (both_ways _ off there);
  })

  -- each page that was moved may go no more
  pub pages_counted : moved emptied.zone.records + to_go in_theirs emptied.zone ≡ moved start.records + to_go in_theirs start
  pages_counted = emptied_is.counted

  -- once no run is left, and a frame is vacant still, no page may go
  pub none_to_go : (target : ℕ) → emptied.left ≡ [] → highest_vacant emptied.zone ≡ Some target → to_go in_theirs emptied.zone ≡ 0
  none_to_go target none vacant = count_none (λ frame. in_theirs frame && may_go emptied.zone frame) (frame_count emptied.zone) (λ frame low. elim (cases_Bool (in_theirs frame)) [
    | inl there ↦ and_right _ _ (emptied_is.done target frame vacant low there (ap (λ firsts. is_in_runs firsts (frames_of runs) frame) none))
    | inr off ↦ and_left _ _ off
  ])

-- a journal has the records that are no ends, and the ends
ends_counted : (records : List Record) → length records ≡ length (without_ends records) + (moved records + put_back records)
ends_counted [] = refl
ends_counted (Moved serial ∷ older) = omega (arith, ends_counted older)
ends_counted (Back cause serial ∷ older) = omega (arith, ends_counted older)
ends_counted (Isolate page serial ∷ older) = omega (arith, ends_counted older)
ends_counted (_ ∷ older) = omega (arith, ends_counted older)

-- where no run is left, no page is out and a frame is vacant still, no page of the runs may go, and as many were moved as could
module _ (start : ZoneState) (runs : Runs) (z : ZoneState) (n : ℕ) (law_start : IsValidZone start) (come : HasComeTo start runs [] (unlent z) n) (law : IsValidZone z) (none : out z.records ≡ []) (target : ℕ) (vacant : highest_vacant z ≡ Some target) where
  abbrev theirs : ℕ → Bool
  theirs = is_in_runs runs.left (frames_of runs)

  abbrev by_one_thread : ZoneState
  by_one_thread = (emptied start runs law_start n).zone

  to_go_alike : to_go theirs z ≡ to_go theirs by_one_thread
  to_go_alike =
      count_same (λ frame. theirs frame && may_go z frame) (λ frame. theirs frame && may_go by_one_thread frame) (frame_count z) (λ frame h. if_there theirs frame (may_go z frame) (may_go by_one_thread frame) (may_go_same theirs by_one_thread (unlent z) come.comes frame))
      ∙ ap (λ blocks. count_below (λ frame. theirs frame && may_go by_one_thread frame) (512 * blocks)) (blocks_same theirs by_one_thread (unlent z) come.comes)

  gone_there : to_go theirs by_one_thread ≡ 0
  gone_there = none_to_go start runs law_start n target (sym come.left_is) (sym (vacant_same theirs by_one_thread (unlent z) come.comes) ∙ vacant)

  pub none_may_go : to_go theirs z ≡ 0
  none_may_go = to_go_alike ∙ gone_there

  pub all_moved : moved z.records ≡ moved start.records + to_go theirs start
  all_moved =
      let same = emptied_same start runs [] z n come law none in
      let others : length (without_ends by_one_thread.records) ≡ length (without_ends z.records) = ap length same.records in
      omega (arith, ends_counted z.records, ends_counted by_one_thread.records, others, same.length_is, same.back, pages_counted start runs law_start n, gone_there)
