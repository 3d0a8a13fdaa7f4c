-- The frames of a run, or of several, are emptied one after the other.
use Rattle.std.proofs.Common.{◌≡◌, ◌≢◌, ℕ, zero, suc, ◌+◌, ◌-◌, ◌<◌, ◌≤◌, Bool, true, false, not, ◌&&◌, ◌||◌, cond, length, inl, inr, refl, sym, ap, ◌∙◌, arith}
use Rattle.std.specs.Prelude.{Option, Some, None, is_some, nat_le}
use Rattle.std.specs.FinMap as map
use Rattle.std.proofs.lemmas.Bool.{and_left, and_parts, and_from, and_right, both_ways, cases_Bool, eq-eqb, false_from_ne_true, le-leb, leb-true, lt-ltb, ltb-true, not-true, not-false, or_parts}
use Rattle.std.proofs.lemmas.Bool.Decides.{eqb_tells, leb_tells}
use Rattle.frame_core.proofs.Searches.{count_from_same, count_none, some_none, some_one}
use Rattle.frame_core.specs.Below.{one_if, count_below, count_from, highest}
use Rattle.frame_core.specs.Moves.{out}
use Rattle.state_core.specs.declared.placement.Placement.{Placement}
use Rattle.state_core.specs.declared.placement.Placement.TheVariants.{At}
use Rattle.state_core.specs.Isolating.{isolate_refusal, has_room_for_two}
use Rattle.state_core.specs.Pairs.{can_move, holder, is_free_unmarked, is_marked}
use Rattle.state_core.specs.Valid.{IsValidZone}
use Rattle.state_core.specs.ZoneState.{ZoneState, frame_count, is_held, is_used, takes_up}
use Rattle.state_core.specs.declared.error.ZoneError.TheVariants.{JournalFull}
use Rattle.state_core.proofs.Holding.{holder_at, holder_found}
use Rattle.state_core.proofs.Packing.{count_mono}
use Rattle.state_core.proofs.Runs.{count_from_none, count_split}
use Rattle.fewest_core.specs.Evacuation.{is_beside, is_in_run, moved_away}
use Rattle.fewest_core.specs.Reservation.{highest_beside}
use Rattle.fewest_core.specs.FewestMoves.{Move, IsMove, has_to_stay, is_immovable, is_moving, is_shut}
use Rattle.fewest_core.proofs.Counts.{count_but_one}
use Rattle.fewest_core.proofs.Evacuation.{as_many_out}
use Rattle.fewest_core.proofs.Moves.{others_same, shut_once, stays_free, stays_used, target_used, used_at, used_not_free}
use Rattle.fewest_core.proofs.Reached.{own_if_valid, rests_at, source_unused, stays_vacant, used_before}
use Rattle.zone_core.specs.Emptying.{HasEnough, IsEmptying, frames_beside, pages_below}

pub in_run : (first size frame : ℕ) → first ≤ frame → frame < first + size → is_in_run first size frame ≡ true
in_run first size frame low high = and_from (nat_le first frame) _ (le-leb first frame low) (lt-ltb frame (first + size) high)

pub run_bounds : (first size frame : ℕ) → is_in_run first size frame ≡ true → (first ≤ frame) × (frame < first + size)
run_bounds first size frame e = let parts = and_parts (nat_le first frame) _ e in (leb-true first frame parts.0, ltb-true frame (first + size) parts.1)

-- the highest number that passes
highest_next : (p : ℕ → Bool) (n k : ℕ) (o : Option ℕ) (b : Bool) → p n ≡ b → (o ≡ Some k → (k < n) × (p k ≡ true)) → cond b (Some n) o ≡ Some k → (k < suc n) × (p k ≡ true)
highest_next p n k o true at under e = let same : n ≡ k = cc in (omega (arith, same), ap p (sym same) ∙ at)
highest_next p n k o false at under e = let rest = under e in (omega (arith, rest.0), rest.1)

pub highest_found : (p : ℕ → Bool) (n k : ℕ) → highest p n ≡ Some k → (k < n) × (p k ≡ true)
highest_found p zero k e = cc
highest_found p (suc n) k e = highest_next p n k (highest p n) (p n) refl (highest_found p n k) e

-- and none above it does
pub highest_last : (p : ℕ → Bool) (n k j : ℕ) → highest p n ≡ Some k → k < j → j < n → p j ≡ false
highest_last p zero k j e low high = cc
highest_last p (suc n) k j e low high = by_case (p n) refl (λ under. highest_last p n k j under low) where
  by_case : (b : Bool) → p n ≡ b → (highest p n ≡ Some k → j < n → p j ≡ false) → p j ≡ false
  by_case true at under = (let here : n ≡ k = cc in absurd (omega (arith, here, low, high)))
  by_case false at under = elim (eqb_tells j n) [
    | inl same ↦ ap p same.1 ∙ at
    | inr other ↦ under (sym (ap (λ (b : Bool). cond b (Some n) (highest p n)) at) ∙ e) (omega (arith, high, other.1))
  ]

-- there is one where some are counted
some_next : (p : ℕ → Bool) (n : ℕ) (b : Bool) → p n ≡ b → (p n ≡ false → (k : ℕ) × (highest p n ≡ Some k)) → (k : ℕ) × (highest p (suc n) ≡ Some k)
some_next p n true at under = (n, ap (λ (b : Bool). cond b (Some n) (highest p n)) at)
some_next p n false at under = let rest = under at in (rest.0, ap (λ (b : Bool). cond b (Some n) (highest p n)) at ∙ rest.1)

pub some_highest : (p : ℕ → Bool) (n : ℕ) → 0 < count_below p n → (k : ℕ) × (highest p n ≡ Some k)
some_highest p zero some = absurd (omega (arith, some))
some_highest p (suc n) some = some_next p n (p n) refl (λ at. some_highest p n (omega (arith, some, ap one_if at)))

-- a used frame that isn't shut holds a page that may be taken from it, and one that holds a page is used
module _ (z : ZoneState) (law : IsValidZone z) (frame : ℕ) where
  pub holder_used : (page : ℕ) → holder z frame ≡ Some page → is_used z frame ≡ true
  holder_used page e = let at = holder_found z page frame e in used_at z page frame (law.pages.numbered page (ap is_some at)) at

  module _ (unshut : is_shut z frame ≡ false) where
    parts : (is_marked z frame ≡ false) × ((is_held z frame || is_immovable z frame) ≡ false)
    parts = or_parts (is_marked z frame) _ unshut

    goes : (page : ℕ) → page < frame_count z → takes_up (map.get z.placement page) frame ≡ true → has_to_stay z page ≡ false
    goes page known takes = elim (cases_Bool (has_to_stay z page)) [
      | inl stays ↦ absurd (both_ways _ (some_none (λ q. has_to_stay z q && takes_up (map.get z.placement q) frame) (frame_count z) (or_parts (is_held z frame) _ parts.1).1 page known) (and_from (has_to_stay z page) _ stays takes))
      | inr free ↦ free
    ]

    pub unused_if : holder z frame ≡ None → is_used z frame ≡ false
    unused_if none = elim (cases_Bool (is_used z frame)) [
      | inl used ↦
          (let by = some_one (λ q. takes_up (map.get z.placement q) frame) (frame_count z) used in
          let free = or_parts (is_moving (map.get z.placement by.0)) _ (goes by.0 by.1 by.2) in
          let at = rests_at (map.get z.placement by.0) frame free.0 by.2 in
          let bad : None ≡ Some by.0 = sym none ∙ holder_at z law by.0 frame at in
          cc)
      | inr unused ↦ unused
    ]

    pub used_is : is_used z frame ≡ is_some (holder z frame)
    used_is = by_holder (holder z frame) refl where
      by_holder : (o : Option ℕ) → holder z frame ≡ o → is_used z frame ≡ is_some (holder z frame)
      by_holder None e = unused_if e ∙ sym (ap is_some e)
      by_holder (Some page) e = holder_used page e ∙ sym (ap is_some e)

    pub may_go : (page target : ℕ) → holder z frame ≡ Some page → target < frame_count z → is_free_unmarked z target ≡ true → IsMove z (record { page = page; source = frame; target = target })
    may_go page target e within vacant =
        let at = holder_found z page frame e in
        let known = law.pages.numbered page (ap is_some at) in
        record {
          known = known;
          here = at;
          movable = not-false (can_move z page) (or_parts (is_moving (map.get z.placement page)) _ (goes page known (ap (λ (o : Option Placement). takes_up o frame) at ∙ eq-eqb frame frame refl))).1;
          within = within;
          vacant = vacant;
        }

-- the frame that takes a page is in the zone
pub found_within : (is_in : ℕ → Bool) (z : ZoneState) (target : ℕ) → highest_beside is_in z ≡ Some target → target < frame_count z
found_within is_in z target found = (highest_found (is_beside is_in z) (frame_count z) target found).0

pub emptying_begins : (is_in : ℕ → Bool) (z : ZoneState) → ((frame : ℕ) → is_in frame ≡ true → is_shut z frame ≡ false) → IsEmptying is_in z z 0
emptying_begins is_in z unshut = record {
  number = refl;
  blocks = refl;
  unshut = unshut;
  empty = λ frame in_it low. absurd (omega (arith, low));
  rest = λ frame in_it high. refl;
  spare = omega arith;
  out_same = refl;
  room = omega arith;
  moved = omega arith;
  carried = record { flags = λ page. refl; words = λ page. refl; names = λ address. refl; others = λ page off. refl };
}

-- where no more pages have to go
module _ (is_in : ℕ → Bool) (old z : ZoneState) (n m : ℕ) (is : IsEmptying is_in old z n) (more : n ≤ m) (none : (frame : ℕ) → is_in frame ≡ true → n ≤ frame → frame < m → is_used z frame ≡ false) (same : pages_below is_in old m ≡ pages_below is_in old n) where
  pub emptied_further : IsEmptying is_in old z m
  emptied_further = record {
    number = is.number;
    blocks = is.blocks;
    unshut = is.unshut;
    empty = λ frame in_it low. elim (leb_tells n frame) [
      | inl above ↦ none frame in_it above.1 low
      | inr below ↦ is.empty frame in_it below.1
    ];
    rest = λ frame in_it high. is.rest frame in_it (omega (arith, more, high));
    spare = omega (arith, is.spare, same);
    out_same = is.out_same;
    room = omega (arith, is.room, same);
    moved = omega (arith, is.moved, same);
    carried = is.carried;
  }

module _ (is_in : ℕ → Bool) (old z : ZoneState) (frame : ℕ) (is : IsEmptying is_in old z frame) where
  -- the frame isn't one of those that are emptied
  pub passes_over : is_in frame ≡ false → IsEmptying is_in old z (suc frame)
  passes_over out = emptied_further is_in old z frame (suc frame) is (omega arith)
      (λ g in_it low high. let at : g ≡ frame = omega (arith, low, high) in absurd (both_ways _ out (ap is_in (sym at) ∙ in_it)))
      (omega (arith, ap one_if (and_left (is_in frame) (is_used old frame) out)))

  module _ (in_it : is_in frame ≡ true) (law : IsValidZone z) where
    pub unshut_here : is_shut z frame ≡ false
    unshut_here = is.unshut frame in_it

    used_same : is_used z frame ≡ is_used old frame
    used_same = is.rest frame in_it (omega arith)

    -- the frame holds no page
    pub stays_emptying : holder z frame ≡ None → IsEmptying is_in old z (suc frame)
    stays_emptying none =
        let unused = unused_if z law frame unshut_here none in
        emptied_further is_in old z frame (suc frame) is (omega arith)
        (λ g there low high. let at : g ≡ frame = omega (arith, low, high) in ap (is_used z) at ∙ unused)
        (omega (arith, ap one_if (and_right (is_in frame) (is_used old frame) (sym used_same ∙ unused))))

    module _ (within : frame < frame_count old) (enough : HasEnough is_in old) (page : ℕ) (holds : holder z frame ≡ Some page) where
      used_here : is_used old frame ≡ true
      used_here = sym used_same ∙ holder_used z law frame page holds

      one_more : pages_below is_in old (suc frame) ≡ 1 + pages_below is_in old frame
      one_more = omega (arith, ap one_if (and_from (is_in frame) (is_used old frame) in_it used_here))

      not_all : 1 + pages_below is_in old frame ≤ pages_below is_in old (frame_count old)
      not_all = omega (arith, one_more, count_mono (λ g. is_in g && is_used old g) (suc frame) (frame_count old) (omega (arith, within)))

      -- the page may be isolated, and there is a frame for it
      pub accepted_here : isolate_refusal z ≡ None
      accepted_here =
          let room : has_room_for_two z ≡ true = lt-ltb (length (out z.records) + 1) z.room (omega (arith, is.out_same, is.room, enough.room, not_all)) in
          ap (λ (b : Bool). cond b None (Some JournalFull)) room

      pub spare_here : (target : ℕ) × (highest_beside is_in z ≡ Some target)
      spare_here = some_highest (is_beside is_in z) (frame_count z) (omega (arith, is.spare, enough.spare, not_all))

      module _ (target : ℕ) (found : highest_beside is_in z ≡ Some target) where
        abbrev m : Move
        m = record { page = page; source = frame; target = target }

        found_is : (target < frame_count z) × (is_beside is_in z target ≡ true)
        found_is = highest_found (is_beside is_in z) (frame_count z) target found

        outside : (is_in target ≡ false) × (is_free_unmarked z target ≡ true)
        outside = let both = and_parts (not (is_in target)) (is_free_unmarked z target) found_is.1 in (not-true _ both.0, both.1)

        pub may_move_here : IsMove z m
        may_move_here = may_go z law frame unshut_here page target holds found_is.0 outside.1

        not_target : (g : ℕ) → is_in g ≡ true → g ≢ target
        not_target g there same = both_ways _ outside.0 (ap is_in (sym same) ∙ there)

        abbrev next : ZoneState
        next = moved_away z m

        unused_after : (g : ℕ) → g ≢ target → is_used z g ≡ false → is_used next g ≡ false
        unused_after g ne unused = false_from_ne_true _ (λ used. both_ways _ unused (used_before z m may_move_here g ne used))

        used_kept : (g : ℕ) → g ≢ target → g ≢ frame → is_used next g ≡ is_used z g
        used_kept g ne other = elim (cases_Bool (is_used z g)) [
          | inl used ↦ stays_used z m may_move_here g other used ∙ sym used
          | inr unused ↦ unused_after g ne unused ∙ sym unused
        ]

        fewer_spare : frames_beside is_in z ≤ frames_beside is_in next + 1
        fewer_spare = count_but_one (is_beside is_in z) (is_beside is_in next) (frame_count z) target (λ g h ne was.
            (let both = and_parts (not (is_in g)) (is_free_unmarked z g) was in
            and_from (not (is_in g)) (is_free_unmarked next g) both.0 (stays_vacant z m may_move_here g ne both.1)))

        others_stay : (q : ℕ) → ((g : ℕ) → is_in g ≡ true → map.get old.placement q ≢ Some (At g)) → map.get next.placement q ≡ map.get old.placement q
        others_stay q off =
            let before = is.carried.others q off in
            let other : q ≢ page = λ same. off frame in_it (sym before ∙ ap (map.get z.placement) same ∙ may_move_here.here) in
            others_same z m q other ∙ before

        pub goes_on_emptying : IsEmptying is_in old next (suc frame)
        goes_on_emptying = record {
          number = is.number;
          blocks = is.blocks;
          unshut = λ g there. shut_once z m may_move_here g ∙ is.unshut g there;
          empty = λ g there high. elim (eqb_tells g frame) [
            | inl at ↦ ap (is_used next) at.1 ∙ source_unused z m may_move_here (own_if_valid z law)
            | inr other ↦ unused_after g (not_target g there) (is.empty g there (omega (arith, high, other.1)))
          ];
          rest = λ g there low. (let later : g ≢ frame = omega (arith, low) in used_kept g (not_target g there) later ∙ is.rest g there (omega (arith, low)));
          spare = omega (arith, is.spare, fewer_spare, one_more);
          out_same = as_many_out z m law may_move_here ∙ is.out_same;
          room = omega (arith, is.room, is.out_same, enough.room, not_all, one_more);
          moved = omega (arith, is.moved, one_more);
          carried = record {
            flags = is.carried.flags;
            words = is.carried.words;
            names = is.carried.names;
            others = others_stay;
          };
        }

        -- no frame above the target can take a page after it
        pub none_above : (g : ℕ) → target ≤ g → g < frame_count next → is_beside is_in next g ≡ false
        none_above g low high = elim (eqb_tells g target) [
          | inl at ↦ ap (is_beside is_in next) at.1 ∙ and_right (not (is_in target)) _ (used_not_free next target (target_used z m may_move_here))
          | inr other ↦ false_from_ne_true _ (λ e.
              let both = and_parts (not (is_in g)) (is_free_unmarked next g) e in
              let apart : g ≢ frame = λ same. both_ways _ (not-true _ both.0) (ap is_in same ∙ in_it) in
              both_ways _ (highest_last (is_beside is_in z) (frame_count z) target g found (omega (arith, low, other.1)) high)
              (and_from (not (is_in g)) (is_free_unmarked z g) both.0 (stays_free z m may_move_here g apart both.1)))
        ]

-- the pages below a run aren't in it, and all pages of it are below its end
pub pages_of_run : (first size : ℕ) (z : ZoneState) → pages_below (is_in_run first size) z (first + size) ≡ count_from (is_used z) first size
pages_of_run first size z =
    let p = λ (g : ℕ). is_in_run first size g && is_used z g in
    let low = count_none p first (λ g h. and_left (is_in_run first size g) _ (false_from_ne_true _ (λ e. absurd (omega (arith, h, (run_bounds first size g e).0))))) in
    omega (arith, count_split p first size, low, count_from_same p (is_used z) first size (λ g from below. ap (λ (b : Bool). b && is_used z g) (in_run first size g from below)))

pub none_above_run : (first size m : ℕ) (z : ZoneState) → first + size ≤ m → pages_below (is_in_run first size) z m ≡ pages_below (is_in_run first size) z (first + size)
none_above_run first size m z h =
    let p = λ (g : ℕ). is_in_run first size g && is_used z g in
    let all : first + size + (m - (first + size)) ≡ m = omega (arith, h) in
    omega (arith, ap (count_below p) all, count_split p (first + size) (m - (first + size)), count_from_none p (first + size) (m - (first + size)) (λ k l. and_left (is_in_run first size (first + size + k)) _ (false_from_ne_true _ (λ e. absurd (omega (arith, (run_bounds first size (first + size + k) e).1))))))
