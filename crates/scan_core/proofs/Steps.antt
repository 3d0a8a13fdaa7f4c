-- The fields of the frames stay sound through each change.
use Rattle.std.proofs.Common.{◌≡◌, ℕ, ◌+◌, ◌-◌, ◌*◌, ◌/◌, ◌%◌, ◌^◌, ◌<◌, ◌≤◌, Bool, true, false, not, List, length, length-set, inl, inr, refl, sym, ap, ◌∙◌, eq-eqb, replicate, slice_index, get_or, subst, arith}
use Rattle.std.specs.Prelude.{Option, Some, None, unwrap_or, nat_eq, nat_le, nat_lt, slice_get, slice_set, if◌then◌else◌, ◌&&◌, ◌||◌}
use Rattle.std.specs.FinSet as set
use Rattle.std.specs.Ordering.{nat_cmp}
use Rattle.std.proofs.lemmas.Bool.{eqb-true, leb-true, ne_eqb, lt-ltb, le-ltb}
use Rattle.std.proofs.lemmas.Bool.Decides.{eqb_tells, leb_tells}
use Rattle.std.proofs.lemmas.List.{length-replicate}
use Rattle.std.proofs.lemmas.Option.{slice_get_past, slice_get-get_or}
use Rattle.frame_core.specs.FixedVec.{FixedVec}
use Rattle.frame_core.specs.declared.state.FrameState.{FrameState}
use Rattle.frame_core.specs.declared.state.FrameState.TheVariants.{Free, Holds, Source, Target, Huge}
use Rattle.frame_core.proofs.Lists.{slice_get_set_same, slice_get_set_other, slice_get_replicate}
use Rattle.frame_core.specs.Order.{is_aligned}
use Rattle.number_set.specs.Numbers.{Numbers}
use Rattle.scan_core.specs.FrameCounts.{CountsEach, recounted, with_fewer, with_more}
use Rattle.scan_core.specs.FrameSet.{FrameNumbers}
use Rattle.scan_core.specs.Frames.{Frames, free_at, holds_at, huge_at, source_at, stuck_at, true_at, way_at, is_stuck_state, is_free_state, is_holding_state, is_huge_state, is_source_state, is_way_state}
use Rattle.scan_core.specs.NumberSet.{all_from, in_run}
use Rattle.scan_core.specs.Runs.{has_block, is_run, with_run}
use Rattle.scan_core.specs.Seen.{seen}
use Rattle.scan_core.specs.Sound.{frames_of, IsSound}
use Rattle.scan_core.specs.declared.frames.Frames.TheInside.{Inside}
use Rattle.scan_core.proofs.FrameSets.{all_pass, insert_if, none_counted, remove_if, keep_if, takes_run}
use Rattle.scan_core.proofs.Masking.{clash}
use Rattle.scan_core.proofs.Numbering.{member_insert, member_remove}
use Rattle.scan_core.proofs.Orders.{one_block, some_frames}
use Rattle.scan_core.proofs.RunCounts.{Adds, counted_less, counted_some, each_fewer, each_more, length_recounted, recount, room_fewer, room_more}
use Rattle.scan_core.proofs.Seeing.{length_seen, same_items, seen_get, seen_put, seen_held, seen_released, seen_none_held, seen_state, run_of_one, with_run_get, with_run_of_one, skipped, taken}
use Rattle.scan_core.proofs.Spanning.{both}

free_kept : (h : Bool) (o : Option (FrameState ℕ)) → is_free_state (seen_state h o) ≡ true → o ≡ Some Free
free_kept true None e = cc
free_kept true (Some x) e = cc
free_kept false (Some Free) e = refl
free_kept false _ e = cc

huge_held : (h : Bool) (o : Option (FrameState ℕ)) → is_huge_state o ≡ false → is_huge_state (seen_state h o) ≡ true → h ≡ true
huge_held true o never e = refl
huge_held false o never e = absurd (clash (is_huge_state o) e never)

free_not_stuck : (o : Option (FrameState ℕ)) (movable : Bool) → is_free_state o ≡ true → is_stuck_state o movable ≡ false
free_not_stuck None m e = refl
free_not_stuck (Some Free) m e = refl
free_not_stuck _ m e = cc

huge_stuck : (o : Option (FrameState ℕ)) (movable : Bool) → is_huge_state o ≡ true → is_stuck_state o movable ≡ true
huge_stuck o m e = ap (λ b. b || (is_holding_state o && not m)) e

huge_not_free : (o : Option (FrameState ℕ)) → is_huge_state o ≡ true → is_free_state o ≡ false
huge_not_free (Some Free) e = cc
huge_not_free _ e = refl

pub free_not_source : (o : Option (FrameState ℕ)) (movable : Bool) → is_free_state o ≡ true → is_source_state o movable ≡ false
free_not_source None m e = refl
free_not_source (Some Free) m e = refl
free_not_source _ m e = cc

huge_not_source : (o : Option (FrameState ℕ)) (movable : Bool) → is_huge_state o ≡ true → is_source_state o movable ≡ false
huge_not_source (Some (Holds page)) m e = cc
huge_not_source None m e = refl
huge_not_source _ m e = refl

-- a list stays as it was where the item that is written stood there already
set_same : {X : Type 0} → (xs : List X) (i : ℕ) (x : X) → i < length xs → slice_get xs i ≡ Some x → xs ≡ slice_set xs i x
set_same xs i x within is = same_items xs (slice_set xs i x) (λ n. elim (eqb_tells n i) [
  | inl at ↦ (ap (slice_get xs) at.1 ∙ is ∙ sym (slice_get_set_same xs i n x at.1 within))
  | inr away ↦ sym (slice_get_set_other xs i n x away.1)
])

-- a test of each frame, after the state and the flag of one frame were written
written : (f : Option (FrameState ℕ) → Bool → Bool) (states : List (FrameState ℕ)) (movable : List Bool) (frame : ℕ) (state : FrameState ℕ) (flag : Bool) → frame < length states → frame < length movable → (n : ℕ) → f (slice_get (slice_set states frame state) n) (true_at (slice_set movable frame flag) n) ≡ (if nat_eq n frame then f (Some state) flag else f (slice_get states n) (true_at movable n))
written f states movable frame state flag within there n = elim (eqb_tells n frame) [
  | inl at ↦ ((λ i. f (slice_get_set_same states frame n state at.1 within i) (unwrap_or (slice_get_set_same movable frame n flag at.1 there i) false))
      ∙ sym (taken (nat_eq n frame) (f (Some state) flag) (f (slice_get states n) (true_at movable n)) (eq-eqb n frame at.1)))
  | inr away ↦ ((λ i. f (slice_get_set_other states frame n state away.1 i) (unwrap_or (slice_get_set_other movable frame n flag away.1 i) false))
      ∙ sym (skipped (nat_eq n frame) (f (Some state) flag) (f (slice_get states n) (true_at movable n)) (ne_eqb n frame away.1)))
]

-- a test of each frame, after the states of a run were written
run_written : (f : Option (FrameState ℕ) → Bool → Bool) (states : List (FrameState ℕ)) (movable : List Bool) (first count : ℕ) (state : FrameState ℕ) → first + count ≤ length states → (n : ℕ) → f (slice_get (with_run states first count state) n) (true_at movable n) ≡ (if in_run first count n then f (Some state) (true_at movable n) else f (slice_get states n) (true_at movable n))
run_written f states movable first count state within n =
    ap (λ o. f o (true_at movable n)) (with_run_get states first count state n within) ∙ cases (in_run first count n)
  where
    cases : (c : Bool) → f (if c then Some state else slice_get states n) (true_at movable n) ≡ (if c then f (Some state) (true_at movable n) else f (slice_get states n) (true_at movable n))
    cases true = refl
    cases false = refl

-- what fails for all numbers of a run fails there after they are said to
still_false : (c x : Bool) → (c ≡ true → x ≡ false) → x ≡ (if c then false else x)
still_false true x is = is refl
still_false false x is = refl

back_true : (c x : Bool) → (c ≡ true → x ≡ true) → x ≡ (c || (if c then false else x))
back_true true x is = is refl
back_true false x is = refl

then_true : (c x : Bool) → (if c then true else x) ≡ (c || x)
then_true true x = refl
then_true false x = refl

module _ (z : Inside) (sound : IsSound z) where
  pub seen_length : length (seen z.held.members z.kept.items) ≡ length z.kept.items
  seen_length = length_seen (set.contains z.held.members) 0 z.kept.items

  not_held : (frame : ℕ) → huge_at (seen z.held.members z.kept.items) frame ≡ false → set.contains z.held.members frame ≡ false
  not_held frame known = by_test (set.contains z.held.members frame) refl where
    by_test : (b : Bool) → set.contains z.held.members frame ≡ b → b ≡ false
    by_test true is =
        let huge : slice_get (seen z.held.members z.kept.items) frame ≡ Some Huge = seen_get (set.contains z.held.members) z.kept.items frame ∙ (λ i. seen_state (is i) (sound.held frame is i)) in
        absurd (clash (huge_at (seen z.held.members z.kept.items) frame) (ap is_huge_state huge) known)
    by_test false is = refl

  -- a frame whose state passes a test that no frame outside passes is in the list
  pub known_within : (f : Option (FrameState ℕ) → Bool) (frame : ℕ) → f None ≡ false → f (slice_get (seen z.held.members z.kept.items) frame) ≡ true → frame < length z.kept.items
  known_within f frame none is = elim (leb_tells (length (seen z.held.members z.kept.items)) frame) [
    | inl past ↦ absurd (clash _ is (ap f (slice_get_past (seen z.held.members z.kept.items) frame past.1) ∙ none))
    | inr under ↦ omega (arith, seen_length, under.1)
  ]

  -- a frame of the zone has a flag, and its pageblock has a count
  pub frame_flag : (frame : ℕ) → frame < length z.kept.items → frame < length z.movable.items
  frame_flag frame within = omega (arith, sound.movable, within)

  pub frame_block : (frame : ℕ) → frame < length z.kept.items → frame / 512 < length z.candidates.stuck
  frame_block frame within = omega (arith, sound.stuck_blocks, sound.whole, within)

  -- one frame, which isn't of a block that is handed out, is used for something else
  pub sound_put : (kept : FixedVec (FrameState ℕ)) (movable : FixedVec Bool) (free : FrameNumbers) (sources : Numbers) (stuck : List ℕ) (frame index : ℕ) (state : FrameState ℕ) (flag was : Bool) → huge_at (seen z.held.members z.kept.items) frame ≡ false → is_huge_state (Some state) ≡ false → frame < length z.kept.items → index ≡ frame → kept.items ≡ slice_set z.kept.items index state → movable.items ≡ slice_set z.movable.items index flag → ((n : ℕ) → set.contains free.members n ≡ (if nat_eq n frame then is_free_state (Some state) else set.contains z.free.members n)) → free.bound ≡ z.free.bound → ((n : ℕ) → set.contains sources.members n ≡ (if nat_eq n frame then is_source_state (Some state) flag else set.contains z.candidates.sources.members n)) → sources.bound ≡ z.candidates.sources.bound → stuck_at (seen z.held.members z.kept.items) z.movable.items frame ≡ was → stuck ≡ recounted was (is_stuck_state (Some state) flag) z.candidates.stuck (frame / 512) → IsSound (record z { kept = kept; movable = movable; free = free; candidates = record { sources = sources; stuck = stuck } }) × (seen z.held.members kept.items ≡ slice_set (seen z.held.members z.kept.items) frame state)
  sound_put kept movable free sources stuck frame index state flag was known not_huge within at items flags free_put free_same sources_put sources_same was_is recounts =
      let states = seen z.held.members z.kept.items in
      let list : kept.items ≡ slice_set z.kept.items frame state = items ∙ ap (λ k. slice_set z.kept.items k state) at in
      let flag_list : movable.items ≡ slice_set z.movable.items frame flag = flags ∙ ap (λ k. slice_set z.movable.items k flag) at in
      let view : seen z.held.members kept.items ≡ slice_set states frame state = ap (seen z.held.members) list ∙ seen_put (set.contains z.held.members) z.kept.items frame state within (not_held frame known) in
      let len : length kept.items ≡ length z.kept.items = ap length list ∙ length-set z.kept.items frame state in
      let flag_len : length movable.items ≡ length z.movable.items = ap length flag_list ∙ length-set z.movable.items frame flag in
      let there : frame < length states = omega (arith, seen_length, within) in
      let test = λ (f : Option (FrameState ℕ) → Bool → Bool) (n : ℕ).
      (λ i. f (slice_get (view i) n) (true_at (flag_list i) n)) ∙ written f states z.movable.items frame state flag there (frame_flag frame within) n in
      let counts : CountsEach stuck (stuck_at (seen z.held.members kept.items) movable.items) =
      subst (λ (xs : List ℕ). CountsEach xs (stuck_at (seen z.held.members kept.items) movable.items)) (sym recounts)
      (recount z.candidates.stuck (stuck_at states z.movable.items) (stuck_at (seen z.held.members kept.items) movable.items) frame (frame_block frame within) sound.stuck was (is_stuck_state (Some state) flag) was_is (test is_stuck_state)) in
      let long : length stuck ≡ length z.candidates.stuck = ap length recounts ∙ length_recounted was (is_stuck_state (Some state) flag) z.candidates.stuck (frame / 512) in (
        record {
          whole = omega (arith, len, sound.whole);
          some = omega (arith, len, sound.some);
          few = omega (arith, len, sound.few);
          movable = flag_len ∙ sound.movable ∙ sym len;
          never_huge = λ n. ap (λ (xs : List (FrameState ℕ)). huge_at xs n) list ∙ elim (eqb_tells n frame) [
            | inl here ↦ (ap is_huge_state (slice_get_set_same z.kept.items frame n state here.1 within) ∙ not_huge)
            | inr away ↦ (ap is_huge_state (slice_get_set_other z.kept.items frame n state away.1) ∙ sound.never_huge n)
          ];
          held = λ n e. ap (λ (xs : List (FrameState ℕ)). slice_get xs n) list ∙ elim (eqb_tells n frame) [
            | inl here ↦ absurd (clash (set.contains z.held.members n) e (ap (set.contains z.held.members) here.1 ∙ not_held frame known))
            | inr away ↦ (slice_get_set_other z.kept.items frame n state away.1 ∙ sound.held n e)
          ];
          held_room = omega (arith, len, sound.held_room);
          free = λ n. free_put n ∙ ap (λ b. if nat_eq n frame then is_free_state (Some state) else b) (sound.free n) ∙ sym (test (λ o m. is_free_state o) n);
          free_room = free_same ∙ sound.free_room ∙ sym len;
          sources = λ n. sources_put n ∙ ap (λ b. if nat_eq n frame then is_source_state (Some state) flag else b) (sound.sources n) ∙ sym (test is_source_state n);
          sources_room = omega (arith, len, sources_same, sound.sources_room);
          stuck = counts;
          stuck_blocks = long ∙ sound.stuck_blocks ∙ ap (λ n. n / 512) (sym len);
        },
        view,
      )

  -- the frames of a free run are handed out
  pub sound_held : (held : Numbers) (free : FrameNumbers) (stuck : List ℕ) (first count : ℕ) → first + count ≤ length z.kept.items → first % 512 + count ≤ 512 → 0 < count → ((n : ℕ) → in_run first count n ≡ true → free_at (seen z.held.members z.kept.items) n ≡ true) → ((n : ℕ) → set.contains held.members n ≡ (in_run first count n || set.contains z.held.members n)) → held.bound ≡ z.held.bound → ((n : ℕ) → set.contains free.members n ≡ (not (in_run first count n) && set.contains z.free.members n)) → free.bound ≡ z.free.bound → stuck ≡ with_more z.candidates.stuck (first / 512) count → IsSound (record z { held = held; free = free; candidates = record z.candidates { stuck = stuck } }) × (seen held.members z.kept.items ≡ with_run (seen z.held.members z.kept.items) first count Huge)
  sound_held held free stuck first count within one some all held_each held_same free_each free_same recounts =
      let states = seen z.held.members z.kept.items in
      let view = seen_held (set.contains z.held.members) (set.contains held.members) z.kept.items first count within held_each in
      let there : first + count ≤ length states = omega (arith, seen_length, within) in
      let test = λ (f : Option (FrameState ℕ) → Bool → Bool) (n : ℕ).
      ap (λ (xs : List (FrameState ℕ)). f (slice_get xs n) (true_at z.movable.items n)) view ∙ run_written f states z.movable.items first count Huge there n in
      let adds : Adds (stuck_at states z.movable.items) (stuck_at (seen held.members z.kept.items) z.movable.items) first count = record {
        none = λ n inside. free_not_stuck (slice_get states n) (true_at z.movable.items n) (all n inside);
        each = λ n. test is_stuck_state n ∙ then_true (in_run first count n) (stuck_at states z.movable.items n);
      } in
      let low : first / 512 < length z.candidates.stuck = frame_block first (omega (arith, within, some)) in (
        record {
          whole = sound.whole;
          some = sound.some;
          few = sound.few;
          movable = sound.movable;
          never_huge = sound.never_huge;
          held = λ n e. held_or (in_run first count n) (set.contains z.held.members n) (slice_get z.kept.items n) (sym (held_each n) ∙ e)
              (λ inside. free_kept (set.contains z.held.members n) (slice_get z.kept.items n) (ap is_free_state (sym (seen_get (set.contains z.held.members) z.kept.items n)) ∙ all n inside)) (sound.held n);
          held_room = omega (arith, held_same, sound.held_room);
          free = λ n. free_each n ∙ remove_if (in_run first count n) (set.contains z.free.members n) false refl
              ∙ ap (λ b. if in_run first count n then false else b) (sound.free n) ∙ sym (test (λ o m. is_free_state o) n);
          free_room = free_same ∙ sound.free_room;
          sources = λ n. sound.sources n
              ∙ still_false (in_run first count n) (source_at states z.movable.items n) (λ inside. free_not_source (slice_get states n) (true_at z.movable.items n) (all n inside))
              ∙ sym (test is_source_state n);
          sources_room = sound.sources_room;
          stuck = subst (λ (xs : List ℕ). CountsEach xs (stuck_at (seen held.members z.kept.items) z.movable.items)) (sym recounts) (each_more _ _ first count one adds z.candidates.stuck low sound.stuck);
          stuck_blocks = ap length recounts ∙ length-set z.candidates.stuck (first / 512) (slice_index z.candidates.stuck (first / 512) + count) ∙ sound.stuck_blocks;
        },
        view,
      )
    where
      held_or : (c h : Bool) (o : Option (FrameState ℕ)) → (c || h) ≡ true → (c ≡ true → o ≡ Some Free) → (h ≡ true → o ≡ Some Free) → o ≡ Some Free
      held_or true h o e inside outside = inside refl
      held_or false h o e inside outside = outside e

  pub is_held : (n : ℕ) → huge_at (seen z.held.members z.kept.items) n ≡ true → set.contains z.held.members n ≡ true
  is_held n e = huge_held (set.contains z.held.members n) (slice_get z.kept.items n) (sound.never_huge n) (ap is_huge_state (sym (seen_get (set.contains z.held.members) z.kept.items n)) ∙ e)

  -- the frames of a block that was handed out are free again
  pub sound_released : (held : Numbers) (free : FrameNumbers) (stuck : List ℕ) (first count : ℕ) → first + count ≤ length z.kept.items → first % 512 + count ≤ 512 → 0 < count → ((n : ℕ) → in_run first count n ≡ true → huge_at (seen z.held.members z.kept.items) n ≡ true) → ((n : ℕ) → set.contains held.members n ≡ (not (in_run first count n) && set.contains z.held.members n)) → held.bound ≡ z.held.bound → ((n : ℕ) → set.contains free.members n ≡ (in_run first count n || set.contains z.free.members n)) → free.bound ≡ z.free.bound → stuck ≡ with_fewer z.candidates.stuck (first / 512) count → IsSound (record z { held = held; free = free; candidates = record z.candidates { stuck = stuck } }) × (seen held.members z.kept.items ≡ with_run (seen z.held.members z.kept.items) first count Free)
  sound_released held free stuck first count within one some all held_each held_same free_each free_same recounts =
      let states = seen z.held.members z.kept.items in
      let view = seen_released (set.contains z.held.members) (set.contains held.members) z.kept.items first count within held_each (λ n inside. sound.held n (is_held n (all n inside))) in
      let there : first + count ≤ length states = omega (arith, seen_length, within) in
      let test = λ (f : Option (FrameState ℕ) → Bool → Bool) (n : ℕ).
      ap (λ (xs : List (FrameState ℕ)). f (slice_get xs n) (true_at z.movable.items n)) view ∙ run_written f states z.movable.items first count Free there n in
      let adds : Adds (stuck_at (seen held.members z.kept.items) z.movable.items) (stuck_at states z.movable.items) first count = record {
        none = λ n inside. test is_stuck_state n ∙ ap (λ b. if b then false else stuck_at states z.movable.items n) inside;
        each = λ n. back_true (in_run first count n) (stuck_at states z.movable.items n) (λ inside. huge_stuck (slice_get states n) (true_at z.movable.items n) (all n inside))
            ∙ ap (λ b. in_run first count n || b) (sym (test is_stuck_state n));
      } in
      let low : first / 512 < length z.candidates.stuck = frame_block first (omega (arith, within, some)) in (
        record {
          whole = sound.whole;
          some = sound.some;
          few = sound.few;
          movable = sound.movable;
          never_huge = sound.never_huge;
          held = λ n e. sound.held n (both (not (in_run first count n)) (set.contains z.held.members n) (sym (held_each n) ∙ e)).1;
          held_room = omega (arith, held_same, sound.held_room);
          free = λ n. free_each n ∙ insert_if (in_run first count n) (set.contains z.free.members n) true refl
              ∙ ap (λ b. if in_run first count n then true else b) (sound.free n) ∙ sym (test (λ o m. is_free_state o) n);
          free_room = free_same ∙ sound.free_room;
          sources = λ n. sound.sources n
              ∙ still_false (in_run first count n) (source_at states z.movable.items n) (λ inside. huge_not_source (slice_get states n) (true_at z.movable.items n) (all n inside))
              ∙ sym (test is_source_state n);
          sources_room = sound.sources_room;
          stuck = subst (λ (xs : List ℕ). CountsEach xs (stuck_at (seen held.members z.kept.items) z.movable.items)) (sym recounts) (each_fewer _ _ first count one adds z.candidates.stuck low sound.stuck);
          stuck_blocks = ap length recounts ∙ length-set z.candidates.stuck (first / 512) (slice_index z.candidates.stuck (first / 512) - count) ∙ sound.stuck_blocks;
        },
        view,
      )

-- what one test of a state says about the others
free_not_huge : (o : Option (FrameState ℕ)) → is_free_state o ≡ true → is_huge_state o ≡ false
free_not_huge (Some Huge) e = cc
free_not_huge _ e = refl

page_only : (o : Option (FrameState ℕ)) → is_holding_state o ≡ true → (is_huge_state o ≡ false) × (is_free_state o ≡ false)
page_only (Some Free) e = cc
page_only (Some Huge) e = cc
page_only _ e = (refl, refl)

stuck_if_page : (o : Option (FrameState ℕ)) (movable : Bool) → is_holding_state o ≡ true → is_stuck_state o movable ≡ not movable
stuck_if_page (Some (Holds page)) m e = refl
stuck_if_page _ m e = cc

way_only : (o : Option (FrameState ℕ)) (movable : Bool) → is_way_state o ≡ true → (is_huge_state o ≡ false) × (is_free_state o ≡ false) × (is_stuck_state o movable ≡ false)
way_only (Some Free) m e = cc
way_only (Some (Holds page)) m e = cc
way_only (Some Huge) m e = cc
way_only _ m e = (refl, refl, refl)

some_state : (f : Option (FrameState ℕ) → Bool) (o : Option (FrameState ℕ)) → f None ≡ false → f o ≡ true → (x : FrameState ℕ) × (o ≡ Some x)
some_state f None none is = absurd (clash (f None) is none)
some_state f (Some x) none is = (x, refl)

way_not_source : (o : Option (FrameState ℕ)) (movable : Bool) → is_way_state o ≡ true → is_source_state o movable ≡ false
way_not_source (Some (Holds page)) m e = cc
way_not_source None m e = refl
way_not_source _ m e = refl

page_of : (o : Option (FrameState ℕ)) → is_holding_state o ≡ true → (page : ℕ) × (o ≡ Some (Holds page))
page_of (Some (Holds page)) e = (page, refl)
page_of _ e = cc

module _ {now : Frames} (z : Inside) (sound : IsSound z) (view : frames_of z ≡ now) (frame : ℕ) where
  abbrev was : Option (FrameState ℕ)
  was = slice_get (seen z.held.members z.kept.items) frame

  abbrev flag : Bool
  flag = true_at z.movable.items frame

  pub seen_test : (f : Option (FrameState ℕ) → Bool) → f (slice_get now.states frame) ≡ true → f was ≡ true
  seen_test f is = ap (λ (frames : Frames). f (slice_get frames.states frame)) view ∙ is

  pub is_within : (f : Option (FrameState ℕ) → Bool) → f None ≡ false → f (slice_get now.states frame) ≡ true → frame < length z.kept.items
  is_within f none is = known_within z sound f frame none (seen_test f is)

  -- a frame of the zone is one that the sets have room for
  module _ (within : frame < length z.kept.items) where
    pub in_free : frame < z.free.bound
    in_free = omega (arith, within, sound.free_room)

    pub in_sources : frame < z.candidates.sources.bound
    in_sources = omega (arith, within, sound.sources_room)

    pub in_block : frame / 512 < length z.candidates.stuck
    in_block = frame_block z sound frame within

    pub stuck_less : stuck_at (seen z.held.members z.kept.items) z.movable.items frame ≡ false → slice_index z.candidates.stuck (frame / 512) < 512
    stuck_less fails = counted_less z.candidates.stuck _ frame sound.stuck in_block fails

    pub stuck_some : stuck_at (seen z.held.members z.kept.items) z.movable.items frame ≡ true → 0 < slice_index z.candidates.stuck (frame / 512)
    stuck_some passes = counted_some z.candidates.stuck _ frame sound.stuck in_block passes

  -- a free frame is a member of the free ones alone
  pub free_is_free : free_at now.states frame ≡ true → set.contains z.free.members frame ≡ true
  free_is_free free = sound.free frame ∙ seen_test is_free_state free

  pub free_isnt_source : free_at now.states frame ≡ true → set.contains z.candidates.sources.members frame ≡ false
  free_isnt_source free = sound.sources frame ∙ free_not_source was flag (seen_test is_free_state free)

  pub free_isnt_stuck : free_at now.states frame ≡ true → stuck_at (seen z.held.members z.kept.items) z.movable.items frame ≡ false
  free_isnt_stuck free = free_not_stuck was flag (seen_test is_free_state free)

  -- a page's frame isn't free: it is a source, or stuck
  pub page_isnt_free : holds_at now.states frame ≡ true → set.contains z.free.members frame ≡ false
  page_isnt_free page = sound.free frame ∙ (page_only was (seen_test is_holding_state page)).1

  pub page_is_source : holds_at now.states frame ≡ true → set.contains z.candidates.sources.members frame ≡ flag
  page_is_source page = sound.sources frame ∙ ap (λ b. b && flag) (seen_test is_holding_state page)

  pub page_is_stuck : holds_at now.states frame ≡ true → stuck_at (seen z.held.members z.kept.items) z.movable.items frame ≡ not flag
  page_is_stuck page = stuck_if_page was flag (seen_test is_holding_state page)

  -- the source or the target of a moving page is none of these
  pub way_isnt_free : way_at now.states frame ≡ true → set.contains z.free.members frame ≡ false
  way_isnt_free way = sound.free frame ∙ (way_only was flag (seen_test is_way_state way)).1

  pub way_isnt_source : way_at now.states frame ≡ true → set.contains z.candidates.sources.members frame ≡ false
  way_isnt_source way = sound.sources frame ∙ way_not_source was flag (seen_test is_way_state way)

  pub way_isnt_stuck : way_at now.states frame ≡ true → stuck_at (seen z.held.members z.kept.items) z.movable.items frame ≡ false
  way_isnt_stuck way = (way_only was flag (seen_test is_way_state way)).2

  -- a frame that is handed out is stuck and not free
  pub huge_isnt_free : huge_at now.states frame ≡ true → set.contains z.free.members frame ≡ false
  huge_isnt_free huge = sound.free frame ∙ huge_not_free was (seen_test is_huge_state huge)

  pub huge_is_stuck : huge_at now.states frame ≡ true → stuck_at (seen z.held.members z.kept.items) z.movable.items frame ≡ true
  huge_is_stuck huge = huge_stuck was flag (seen_test is_huge_state huge)

  flag_read : frame < length z.kept.items → slice_get z.movable.items frame ≡ Some flag
  flag_read within =
      let read = slice_get-get_or z.movable.items frame false (frame_flag z sound frame within) in
      read ∙ ap Some (sym (ap (λ o. unwrap_or o false) read))

  -- the flag that the list has is the flag that was read
  pub flag_is : (index : ℕ) (read : Bool) → index ≡ frame → frame < length z.kept.items → read ≡ get_or z.movable.items index read → read ≡ flag
  flag_is index read at within is = is ∙ ap (λ k. get_or z.movable.items k read) at ∙ sym (ap (λ o. unwrap_or o false) (slice_get-get_or z.movable.items frame read (frame_flag z sound frame within)))

  free_inserted : (members : set.FinSet nat_cmp) → members ≡ set.insert z.free.members frame → (n : ℕ) → set.contains members n ≡ (if nat_eq n frame then true else set.contains z.free.members n)
  free_inserted members now n = ap (λ s. set.contains s n) now ∙ member_insert z.free.members frame n ∙ insert_if (nat_eq n frame) (set.contains z.free.members n) true refl

  free_removed : (members : set.FinSet nat_cmp) → members ≡ set.remove z.free.members frame → (n : ℕ) → set.contains members n ≡ (if nat_eq n frame then false else set.contains z.free.members n)
  free_removed members now n = ap (λ s. set.contains s n) now ∙ member_remove z.free.members frame n ∙ remove_if (nat_eq n frame) (set.contains z.free.members n) false refl

  -- the fields are sound after a frame was given a state, and the states are seen with it
  abbrev pub IsPut : FixedVec (FrameState ℕ) → FixedVec Bool → FrameNumbers → Numbers → List ℕ → FrameState ℕ → Type 0
  IsPut kept movable free sources stuck state = IsSound (record z { kept = kept; movable = movable; free = free; candidates = record { sources = sources; stuck = stuck } }) × (seen z.held.members kept.items ≡ slice_set now.states frame state)

  module _ (index : ℕ) (at : index ≡ frame) where
    put : (kept : FixedVec (FrameState ℕ)) (movable : FixedVec Bool) (free : FrameNumbers) (sources : Numbers) (stuck : List ℕ) (state : FrameState ℕ) (said was_stuck : Bool) → huge_at (seen z.held.members z.kept.items) frame ≡ false → is_huge_state (Some state) ≡ false → frame < length z.kept.items → kept.items ≡ slice_set z.kept.items index state → movable.items ≡ slice_set z.movable.items index said → ((n : ℕ) → set.contains free.members n ≡ (if nat_eq n frame then is_free_state (Some state) else set.contains z.free.members n)) → free.bound ≡ z.free.bound → ((n : ℕ) → set.contains sources.members n ≡ (if nat_eq n frame then is_source_state (Some state) said else set.contains z.candidates.sources.members n)) → sources.bound ≡ z.candidates.sources.bound → stuck_at (seen z.held.members z.kept.items) z.movable.items frame ≡ was_stuck → stuck ≡ recounted was_stuck (is_stuck_state (Some state) said) z.candidates.stuck (frame / 512) → IsPut kept movable free sources stuck state
    put kept movable free sources stuck state said was_stuck known not_huge within items flags free_put free_same sources_put sources_same was_is recounts =
        let done = sound_put z sound kept movable free sources stuck frame index state said was_stuck known not_huge within at items flags free_put free_same sources_put sources_same was_is recounts in
        (done.0, done.1 ∙ ap (λ (frames : Frames). slice_set frames.states frame state) view)

    flag_stays : frame < length z.kept.items → z.movable.items ≡ slice_set z.movable.items index flag
    flag_stays within = set_same z.movable.items frame flag (frame_flag z sound frame within) (flag_read within) ∙ ap (λ k. slice_set z.movable.items k flag) (sym at)

    -- a page is put into a free frame
    pub sound_filled : (kept : FixedVec (FrameState ℕ)) (movable : FixedVec Bool) (free : FrameNumbers) (sources : Numbers) (stuck : List ℕ) (page : ℕ) (said : Bool) → free_at now.states frame ≡ true → kept.items ≡ slice_set z.kept.items index (Holds page) → movable.items ≡ slice_set z.movable.items index said → free.members ≡ set.remove z.free.members frame → free.bound ≡ z.free.bound → ((n : ℕ) → set.contains sources.members n ≡ (if nat_eq n frame then said else set.contains z.candidates.sources.members n)) → sources.bound ≡ z.candidates.sources.bound → stuck ≡ recounted false (not said) z.candidates.stuck (frame / 512) → IsPut kept movable free sources stuck (Holds page)
    sound_filled kept movable free sources stuck page said is_free items flags removed free_same sources_put sources_same recounts =
        put kept movable free sources stuck (Holds page) said false (free_not_huge was (seen_test is_free_state is_free)) refl (is_within is_free_state refl is_free) items flags (free_removed free.members removed) free_same sources_put sources_same (free_isnt_stuck is_free) recounts

    -- a page's move ends in one of its two frames
    pub sound_settled : (kept : FixedVec (FrameState ℕ)) (movable : FixedVec Bool) (sources : Numbers) (stuck : List ℕ) (page : ℕ) (said : Bool) → way_at now.states frame ≡ true → kept.items ≡ slice_set z.kept.items index (Holds page) → movable.items ≡ slice_set z.movable.items index said → ((n : ℕ) → set.contains sources.members n ≡ (if nat_eq n frame then said else set.contains z.candidates.sources.members n)) → sources.bound ≡ z.candidates.sources.bound → stuck ≡ recounted false (not said) z.candidates.stuck (frame / 512) → IsPut kept movable z.free sources stuck (Holds page)
    sound_settled kept movable sources stuck page said way items flags sources_put sources_same recounts =
        put kept movable z.free sources stuck (Holds page) said false (way_only was flag (seen_test is_way_state way)).0 refl (is_within is_way_state refl way) items flags (λ n. keep_if n frame (set.contains z.free.members) false (way_isnt_free way)) refl sources_put sources_same (way_isnt_stuck way) recounts

    -- the page of a frame goes out of use, and the frame is free
    pub sound_emptied : (kept : FixedVec (FrameState ℕ)) (free : FrameNumbers) (sources : Numbers) (stuck : List ℕ) (read : Bool) → holds_at now.states frame ≡ true → kept.items ≡ slice_set z.kept.items index Free → free.members ≡ set.insert z.free.members frame → free.bound ≡ z.free.bound → read ≡ flag → ((n : ℕ) → set.contains sources.members n ≡ (if nat_eq n frame then false else set.contains z.candidates.sources.members n)) → sources.bound ≡ z.candidates.sources.bound → stuck ≡ recounted (not read) false z.candidates.stuck (frame / 512) → IsPut kept z.movable free sources stuck Free
    sound_emptied kept free sources stuck read page items inserted free_same is_flag sources_put sources_same recounts =
        put kept z.movable free sources stuck Free flag (not read) (page_only was (seen_test is_holding_state page)).0 refl (is_within is_holding_state refl page) items (flag_stays (is_within is_holding_state refl page)) (free_inserted free.members inserted) free_same sources_put sources_same (page_is_stuck page ∙ ap not (sym is_flag)) recounts

    -- a frame with a movable page becomes a source
    pub sound_to_source : (kept : FixedVec (FrameState ℕ)) (sources : Numbers) (page_number : ℕ) → holds_at now.states frame ≡ true → true_at now.movable frame ≡ true → kept.items ≡ slice_set z.kept.items index (Source page_number) → sources ≡ record z.candidates.sources { members = set.remove z.candidates.sources.members frame } → IsPut kept z.movable z.free sources z.candidates.stuck (Source page_number)
    sound_to_source kept sources page_number page can_move items removed =
        let within = is_within is_holding_state refl page in
        let is_movable = ap (λ (frames : Frames). true_at frames.movable frame) view ∙ can_move in
        put kept z.movable z.free sources z.candidates.stuck (Source page_number) flag false (page_only was (seen_test is_holding_state page)).0 refl within items (flag_stays within)
        (λ n. keep_if n frame (set.contains z.free.members) false (page_isnt_free page)) refl
        (λ n. ap (λ (s : Numbers). set.contains s.members n) removed ∙ member_remove z.candidates.sources.members frame n ∙ remove_if (nat_eq n frame) (set.contains z.candidates.sources.members n) false refl)
        (ap (λ (s : Numbers). s.bound) removed) (page_is_stuck page ∙ ap not is_movable) refl

    -- a free frame becomes a target
    pub sound_to_target : (kept : FixedVec (FrameState ℕ)) (free : FrameNumbers) (page_number : ℕ) → free_at now.states frame ≡ true → kept.items ≡ slice_set z.kept.items index (Target page_number) → free ≡ record z.free { members = set.remove z.free.members frame } → IsPut kept z.movable free z.candidates.sources z.candidates.stuck (Target page_number)
    sound_to_target kept free page_number is_free items removed =
        let within = is_within is_free_state refl is_free in
        put kept z.movable free z.candidates.sources z.candidates.stuck (Target page_number) flag false (free_not_huge was (seen_test is_free_state is_free)) refl within items (flag_stays within)
        (free_removed free.members (ap (λ (s : FrameNumbers). s.members) removed)) (ap (λ (s : FrameNumbers). s.bound) removed)
        (λ n. keep_if n frame (set.contains z.candidates.sources.members) false (free_isnt_source is_free)) refl (free_isnt_stuck is_free) refl

    -- the other frame of a page whose move ends is free
    pub sound_left : (kept : FixedVec (FrameState ℕ)) (free : FrameNumbers) → way_at now.states frame ≡ true → kept.items ≡ slice_set z.kept.items index Free → free ≡ record z.free { members = set.insert z.free.members frame } → IsPut kept z.movable free z.candidates.sources z.candidates.stuck Free
    sound_left kept free way items inserted =
        let within = is_within is_way_state refl way in
        put kept z.movable free z.candidates.sources z.candidates.stuck Free flag false (way_only was flag (seen_test is_way_state way)).0 refl within items (flag_stays within)
        (free_inserted free.members (ap (λ (s : FrameNumbers). s.members) inserted)) (ap (λ (s : FrameNumbers). s.bound) inserted)
        (λ n. keep_if n frame (set.contains z.candidates.sources.members) false (way_isnt_source way)) refl (way_isnt_stuck way) refl

    -- it is noted of a page that stays in its frame whether it may be taken from it
    pub sound_said : (movable : FixedVec Bool) (sources : Numbers) (stuck : List ℕ) (said : Bool) → holds_at now.states frame ≡ true → movable.items ≡ slice_set z.movable.items index said → ((n : ℕ) → set.contains sources.members n ≡ (if nat_eq n frame then said else set.contains z.candidates.sources.members n)) → sources.bound ≡ z.candidates.sources.bound → stuck ≡ recounted (not flag) (not said) z.candidates.stuck (frame / 512) → IsSound (record z { movable = movable; candidates = record { sources = sources; stuck = stuck } })
    sound_said movable sources stuck said page flags sources_put sources_same recounts =
        let within = is_within is_holding_state refl page in
        let is = page_of was (seen_test is_holding_state page) in
        let unheld = not_held z sound frame (page_only was (seen_test is_holding_state page)).0 in
        let kept_is : slice_get z.kept.items frame ≡ Some (Holds is.0) = ap (λ b. seen_state b (slice_get z.kept.items frame)) (sym unheld) ∙ sym (seen_get (set.contains z.held.members) z.kept.items frame) ∙ is.1 in
        let stays = set_same z.kept.items frame (Holds is.0) within kept_is ∙ ap (λ k. slice_set z.kept.items k (Holds is.0)) (sym at) in
        (put z.kept movable z.free sources stuck (Holds is.0) said (not flag) (page_only was (seen_test is_holding_state page)).0 refl within stays flags
        (λ n. keep_if n frame (set.contains z.free.members) false (page_isnt_free page)) refl sources_put sources_same (page_is_stuck page) recounts).0

  -- a set of numbers after the run of the frame alone came into it or went out of it
  one_in : (members new : set.FinSet nat_cmp) → new ≡ set.insert members frame → (n : ℕ) → set.contains new n ≡ (in_run frame 1 n || set.contains members n)
  one_in members new inserted n = ap (λ s. set.contains s n) inserted ∙ member_insert members frame n ∙ ap (λ b. b || set.contains members n) (sym (run_of_one frame n))

  one_out : (members new : set.FinSet nat_cmp) → new ≡ set.remove members frame → (n : ℕ) → set.contains new n ≡ (not (in_run frame 1 n) && set.contains members n)
  one_out members new removed n = ap (λ s. set.contains s n) removed ∙ member_remove members frame n ∙ ap (λ b. not b && set.contains members n) (sym (run_of_one frame n))

  -- what is known of the frame holds in the run of it alone
  in_one : (f : Option (FrameState ℕ) → Bool) → f (slice_get now.states frame) ≡ true → (n : ℕ) → in_run frame 1 n ≡ true → f (slice_get (seen z.held.members z.kept.items) n) ≡ true
  in_one f is n inside = ap (λ k. f (slice_get (seen z.held.members z.kept.items) k)) (eqb-true n frame (sym (run_of_one frame n) ∙ inside)) ∙ seen_test f is

  one_seen_as : (states : List (FrameState ℕ)) (state : FrameState ℕ) → states ≡ with_run (seen z.held.members z.kept.items) frame 1 state → states ≡ slice_set now.states frame state
  one_seen_as states state is = is ∙ with_run_of_one (seen z.held.members z.kept.items) frame state ∙ ap (λ (frames : Frames). slice_set frames.states frame state) view

  -- the fields are sound after the frame was held or released, and it is seen so
  abbrev pub IsHeld : Numbers → FrameNumbers → List ℕ → FrameState ℕ → Type 0
  IsHeld held free stuck state = IsSound (record z { held = held; free = free; candidates = record z.candidates { stuck = stuck } }) × (seen held.members z.kept.items ≡ slice_set now.states frame state)

  -- a free frame is held
  pub frame_held : (held : Numbers) (free : FrameNumbers) (stuck : List ℕ) → free_at now.states frame ≡ true → held ≡ record z.held { members = set.insert z.held.members frame } → free ≡ record z.free { members = set.remove z.free.members frame } → stuck ≡ with_more z.candidates.stuck (frame / 512) 1 → IsHeld held free stuck Huge
  frame_held held free stuck is_free inserted removed recounts =
      let within = is_within is_free_state refl is_free in
      let next = sound_held z sound held free stuck frame 1 (omega (arith, within)) (omega arith) (omega arith) (in_one is_free_state is_free) (one_in z.held.members held.members (ap (λ (s : Numbers). s.members) inserted)) (ap (λ (s : Numbers). s.bound) inserted) (one_out z.free.members free.members (ap (λ (s : FrameNumbers). s.members) removed)) (ap (λ (s : FrameNumbers). s.bound) removed) recounts in
      (next.0, one_seen_as (seen held.members z.kept.items) Huge next.1)

  -- a frame that is held is free again
  pub frame_released : (held : Numbers) (free : FrameNumbers) (stuck : List ℕ) → huge_at now.states frame ≡ true → held ≡ record z.held { members = set.remove z.held.members frame } → free ≡ record z.free { members = set.insert z.free.members frame } → stuck ≡ with_fewer z.candidates.stuck (frame / 512) 1 → IsHeld held free stuck Free
  frame_released held free stuck is_huge removed inserted recounts =
      let within = is_within is_huge_state refl is_huge in
      let next = sound_released z sound held free stuck frame 1 (omega (arith, within)) (omega arith) (omega arith) (in_one is_huge_state is_huge) (one_out z.held.members held.members (ap (λ (s : Numbers). s.members) removed)) (ap (λ (s : Numbers). s.bound) removed) (one_in z.free.members free.members (ap (λ (s : FrameNumbers). s.members) inserted)) (ap (λ (s : FrameNumbers). s.bound) inserted) recounts in
      (next.0, one_seen_as (seen held.members z.kept.items) Free next.1)

-- the frames of a block are handed out or taken back
module _ {now : Frames} (z : Inside) (sound : IsSound z) (view : frames_of z ≡ now) (first order : ℕ) where
  pub block_within : has_block now.states order first ≡ true → first + 2 ^ order ≤ length z.kept.items
  block_within here =
      let parts = both (is_aligned order first) (nat_le (first + 2 ^ order) (length now.states)) here in
      omega (arith, leb-true (first + 2 ^ order) (length now.states) parts.1, ap (λ (frames : Frames). length frames.states) view, seen_length z sound)

  pub block_aligned : has_block now.states order first ≡ true → is_aligned order first ≡ true
  block_aligned here = (both (is_aligned order first) (nat_le (first + 2 ^ order) (length now.states)) here).0

  pub run_block : is_run now.states order first ≡ true → has_block now.states order first ≡ true
  run_block run = (both (has_block now.states order first) (all_from (free_at now.states) first (2 ^ order)) run).0

  pub run_free : is_run now.states order first ≡ true → (n : ℕ) → in_run first (2 ^ order) n ≡ true → free_at now.states n ≡ true
  run_free run = all_pass (free_at now.states) first (2 ^ order) (both (has_block now.states order first) (all_from (free_at now.states) first (2 ^ order)) run).1

  module _ (low : 3 ≤ order) (high : order ≤ 9) where
    pub run_counted : has_block now.states order first ≡ true → first / 512 < length z.candidates.stuck
    run_counted here = frame_block z sound first (omega (arith, block_within here, some_frames order low high))

    -- a block of which no frame is stuck leaves room for its frames in its pageblock's count
    pub run_room : is_run now.states order first ≡ true → slice_index z.candidates.stuck (first / 512) + 2 ^ order ≤ 512
    run_room run =
        let states = seen z.held.members z.kept.items in
        room_more (stuck_at states z.movable.items) (λ n. in_run first (2 ^ order) n || stuck_at states z.movable.items n) first (2 ^ order) (one_block order low high first (block_aligned (run_block run)))
        (record { none = λ n inside. free_isnt_stuck z sound view n (run_free run n inside); each = λ n. refl }) z.candidates.stuck (run_counted (run_block run)) sound.stuck

    -- the count of a pageblock has the frames of a block of it that is handed out
    pub run_stuck : has_block now.states order first ≡ true → all_from (huge_at now.states) first (2 ^ order) ≡ true → 2 ^ order ≤ slice_index z.candidates.stuck (first / 512)
    run_stuck here huge =
        let states = seen z.held.members z.kept.items in
        room_fewer (λ n. not (in_run first (2 ^ order) n) && stuck_at states z.movable.items n) (stuck_at states z.movable.items) first (2 ^ order) (one_block order low high first (block_aligned here))
        (takes_run (stuck_at states z.movable.items) (λ n. not (in_run first (2 ^ order) n) && stuck_at states z.movable.items n) first (2 ^ order)
        (λ n inside. huge_stuck (slice_get states n) (true_at z.movable.items n) (seen_test z sound view n is_huge_state (all_pass (huge_at now.states) first (2 ^ order) huge n inside))) (λ n. refl))
        z.candidates.stuck (run_counted here) sound.stuck

    pub block_held : (held : Numbers) (free : FrameNumbers) (stuck : List ℕ) → is_run now.states order first ≡ true → ((n : ℕ) → set.contains held.members n ≡ (in_run first (2 ^ order) n || set.contains z.held.members n)) → held.bound ≡ z.held.bound → ((n : ℕ) → set.contains free.members n ≡ (not (in_run first (2 ^ order) n) && set.contains z.free.members n)) → free.bound ≡ z.free.bound → stuck ≡ with_more z.candidates.stuck (first / 512) (2 ^ order) → IsSound (record z { held = held; free = free; candidates = record z.candidates { stuck = stuck } }) × (seen held.members z.kept.items ≡ with_run now.states first (2 ^ order) Huge)
    block_held held free stuck run held_each held_same free_each free_same recounts =
        let next = sound_held z sound held free stuck first (2 ^ order) (block_within (run_block run)) (one_block order low high first (block_aligned (run_block run))) (some_frames order low high) (λ n inside. seen_test z sound view n is_free_state (run_free run n inside)) held_each held_same free_each free_same recounts in
        (next.0, next.1 ∙ ap (λ (frames : Frames). with_run frames.states first (2 ^ order) Huge) view)

    pub block_released : (held : Numbers) (free : FrameNumbers) (stuck : List ℕ) → has_block now.states order first ≡ true → all_from (huge_at now.states) first (2 ^ order) ≡ true → ((n : ℕ) → set.contains held.members n ≡ (not (in_run first (2 ^ order) n) && set.contains z.held.members n)) → held.bound ≡ z.held.bound → ((n : ℕ) → set.contains free.members n ≡ (in_run first (2 ^ order) n || set.contains z.free.members n)) → free.bound ≡ z.free.bound → stuck ≡ with_fewer z.candidates.stuck (first / 512) (2 ^ order) → IsSound (record z { held = held; free = free; candidates = record z.candidates { stuck = stuck } }) × (seen held.members z.kept.items ≡ with_run now.states first (2 ^ order) Free)
    block_released held free stuck here huge held_each held_same free_each free_same recounts =
        let next = sound_released z sound held free stuck first (2 ^ order) (block_within here) (one_block order low high first (block_aligned here)) (some_frames order low high) (λ n inside. seen_test z sound view n is_huge_state (all_pass (huge_at now.states) first (2 ^ order) huge n inside)) held_each held_same free_each free_same recounts in
        (next.0, next.1 ∙ ap (λ (frames : Frames). with_run frames.states first (2 ^ order) Free) view)

-- the frames of a zone in which all are free
pub sound_free : (z : Inside) (blocks : ℕ) → 0 < blocks → blocks ≤ 32768 → z.kept.items ≡ replicate (512 * blocks) Free → z.movable.items ≡ replicate (512 * blocks) false → z.held.members ≡ set.empty → 512 * blocks ≤ z.held.bound → ((n : ℕ) → set.contains z.free.members n ≡ nat_lt n (512 * blocks)) → z.free.bound ≡ 512 * blocks → z.candidates.sources.members ≡ set.empty → 512 * blocks ≤ z.candidates.sources.bound → z.candidates.stuck ≡ replicate blocks 0 → IsSound z × (seen z.held.members z.kept.items ≡ replicate (512 * blocks) Free)
sound_free z blocks some few kept movable held held_room free free_room sources sources_room stuck =
    let count : length z.kept.items ≡ 512 * blocks = ap length kept ∙ length-replicate (512 * blocks) Free in
    let movable_count : length z.movable.items ≡ 512 * blocks = ap length movable ∙ length-replicate (512 * blocks) false in
    let stuck_count : length z.candidates.stuck ≡ blocks = ap length stuck ∙ length-replicate blocks 0 in
    let none = λ (n : ℕ). ap (λ s. set.contains s n) held ∙ set.contains-empty nat_cmp n in
    let view = seen_none_held (set.contains z.held.members) z.kept.items none in
    let each = λ (f : Option (FrameState ℕ) → Bool) (n : ℕ). ap (λ (xs : List (FrameState ℕ)). f (slice_get xs n)) (view ∙ kept) in (
      record {
        whole = omega arith;
        some = omega arith;
        few = omega arith;
        movable = omega arith;
        never_huge = λ n. ap (λ (xs : List (FrameState ℕ)). huge_at xs n) kept ∙ no_free is_huge_state blocks n refl refl;
        held = λ n e. absurd (clash (set.contains z.held.members n) e (none n));
        held_room = omega (arith, count, held_room);
        free = λ n. free n ∙ sym (each is_free_state n ∙ all_free blocks n);
        free_room = free_room ∙ sym count;
        sources = λ n. ap (λ s. set.contains s n) sources ∙ set.contains-empty nat_cmp n
            ∙ sym (each (λ o. is_source_state o (true_at z.movable.items n)) n ∙ no_free (λ o. is_source_state o (true_at z.movable.items n)) blocks n refl refl);
        sources_room = omega (arith, count, sources_room);
        stuck = none_counted (stuck_at (seen z.held.members z.kept.items) z.movable.items) blocks z.candidates.stuck
            (λ n. each (λ o. is_stuck_state o (true_at z.movable.items n)) n ∙ no_free (λ o. is_stuck_state o (true_at z.movable.items n)) blocks n refl refl) stuck;
        stuck_blocks = omega (arith, stuck_count, count);
      },
      view ∙ kept,
    )
  where
    no_free : (f : Option (FrameState ℕ) → Bool) (blocks n : ℕ) → f (Some Free) ≡ false → f None ≡ false → f (slice_get (replicate (512 * blocks) Free) n) ≡ false
    no_free f blocks n free none = elim (leb_tells (512 * blocks) n) [
      | inl past ↦ (ap f (slice_get_past (replicate (512 * blocks) Free) n (omega (arith, past.1, length-replicate {A = FrameState ℕ} (512 * blocks) Free))) ∙ none)
      | inr under ↦ (ap f (slice_get_replicate (512 * blocks) n Free under.1) ∙ free)
    ]

    all_free : (blocks n : ℕ) → is_free_state (slice_get (replicate (512 * blocks) Free) n) ≡ nat_lt n (512 * blocks)
    all_free blocks n = elim (leb_tells (512 * blocks) n) [
      | inl past ↦ (ap is_free_state (slice_get_past (replicate (512 * blocks) Free) n (omega (arith, past.1, length-replicate {A = FrameState ℕ} (512 * blocks) Free))) ∙ sym (le-ltb n (512 * blocks) past.1))
      | inr under ↦ (ap is_free_state (slice_get_replicate (512 * blocks) n Free under.1) ∙ sym (lt-ltb n (512 * blocks) under.1))
    ]
