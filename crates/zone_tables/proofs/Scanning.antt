-- The searches of a round over the frames of a zone are those of its state.
use Rattle.std.proofs.Common.{◌≡◌, ℕ, ◌+◌, ◌/◌, ◌<◌, ◌≤◌, Bool, true, false, not, List, length, refl, sym, ap, ◌∙◌, arith}
use Rattle.std.specs.Prelude.{Option, Some, None, nat_le, nat_lt, slice_get, unwrap_or, ◌&&◌, ◌||◌}
use Rattle.std.specs.FinMap as map
use Rattle.std.proofs.lemmas.Option.{slice_get-get_or}
use Rattle.frame_core.proofs.Searches.{count_from_same, count_same, lowest_same, some_same}
use Rattle.frame_core.specs.Below.{count_below, count_from, highest, lowest, some_below}
use Rattle.frame_core.specs.declared.state.FrameState.{FrameState}
use Rattle.frame_core.specs.declared.state.FrameState.TheVariants.{Free, Holds, Source, Target, Huge}
use Rattle.fewest_core.specs.Claims.{may_go, next_to_go, pages_to_go}
use Rattle.fewest_core.specs.Evacuation.{is_in_run}
use Rattle.frame_core.proofs.Bounds.{lowest_past}
use Rattle.std.proofs.lemmas.Bool.{and_left, and_right, le-ltb, lt-ltb}
use Rattle.scan_core.specs.Frames.{source_at, true_at, is_holding_state, is_huge_state}
use Rattle.scan_core.specs.Pairs as scan
use Rattle.scan_core.specs.declared.fingers.Fingers.{Fingers}
use Rattle.scan_core.specs.declared.fingers.Step.TheVariants.{Pair, Met}
use Rattle.state_core.proofs.Holding.{at_takes, holder_at}
use Rattle.state_core.proofs.Pairing.{no_target_pair}
use Rattle.state_core.specs.declared.placement.Placement.TheVariants.{At}
use Rattle.state_core.specs.Packed.{unmarked_free}
use Rattle.state_core.specs.Valid.{IsValidZone}
use Rattle.state_core.specs.Pairs.{is_marked, can_move_if_some, stays_if_some, holder, holds_movable, is_free_unmarked, is_stuck, next_source, next_target, next_pair, pair_at}
use Rattle.state_core.specs.ZoneState.{ZoneState, frame_count, is_held}
use Rattle.zone_tables.specs.declared.zone.ZoneTables.TheInside.{Inside}
use Rattle.zone_tables.specs.Fits.{FramesFit}
use Rattle.zone_tables.proofs.SearchesAndCounts.{free_seen, highest_same}
use Rattle.zone_tables.proofs.Tables.{holds_seen, none_seen, huge_seen, no_huge_seen, mark_seen}
use Rattle.zone_tables.proofs.Facts.{is_sound}
use Rattle.zone_tables.specs.Sound.{IsSound, state_of}

-- the fingers of a zone are those of its state
fingers_seen : {W : ℕ} (z : Inside W) (v : ZoneState) → state_of z ≡ v → z.fingers ≡ record { migrate = v.migrate; free = v.free }
fingers_seen z v view = λ i. record { migrate = (view i).migrate; free = (view i).free }

-- what a pair that was answered says of the searches for its source and its target
pair_to : (s source target : ℕ) (t : Option ℕ) → Pair source target ≡ scan.step_to s t → (s ≡ source) × (t ≡ Some target)
pair_to s source target None e = cc
pair_to s source target (Some other) e = let first : s ≡ source = cc in let second : other ≡ target = cc in (first, ap Some second)

met_to : (s : ℕ) (t : Option ℕ) → Met ≡ scan.step_to s t → t ≡ None
met_to s None e = refl
met_to s (Some target) e = cc

in_front : (a b : Bool) → (a && b) ≡ ((a && true) && b)
in_front true b = refl
in_front false b = refl

module _ {W : ℕ} {z : Inside W} {v : ZoneState} (view : state_of z ≡ v) (invariant : IsSound z (state_of z)) where
  sound : IsSound z v
  sound = is_sound view invariant

  law : IsValidZone v
  law = sound.valid

  fit : FramesFit z.frames.states v
  fit = sound.frames

  abbrev states : List (FrameState ℕ)
  states = z.frames.states

  abbrev movable : List Bool
  movable = z.frames.movable

  marked_seen : (frame : ℕ) → frame < frame_count v → scan.is_marked z.marks frame ≡ is_marked v frame
  marked_seen frame h = mark_seen z v view (frame / 512) (omega (arith, h, sound.marks))

  held_page : (frame page : ℕ) → frame < frame_count v → slice_get states frame ≡ Some (Holds page) → map.get v.placement page ≡ Some (At frame)
  held_page frame page h at = holds_seen states v fit frame page (Holds page) h at refl

  by_state : (frame : ℕ) → frame < frame_count v → (o : Option (FrameState ℕ)) → slice_get states frame ≡ o → (is_holding_state o && true_at movable frame) ≡ can_move_if_some v (holder v frame)
  by_state frame h None at = let here = slice_get-get_or states frame Free (omega (arith, h, fit.count)) in cc
  by_state frame h (Some Free) at = sym (ap (can_move_if_some v) (none_seen states v fit frame Free at (λ page is. cc)))
  by_state frame h (Some (Source moving)) at = sym (ap (can_move_if_some v) (none_seen states v fit frame (Source moving) at (λ page is. cc)))
  by_state frame h (Some (Target moving)) at = sym (ap (can_move_if_some v) (none_seen states v fit frame (Target moving) at (λ page is. cc)))
  by_state frame h (Some Huge) at = sym (ap (can_move_if_some v) (none_seen states v fit frame Huge at (λ page is. cc)))
  by_state frame h (Some (Holds page)) at =
      let here = held_page frame page h at in
      ap (λ (o : Option Bool). unwrap_or o false) (sound.movable.each page frame here) ∙ sym (ap (can_move_if_some v) (holder_at v law page frame here))

  unheld : (frame : ℕ) (state : FrameState ℕ) → frame < frame_count v → slice_get states frame ≡ Some state → (state ≡ Huge → ⊥) → ((page : ℕ) → state ≡ Holds page → ⊥) → (is_held v frame || stays_if_some v (holder v frame)) ≡ false
  unheld frame state h at not_huge not_page =
      let clear = no_huge_seen states v fit frame state h at not_huge in
      let none = none_seen states v fit frame state at not_page in
      λ i. clear i || stays_if_some v (none i)

  stuck_by_state : (frame : ℕ) → frame < frame_count v → (o : Option (FrameState ℕ)) → slice_get states frame ≡ o → (is_huge_state o || (is_holding_state o && not (true_at movable frame))) ≡ (is_held v frame || stays_if_some v (holder v frame))
  stuck_by_state frame h None at = let here = slice_get-get_or states frame Free (omega (arith, h, fit.count)) in cc
  stuck_by_state frame h (Some Free) at = sym (unheld frame Free h at (λ is. cc) (λ page is. cc))
  stuck_by_state frame h (Some (Source moving)) at = sym (unheld frame (Source moving) h at (λ is. cc) (λ page is. cc))
  stuck_by_state frame h (Some (Target moving)) at = sym (unheld frame (Target moving) h at (λ is. cc) (λ page is. cc))
  stuck_by_state frame h (Some Huge) at = sym (ap (λ b. b || stays_if_some v (holder v frame)) (huge_seen states v fit frame Huge h at refl))
  stuck_by_state frame h (Some (Holds page)) at =
      let here = held_page frame page h at in
      let clear = law.pages.clear page frame (at_takes _ frame here) in
      let holds = holder_at v law page frame here in
      ap (λ (o : Option Bool). not (unwrap_or o false)) (sound.movable.each page frame here) ∙ sym (λ i. clear i || stays_if_some v (holds i))

  pub source_seen : (frame : ℕ) → frame < frame_count v → scan.is_source states movable z.marks frame ≡ holds_movable v frame
  source_seen frame h = λ i. not (marked_seen frame h i) && by_state frame h (slice_get states frame) refl i

  pub target_seen : (frame : ℕ) → frame < frame_count v → scan.is_target states z.marks frame ≡ is_free_unmarked v frame
  target_seen frame h = λ i. not (marked_seen frame h i) && free_seen states v fit frame h i

  pub stuck_seen : (frame : ℕ) → frame < frame_count v → scan.is_stuck states movable z.marks frame ≡ is_stuck v frame
  stuck_seen frame h = λ i. not (marked_seen frame h i) && stuck_by_state frame h (slice_get states frame) refl i

  pub any_stuck_seen : some_below (scan.is_stuck states movable z.marks) (length states) ≡ some_below (is_stuck v) (frame_count v)
  any_stuck_seen =
      sym (some_same (scan.is_stuck states movable z.marks) (is_stuck v) (length states) (λ frame h. stuck_seen frame (omega (arith, h, fit.count))))
      ∙ ap (some_below (is_stuck v)) fit.count

  pub vacant_seen : count_below (scan.is_target states z.marks) (length states) ≡ unmarked_free v
  vacant_seen =
      count_same (scan.is_target states z.marks) (is_free_unmarked v) (length states) (λ frame h. target_seen frame (omega (arith, h, fit.count)))
      ∙ ap (count_below (is_free_unmarked v)) fit.count

  pub last_vacant_seen : (end : ℕ) → end ≤ frame_count v → highest (scan.is_target states z.marks) end ≡ highest (is_free_unmarked v) end
  last_vacant_seen end within = highest_same (scan.is_target states z.marks) (is_free_unmarked v) end (λ frame h. target_seen frame (omega (arith, h, within)))

  pub end_seen : (end : ℕ) → end ≤ frame_count v → end ≤ length states
  end_seen end within = omega (arith, within, fit.count)

  pub frames_seen : length states ≡ frame_count v
  frames_seen = fit.count

  go_seen : (frame : ℕ) → frame < frame_count v → source_at states movable frame ≡ may_go v frame
  go_seen frame h = by_state frame h (slice_get states frame) refl

  pub to_go_counted : (first size : ℕ) → first + size ≤ frame_count v → count_from (source_at states movable) first size ≡ pages_to_go first size v
  to_go_counted first size within = count_from_same (source_at states movable) (may_go v) first size (λ frame low high. go_seen frame (omega (arith, high, within)))

  pub next_to_go_seen : (first size : ℕ) → first + size ≤ frame_count v → lowest (λ frame. nat_le first frame && source_at states movable frame) (first + size) ≡ next_to_go first size v
  next_to_go_seen first size within =
      lowest_same (λ frame. nat_le first frame && source_at states movable frame) (λ frame. is_in_run first size frame && may_go v frame) (first + size)
      (λ frame h. (λ i. nat_le first frame && go_seen frame (omega (arith, h, within)) i) ∙ in_front (nat_le first frame) (may_go v frame) ∙ ap (λ b. (nat_le first frame && b) && may_go v frame) (sym (lt-ltb _ _ h)))
      ∙ sym (lowest_past (λ frame. is_in_run first size frame && may_go v frame) (first + size) (frame_count v) within (λ frame low h. and_left _ _ (and_right (nat_le first frame) _ (le-ltb _ _ low))))

  abbrev fingers : Fingers
  fingers = record { migrate = v.migrate; free = v.free }

  pub next_source_seen : scan.next_source states movable z.marks fingers ≡ next_source v
  next_source_seen =
      lowest_same (λ frame. nat_le v.migrate frame && scan.is_source states movable z.marks frame) (λ frame. nat_le v.migrate frame && holds_movable v frame) v.free
      (λ frame h. let high = law.fingers.ordered.1 in ap (λ b. nat_le v.migrate frame && b) (source_seen frame (omega (arith, h, high))))

  pub next_target_seen : (source : ℕ) → scan.next_target states z.marks fingers source ≡ next_target v source
  next_target_seen source =
      highest_same (λ frame. nat_lt source frame && scan.is_target states z.marks frame) (λ frame. nat_lt source frame && is_free_unmarked v frame) v.free
      (λ frame h. let high = law.fingers.ordered.1 in ap (λ b. nat_lt source frame && b) (target_seen frame (omega (arith, h, high))))

  pub pair_seen : {source target : ℕ} → Pair source target ≡ scan.next_step states movable z.marks z.fingers → (next_source v ≡ Some source) × (next_target v source ≡ Some target)
  pair_seen {source} {target} e = by_source (scan.next_source states movable z.marks fingers) refl (e ∙ ap (scan.next_step states movable z.marks) (fingers_seen z v view)) where
    by_source : (o : Option ℕ) → scan.next_source states movable z.marks fingers ≡ o → Pair source target ≡ scan.step_from states z.marks fingers o → (next_source v ≡ Some source) × (next_target v source ≡ Some target)
    by_source None is e = cc
    by_source (Some s) is e =
        let both = pair_to s source target (scan.next_target states z.marks fingers s) e in
        (sym next_source_seen ∙ is ∙ ap Some both.0, ap (next_target v) (sym both.0) ∙ sym (next_target_seen s) ∙ both.1)

  pub met_seen : Met ≡ scan.next_step states movable z.marks z.fingers → next_pair v ≡ None
  met_seen e = by_source (scan.next_source states movable z.marks fingers) refl (e ∙ ap (scan.next_step states movable z.marks) (fingers_seen z v view)) where
    by_source : (o : Option ℕ) → scan.next_source states movable z.marks fingers ≡ o → Met ≡ scan.step_from states z.marks fingers o → next_pair v ≡ None
    by_source None is e = ap (pair_at v) (sym next_source_seen ∙ is)
    by_source (Some s) is e = no_target_pair v s (sym next_source_seen ∙ is) (sym (next_target_seen s) ∙ met_to s (scan.next_target states z.marks fingers s) e)
