-- The move of a page ends: how each table changes.
use Rattle.std.proofs.Common.{◌≡◌, ◌≢◌, ℕ, ◌+◌, ◌<◌, Bool, true, false, List, length, inl, inr, refl, sym, ap, ◌∙◌, arith}
use Rattle.std.specs.FinMap as map
use Rattle.std.specs.Prelude.{Some, None, slice_get, slice_set, nat_eq, if◌then◌else◌}
use Rattle.std.proofs.lemmas.Bool.{eq-eqb, ne_eqb, or_right, eqb-true, eqb-false, or_cases, or_parts}
use Rattle.std.proofs.lemmas.Bool.Decides.{eqb_tells}
use Rattle.std.proofs.lemmas.List.{length-set}
use Rattle.frame_core.proofs.Lists.{slice_get_set_same, slice_get_set_other}
use Rattle.frame_core.specs.Address.{InRange}
use Rattle.frame_core.specs.declared.place.Address.{Address}
use Rattle.frame_core.specs.declared.state.FrameState.{FrameState}
use Rattle.frame_core.specs.declared.state.FrameState.TheVariants.{Free, Holds, Source, Target}
use Rattle.frame_core.specs.declared.record.Cause.{Cause}
use Rattle.frame_core.specs.declared.record.Record.TheVariants.{Moved, Back}
use Rattle.scan_core.specs.Frames.{Frames, free_at, is_free_state, is_way_state, way_at}
use Rattle.frame_core.specs.Words.{words_of, with_words}
use Rattle.frame_core.specs.Moves.{out}
use Rattle.state_core.specs.declared.placement.Placement.TheVariants.{At, Moving}
use Rattle.table_core.specs.declared.entry.Entry.TheVariants.{Migration}
use Rattle.table_core.specs.Tables.{entry_at, is_listed}
use Rattle.zone_tables.specs.declared.zone.ZoneTables.TheInside.{Inside}
use Rattle.zone_tables.specs.Sound.{IsSound, state_of}
use Rattle.zone_tables.specs.Fits.{state_by, WordsFit}
use Rattle.state_core.specs.Carrying.{relocated}
use Rattle.state_core.specs.Ending.{IsSettled}
use Rattle.state_core.specs.ZoneState.{ZoneState, frame_count, takes_up, is_held}
use Rattle.zone_tables.proofs.LoadsAndStores.{words_set_same, words_set_other}
use Rattle.state_core.proofs.Facts.{chosen}
use Rattle.state_core.proofs.Placed.{untrue}
use Rattle.state_core.proofs.Settled.{can_move_on, can_go_back, frames_apart, moved_source, back_target, source_within, target_in, out_fewer, at_page, at_other}
use Rattle.zone_tables.proofs.Facts.{is_sound}
use Rattle.zone_tables.proofs.ListedAddresses.{all_left, target_unnamed}
use Rattle.zone_tables.proofs.OutAndEnded.{some_out}
use Rattle.zone_tables.proofs.Relocation.{FramesSettled, MovableSettled, WordsSettled}
use Rattle.zone_tables.proofs.Isolation.{TwoSet, two_set}

-- one of the two frames of a moving page holds it now, and the other is free
module _ (frames : List (FrameState ℕ)) (page kept left : ℕ) (apart : kept ≢ left) (kept_in : kept < length frames) (left_in : left < length frames) where
  abbrev changed : List (FrameState ℕ)
  changed = slice_set (slice_set frames left Free) kept (Holds page)

  pub two : TwoSet frames changed left kept Free (Holds page)
  two = two_set frames left kept Free (Holds page) (λ e. apart (sym e)) left_in kept_in

  pub state_kept : (g : ℕ) (state : FrameState ℕ) → state_by page (Some (At kept)) g ≡ Some state → slice_get changed g ≡ Some state
  state_kept g state e = elim (eqb_tells g kept) [
    | inl same ↦ ap (slice_get changed) same.1 ∙ two.second ∙ sym (ap (λ b. if b then Some (Holds page) else None) same.0) ∙ e
    | inr other ↦ (let bad : None ≡ Some state = sym (ap (λ b. if b then Some (Holds page) else None) other.0) ∙ e in cc)
  ]

pub moved_frames : (frames : List (FrameState ℕ)) (page serial source target : ℕ) → source ≢ target → source < length frames → target < length frames → FramesSettled frames (slice_set (slice_set frames source Free) target (Holds page)) page (Moving serial source target) (At target)
moved_frames frames page serial source target apart source_in target_in =
    let set = two frames page target source (λ e. apart (sym e)) target_in source_in in
    record {
      count = set.count;
      taken = state_kept frames page target source (λ e. apart (sym e)) target_in source_in;
      left = λ g had gone. elim (or_cases (nat_eq g source) (nat_eq g target) had) [ inl s ↦ ap (slice_get (changed frames page target source (λ e. apart (sym e)) target_in source_in)) (eqb-true g source s) ∙ set.first | inr t ↦ absurd (untrue _ gone t) ];
      kept = λ g off gone. set.others g (eqb-false g source (or_parts _ _ off).0) (eqb-false g target gone);
    }

pub back_frames : (frames : List (FrameState ℕ)) (page serial source target : ℕ) → source ≢ target → source < length frames → target < length frames → FramesSettled frames (slice_set (slice_set frames target Free) source (Holds page)) page (Moving serial source target) (At source)
back_frames frames page serial source target apart source_in target_in =
    let set = two frames page source target apart source_in target_in in
    record {
      count = set.count;
      taken = state_kept frames page source target apart source_in target_in;
      left = λ g had gone. elim (or_cases (nat_eq g source) (nat_eq g target) had) [ inl s ↦ absurd (untrue _ gone s) | inr t ↦ ap (slice_get (changed frames page source target apart source_in target_in)) (eqb-true g target t) ∙ set.first ];
      kept = λ g off gone. set.others g (eqb-false g target (or_parts _ _ off).1) (eqb-false g source gone);
    }

pub moved_words : {size : ℕ} → (rows : List (List ℕ)) (words : List ℕ) (serial source target : ℕ) → target < length rows → words ≡ words_of rows source → length words ≡ size → WordsSettled size rows (with_words rows target words) (Moving serial source target) (At target)
moved_words rows words serial source target within same sized = record {
  count = length-set rows target words;
  carried = words_set_same rows target words within ∙ same;
  kept = λ g gone. words_set_other rows target g words (eqb-false g target gone);
  sized = λ g has. ap (λ (f : ℕ). length (words_of (with_words rows target words) f)) (eqb-true g target has) ∙ ap length (words_set_same rows target words within) ∙ sized;
}

-- the target has the words of the source already
pub arrived_words : {size : ℕ} → (rows : List (List ℕ)) (serial source target : ℕ) → target < length rows → source ≢ target → length (words_of rows source) ≡ size → WordsSettled size (with_words rows target (words_of rows source)) (with_words rows target (words_of rows source)) (Moving serial source target) (At target)
arrived_words rows serial source target within apart sized = record {
  count = refl;
  carried = words_set_same rows target (words_of rows source) within ∙ sym (words_set_other rows target source (words_of rows source) apart);
  kept = λ g gone. refl;
  sized = λ g has. ap (λ (f : ℕ). length (words_of (with_words rows target (words_of rows source)) f)) (eqb-true g target has) ∙ ap length (words_set_same rows target (words_of rows source) within) ∙ sized;
}

pub back_words : (rows : List (List ℕ)) (v : ZoneState) → WordsFit rows v → (serial source target : ℕ) → source < frame_count v → WordsSettled v.page_size rows rows (Moving serial source target) (At source)
back_words rows v fit serial source target within = record {
  count = refl;
  carried = refl;
  kept = λ g gone. refl;
  sized = λ g has. fit.sized g (let at : g ≡ source = eqb-true g source has in omega arith);
}

pub kept_movable : (movable : List Bool) (can noted : Bool) (kept : ℕ) → kept < length movable → noted ≡ can → MovableSettled movable (slice_set movable kept noted) can (At kept)
kept_movable movable can noted kept within is = record {
  count = length-set movable kept noted;
  here = λ g e. (let at : kept ≡ g = cc in slice_get_set_same movable kept g noted (sym at) within ∙ ap Some is);
  kept = λ g gone. slice_get_set_other movable kept g noted (eqb-false g kept gone);
}

-- one frame of a moving page is still noted as such after the other was freed
still_on_way : (f a : Frames) (kept left : ℕ) → kept ≢ left → a ≡ record f { states = slice_set f.states left Free } → way_at f.states kept ≡ true → way_at a.states kept ≡ true
still_on_way f a kept left apart now way = ap (λ (fs : Frames). way_at fs.states kept) now ∙ ap is_way_state (slice_get_set_other f.states left kept Free apart) ∙ way

-- what is known of a moving page before its move ends
module _ {W : ℕ} {z : Inside W} {v : ZoneState} (view : state_of z ≡ v) (invariant : IsSound z (state_of z)) (page : ℕ) {serial source target : ℕ} (at : map.get v.placement page ≡ Some (Moving serial source target)) where
  sound : IsSound z v
  sound = is_sound view invariant

  pub two_frames : source ≢ target
  two_frames = frames_apart v page serial source target sound.valid at

  source_in : source < frame_count v
  source_in = source_within v page serial source target sound.valid at

  target_inside : target < frame_count v
  target_inside = target_in v page serial source target sound.valid at

  fewer_out : 0 < length (out v.records)
  fewer_out = omega (arith, out_fewer v page serial source target sound.valid at)

  pub some_on_the_way : z.moves.moved + z.moves.back < z.moves.isolated
  some_on_the_way = some_out view invariant fewer_out

  pub ending_room : 0 < z.history.room
  ending_room = let left = sound.valid.journal.room_left in omega (arith, fewer_out, ap (λ (u : ZoneState). u.room) view)

  -- the two frames are in the tables
  pub source_listed : source < z.tables.frames
  source_listed = omega (arith, source_in, sound.tables)

  pub target_listed : target < z.tables.frames
  target_listed = omega (arith, target_inside, sound.tables)

  pub source_row : source < length z.words.rows
  source_row = omega (arith, source_in, sound.words.count)

  pub target_row : target < length z.words.rows
  target_row = omega (arith, target_inside, sound.words.count)

  -- the source and the target of a moving page are noted as such, and one still is after the other was freed
  pub source_on_way : way_at z.frames.states source ≡ true
  source_on_way = ap is_way_state (sound.frames.of_page page source (Source page) (ap (λ o. state_by page o source) at ∙ chosen source _ _))

  pub target_on_way : way_at z.frames.states target ≡ true
  target_on_way = ap is_way_state (sound.frames.of_page page target (Target page) (ap (λ o. state_by page o target) at ∙ ap (λ b. if b then Some (Source page) else if nat_eq target target then Some (Target page) else None) (ne_eqb target source (λ e. two_frames (sym e))) ∙ chosen target _ _))

  pub source_still : (freed : Frames) → freed ≡ record z.frames { states = slice_set z.frames.states target Free } → way_at freed.states source ≡ true
  source_still freed is = still_on_way z.frames freed source target two_frames is source_on_way

  pub target_still : (freed : Frames) → freed ≡ record z.frames { states = slice_set z.frames.states source Free } → way_at freed.states target ≡ true
  target_still freed is = still_on_way z.frames freed target source (λ e. two_frames (sym e)) is target_on_way

  -- each address that is listed under the source names the page, and none is listed under the target
  pub source_left : (a : Address) → InRange a → is_listed (entry_at z.tables.entries a) source ≡ true → entry_at z.tables.entries a ≡ Migration source
  source_left = all_left z.tables.entries v sound.entries sound.valid page serial source target at

  pub target_left : target ≢ source → (a : Address) → InRange a → is_listed (entry_at z.tables.entries a) target ≡ false
  target_left = target_unnamed z.tables.entries v sound.entries sound.valid page serial source target at

  -- no block that is handed out has the target
  pub target_unheld : is_held v target ≡ false
  target_unheld = sound.valid.pages.clear page target (ap (λ o. takes_up o target) at ∙ or_right (nat_eq target source) (nat_eq target target) (eq-eqb target target refl))

  -- what a move or a put back leaves of the page
  pub moved_settled : IsSettled v (relocated v (Moved serial) page (At target)) page target source
  moved_settled = record {
    here = at_page v page (Moving serial source target) (At target) (can_move_on v page serial source target sound.valid at) (Moved serial);
    freed = moved_source v page serial source target sound.valid at (Moved serial);
    flags = refl;
    words = refl;
    others = at_other v page (Moving serial source target) (At target) (can_move_on v page serial source target sound.valid at) (Moved serial);
    names = λ address. refl;
  }

  pub back_settled : (cause : Cause) → IsSettled v (relocated v (Back cause serial) page (At source)) page source target
  back_settled cause = record {
    here = at_page v page (Moving serial source target) (At source) (can_go_back v page serial source target sound.valid at) (Back cause serial);
    freed = back_target v page serial source target sound.valid at (Back cause serial);
    flags = refl;
    words = refl;
    others = at_other v page (Moving serial source target) (At source) (can_go_back v page serial source target sound.valid at) (Back cause serial);
    names = λ address. refl;
  }

-- two frames change their states, one after the other
pub two_puts : (f a b : Frames) (i j : ℕ) (x y : FrameState ℕ) → a ≡ record f { states = slice_set f.states i x } → b ≡ record a { states = slice_set a.states j y } → b ≡ record f { states = slice_set (slice_set f.states i x) j y }
two_puts f a b i j x y first second = second ∙ ap (λ (fs : Frames). record fs { states = slice_set fs.states j y }) first

-- a page's move ends in one of its frames, and the other is free
pub left_settled : (f a b : Frames) (kept left page : ℕ) (can : Bool) → a ≡ record f { states = slice_set f.states left Free } → b ≡ record { states = slice_set a.states kept (Holds page); movable = slice_set a.movable kept can; unmovable = a.unmovable } → b ≡ record { states = slice_set (slice_set f.states left Free) kept (Holds page); movable = slice_set f.movable kept can; unmovable = f.unmovable }
left_settled f a b kept left page can first second = second ∙ ap (λ (fs : Frames). record { states = slice_set fs.states kept (Holds page); movable = slice_set fs.movable kept can; unmovable = fs.unmovable }) first

-- a free frame is still free after another one changed its state
pub still_free : (f a : Frames) (frame other : ℕ) (state : FrameState ℕ) → frame ≢ other → a ≡ record f { states = slice_set f.states other state } → free_at f.states frame ≡ true → free_at a.states frame ≡ true
still_free f a frame other state apart now free = ap (λ (fs : Frames). free_at fs.states frame) now ∙ ap is_free_state (slice_get_set_other f.states other frame state apart) ∙ free
