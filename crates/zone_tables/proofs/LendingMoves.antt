-- The words of the two frames of a moving page are lent, or come back: the tables still stand for the zone.
use Rattle.std.proofs.Common.{◌≡◌, ◌≢◌, ℕ, ◌*◌, ◌<◌, Bool, true, false, List, [], length, inl, inr, refl, sym, ap, subst, ◌∙◌, arith}
use Rattle.std.specs.Prelude.{Option, Some, None, IsSome, is_none, nat_eq, slice_get, unwrap_or, ◌&&◌}
use denote.RawPtr.{Ptr, ◌+ₚ◌}
use Rattle.std.specs.Cmp.{nat_cmp_total}
use Rattle.std.specs.FinMap as map
use Rattle.std.specs.FinSet as set
use Rattle.std.specs.Ordering.{nat_cmp}
use Rattle.std.proofs.lemmas.Bool.{and_from, eq-eqb, false_from_ne_true, or_right}
use Rattle.std.proofs.lemmas.Bool.Decides.{eqb_tells}
use Rattle.std.proofs.lemmas.List.{length-set, set-get_or}
use Rattle.std.proofs.lemmas.Option.{unwrap_or-slice_get}
use Rattle.frame_core.proofs.Lists.{slice_get_set_same, slice_get_set_other}
use Rattle.frame_core.specs.Moves.{isolated}
use Rattle.frame_core.specs.FrameSet.{HasEach, HasNow}
use Rattle.frame_core.specs.LentWords.{Words, place_of, with_rows}
use Rattle.frame_core.specs.Words.{HasBlock, block_words, with_words, words_of}
use Rattle.row_core.specs.Seen.{Row}
use Rattle.state_core.specs.Ending.{IsSettled}
use Rattle.state_core.specs.LentMoves.{IsCopiedMove, IsLentMove, LentMove, is_lent_move, is_on_way, move_returned}
use Rattle.state_core.specs.declared.placement.Placement.{Placement}
use Rattle.state_core.specs.declared.placement.Placement.TheVariants.{At, Moving}
use Rattle.state_core.specs.ZoneState.{ZoneState, takes_up, words_frame}
use Rattle.state_core.proofs.Entries.{contains_insert_same, contains_remove_same, contains_remove_other, get_insert_same}
use Rattle.state_core.proofs.Facts.{not_none, takes_own}
use Rattle.state_core.proofs.Lending.{valid_page_back, valid_page_lent}
use Rattle.state_core.proofs.LentMoves.{lent_way}
use Rattle.state_core.proofs.Settled.{frames_apart, target_in}
use Rattle.fewest_core.specs.FewestMoves.{Move, under_way}
use Rattle.zone_tables.specs.Carried.{AreRowsOf, IfRows}
use Rattle.zone_tables.specs.Fits.{WordsFit}
use Rattle.zone_tables.specs.LentPages.{IsLentNow}
use Rattle.zone_tables.specs.Sound.{IsSound, state_of}
use Rattle.zone_tables.specs.declared.ending.Carried.{Carried}
use Rattle.zone_tables.specs.declared.ending.Carried.TheVariants.{Copy, Source, Rows}
use Rattle.zone_tables.specs.declared.ending.Move.{Move as Way}
use Rattle.zone_tables.specs.declared.zone.ZoneTables.TheInside.{Inside}
use Rattle.zone_tables.proofs.Facts.{Becomes, is_sound}
use Rattle.zone_tables.proofs.HeldWords.{contents_kept}
use Rattle.zone_tables.proofs.LendingBlocks.{block_placed, row_placed}
use Rattle.zone_tables.proofs.LendingPages.{beside, one_changed, one_row, page_lent_holds}
use Rattle.zone_tables.proofs.LentBlocks.{target_here}
use Rattle.zone_tables.proofs.MoveEnds.{source_row}
use Rattle.zone_tables.proofs.Tables.{words_seen}

-- where the rows of two frames come back, and the first one has the words that its frame had, only the second frame changes
pub rows_back : (old between new : List (List ℕ)) (source target : ℕ) (from to : List ℕ) → source < length old → target < length old → from ≡ words_of old source → HasBlock old between source 1 from → HasBlock between new target 1 to → new ≡ with_words old target to
rows_back old between new source target from to low high same first second =
    let kept : between ≡ old = one_changed old between source from low first ∙ ap (with_words old source) (same ∙ unwrap_or-slice_get old source []) ∙ set-get_or old source [] in
    one_changed between new target to (omega (arith, high, first.count)) second ∙ ap (λ (rows : List (List ℕ)). with_words rows target to) kept

-- no page that isn't lent comes back
pub none_back : (away : set.FinSet nat_cmp) (page : ℕ) → set.contains away page ≡ false → set.remove away page ≡ away
none_back away page off = set.same_set nat_cmp_total map.nat_cmp-IsAntisymmetric _ _ (λ q. elim (eqb_tells q page) [
  | inl same ↦ contains_remove_same away page q same.1 ∙ sym (ap (set.contains away) same.1 ∙ off)
  | inr other ↦ contains_remove_other away page q other.1
])

-- a move and its rows, as its parts
abbrev pub move_of : Way → Row → Row → LentMove
move_of way from to = record { page = way.page; serial = way.serial; source = way.source; target = way.target; from = from; to = to }

pub parts_of : {way : Way} {from to : Row} {m : LentMove} → way ≡ record { page = m.page; serial = m.serial; source = m.source; target = m.target } → (from ≡ m.from) × (to ≡ m.to) → move_of way from to ≡ m
parts_of is rows = λ i. move_of (is i) (rows.0 i) (rows.1 i)

-- a move that is no move of a zone isn't one whose words are lent
pub not_lent : (v : ZoneState) (m : LentMove) → (map.get v.placement m.page ≡ Some (Moving m.serial m.source m.target) → ⊥) → false ≡ is_lent_move v m
not_lent v m none = sym (false_from_ne_true _ (λ is. none (lent_way v m is).0))

-- and one that is has its words lent where those of its page are
pub lent_by_page : (v : ZoneState) (m : LentMove) → map.get v.placement m.page ≡ Some (Moving m.serial m.source m.target) → set.contains v.lent_pages m.page ≡ is_lent_move v m
lent_by_page v m at =
    let is : is_on_way (map.get v.placement m.page) m.serial m.source m.target ≡ true = ap (λ (o : Option Placement). is_on_way o m.serial m.source m.target) at
    ∙ and_from (nat_eq m.serial m.serial && nat_eq m.source m.source) _ (and_from (nat_eq m.serial m.serial) _ (eq-eqb m.serial m.serial refl) (eq-eqb m.source m.source refl)) (eq-eqb m.target m.target refl) in
    sym (ap (λ b. b && set.contains v.lent_pages m.page) is)

-- a page is moving once its move began, and its words aren't lent yet
module _ (v next : ZoneState) (m : Move) (way : Way) (is : way ≡ record { page = m.page; serial = isolated v.records; source = m.source; target = m.target }) where
  pub begun_at : next.placement ≡ (under_way v m).placement → map.get next.placement way.page ≡ Some (Moving way.serial way.source way.target)
  begun_at step =
      let at = ap (λ (places : map.FinMap nat_cmp Placement). map.get places m.page) step ∙ get_insert_same v.placement m.page m.page (Moving (isolated v.records) m.source m.target) refl in
      subst (λ (w : Way). map.get next.placement w.page ≡ Some (Moving w.serial w.source w.target)) (sym is) at

  pub begun_here : set.contains next.lent_pages m.page ≡ false → set.contains next.lent_pages way.page ≡ false
  begun_here here = ap (λ (w : Way). set.contains next.lent_pages w.page) is ∙ here

-- whether words are lent is of no matter to where a page is
pub settled_back : {old new : ZoneState} {page kept left : ℕ} → IsSettled old new page kept left → IsSettled old (move_returned new page) page kept left
settled_back settled = record { here = settled.here; freed = settled.freed; flags = settled.flags; words = settled.words; others = settled.others; names = settled.names }

module _ {W : ℕ} {z : Inside W} {v : ZoneState} (view : state_of z ≡ v) (invariant : IsSound z (state_of z)) (page : ℕ) {serial source target : ℕ} (at : map.get v.placement page ≡ Some (Moving serial source target)) where
  sound : IsSound z v
  sound = is_sound view invariant

  takes : (q : ℕ) (place : Placement) → map.get v.placement q ≡ Some place → takes_up (map.get v.placement q) (words_frame place) ≡ true
  takes q place there = ap (λ (o : Option Placement). takes_up o (words_frame place)) there ∙ takes_own place

  takes_target : takes_up (map.get v.placement page) target ≡ true
  takes_target = ap (λ (o : Option Placement). takes_up o target) at ∙ or_right _ _ (eq-eqb target target refl)

  -- no page has its words in the target of a move
  elsewhere : (q : ℕ) (place : Placement) → map.get v.placement q ≡ Some place → words_frame place ≢ target
  elsewhere q place there same = elim (eqb_tells q page) [
    | inl is ↦
        (let two : Some place ≡ Some (Moving serial source target) = sym there ∙ ap (map.get v.placement) is.1 ∙ at in
        let which : place ≡ Moving serial source target = cc in
        frames_apart v page serial source target sound.valid at (sym (ap words_frame which) ∙ same))
    | inr other ↦ other.1 (sound.valid.pages.apart q page target (ap (takes_up (map.get v.placement q)) (sym same) ∙ takes q place there) takes_target)
  ]

  -- both frames are lent
  pub move_lent_holds : IsSome v.memory → (given : Words) → given.rows ≡ z.words.rows → (given.at ≡ z.words.at) × (given.given ≡ z.words.given) → IsLentNow z.words.lent given.lent (Moving serial source target) true → Becomes (record z { words = given }) (record v { lent_pages = set.insert v.lent_pages page })
  move_lent_holds lies given rows place now = page_lent_holds z v sound view page (Moving serial source target) at given rows place true now (valid_page_lent v sound.valid page (record {
    used = not_none _ (Moving serial source target) at;
    pinned = λ frame rests. (let two : Some (Moving serial source target) ≡ Some (At frame) = sym at ∙ rests in absurd (cc));
    lendable = lies;
  }))

  -- the target has other words, and neither frame is lent any more
  module _ (given : Words) (words : List ℕ) (long : length words ≡ v.page_size) (rows : given.rows ≡ with_words z.words.rows target words) (place : (given.at ≡ z.words.at) × (given.given ≡ z.words.given)) (now : IsLentNow z.words.lent given.lent (Moving serial source target) false) where
    abbrev filled : Inside W
    filled = record z { words = with_rows z.words (with_words z.words.rows target words) }

    within : target < length z.words.rows
    within = omega (arith, target_in v page serial source target sound.valid at, sound.words.count)

    filled_words : WordsFit filled.words.rows v
    filled_words = record {
      count = length-set z.words.rows target words ∙ sound.words.count;
      sized = λ frame h. elim (eqb_tells frame target) [
        | inl same ↦ ap (λ (o : Option (List ℕ)). length (unwrap_or o [])) (slice_get_set_same z.words.rows target frame words same.1 within) ∙ long
        | inr other ↦ ap (λ (o : Option (List ℕ)). length (unwrap_or o [])) (slice_get_set_other z.words.rows target frame words other.1) ∙ sound.words.sized frame h
      ];
      each = λ q there word is small. ap (λ (o : Option (List ℕ)). slice_get (unwrap_or o []) word) (slice_get_set_other z.words.rows target (words_frame there) words (elsewhere q there is)) ∙ sound.words.each q there word is small;
    }

    filled_sound : IsSound filled v
    filled_sound = record {
      valid = sound.valid;
      orders = sound.orders;
      cleared = sound.cleared;
      marks = sound.marks;
      claimed = sound.claimed;
      frames = sound.frames;
      movable = sound.movable;
      unmovable = sound.unmovable;
      tables = sound.tables;
      size = sound.size;
      entries = sound.entries;
      words = filled_words;
      lent = sound.lent;
      notes = sound.notes;
      moves = sound.moves;
    }

    filled_view : state_of filled ≡ v
    filled_view = (λ i. record (state_of z) { contents = contents_kept z v sound view target words (sound.valid.pages.clear page target takes_target) i }) ∙ view

    pub filled_holds : Becomes (record z { words = given }) (record v { lent_pages = set.remove v.lent_pages page })
    filled_holds = page_lent_holds filled v filled_sound filled_view page (Moving serial source target) at given rows place false now (valid_page_back v sound.valid page)

  -- the target is here after the source was lent
  pub still_here : (lent : List Bool) → HasNow z.words.lent lent source 1 true → set.contains v.lent_pages page ≡ false → HasEach lent target 1 false
  still_here lent now back frame least most =
      now.others frame (beside frame source (λ same. frames_apart v page serial source target sound.valid at (omega (arith, same, least, most))))
      ∙ target_here z v sound page serial source target at back frame least most

  -- the rows of the two frames are those of the move, once they are lent
  pub rows_lent : IsSome v.memory → (between : Words) (from to : Row) → between.at ≡ z.words.at → between.rows ≡ z.words.rows
      → (from.at ≡ place_of W z.words source) × (from.words ≡ block_words z.words.rows source 1) → (to.at ≡ place_of W between target) × (to.words ≡ block_words between.rows target 1)
      → (length from.words ≡ W) × (length to.words ≡ W)
      → IsLentMove (record v { lent_pages = set.insert v.lent_pages page }) (record { page = page; serial = serial; source = source; target = target; from = from; to = to })
  rows_lent lies between from to same rows first second sizes =
      let size : v.page_size ≡ W = sym (ap (λ (u : ZoneState). u.page_size) view) in
      let low = source_row view invariant page at in
      let some : is_none v.memory ≡ false = none_not v.memory lies in record {
        way = at;
        lent = contains_insert_same v.lent_pages page page refl;
        source_place = ap Some first.0 ∙ block_placed z v view source some;
        target_place = ap Some (second.0 ∙ ap (λ (at : Ptr). at +ₚ target * W * 8) same) ∙ block_placed z v view target some;
        sizes = (sizes.0 ∙ sym size, sizes.1 ∙ sym size);
        words = first.1 ∙ one_row z.words.rows source low ∙ words_seen z.words.rows v sound.words sound.valid page (Moving serial source target) at;
      }
    where
      none_not : (memory : Option Ptr) → IsSome memory → is_none memory ≡ false
      none_not None lies = cc
      none_not (Some place) lies = refl

  -- the rows of a move whose words are lent are those of its frames
  pub rows_of_move : (from to : Row) → IsLentMove v (record { page = page; serial = serial; source = source; target = target; from = from; to = to }) → AreRowsOf W z.words source target from to
  rows_of_move from to its =
      let size : v.page_size ≡ W = sym (ap (λ (u : ZoneState). u.page_size) view) in record {
        places = (row_placed z v view source from.at its.source_place, row_placed z v view target to.at its.target_place);
        sizes = (its.sizes.0 ∙ size, its.sizes.1 ∙ size);
        same = its.words ∙ sym (words_seen z.words.rows v sound.words sound.valid page (Moving serial source target) at);
      }

  -- what is true of the rows that come back, where they do
  pub copied_rows : {S : Type 0} (carried : Carried S) → IfRows carried (λ from to. IsCopiedMove v (record { page = page; serial = serial; source = source; target = target; from = from; to = to })) → IfRows carried (λ from to. AreRowsOf W z.words source target from to × (to.words ≡ from.words))
  copied_rows (Rows from to) its = (rows_of_move from to its.lent, its.copied)
  copied_rows (Copy page) its = tt
  copied_rows Source its = tt
