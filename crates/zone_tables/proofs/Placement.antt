-- A page gets another place, its first, or none: the tables still stand for the zone.
use Rattle.std.proofs.Common.{◌≡◌, ◌≢◌, ℕ, ◌*◌, ◌<◌, Bool, true, false, not, List, length, ◌⊎◌, inl, inr, refl, sym, ap, subst, ◌∙◌, arith}
use Rattle.std.specs.Prelude.{Option, Some, None, IsSome, is_some, slice_get, slice_set, nat_eq, ◌&&◌, ◌||◌, if◌then◌else◌}
use Rattle.std.specs.FinMap as map
use Rattle.std.specs.FinSet as set
use Rattle.std.proofs.lemmas.Bool.{eq-eqb, false_from_ne_true, cases_Bool}
use Rattle.std.proofs.lemmas.Bool.Decides.{eqb_tells}
use Rattle.std.proofs.lemmas.List.{length-set}
use Rattle.frame_core.proofs.Lists.{slice_get_set_same, slice_get_set_other}
use Rattle.frame_core.proofs.Searches.{some_at}
use Rattle.frame_core.specs.Below.{some_below}
use Rattle.frame_core.specs.FrameSet.{has_frame}
use Rattle.frame_core.specs.declared.state.FrameState.{FrameState}
use Rattle.frame_core.specs.declared.state.FrameState.TheVariants.{Free, Holds, Source, Target}
use Rattle.frame_core.specs.History.{last, dirty, pins, maps}
use Rattle.frame_core.specs.Words.{words_of}
use Rattle.state_core.proofs.Facts.{takes_own}
use Rattle.state_core.proofs.Placed.{untrue}
use Rattle.state_core.specs.declared.placement.Placement.{Placement}
use Rattle.state_core.specs.declared.placement.Placement.TheVariants.{At, Moving}
use Rattle.state_core.specs.Valid.{IsValidZone}
use Rattle.state_core.specs.Pairs.{can_move}
use Rattle.state_core.specs.ZoneState.{ZoneState, words_frame, frame_count, takes_up, covers, is_held, is_free}
use Rattle.zone_tables.specs.declared.note.PageNote.{PageNote}
use Rattle.zone_tables.specs.Notes.{movable_at}
use Rattle.zone_tables.specs.Fits.{state_by, FramesFit, LentFit, MovableFit, WordsFit, NoteFits, NotesFit}
use Rattle.std.proofs.lemmas.Option.{cond_some}

-- the states before and after a page got another place
pub record GetsPlace (v w : ZoneState) (page : ℕ) (old new : Option Placement) : Type 0 where
  pub before : IsValidZone v
  pub after : IsValidZone w
  pub at : map.get v.placement page ≡ old
  pub now : map.get w.placement page ≡ new
  pub others : (q : ℕ) → q ≢ page → map.get w.placement q ≡ map.get v.placement q
  pub blocks : w.blocks ≡ v.blocks
  pub size : w.page_size ≡ v.page_size
  pub handed_out : w.handed_out ≡ v.handed_out
  pub claimed : w.claimed ≡ v.claimed

-- how the states of frames change when a page gets another place
pub record FramesPlaced (frames changed : List (FrameState ℕ)) (page : ℕ) (old new : Option Placement) : Type 0 where
  pub count : length changed ≡ length frames
  pub taken : (frame : ℕ) (state : FrameState ℕ) → state_by page new frame ≡ Some state → slice_get changed frame ≡ Some state
  pub left : (frame : ℕ) → takes_up old frame ≡ true → takes_up new frame ≡ false → slice_get changed frame ≡ Some Free
  pub kept : (frame : ℕ) → takes_up old frame ≡ false → takes_up new frame ≡ false → slice_get changed frame ≡ slice_get frames frame

-- the frame of the page notes whether the page may be taken from it
pub record MovablePlaced (movable changed : List Bool) (can : Bool) (new : Option Placement) : Type 0 where
  pub count : length changed ≡ length movable
  pub here : (frame : ℕ) → new ≡ Some (At frame) → slice_get changed frame ≡ Some can
  pub kept : (frame : ℕ) → takes_up new frame ≡ false → slice_get changed frame ≡ slice_get movable frame

-- the frame of the page has the words of the page
pub record WordsPlaced (rows changed : List (List ℕ)) (w : ZoneState) (page : ℕ) (new : Option Placement) : Type 0 where
  pub count : length changed ≡ length rows
  pub mine : (placement : Placement) (word : ℕ) → new ≡ Some placement → word < w.page_size → slice_get (words_of changed (words_frame placement)) word ≡ Some (last w.records page word)
  pub kept : (frame : ℕ) → takes_up new frame ≡ false → words_of changed frame ≡ words_of rows frame
  pub sized : (frame : ℕ) → takes_up new frame ≡ true → length (words_of changed frame) ≡ w.page_size

-- a call leaves the values, flags, pins and addresses of all other pages as they are
pub record LeavesOthers (v w : ZoneState) (page : ℕ) : Type 0 where
  pub last : (q word : ℕ) → q ≢ page → last w.records q word ≡ last v.records q word
  pub dirty : (q : ℕ) → q ≢ page → dirty w.records q ≡ dirty v.records q
  pub pins : (q : ℕ) → q ≢ page → pins w.records q ≡ pins v.records q
  pub maps : (q : ℕ) → q ≢ page → maps w.records q ≡ maps v.records q

either : {A : Type 0} (a b : Bool) (x y z : A) → (if a then Some x else if b then Some y else None) ≡ Some z → (a || b) ≡ true
either true b x y z e = refl
either false b x y z e = (cond_some b y z e).0

-- a frame that a page puts in a state is one that it takes up
pub state_taken : (page : ℕ) (o : Option Placement) (frame : ℕ) (state : FrameState ℕ) → state_by page o frame ≡ Some state → takes_up o frame ≡ true
state_taken page None frame state e = cc
state_taken page (Some (At f)) frame state e = (cond_some (nat_eq frame f) (Holds page) state e).0
state_taken page (Some (Moving serial source target)) frame state e = either (nat_eq frame source) (nat_eq frame target) (Source page) (Target page) state e

in_use : (o : Option Placement) (frame : ℕ) → takes_up o frame ≡ true → IsSome o
in_use None frame e = cc
in_use (Some placement) frame e = refl

module _ (v w : ZoneState) (page : ℕ) (old new : Option Placement) (gets : GetsPlace v w page old new) where
  frames_same : frame_count w ≡ frame_count v
  frames_same = ap (λ (n : ℕ). 512 * n) gets.blocks

  held_same : (g : ℕ) → is_held w g ≡ is_held v g
  held_same g = λ i. some_below (λ first. covers (map.get (gets.handed_out i) first) first g) (frames_same i) || set.contains (gets.claimed i) g

  takes : (o p : Option Placement) (g : ℕ) → o ≡ p → takes_up o g ≡ takes_up p g
  takes o p g e = ap (λ (x : Option Placement). takes_up x g) e

  -- a frame of another page isn't one of this page
  not_old : (q g : ℕ) → q ≢ page → takes_up (map.get v.placement q) g ≡ true → takes_up old g ≡ false
  not_old q g ne has = false_from_ne_true _ (λ e. ne (gets.before.pages.apart q page g has (takes _ _ g gets.at ∙ e)))

  not_new : (q g : ℕ) → q ≢ page → takes_up (map.get v.placement q) g ≡ true → takes_up new g ≡ false
  not_new q g ne has = false_from_ne_true _ (λ e. ne (gets.after.pages.apart q page g (takes _ _ g (gets.others q ne) ∙ has) (takes _ _ g gets.now ∙ e)))

  -- a frame that the page takes up isn't free, and a frame that it has nothing to do with is as before
  new_used : (g : ℕ) → takes_up new g ≡ true → is_free w g ≡ false
  new_used g has =
      let mine : takes_up (map.get w.placement page) g ≡ true = takes _ _ g gets.now ∙ has in
      let numbered = gets.after.pages.numbered page (in_use _ g mine) in
      ap (λ b. not b && not (is_held w g)) (some_at (λ p. takes_up (map.get w.placement p) g) (frame_count w) page numbered mine)

  used_same : (g : ℕ) → takes_up old g ≡ false → takes_up new g ≡ false → (p : ℕ) → takes_up (map.get w.placement p) g ≡ takes_up (map.get v.placement p) g
  used_same g off gone p = elim (eqb_tells p page) [
    | inl same ↦ takes _ _ g (ap (map.get w.placement) same.1 ∙ gets.now) ∙ gone ∙ sym (takes _ _ g (ap (map.get v.placement) same.1 ∙ gets.at) ∙ off)
    | inr other ↦ takes _ _ g (gets.others p other.1)
  ]

  free_same : (g : ℕ) → takes_up old g ≡ false → takes_up new g ≡ false → is_free w g ≡ is_free v g
  free_same g off gone = λ i. not (some_below (λ p. used_same g off gone p i) (frames_same i)) && not (held_same g i)

  pub frames_fit : (frames changed : List (FrameState ℕ)) → FramesFit frames v → FramesPlaced frames changed page old new → FramesFit changed w
  frames_fit frames changed fit change = record {
    count = change.count ∙ fit.count ∙ sym frames_same;
    of_page = λ q g state e. elim (eqb_tells q page) [
      | inl same ↦
          change.taken g state (ap (λ (o : Option Placement). state_by page o g) (sym gets.now) ∙ ap (λ (p : ℕ). state_by p (map.get w.placement p) g) (sym same.1) ∙ e)
      | inr other ↦
          (let was : state_by q (map.get v.placement q) g ≡ Some state = ap (λ (o : Option Placement). state_by q o g) (sym (gets.others q other.1)) ∙ e in
          let has : takes_up (map.get v.placement q) g ≡ true = state_taken q _ g state was in
          change.kept g (not_old q g other.1 has) (not_new q g other.1 has) ∙ fit.of_page q g state was)
    ];
    of_block = λ g h held.
        (let was : is_held v g ≡ true = sym (held_same g) ∙ held in
        change.kept g (false_from_ne_true _ (λ e. untrue _ (gets.before.pages.clear page g (takes _ _ g gets.at ∙ e)) was))
        (false_from_ne_true _ (λ e. untrue _ (gets.after.pages.clear page g (takes _ _ g gets.now ∙ e)) held))
        ∙ fit.of_block g (omega (arith, h, frames_same)) was);
    of_none = λ g h free. by_new g (omega (arith, h, frames_same)) free (cases_Bool (takes_up new g)) (cases_Bool (takes_up old g));
  } where
    by_new : (g : ℕ) → g < frame_count v → is_free w g ≡ true → (takes_up new g ≡ true) ⊎ (takes_up new g ≡ false) → (takes_up old g ≡ true) ⊎ (takes_up old g ≡ false) → slice_get changed g ≡ Some Free
    by_new g h free (inl has) had = absurd (untrue _ (new_used g has) free)
    by_new g h free (inr gone) (inl had) = change.left g had gone
    by_new g h free (inr gone) (inr off) = change.kept g off gone ∙ fit.of_none g h (sym (free_same g off gone) ∙ free)

  pub movable_fit : (movable changed : List Bool) (can : Bool) → MovableFit movable v → MovablePlaced movable changed can new → can ≡ can_move w page → ((q : ℕ) → q ≢ page → can_move w q ≡ can_move v q) → MovableFit changed w
  movable_fit movable changed can fit change is still = record {
    count = change.count ∙ fit.count ∙ sym frames_same;
    each = λ q g e. elim (eqb_tells q page) [
      | inl same ↦ change.here g (sym gets.now ∙ ap (map.get w.placement) (sym same.1) ∙ e) ∙ ap Some (is ∙ ap (can_move w) (sym same.1))
      | inr other ↦
          (let was : map.get v.placement q ≡ Some (At g) = sym (gets.others q other.1) ∙ e in
          change.kept g (not_new q g other.1 (takes _ _ g was ∙ eq-eqb g g refl)) ∙ fit.each q g was ∙ ap Some (sym (still q other.1)))
    ];
  }

  -- a page whose words aren't lent leaves its frames, and those that it comes to aren't lent
  pub lent_fit : (lent : List Bool) → LentFit lent v.handed_out v.lent v.placement v.lent_pages → set.contains v.lent_pages page ≡ false → ((frame : ℕ) → takes_up new frame ≡ true → has_frame lent frame ≡ false) → LentFit lent v.handed_out v.lent w.placement v.lent_pages
  lent_fit lent fit back vacant = record {
    of_block = fit.of_block;
    of_page = λ q g has. elim (eqb_tells q page) [
      | inl same ↦ vacant g (ap (λ (o : Option Placement). takes_up o g) (sym gets.now ∙ ap (map.get w.placement) (sym same.1)) ∙ has) ∙ sym (ap (set.contains v.lent_pages) same.1 ∙ back)
      | inr other ↦ fit.of_page q g (ap (λ (o : Option Placement). takes_up o g) (sym (gets.others q other.1)) ∙ has)
    ];
    others = λ g off none. elim (cases_Bool (takes_up (map.get v.placement page) g)) [
      | inl was ↦ fit.of_page page g was ∙ back
      | inr gone ↦ fit.others g off (λ q. elim (eqb_tells q page) [
        | inl same ↦ ap (λ (p : ℕ). takes_up (map.get v.placement p) g) same.1 ∙ gone
        | inr other ↦ ap (λ (o : Option Placement). takes_up o g) (sym (gets.others q other.1)) ∙ none q
      ])
    ];
  }

  pub words_fit : (rows changed : List (List ℕ)) → WordsFit rows v → WordsPlaced rows changed w page new → LeavesOthers v w page → WordsFit changed w
  words_fit rows changed fit change leaves = record {
    count = change.count ∙ fit.count ∙ sym frames_same;
    sized = λ g h. elim (cases_Bool (takes_up new g)) [ inl has ↦ change.sized g has | inr hasnt ↦ ap length (change.kept g hasnt) ∙ fit.sized g (omega (arith, h, frames_same)) ∙ sym gets.size ];
    each = λ q placement word e small. elim (eqb_tells q page) [
      | inl same ↦ change.mine placement word (sym gets.now ∙ ap (map.get w.placement) (sym same.1) ∙ e) small ∙ ap (λ (p : ℕ). Some (last w.records p word)) (sym same.1)
      | inr other ↦
          (let was : map.get v.placement q ≡ Some placement = sym (gets.others q other.1) ∙ e in
          let has : takes_up (map.get v.placement q) (words_frame placement) ≡ true = takes _ _ (words_frame placement) was ∙ takes_own placement in
          ap (λ (ws : List ℕ). slice_get ws word) (change.kept (words_frame placement) (not_new q (words_frame placement) other.1 has))
          ∙ fit.each q placement word was (omega (arith, small, gets.size)) ∙ ap Some (sym (leaves.last q word other.1)))
    ];
  }

  pub notes_fit : (notes : List PageNote) (note : PageNote) → page < length notes → NotesFit notes v → (IsSome note.placement → NoteFits note w page) → LeavesOthers v w page → NotesFit (slice_set notes page note) w
  notes_fit notes note within fit own leaves = record {
    count = length-set notes page note ∙ fit.count ∙ sym frames_same;
    each = λ q seen is used. elim (eqb_tells q page) [
      | inl same ↦
          (let here : note ≡ seen = (let one : Some note ≡ Some seen = sym (slice_get_set_same notes page q note same.1 within) ∙ is in cc) in
          subst (λ (n : PageNote). NoteFits n w q) here (subst (NoteFits note w) (sym same.1) (own (ap (λ (n : PageNote). is_some n.placement) here ∙ used))))
      | inr other ↦
          (let was = fit.each q seen (sym (slice_get_set_other notes page q note other.1) ∙ is) used in
          record {
            dirty = was.dirty ∙ sym (leaves.dirty q other.1);
            pins = was.pins ∙ sym (leaves.pins q other.1);
            maps = was.maps ∙ sym (leaves.maps q other.1);
          })
    ];
  }

-- the flags of frames, after the frame of a page got one
said : (movable : List Bool) (o : Option Placement) (can : Bool) → ((frame : ℕ) → o ≡ Some (At frame) → frame < length movable) → MovablePlaced movable (movable_at movable o can) can o
said movable None can within = record { count = refl; here = λ g e. cc; kept = λ g gone. refl }
said movable (Some (At frame)) can within = record {
  count = length-set movable frame can;
  here = λ g e. (let at : frame ≡ g = cc in slice_get_set_same movable frame g can (sym at) (within frame refl));
  kept = λ g gone. slice_get_set_other movable frame g can (λ is. untrue _ gone (eq-eqb g frame is));
}
said movable (Some (Moving serial source target)) can within = record { count = refl; here = λ g e. cc; kept = λ g gone. refl }

pub movable_said : (v w : ZoneState) (page : ℕ) (o : Option Placement) → GetsPlace v w page o o → (movable : List Bool) (can : Bool) → MovableFit movable v → can ≡ can_move w page → ((q : ℕ) → q ≢ page → can_move w q ≡ can_move v q) → MovableFit (movable_at movable o can) w
movable_said v w page o gets movable can fit =
    movable_fit v w page o o gets movable (movable_at movable o can) can fit
    (said movable o can (λ frame e. omega (arith, fit.count, gets.before.pages.within page frame (ap (λ (x : Option Placement). takes_up x frame) (gets.at ∙ e) ∙ eq-eqb frame frame refl))))
