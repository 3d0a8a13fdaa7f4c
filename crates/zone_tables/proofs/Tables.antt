-- What the tables of a sound zone say of its state.
use Rattle.std.proofs.Common.{get_or, ◌≡◌, ℕ, zero, suc, ◌+◌, ◌<◌, Bool, true, false, not, List, [], ◌∷◌, length, ◌⊎◌, inl, inr, refl, sym, ap, subst, ◌≢◌, ◌∙◌, arith}
use Rattle.std.specs.Prelude.{Option, Some, None, IfSome, IsSome, IsTrue, is_some, slice_get, slice_set, nat_eq, map as each, ◌&&◌, if◌then◌else◌}
use Rattle.std.specs.FinMap as map
use Rattle.std.specs.FinSet as set
use Rattle.std.proofs.lemmas.Bool.{eq-eqb, eqb-true, and_parts, not-true}
use Rattle.std.proofs.lemmas.Bool.Decides.{eqb_tells}
use Rattle.std.proofs.lemmas.Option.{cond_some, same_Some, slice_get-get_or, slice_get_within}
use Rattle.frame_core.proofs.Lists.{slice_get_set_same}
use Rattle.frame_core.specs.declared.place.Address.{Address}
use Rattle.frame_core.specs.History.{page_at}
use Rattle.frame_core.proofs.Searches.{some_one}
use Rattle.frame_core.specs.PageFlags.{page_flags}
use Rattle.frame_core.specs.declared.state.FrameState.{FrameState}
use Rattle.frame_core.specs.declared.state.FrameState.TheVariants.{Free, Holds, Source, Target, Huge}
use Rattle.frame_core.specs.History.{last}
use Rattle.table_core.specs.declared.entry.Entry.TheVariants.{Migration}
use Rattle.frame_core.specs.Words.{words_of}
use Rattle.zone_tables.specs.declared.note.PageNote.{PageNote}
use Rattle.zone_tables.specs.declared.zone.ZoneTables.TheInside.{Inside}
use Rattle.state_core.specs.declared.placement.Placement.{Placement}
use Rattle.state_core.specs.declared.placement.Placement.TheVariants.{At, Moving}
use Rattle.zone_tables.specs.MovingPages.{Leaves}
use Rattle.zone_tables.specs.Fits.{state_by, entry_for, FramesFit, WordsFit, NoteFits}
use Rattle.state_core.specs.ZoneState.{words_frame, ZoneState, frame_count, takes_up, is_used, is_held, is_free}
use Rattle.zone_tables.specs.Notes.{placement_of, is_unmovable_of, says_unmovable, is_in_use, unused_note}
use Rattle.state_core.specs.Valid.{IsValidZone, is_under}
use Rattle.state_core.specs.Carrying.{words_now, flags_of}
use Rattle.state_core.specs.Pairs.{holder, can_move}
use Rattle.scan_core.specs.Frames.{page_held, true_at}
use Rattle.std.specs.List.{range_with_len}
use Rattle.zone_tables.specs.Sound.{state_of, IsSound}
use Rattle.state_core.proofs.Facts.{chosen, frame_within}
use Rattle.zone_tables.proofs.Facts.{held_by, is_sound}
use Rattle.zone_tables.proofs.SearchesAndCounts.{placements_seen, takes_state}
use Rattle.state_core.proofs.Placed.{untrue}
use Rattle.zone_tables.proofs.Tabulating.{contains_gathered}
use Rattle.state_core.proofs.Holding.{stands_at, when_not, holder_at, holder_none}
use Rattle.scan_core.proofs.Numbering.{gathered_in}
use Rattle.zone_tables.proofs.NotedPages.{unmovable_past}

-- a list whose items are f of the numbers from a first one on
in_turn : (f : ℕ → ℕ) (xs : List ℕ) (n first : ℕ) → length xs ≡ n →
    ((k : ℕ) → k < n → slice_get xs k ≡ Some (f (first + k))) → xs ≡ each f (range_with_len first n)
in_turn f [] zero first e has = refl
in_turn f [] (suc n) first e has = absurd (omega arith)
in_turn f (x ∷ xs) zero first e has = absurd (omega arith)
in_turn f (x ∷ xs) (suc n) first e has =
    let at : first + 0 ≡ first = omega arith in
    let one : Some x ≡ Some (f first) = has 0 (omega arith) ∙ ap (λ (k : ℕ). Some (f k)) at in
    let here : x ≡ f first = cc in
    let next : (k : ℕ) → first + suc k ≡ first + 1 + k = λ k. omega arith in
    let rest : xs ≡ each f (range_with_len (first + 1) n) =
    in_turn f xs n (first + 1) (omega arith) (λ k h. has (suc k) (omega arith) ∙ ap (λ (j : ℕ). Some (f j)) (next k)) in
    λ i. here i ∷ rest i

-- the frame of a page in use has the page's words
pub words_seen : (rows : List (List ℕ)) (v : ZoneState) → WordsFit rows v → IsValidZone v →
    (page : ℕ) (placement : Placement) → map.get v.placement page ≡ Some placement →
    words_of rows (words_frame placement) ≡ words_now v page
words_seen rows v fit law page placement at =
    in_turn (last v.records page) (words_of rows (words_frame placement)) v.page_size 0
    (fit.sized (words_frame placement) (frame_within v law page placement at))
    (λ k h. fit.each page placement k at h ∙ ap (λ (w : ℕ). Some (last v.records page w)) (zone k)) where
      zone : (k : ℕ) → k ≡ 0 + k
      zone k = omega arith

-- the marks of pageblocks are those of the state
pub mark_seen : {W : ℕ} (z : Inside W) (v : ZoneState) → state_of z ≡ v → (block : ℕ) → block < length z.marks →
    true_at z.marks block ≡ set.contains v.marked block
mark_seen z v view block h =
    sym (gathered_in (true_at z.marks) (length z.marks) block h)
    ∙ ap (λ (u : ZoneState). set.contains u.marked block) view

pub placement_seen : {W : ℕ} (z : Inside W) (v : ZoneState) → state_of z ≡ v → (page : ℕ) →
    placement_of z.notes page ≡ map.get v.placement page
placement_seen z v view page =
    ap (λ (placed : ℕ → Option Placement). placed page) (sym (placements_seen z))
    ∙ ap (λ (u : ZoneState). map.get u.placement page) view

pub record Noted {W : ℕ} (z : Inside W) (v : ZoneState) (page : ℕ) (note : PageNote) : Type 0 where
  pub placement : note.placement ≡ map.get v.placement page
  pub unmovable : note.unmovable ≡ set.contains v.unmovable page
  pub fits : NoteFits note v page

pub note_seen : {W : ℕ} {z : Inside W} {v : ZoneState} → state_of z ≡ v → IsSound z v → {page : ℕ} → IsSome (map.get v.placement page) → {note : PageNote} → slice_get z.notes page ≡ Some note → Noted z v page note
note_seen {W} {z} {v} view sound {page} used {note} at =
    let placed : note.placement ≡ map.get v.placement page = sym (ap placement_in at) ∙ placement_seen z v view page in
    let some : is_some note.placement ≡ true = ap is_some placed ∙ used in
    record {
      placement = placed;
      unmovable =
          sym (ap (λ b. b && note.unmovable) some) ∙ sym (ap says_unmovable at)
          ∙ sym (contains_gathered (is_unmovable_of z.notes) (length z.notes) page (unmovable_past z.notes))
          ∙ ap (λ (u : ZoneState). set.contains u.unmovable page) view;
      fits = sound.notes.each page note at some;
    } where
      placement_in : Option PageNote → Option Placement
      placement_in None = None
      placement_in (Some note) = note.placement

-- a page that an address names is in use
pub named_in_use : {W : ℕ} {z : Inside W} {v : ZoneState} → state_of z ≡ v → IsSound z (state_of z) → (address : Address) (page : ℕ) → page_at v.records address ≡ Some page → IsSome (map.get v.placement page)
named_in_use view invariant address page named = ((is_sound view invariant).valid.agrees.named address page named).1

-- a page in use is noted as such
pub use_seen : {W : ℕ} (z : Inside W) {v : ZoneState} → state_of z ≡ v → (page : ℕ) → IsSome (map.get v.placement page) → is_in_use z.notes page ≡ true
use_seen z {v} view page used = ap is_some (placement_seen z v view page) ∙ used

-- a page in use has a note
pub note_within : {W : ℕ} (z : Inside W) (v : ZoneState) → IsSound z v → (page : ℕ) → IsSome (map.get v.placement page) → page < length z.notes
note_within z v sound page used = omega (arith, sound.valid.pages.numbered page used, sound.notes.count)

-- the note of a page number
abbrev pub note_of : {W : ℕ} → Inside W → ℕ → PageNote
note_of z page = get_or z.notes page unused_note

pub note_is : {W : ℕ} (z : Inside W) (v : ZoneState) → IsSound z v → (page : ℕ) → IsSome (map.get v.placement page) → slice_get z.notes page ≡ Some (note_of z page)
note_is z v sound page used = slice_get-get_or z.notes page unused_note (note_within z v sound page used)

pub named_note : {W : ℕ} {z : Inside W} {v : ZoneState} → state_of z ≡ v → IsSound z (state_of z) → (address : Address) (page : ℕ) → page_at v.records address ≡ Some page → slice_get z.notes page ≡ Some (note_of z page)
named_note {z = z} {v = v} view invariant address page named = note_is z v (is_sound view invariant) page (named_in_use view invariant address page named)

-- the note that is read of a page after it changed is the changed one
pub changed_read : (notes after : List PageNote) (page : ℕ) (note changed read : PageNote) → slice_get notes page ≡ Some note → after ≡ slice_set notes page changed → slice_get after page ≡ Some read → read ≡ changed
changed_read notes after page note changed read at is found =
    same_Some _ _ (sym found ∙ ap (λ (ns : List PageNote). slice_get ns page) is ∙ slice_get_set_same notes page page changed refl (slice_get_within notes page note at))

-- a page gives a state only to its own frames
state_cases : (page : ℕ) (o : Option Placement) (frame : ℕ) (state : FrameState ℕ) → state_by page o frame ≡ Some state →
    ((o ≡ Some (At frame)) × (state ≡ Holds page)) ⊎ ((Leaves o frame × (state ≡ Source page)) ⊎ (state ≡ Target page))
state_cases page None frame state e = cc
state_cases page (Some (At f)) frame state e = let is = cond_some (nat_eq frame f) (Holds page) state e in inl (stands_at (Some (At f)) frame is.0, sym is.1)
state_cases page (Some (Moving serial source target)) frame state e = by_source (eqb_tells frame source) where
  by_source : ((nat_eq frame source ≡ true) × (frame ≡ source)) ⊎ ((nat_eq frame source ≡ false) × (frame ≢ source)) →
      ((Some (Moving serial source target) ≡ Some (At frame)) × (state ≡ Holds page)) ⊎ ((Leaves (Some (Moving serial source target)) frame × (state ≡ Source page)) ⊎ (state ≡ Target page))
  by_source (inl here) =
      let chosen : Some (Source page) ≡ Some state = sym (ap (λ b. if b then Some (Source page) else if nat_eq frame target then Some (Target page) else None) here.0) ∙ e in
      inr (inl ((serial, target, ap (λ (f : ℕ). Some (Moving serial f target)) (sym here.1)), sym (same_Some _ _ chosen)))
  by_source (inr off) =
      let other : (if nat_eq frame target then Some (Target page) else None) ≡ Some state = sym (ap (λ b. if b then Some (Source page) else if nat_eq frame target then Some (Target page) else None) off.0) ∙ e in
      inr (inr (sym (cond_some (nat_eq frame target) (Target page) state other).1))

holds_by : (page q : ℕ) (o : Option Placement) (frame : ℕ) → state_by page o frame ≡ Some (Holds q) →
    (o ≡ Some (At frame)) × (page ≡ q)
holds_by page q o frame e = elim (state_cases page o frame (Holds q) e) [
  | inl at ↦ (at.0, let same : page ≡ q = (let is = at.1 in cc) in same)
  | inr way ↦ absurd (elim way [ inl is ↦ (let bad = is.1 in cc) | inr is ↦ cc ])
]

source_by : (page q : ℕ) (o : Option Placement) (frame : ℕ) → state_by page o frame ≡ Some (Source q) → Leaves o frame × (page ≡ q)
source_by page q o frame e = elim (state_cases page o frame (Source q) e) [
  | inl at ↦ (let bad = at.1 in cc)
  | inr way ↦ elim way [ inl is ↦ (is.0, let same : page ≡ q = (let one = is.1 in cc) in same) | inr is ↦ cc ]
]

-- the state of a frame comes from its block, or from its page, or is Free
pub record ByPage (v : ZoneState) (frame : ℕ) (state : FrameState ℕ) : Type 0 where
  pub page : ℕ
  pub puts : state_by page (map.get v.placement page) frame ≡ Some state

pub frame_cases : (frames : List (FrameState ℕ)) (v : ZoneState) → FramesFit frames v → (frame : ℕ) (state : FrameState ℕ) →
    frame < frame_count v → slice_get frames frame ≡ Some state →
    ByPage v frame state ⊎ (((is_held v frame ≡ true) × (state ≡ Huge)) ⊎ ((is_free v frame ≡ true) × (state ≡ Free)))
frame_cases frames v fit frame state within at = by_held (is_held v frame) (is_used v frame) refl refl where
  by_held : (held used : Bool) → is_held v frame ≡ held → is_used v frame ≡ used → ByPage v frame state
      ⊎ (((is_held v frame ≡ true) × (state ≡ Huge)) ⊎ ((is_free v frame ≡ true) × (state ≡ Free)))
  by_held true used is takes =
      let two : Some state ≡ Some Huge = sym at ∙ fit.of_block frame within is in
      let same : state ≡ Huge = cc in
      inr (inl (is, same))
  by_held false true is takes =
      let one = some_one (λ page. takes_up (map.get v.placement page) frame) (frame_count v) takes in
      let its = takes_state one.0 (map.get v.placement one.0) frame one.2 in
      let same : Some its.0 ≡ Some state = sym (fit.of_page one.0 frame its.0 its.1) ∙ at in
      inl (record { page = one.0; puts = its.1 ∙ same })
  by_held false false is takes =
      let free : is_free v frame ≡ true = λ i. not (takes i) && not (is i) in
      let two : Some state ≡ Some Free = sym at ∙ fit.of_none frame within free in
      let same : state ≡ Free = cc in
      inr (inr (free, same))

-- the page that a frame's state names is in this frame
pub holds_seen : (frames : List (FrameState ℕ)) (v : ZoneState) → FramesFit frames v → (frame page : ℕ) (state : FrameState ℕ) →
    frame < frame_count v → slice_get frames frame ≡ Some state → state ≡ Holds page →
    map.get v.placement page ≡ Some (At frame)
holds_seen frames v fit frame page state within at holds =
    elim (frame_cases frames v fit frame state within at) [
      | inl by ↦ (let is = holds_by by.page page (map.get v.placement by.page) frame (by.puts ∙ ap Some holds) in
          ap (map.get v.placement) (sym is.1) ∙ is.0)
      | inr off ↦ absurd (elim off [
        | inl held ↦ (let bad : Huge ≡ Holds page = sym held.1 ∙ holds in cc)
        | inr
            free ↦ (let bad : Free ≡ Holds page = sym free.1 ∙ holds in cc)
      ])
    ]

-- the page of a source is moving out of it
pub source_seen : (frames : List (FrameState ℕ)) (v : ZoneState) → FramesFit frames v → (frame page : ℕ) (state : FrameState ℕ) →
    frame < frame_count v → slice_get frames frame ≡ Some state → state ≡ Source page →
    Leaves (map.get v.placement page) frame
source_seen frames v fit frame page state within at source =
    elim (frame_cases frames v fit frame state within at) [
      | inl by ↦ (let is = source_by by.page page (map.get v.placement by.page) frame (by.puts ∙ ap Some source) in
          subst (λ (p : ℕ). Leaves (map.get v.placement p) frame) is.1 is.0)
      | inr off ↦ absurd (elim off [
        | inl held ↦ (let bad : Huge ≡ Source page = sym held.1 ∙ source in cc)
        | inr
            free ↦ (let bad : Free ≡ Source page = sym free.1 ∙ source in cc)
      ])
    ]

-- the frame that a moving page leaves is its source
pub source_of_page : (frames : List (FrameState ℕ)) (v : ZoneState) → FramesFit frames v → (page serial source target : ℕ) →
    map.get v.placement page ≡ Some (Moving serial source target) → slice_get frames source ≡ Some (Source page)
source_of_page frames v fit page serial source target at =
    fit.of_page page source (Source page) (ap (λ (o : Option Placement). state_by page o source) at ∙ chosen source _ _)

-- a frame whose state names no page has no page in it
pub none_seen : (frames : List (FrameState ℕ)) (v : ZoneState) → FramesFit frames v → (frame : ℕ) (state : FrameState ℕ) →
    slice_get frames frame ≡ Some state → ((page : ℕ) → state ≡ Holds page → ⊥) → holder v frame ≡ None
none_seen frames v fit frame state at none =
    holder_none v frame (λ page is.
    (let two : Some state ≡ Some (Holds page) = sym at ∙ held_by frames v fit page frame is in
    let same : state ≡ Holds page = cc in none page same))

-- the page that a frame's state holds is the page of the frame
module _ (frames : List (FrameState ℕ)) (v : ZoneState) (valid : IsValidZone v) (fit : FramesFit frames v) (frame : ℕ) (within : frame < frame_count v) where
  pub held_seen : (state : Option (FrameState ℕ)) → slice_get frames frame ≡ state → page_held state ≡ holder v frame
  held_seen None at = sym (holder_none v frame (λ page is. (let two = sym at ∙ held_by frames v fit page frame is in cc)))
  held_seen (Some (Holds page)) at = sym (holder_at v valid page frame (holds_seen frames v fit frame page (Holds page) within at refl))
  held_seen (Some Free) at = sym (none_seen frames v fit frame Free at (λ page is. cc))
  held_seen (Some (Source page)) at = sym (none_seen frames v fit frame (Source page) at (λ page is. cc))
  held_seen (Some (Target page)) at = sym (none_seen frames v fit frame (Target page) at (λ page is. cc))
  held_seen (Some Huge) at = sym (none_seen frames v fit frame Huge at (λ page is. cc))

  pub held_here : (state : Option (FrameState ℕ)) → slice_get frames frame ≡ state → IfSome (page_held state) (λ page. map.get v.placement page ≡ Some (At frame))
  held_here None at = tt
  held_here (Some (Holds page)) at = holds_seen frames v fit frame page (Holds page) within at refl
  held_here (Some Free) at = tt
  held_here (Some (Source page)) at = tt
  held_here (Some (Target page)) at = tt
  held_here (Some Huge) at = tt

-- the note of a page says whether the page may be taken
pub movable_seen : {W : ℕ} (z : Inside W) (v : ZoneState) (page : ℕ) (note : PageNote) → Noted z v page note →
    (nat_eq note.pins 0 && not note.unmovable) ≡ can_move v page
movable_seen z v page note noted = λ i. nat_eq (noted.fits.pins i) 0 && not (noted.unmovable i)

-- the note of a page has the page's flags
pub flags_seen : {W : ℕ} (z : Inside W) (v : ZoneState) (page : ℕ) (note : PageNote) → Noted z v page note → page_flags note.unmovable note.dirty ≡ flags_of v page
flags_seen z v page note noted = λ i. page_flags (noted.unmovable i) (noted.fits.dirty i)

-- a frame is in a block that is handed out exactly where its state is Huge
huge_by : (page : ℕ) (o : Option Placement) (frame : ℕ) → state_by page o frame ≡ Some Huge → ⊥
huge_by page o frame e = elim (state_cases page o frame Huge e) [ inl at ↦ (let is = at.1 in cc) | inr way ↦ elim way [ inl is ↦ (let bad = is.1 in cc) | inr is ↦ cc ] ]

pub huge_seen : (frames : List (FrameState ℕ)) (v : ZoneState) → FramesFit frames v → (frame : ℕ) (state : FrameState ℕ) →
    frame < frame_count v → slice_get frames frame ≡ Some state → state ≡ Huge → is_held v frame ≡ true
huge_seen frames v fit frame state within at huge =
    elim (frame_cases frames v fit frame state within at) [
      | inl by ↦ absurd (huge_by by.page (map.get v.placement by.page) frame (by.puts ∙ ap Some huge))
      | inr off ↦ elim off [ inl held ↦ held.0 | inr free ↦ (let bad : Free ≡ Huge = sym free.1 ∙ huge in cc) ]
    ]

pub no_huge_seen : (frames : List (FrameState ℕ)) (v : ZoneState) → FramesFit frames v → (frame : ℕ) (state : FrameState ℕ) →
    frame < frame_count v → slice_get frames frame ≡ Some state → (state ≡ Huge → ⊥) → is_held v frame ≡ false
no_huge_seen frames v fit frame state within at ne =
    when_not (is_held v frame) (λ held.
    (let two : Some state ≡ Some Huge = sym at ∙ fit.of_block frame within held in let same : state ≡ Huge = cc in
    ne same))

-- a migration entry is that of a moving page
pub migration_is : (o : Option Placement) (source : ℕ) → entry_for o ≡ Migration source → Leaves o source
migration_is None source e = cc
migration_is (Some (At frame)) source e = cc
migration_is (Some (Moving serial from target)) source e =
    let at : from ≡ source = cc in (serial, target, ap (λ (f : ℕ). Some (Moving serial f target)) at)

-- whether a page is moving under a serial
pub under_is : (o : Option Placement) (serial : ℕ) → is_under o serial ≡ true →
    (source target : ℕ) × (o ≡ Some (Moving serial source target))
under_is None serial e = cc
under_is (Some (At frame)) serial e = cc
under_is (Some (Moving s source target)) serial e =
    (source, target, ap (λ (n : ℕ). Some (Moving n source target)) (eqb-true s serial e))

pub own_when : (zone number serial : ℕ) (o : Option Placement) (under source target : ℕ) (lent : Bool) → zone ≡ number →
    o ≡ Some (Moving under source target) → under ≡ serial → lent ≡ false → IsTrue (nat_eq zone number && is_under o serial && not lent)
own_when zone number serial o under source target lent here at same back =
    (λ i. eq-eqb zone number here i && is_under (at i) serial && not (back i)) ∙ ap (λ b. b && true) (eq-eqb under serial same)

pub not_own : (zone number serial : ℕ) (o : Option Placement) (lent some : Bool) → some ≡ false →
    ((source target : ℕ) → o ≡ Some (Moving serial source target) → lent ≡ false → ⊥) →
    (some ≡ true → IsTrue (nat_eq zone number && is_under o serial && not lent)) × (IsTrue (nat_eq zone number && is_under o serial && not lent) →
    some ≡ true)
not_own zone number serial o lent some e none = (
  λ is. absurd (untrue some e is),
  λ own. (let parts = and_parts (nat_eq zone number && is_under o serial) (not lent) own in
      let way = under_is o serial (and_parts (nat_eq zone number) (is_under o serial) parts.0).1 in
      absurd (none way.0 way.1 way.2 (not-true lent parts.1))),
)

pub other_serial : (o : Option Placement) (under serial source target : ℕ) → o ≡ Some (Moving under source target) →
    (under ≡ serial → ⊥) → (s t : ℕ) → o ≡ Some (Moving serial s t) → ⊥
other_serial o under serial source target at ne s t e = let same : under ≡ serial = cc in ne same

-- the note of a page tells where it is
pub noted_at : {W : ℕ} (z : Inside W) {v : ZoneState} → state_of z ≡ v → {number page : ℕ} → number ≡ page → {o : Option Placement} → o ≡ placement_of z.notes number → map.get v.placement page ≡ o
noted_at z {v} view {page = page} is at = sym (at ∙ ap (placement_of z.notes) is ∙ placement_seen z v view page)
