-- What searches and counts in the tables of a zone answer.
use Rattle.std.proofs.Common.{◌≡◌, ℕ, zero, suc, ◌*◌, ◌/◌, ◌<◌, ◌≤◌, Bool, true, false, not, List, length, refl, sym, ap, ◌∙◌, lt-ltb, le-ltb, arith}
use Rattle.std.specs.Prelude.{Option, Some, None, IsSome, IfSome, is_some, is_none, nat_eq, nat_lt, if◌then◌else◌, ◌&&◌, ◌||◌}
use Rattle.std.specs.Option.{option_and_then, option_or}
use Rattle.std.specs.FinMap.{get}
use Rattle.std.proofs.lemmas.Option.{slice_get_past}
use Rattle.frame_core.proofs.Searches.{some_none, some_one, some_same, lowest_same, count_none, count_same, count_some, count_from_same}
use Rattle.frame_core.specs.Below.{lowest, highest, count_below, some_below}
use Rattle.frame_core.specs.declared.state.FrameState.{FrameState}
use Rattle.frame_core.specs.declared.state.FrameState.TheVariants.{Holds, Source, Target}
use Rattle.zone_tables.specs.declared.note.PageNote.{PageNote}
use Rattle.zone_tables.specs.declared.zone.ZoneTables.TheInside.{Inside}
use Rattle.state_core.specs.declared.placement.Placement.{Placement}
use Rattle.state_core.specs.declared.placement.Placement.TheVariants.{At, Moving}
use Rattle.zone_tables.specs.Fits.{state_by, FramesFit, UnmovableFit}
use Rattle.zone_tables.specs.Sound.{state_of}
use Rattle.state_core.specs.ZoneState.{ZoneState, frame_count, takes_up, is_used, is_held, is_free, free_in_block, frame_for, frame_with_unmovable, frame_without_unmovable, has_unmovable as zone_has_unmovable, is_begun as zone_begun, is_emptiest as zone_emptiest, is_unmovable_in, lowest_free_frame, lowest_free_where, lowest_unused_page, is_whole as whole_block}
use Rattle.scan_core.specs.Apart.{frame_apart, has_unmovable, is_begun, is_emptiest, lowest_where}
use Rattle.scan_core.specs.FrameCounts.{count_in_block}
use Rattle.scan_core.specs.FrameSet.{all_of_block}
use Rattle.scan_core.specs.Frames.{Frames, free_at, is_free_state, free_frames, is_whole, blocks_of}
use Rattle.zone_tables.specs.Notes.{placement_of, is_in_use}
use Rattle.zone_tables.specs.HandedOut.{order_of}
use Rattle.zone_tables.specs.Tabulated.{tabulated}
use Rattle.zone_tables.proofs.UnmovablePages.{unmovable_read}
use Rattle.zone_tables.proofs.Tabulating.{get_tabulated_all}
use Rattle.std.proofs.lemmas.Bool.{and_right}

pub some_is : (o : Option ℕ) (i : ℕ) → IsSome o → IfSome o (λ z. z ≡ i) → o ≡ Some i
some_is None i s e = cc
some_is (Some z) i s e = ap Some e

pub placement_past : (notes : List PageNote) (page : ℕ) → length notes ≤ page → placement_of notes page ≡ None
placement_past notes page h = ap (option_and_then (λ (note : PageNote). note.placement)) (slice_get_past notes page h)

-- the map of placements agrees with the notes
pub get_placements : (notes : List PageNote) (page : ℕ) → get (tabulated (placement_of notes) (length notes)) page ≡ placement_of notes page
get_placements notes page = get_tabulated_all (placement_of notes) (length notes) page (placement_past notes)

-- a moving page puts a frame of its own in a state, and this state isn't Free
puts : (page : ℕ) (a b : Bool) → (a || b) ≡ true → (state : FrameState ℕ) × ((if a then Some (Source page) else if b then Some (Target page) else None) ≡ Some state) × (is_free_state (Some state) ≡ false)
puts page true b e = (Source page, refl, refl)
puts page false true e = (Target page, refl, refl)
puts page false false e = cc

pub takes_state : (page : ℕ) (o : Option Placement) (frame : ℕ) → takes_up o frame ≡ true → (state : FrameState ℕ) × (state_by page o frame ≡ Some state) × (is_free_state (Some state) ≡ false)
takes_state page None frame e = cc
takes_state page (Some (At f)) frame e = (Holds page, ap (λ b. if b then Some (Holds page) else None) e, refl)
takes_state page (Some (Moving serial source target)) frame e = puts page (nat_eq frame source) (nat_eq frame target) e

-- a frame is free in the tables exactly where it is free in the state
pub free_seen : (frames : List (FrameState ℕ)) (v : ZoneState) → FramesFit frames v → (frame : ℕ) → frame < frame_count v → free_at frames frame ≡ is_free v frame
free_seen frames v fit frame within = by_held (is_held v frame) (is_used v frame) refl refl where
  by_held : (held used : Bool) → is_held v frame ≡ held → is_used v frame ≡ used → free_at frames frame ≡ (not (is_used v frame) && not (is_held v frame))
  by_held true used is at = ap is_free_state (fit.of_block frame within is) ∙ sym (and_right (not (is_used v frame)) _ (ap not is))
  by_held false true is at =
      let one = some_one (λ page. takes_up (get v.placement page) frame) (frame_count v) at in
      let state = takes_state one.0 (get v.placement one.0) frame one.2 in
      ap is_free_state (fit.of_page one.0 frame state.0 state.1) ∙ state.2 ∙ sym (ap (λ b. not b && not (is_held v frame)) at)
  by_held false false is at =
      let free : is_free v frame ≡ true = λ i. not (at i) && not (is i) in
      ap is_free_state (fit.of_none frame within free) ∙ sym free

pub lowest_free_seen : (frames : List (FrameState ℕ)) (v : ZoneState) → FramesFit frames v → lowest (free_at frames) (length frames) ≡ lowest_free_frame v
lowest_free_seen frames v fit =
    lowest_same (free_at frames) (is_free v) (length frames) (λ frame h. free_seen frames v fit frame (omega (arith, h, fit.count)))
    ∙ ap (lowest (is_free v)) fit.count

pub highest_same : (p r : ℕ → Bool) (n : ℕ) → ((k : ℕ) → k < n → p k ≡ r k) → highest p n ≡ highest r n
highest_same p r zero same = refl
highest_same p r (suc n) same =
    let here : p n ≡ r n = same n (omega arith) in
    let rest : highest p n ≡ highest r n = highest_same p r n (λ k h. same k (omega (arith, h))) in
    λ i. if here i then Some n else rest i

-- whether some number passes is whether any are counted
some_counted : (p : ℕ → Bool) (n : ℕ) → nat_lt 0 (count_below p n) ≡ some_below p n
some_counted p n = by (some_below p n) refl where
  by : (b : Bool) → some_below p n ≡ b → nat_lt 0 (count_below p n) ≡ some_below p n
  by true e = let one = some_one p n e in lt-ltb 0 (count_below p n) (count_some p n one.0 one.1 one.2) ∙ sym e
  by false e = le-ltb 0 (count_below p n) (omega (arith, count_none p n (some_none p n e))) ∙ sym e

-- the searches by pageblocks find the same in the tables as in the state
module _ (frames : Frames) (v : ZoneState) (fit : FramesFit frames.states v) (counted : UnmovableFit frames.unmovable v) where
  free_count_seen : (block : ℕ) → block < v.blocks → count_in_block (free_at frames.states) block ≡ free_in_block v block
  free_count_seen block low = count_from_same (free_at frames.states) (is_free v) (512 * block) 512 (λ frame from to. free_seen frames.states v fit frame (omega (arith, to, low)))

  unmovable_seen : (block : ℕ) → block < v.blocks → has_unmovable frames.unmovable block ≡ zone_has_unmovable v block
  unmovable_seen block low = ap (nat_lt 0) (unmovable_read v frames.unmovable counted block low) ∙ some_counted (is_unmovable_in v block) (frame_count v)

  as_many_blocks : length frames.states / 512 ≡ v.blocks
  as_many_blocks = omega (arith, fit.count)

  emptiest_seen : (block : ℕ) → block < v.blocks → is_emptiest (free_at frames.states) (length frames.states / 512) block ≡ zone_emptiest v block
  emptiest_seen block low =
      ap (λ n. is_emptiest (free_at frames.states) n block) as_many_blocks
      ∙ ap not (sym (some_same (λ other. nat_lt (count_in_block (free_at frames.states) block) (count_in_block (free_at frames.states) other)) (λ other. nat_lt (free_in_block v block) (free_in_block v other)) v.blocks
      (λ other h i. nat_lt (free_count_seen block low i) (free_count_seen other h i))))

  where_seen : (p q : ℕ → Bool) → ((block : ℕ) → block < v.blocks → p block ≡ q block) → lowest_where (free_at frames.states) p (length frames.states) ≡ lowest_free_where v q
  where_seen p q same =
      lowest_same (λ frame. free_at frames.states frame && p (frame / 512)) (λ frame. is_free v frame && q (frame / 512)) (length frames.states)
      (λ frame h i. free_seen frames.states v fit frame (omega (arith, h, fit.count)) i && same (frame / 512) (omega (arith, h, fit.count)) i)
      ∙ ap (lowest (λ frame. is_free v frame && q (frame / 512))) fit.count

  whole_seen : (block : ℕ) → block < v.blocks → all_of_block (free_at frames.states) block ≡ whole_block v block
  whole_seen block low = ap (λ n. nat_eq n 512) (free_count_seen block low)

  begun_seen : (block : ℕ) → block < v.blocks → is_begun (free_at frames.states) frames.unmovable block ≡ zone_begun v block
  begun_seen block low = λ i. not (whole_seen block low i) && not (unmovable_seen block low i)

  pub apart_seen : (unmovable : Bool) → v.apart ≡ true → frame_apart frames unmovable ≡ frame_for v unmovable
  apart_seen unmovable apart = by unmovable where
    by : (b : Bool) → frame_apart frames b ≡ frame_for v b
    by true = (λ i. option_or (where_seen (has_unmovable frames.unmovable) (zone_has_unmovable v) unmovable_seen i) (where_seen (is_emptiest (free_at frames.states) (length frames.states / 512)) (zone_emptiest v) emptiest_seen i))
        ∙ sym (ap (λ a. if not a then lowest_free_frame v else frame_with_unmovable v) apart)
    by false = (λ i. option_or (where_seen (is_begun (free_at frames.states) frames.unmovable) (zone_begun v) begun_seen i)
        (option_or (where_seen (all_of_block (free_at frames.states)) (whole_block v) whole_seen i) (lowest_free_seen frames.states v fit i)))
        ∙ sym (ap (λ a. if not a then lowest_free_frame v else frame_without_unmovable v) apart)

pub placements_seen : {W : ℕ} (z : Inside W) → get (state_of z).placement ≡ placement_of z.notes
placements_seen z = λ i page. get_placements z.notes page i

pub lowest_unused_seen : {W : ℕ} (z : Inside W) (v : ZoneState) → state_of z ≡ v → length z.notes ≡ frame_count v → lowest (λ page. is_none (placement_of z.notes page)) (length z.notes) ≡ lowest_unused_page v
lowest_unused_seen z v view count =
    ap (λ (placed : ℕ → Option Placement). lowest (λ page. is_none (placed page)) (length z.notes)) (sym (placements_seen z))
    ∙ ap (λ (u : ZoneState). lowest (λ page. is_none (get u.placement page)) (length z.notes)) view
    ∙ ap (lowest (λ page. is_none (get v.placement page))) count

-- the counts of free frames and of whole pageblocks
pub free_counted : (frames : List (FrameState ℕ)) (v : ZoneState) → FramesFit frames v → free_frames frames ≡ count_below (is_free v) (frame_count v)
free_counted frames v fit =
    count_same (free_at frames) (is_free v) (length frames) (λ frame h. free_seen frames v fit frame (omega (arith, h, fit.count)))
    ∙ ap (count_below (is_free v)) fit.count

pub whole_counted : (frames : List (FrameState ℕ)) (v : ZoneState) → FramesFit frames v → count_below (is_whole frames) (blocks_of frames) ≡ count_below (whole_block v) v.blocks
whole_counted frames v fit =
    let blocks : blocks_of frames ≡ v.blocks = omega (arith, fit.count) in
    count_same (is_whole frames) (whole_block v) (blocks_of frames) (λ block h.
    ap (λ n. nat_eq n 512) (count_from_same (free_at frames) (is_free v) (512 * block) 512 (λ frame low high. free_seen frames v fit frame (omega (arith, h, blocks, high)))))
    ∙ ap (count_below (whole_block v)) blocks

-- the counts of pages in use and of blocks that are handed out
pub in_use_seen : {W : ℕ} (z : Inside W) (v : ZoneState) → state_of z ≡ v → length z.notes ≡ frame_count v → count_below (is_in_use z.notes) (length z.notes) ≡ count_below (λ page. is_some (get v.placement page)) (frame_count v)
in_use_seen z v view count =
    ap (λ (placed : ℕ → Option Placement). count_below (λ page. is_some (placed page)) (length z.notes)) (sym (placements_seen z))
    ∙ ap (λ (u : ZoneState). count_below (λ page. is_some (get u.placement page)) (length z.notes)) view
    ∙ ap (count_below (λ page. is_some (get v.placement page))) count

pub order_past : (orders : List (Option ℕ)) (first : ℕ) → length orders ≤ first → order_of orders first ≡ None
order_past orders first h = ap (option_and_then (λ (order : Option ℕ). order)) (slice_get_past orders first h)

pub orders_seen : {W : ℕ} (z : Inside W) (v : ZoneState) → state_of z ≡ v → order_of z.handed_out ≡ get v.handed_out
orders_seen z v view =
    sym (λ i first. get_tabulated_all (order_of z.handed_out) (length z.handed_out) first (order_past z.handed_out) i)
    ∙ ap (λ (u : ZoneState). get u.handed_out) view

pub blocks_seen : {W : ℕ} (z : Inside W) (v : ZoneState) → state_of z ≡ v → length z.handed_out ≡ frame_count v → count_below (λ first. is_some (order_of z.handed_out first)) (length z.handed_out) ≡ count_below (λ first. is_some (get v.handed_out first)) (frame_count v)
blocks_seen z v view count = λ i. count_below (λ first. is_some (orders_seen z v view i first)) (count i)
