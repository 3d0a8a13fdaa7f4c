-- A pageblock is marked, or its mark is taken off: the zone stays sound.
use Rattle.std.proofs.Common.{◌≡◌, ℕ, ◌<◌, ◌≤◌, Bool, true, false, List, length, refl, ap, ◌∙◌, arith}
use Rattle.std.specs.FinSet as set
use Rattle.std.specs.Prelude.{Option, slice_set, unwrap_or, if◌then◌else◌}
use Rattle.std.proofs.lemmas.List.{length-set}
use Rattle.std.proofs.lemmas.Option.{slice_get_past}
use Rattle.frame_core.specs.declared.record.Record.TheVariants.{Mark, Unmark}
use Rattle.frame_core.specs.Moves.{out}
use Rattle.zone_tables.specs.declared.zone.ZoneTables.TheInside.{Inside}
use Rattle.zone_tables.specs.History.{History, told}
use Rattle.zone_tables.specs.Sound.{IsSound, state_of}
use Rattle.scan_core.specs.Frames.{true_at}
use Rattle.state_core.specs.Marking.{block_marked, block_unmarked}
use Rattle.state_core.specs.ZoneState.{ZoneState}
use Rattle.state_core.proofs.Marking.{valid_marked, valid_unmarked}
use Rattle.zone_tables.proofs.Tabulating.{gathered_put}
use Rattle.zone_tables.proofs.HeldWords.{flag_here, flag_there}
use Rattle.scan_core.specs.NumberSet.{gathered}
use Rattle.zone_tables.proofs.Facts.{Becomes, becomes}

no_mark : (marks : List Bool) (blocks : ℕ) → length marks ≡ blocks → (q : ℕ) → blocks ≤ q → true_at marks q ≡ false
no_mark marks blocks all q h = ap (λ (o : Option Bool). unwrap_or o false) (slice_get_past marks q (omega arith))

-- the marks after one was set or taken off
marks_put : (marks : List Bool) (block : ℕ) (mark : Bool) → block < length marks → gathered (true_at (slice_set marks block mark)) (length (slice_set marks block mark)) ≡ (if mark then set.insert (gathered (true_at marks) (length marks)) block else set.remove (gathered (true_at marks) (length marks)) block)
marks_put marks block mark small =
    ap (gathered (true_at (slice_set marks block mark))) (length-set marks block mark)
    ∙ gathered_put (true_at marks) (true_at (slice_set marks block mark)) (length marks) block mark (no_mark marks (length marks) refl) (no_mark (slice_set marks block mark) (length marks) (length-set marks block mark))
    (flag_here marks block mark (omega arith)) (λ q. flag_there marks block q mark)

-- the fields with these marks
abbrev pub with_marks : {W : ℕ} → Inside W → List Bool → History → Inside W
with_marks z marks history = record z { marks = marks; history = history }

-- the fields after a mark was set or taken off
abbrev after_mark : {W : ℕ} → Inside W → ℕ → Bool → History → Inside W
after_mark z block mark history = with_marks z (slice_set z.marks block mark) history

module _ {W : ℕ} (z : Inside W) (v : ZoneState) (sound : IsSound z v) (view : state_of z ≡ v) (block : ℕ) (small : block < v.blocks) (spare : length (out v.records) < v.room) (history : History) where
  mark_sound : IsSound (after_mark z block true history) (block_marked v block)
  mark_sound = record {
    valid = valid_marked v sound.valid spare block;
    orders = sound.orders;
    cleared = sound.cleared;
    lent = sound.lent;
    marks = length-set z.marks block true ∙ sound.marks;
    claimed = sound.claimed;
    tables = sound.tables;
    size = sound.size;
    frames = record { count = sound.frames.count; of_page = sound.frames.of_page; of_block = sound.frames.of_block; of_none = sound.frames.of_none };
    entries = record { each = sound.entries.each };
    words = record { count = sound.words.count; sized = sound.words.sized; each = sound.words.each };
    notes = record { count = sound.notes.count; each = λ page note e used. (let fit = sound.notes.each page note e used in record { dirty = fit.dirty; pins = fit.pins; maps = fit.maps }) };
    moves = record { isolated = sound.moves.isolated; moved = sound.moves.moved; back = sound.moves.back };
    movable = record { count = sound.movable.count; each = sound.movable.each };
    unmovable = record { count = sound.unmovable.count; each = sound.unmovable.each; rest = sound.unmovable.rest };
  }

  unmark_sound : IsSound (after_mark z block false history) (block_unmarked v block)
  unmark_sound = record {
    valid = valid_unmarked v sound.valid spare block;
    orders = sound.orders;
    cleared = sound.cleared;
    lent = sound.lent;
    marks = length-set z.marks block false ∙ sound.marks;
    claimed = sound.claimed;
    tables = sound.tables;
    size = sound.size;
    frames = record { count = sound.frames.count; of_page = sound.frames.of_page; of_block = sound.frames.of_block; of_none = sound.frames.of_none };
    entries = record { each = sound.entries.each };
    words = record { count = sound.words.count; sized = sound.words.sized; each = sound.words.each };
    notes = record { count = sound.notes.count; each = λ page note e used. (let fit = sound.notes.each page note e used in record { dirty = fit.dirty; pins = fit.pins; maps = fit.maps }) };
    moves = record { isolated = sound.moves.isolated; moved = sound.moves.moved; back = sound.moves.back };
    movable = record { count = sound.movable.count; each = sound.movable.each };
    unmovable = record { count = sound.unmovable.count; each = sound.unmovable.each; rest = sound.unmovable.rest };
  }

  mark_view : history ≡ told z.history (Mark block) → state_of (after_mark z block true history) ≡ block_marked v block
  mark_view is =
      let marked = marks_put z.marks block true (omega (arith, small, sound.marks)) in
      let here : state_of (after_mark z block true history) ≡ block_marked (state_of z) block =
      λ i. record (state_of z) { records = (is i).records; room = (is i).room; round = (is i).round; marked = marked i } in
      here ∙ ap (λ (s : ZoneState). block_marked s block) view

  unmark_view : history ≡ told z.history (Unmark block) → state_of (after_mark z block false history) ≡ block_unmarked v block
  unmark_view is =
      let marked = marks_put z.marks block false (omega (arith, small, sound.marks)) in
      let here : state_of (after_mark z block false history) ≡ block_unmarked (state_of z) block =
      λ i. record (state_of z) { records = (is i).records; room = (is i).room; round = (is i).round; marked = marked i } in
      here ∙ ap (λ (s : ZoneState). block_unmarked s block) view

  pub mark_holds : {place : ℕ} {marks : List Bool} → place ≡ block → marks ≡ slice_set z.marks place true → history ≡ told z.history (Mark block) → Becomes (with_marks z marks history) (block_marked v block)
  mark_holds at set is = becomes {ideal = after_mark z block true history} (ap (λ (ms : List Bool). with_marks z ms history) (set ∙ ap (λ k. slice_set z.marks k true) at)) (mark_view is) mark_sound

  pub unmark_holds : {place : ℕ} {marks : List Bool} → place ≡ block → marks ≡ slice_set z.marks place false → history ≡ told z.history (Unmark block) → Becomes (with_marks z marks history) (block_unmarked v block)
  unmark_holds at set is = becomes {ideal = after_mark z block false history} (ap (λ (ms : List Bool). with_marks z ms history) (set ∙ ap (λ k. slice_set z.marks k false) at)) (unmark_view is) unmark_sound
