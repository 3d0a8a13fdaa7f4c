-- The words of a block are lent, or come back: the tables still stand for the zone.
use Rattle.std.proofs.Common.{◌≡◌, ◌≢◌, ℕ, ◌+◌, ◌*◌, ◌^◌, ◌<◌, ◌≤◌, Bool, true, false, List, [], ◌∷◌, length, replicate, inl, inr, refl, sym, ap, subst, ◌∙◌, arith}
use Rattle.std.specs.Prelude.{Option, Some, None, IfSome, IsSome, is_none, is_some, not, ◌&&◌, if◌then◌else◌}
use denote.RawPtr.{Ptr, ◌+ₚ◌}
use Rattle.std.specs.FinMap as map
use Rattle.std.specs.FinSet as set
use Rattle.std.specs.List.{All}
use Rattle.std.specs.Option.{option_map}
use Rattle.std.specs.Ordering.{nat_cmp}
use Rattle.std.proofs.lemmas.Bool.{both_ways, cases_Bool}
use Rattle.std.proofs.lemmas.Bool.Decides.{eqb_tells, leb_tells}
use Rattle.std.proofs.lemmas.Nat.{pow_pos}
use Rattle.std.proofs.lemmas.Option.{same_Some}
use Rattle.frame_core.specs.FrameSet.{has_frame, HasNow}
use Rattle.frame_core.specs.LentWords.{Words, place_of}
use Rattle.frame_core.specs.Words.{HasBlock}
use Rattle.row_core.specs.Seen.{Row}
use Rattle.scan_core.specs.Frames.{true_at}
use Rattle.scan_core.specs.NumberSet.{gathered}
use Rattle.state_core.specs.Contents.{contents_of}
use Rattle.state_core.specs.Lending.{block_place, block_returned}
use Rattle.state_core.specs.declared.placement.Placement.{Placement}
use Rattle.state_core.specs.Valid.{IsValidZone}
use Rattle.state_core.specs.ZoneState.{ZoneState, covers, takes_up, words_frame}
use Rattle.state_core.proofs.Contents.{length_contents, valid_contents_written}
use Rattle.state_core.proofs.Entries.{contains_insert_same, contains_insert_other, contains_remove_same, contains_remove_other}
use Rattle.state_core.proofs.Facts.{takes_own}
use Rattle.state_core.proofs.HandingOut.{in_block}
use Rattle.state_core.proofs.Lending.{valid_block_returned}
use Rattle.zone_tables.specs.Contents.{contents_at, memory_of, words_held}
use Rattle.zone_tables.specs.Fits.{LentFit, WordsFit}
use Rattle.zone_tables.specs.HandedOut.{order_of, is_lent_at}
use Rattle.zone_tables.specs.LentPages.{pages_lent}
use Rattle.zone_tables.specs.Sound.{IsSound, state_of}
use Rattle.zone_tables.specs.Tabulated.{tabulated}
use Rattle.zone_tables.specs.declared.zone.ZoneTables.TheInside.{Inside}
use Rattle.zone_tables.proofs.BlockWords.{put_whole}
use Rattle.zone_tables.proofs.Facts.{Becomes, becomes}
use Rattle.zone_tables.proofs.LentBlocks.{off_blocks}
use Rattle.zone_tables.proofs.LentPages.{lent_same}
use Rattle.zone_tables.proofs.HeldWords.{block_sound, block_view, blocks_apart, held_contents, off_block, order_at, order_is}
use Rattle.zone_tables.proofs.SearchesAndCounts.{order_past}
use Rattle.zone_tables.proofs.Tabulating.{gathered_put, gathered_same}

-- the numbers of what is away, where one of them goes or comes
abbrev pub away_then : set.FinSet nat_cmp → ℕ → Bool → set.FinSet nat_cmp
away_then away number goes = if goes then set.insert away number else set.remove away number

pub away_here : (away : set.FinSet nat_cmp) (number : ℕ) (goes : Bool) → set.contains (away_then away number goes) number ≡ goes
away_here away number true = contains_insert_same away number number refl
away_here away number false = contains_remove_same away number number refl

pub away_there : (away : set.FinSet nat_cmp) (number : ℕ) (goes : Bool) (q : ℕ) → q ≢ number → set.contains (away_then away number goes) q ≡ set.contains away q
away_there away number true q ne = contains_insert_other away number q ne
away_there away number false q ne = contains_remove_other away number q ne

module _ {W : ℕ} (z : Inside W) (v : ZoneState) (sound : IsSound z v) (view : state_of z ≡ v) (first order : ℕ) (at : map.get v.handed_out first ≡ Some order) (given : Words) (rows : given.rows ≡ z.words.rows) (place : (given.at ≡ z.words.at) × (given.given ≡ z.words.given)) (goes : Bool) (now : HasNow z.words.lent given.lent first (2 ^ order) goes) where
  -- the fields after that
  abbrev after : Inside W
  after = record z { words = given }

  -- a frame of another block is lent if it was
  other_frame : (q o frame : ℕ) → map.get v.handed_out q ≡ Some o → q ≢ first → q ≤ frame → frame < q + 2 ^ o → has_frame given.lent frame ≡ has_frame z.words.lent frame
  other_frame q o frame held ne least most = elim (blocks_apart v sound.valid q first o order held at ne) [
    | inl below ↦ now.others frame (inl (omega (arith, below, most)))
    | inr above ↦ now.others frame (inr (omega (arith, above, least)))
  ]

  -- the frame of a page is lent if it was
  page_frame : (page frame : ℕ) → takes_up (map.get v.placement page) frame ≡ true → has_frame given.lent frame ≡ has_frame z.words.lent frame
  page_frame page frame has = now.others frame (off_block first order frame (off_blocks z v sound page frame has first order at))

  lent_fit : LentFit given.lent v.handed_out (away_then v.lent first goes) v.placement v.lent_pages
  lent_fit = record {
    of_block = λ q o held frame least most. elim (eqb_tells q first) [
      | inl same ↦
          (let two : Some order ≡ Some o = sym at ∙ ap (map.get v.handed_out) (sym same.1) ∙ held in
          let which : order ≡ o = cc in
          now.each frame (omega (arith, least, same.1)) (omega (arith, most, same.1, ap (λ (k : ℕ). 2 ^ k) which))
          ∙ sym (ap (set.contains (away_then v.lent first goes)) same.1 ∙ away_here v.lent first goes))
      | inr other ↦ other_frame q o frame held other.1 least most ∙ sound.lent.of_block q o held frame least most ∙ sym (away_there v.lent first goes q other.1)
    ];
    of_page = λ page frame has. page_frame page frame has ∙ sound.lent.of_page page frame has;
    others = λ frame off none. elim (cases_Bool (in_block first order frame)) [
      | inl here ↦ absurd (both_ways _ (off first) (ap (λ (o : Option ℕ). covers o first frame) at ∙ here))
      | inr there ↦ now.others frame (off_block first order frame there) ∙ sound.lent.others frame off none
    ];
  }

  lent_put : gathered (is_lent_at given.lent z.handed_out) (length z.handed_out) ≡ away_then (gathered (is_lent_at z.words.lent z.handed_out) (length z.handed_out)) first goes
  lent_put =
      gathered_put (is_lent_at z.words.lent z.handed_out) (is_lent_at given.lent z.handed_out) (length z.handed_out) first goes
      (λ q past. ap (λ (o : Option ℕ). is_some o && has_frame z.words.lent q) (order_past z.handed_out q past))
      (λ q past. ap (λ (o : Option ℕ). is_some o && has_frame given.lent q) (order_past z.handed_out q past))
      (ap (λ (o : Option ℕ). is_some o && has_frame given.lent first) (order_at z v sound view first order at) ∙ now.each first (omega arith) (omega (arith, pow_pos order)))
      (λ q ne. by q ne (order_of z.handed_out q) refl) where
        by : (q : ℕ) → q ≢ first → (o : Option ℕ) → order_of z.handed_out q ≡ o → is_lent_at given.lent z.handed_out q ≡ is_lent_at z.words.lent z.handed_out q
        by q ne None none = ap (λ (o : Option ℕ). is_some o && has_frame given.lent q) none ∙ sym (ap (λ (o : Option ℕ). is_some o && has_frame z.words.lent q) none)
        by q ne (Some o) held = ap (λ (lent : Bool). is_some (order_of z.handed_out q) && lent) (other_frame q o q (order_is z v sound view q o held) ne (omega arith) (omega (arith, pow_pos o)))

  pages_same : pages_lent given.lent (state_of z).placement (512 * z.size.blocks) ≡ (state_of z).lent_pages
  pages_same = gathered_same _ _ (512 * z.size.blocks) (λ page. lent_same z.words.lent given.lent (map.get (state_of z).placement page) (λ place is. page_frame page (words_frame place) (ap (λ (o : Option Placement). takes_up o (words_frame place)) (sym (ap (λ (u : ZoneState). map.get u.placement page) view) ∙ is) ∙ takes_own place)))

  lent_view : state_of after ≡ record v { lent = away_then v.lent first goes }
  lent_view =
      let contents : tabulated (contents_at W given.rows z.cleared z.handed_out) (length z.handed_out) ≡ held_contents z = ap (λ (rs : List (List ℕ)). tabulated (contents_at W rs z.cleared z.handed_out) (length z.handed_out)) rows in
      let here : state_of after ≡ record (state_of z) { lent = away_then (state_of z).lent first goes } = λ i. record (state_of z) { contents = contents i; lent = lent_put i; lent_pages = pages_same i; memory = if place.1 i then Some (place.0 i) else None } in
      here ∙ ap (λ (s : ZoneState). record s { lent = away_then s.lent first goes }) view

  lent_sound : (goes ≡ true → true_at z.cleared first ≡ true) → IsValidZone (record v { lent = away_then v.lent first goes }) → IsSound after (record v { lent = away_then v.lent first goes })
  lent_sound noted law = record {
    valid = law;
    orders = sound.orders;
    cleared = record {
      count = sound.cleared.count;
      lent = λ q gone. elim (eqb_tells q first) [
        | inl same ↦ ap (true_at z.cleared) same.1 ∙ noted (sym (ap (set.contains (away_then v.lent first goes)) same.1 ∙ away_here v.lent first goes) ∙ gone)
        | inr other ↦ sound.cleared.lent q (sym (away_there v.lent first goes q other.1) ∙ gone)
      ];
    };
    marks = sound.marks;
    claimed = sound.claimed;
    frames = record { count = sound.frames.count; of_page = sound.frames.of_page; of_block = sound.frames.of_block; of_none = sound.frames.of_none };
    movable = record { count = sound.movable.count; each = sound.movable.each };
    unmovable = record { count = sound.unmovable.count; each = sound.unmovable.each; rest = sound.unmovable.rest };
    tables = sound.tables;
    size = sound.size;
    entries = record { each = sound.entries.each };
    words = (let fit = subst (λ (rs : List (List ℕ)). WordsFit rs v) (sym rows) sound.words in record { count = fit.count; sized = fit.sized; each = fit.each });
    lent = lent_fit;
    notes = record { count = sound.notes.count; each = λ page note e used. (let fit = sound.notes.each page note e used in record { dirty = fit.dirty; pins = fit.pins; maps = fit.maps }) };
    moves = record { isolated = sound.moves.isolated; moved = sound.moves.moved; back = sound.moves.back };
  }

  pub lent_holds : (goes ≡ true → true_at z.cleared first ≡ true) → IsValidZone (record v { lent = away_then v.lent first goes }) → Becomes after (record v { lent = away_then v.lent first goes })
  lent_holds noted law = becomes refl lent_view (lent_sound noted law)

no_words : (words : List ℕ) → length words ≡ 0 → [] ≡ words
no_words [] none = refl
no_words (word ∷ words) none = absurd (omega (arith, none))

-- a row comes back, of a block whose words were lent wherever a page has words
module _ {W : ℕ} (z : Inside W) (v : ZoneState) (sound : IsSound z v) (view : state_of z ≡ v) (first order : ℕ) (at : map.get v.handed_out first ≡ Some order) (given : Words) (place : (given.at ≡ z.words.at) × (given.given ≡ z.words.given)) (words : List ℕ) (long : length words ≡ 2 ^ order * v.page_size)
    (has : HasBlock z.words.rows given.rows first (2 ^ order) words) (now : HasNow z.words.lent given.lent first (2 ^ order) false) (was : 0 < v.page_size → set.contains v.lent first ≡ true) (sized : All (λ row. length row ≡ W) given.rows) where
  size : W ≡ v.page_size
  size = ap (λ (u : ZoneState). u.page_size) view

  held : (flag : Bool) → true_at z.cleared first ≡ flag → words_held W given.rows flag first order ≡ words
  held true cleared = has.here
  held false cleared =
      let none : v.page_size ≡ 0 = elim (leb_tells 1 v.page_size) [ inl some ↦ absurd (both_ways _ cleared (sound.cleared.lent first (was some.1))) | inr none ↦ omega (arith, none.1) ] in
      let empty : 2 ^ order * v.page_size ≡ 0 = ap (λ (n : ℕ). 2 ^ order * n) none ∙ omega arith in
      ap (λ (n : ℕ). replicate (2 ^ order * n) 0) size ∙ ap (λ (n : ℕ). replicate n 0) empty ∙ no_words words (long ∙ empty)

  -- the words are back, and the block isn't noted as such
  abbrev back : Words
  back = record given { lent = z.words.lent }

  abbrev written : ZoneState
  written = record v { contents = map.insert v.contents first words }

  written_valid : IsValidZone written
  written_valid =
      subst (λ (ws : List ℕ). IsValidZone (record v { contents = map.insert v.contents first ws }))
      (put_whole (contents_of v first) words (long ∙ sym (length_contents v sound.valid first order at)))
      (valid_contents_written v sound.valid first order at 0 words (omega (arith, long)))

  written_view : state_of (record z { words = back }) ≡ written
  written_view = block_view z v sound view first order at back (place.0, refl, place.1) words has z.cleared (λ q ne. refl) (held (true_at z.cleared first) refl)

  written_sound : IsSound (record z { words = back }) written
  written_sound =
      block_sound z v sound view first order at back (place.0, refl, place.1) words has z.cleared (λ q ne. refl) (held (true_at z.cleared first) refl)
      refl (λ gone. sound.cleared.lent first gone) (map.insert v.contents first words) sized written_valid

  pub returned_holds : Becomes (record z { words = given }) (block_returned v first words)
  returned_holds =
      lent_holds (record z { words = back }) written written_sound written_view first order at given refl (refl, refl) false now (λ bad. absurd (both_ways false refl bad))
      (valid_block_returned v sound.valid first order at words long)

-- the words of a zone lie in memory of its own, or of its caller
module _ {W : ℕ} (z : Inside W) (v : ZoneState) (view : state_of z ≡ v) where
  memory_seen : memory_of z.words ≡ v.memory
  memory_seen = ap (λ (u : ZoneState). u.memory) view

  pub own_seen : not z.words.given ≡ is_none v.memory
  own_seen = by z.words.given ∙ ap is_none memory_seen where
    by : (given : Bool) → not given ≡ is_none (if given then Some z.words.at else None)
    by true = refl
    by false = refl

  module _ (first : ℕ) where
    -- a block begins where its first frame does
    pub block_placed : is_none v.memory ≡ false → Some (place_of W z.words first) ≡ block_place v first
    block_placed lies = by z.words.given refl where
      by : (given : Bool) → z.words.given ≡ given → Some (place_of W z.words first) ≡ block_place v first
      by true e =
          (let memory : Some z.words.at ≡ v.memory = sym (ap (λ (given : Bool). if given then Some z.words.at else None) e) ∙ memory_seen in
          let size : W ≡ v.page_size = ap (λ (u : ZoneState). u.page_size) view in
          λ i. option_map (λ (at : Ptr). at +ₚ first * size i * 8) (memory i))
      by false e = absurd (both_ways _ lies (ap is_none (sym memory_seen ∙ ap (λ (given : Bool). if given then Some z.words.at else None) e)))

    pub row_placed : (at : Ptr) → Some at ≡ block_place v first → at ≡ place_of W z.words first
    row_placed at is = same_Some _ _ (is ∙ sym (block_placed (by v.memory refl))) where
      by : (memory : Option Ptr) → v.memory ≡ memory → is_none v.memory ≡ false
      by (Some place) e = ap is_none e
      by None e = (let bad : Some at ≡ None = is ∙ ap (option_map (λ (p : Ptr). p +ₚ first * v.page_size * 8)) e in cc)

pub is_given : (memory : Option Ptr) → is_none memory ≡ false → IsSome memory
is_given (Some at) lies = refl
is_given None lies = absurd (both_ways _ lies refl)

-- memory that comes back is that which was given
pub row_back : (back : Option Row) (given : Bool) (at : Ptr) → is_some back ≡ given → IfSome back (λ row. row.at ≡ at) → option_map (λ row. row.at) back ≡ (if given then Some at else None)
row_back (Some row) true at is same = ap Some same
row_back (Some row) false at is same = absurd (both_ways _ is refl)
row_back None true at is same = absurd (both_ways _ refl is)
row_back None false at is same = refl
