-- The words of a block are read or written: the tables still stand for the zone.
use Rattle.std.proofs.Common.{◌≡◌, ◌≢◌, ℕ, ◌+◌, ◌*◌, ◌^◌, ◌≤◌, Bool, true, false, List, [], ◌++◌, length, sym, ap, ◌∙◌, arith, refl}
use Rattle.std.specs.Prelude.{Some, slice_set}
use Rattle.std.specs.FinMap as map
use Rattle.std.specs.FinSet as set
use Rattle.std.specs.List.{All}
use Rattle.std.specs.Ordering.{nat_cmp}
use Rattle.std.proofs.lemmas.List.{append-nil, drop_all, get_or_default, length-set}
use Rattle.std.proofs.lemmas.Option.{unwrap_or-slice_get}
use Rattle.scan_core.specs.Frames.{true_at}
use Rattle.state_core.specs.Contents.{contents_of, contents_written}
use Rattle.state_core.specs.Valid.{IsValidZone}
use Rattle.state_core.specs.ZoneState.{ZoneState}
use Rattle.state_core.proofs.Contents.{has_contents, valid_contents_written}
use Rattle.frame_core.specs.FrameSet.{has_frame}
use Rattle.frame_core.specs.LentWords.{IsHere, LentStays, Words}
use Rattle.frame_core.specs.Words.{block_words, HasBlock, put_from}
use Rattle.zone_tables.specs.Contents.{words_held}
use Rattle.zone_tables.specs.Fits.{WordsFit}
use Rattle.zone_tables.specs.Sound.{IsSound, state_of}
use Rattle.zone_tables.specs.declared.zone.ZoneTables.TheInside.{Inside}
use Rattle.zone_tables.proofs.HeldWords.{block_listed, block_view, block_sound, flag_here, flag_there, held_is, put_again}
use Rattle.zone_tables.proofs.LentBlocks.{block_here}
use Rattle.zone_tables.proofs.Facts.{Becomes, becomes}

-- each frame has a row of a page's words
pub rows_sized : (rows : List (List ℕ)) (v : ZoneState) (size : ℕ) → WordsFit rows v → v.page_size ≡ size → All (λ row. length row ≡ size) rows
rows_sized rows v size fit same k d h =
    ap length (get_or_default rows k d [] h ∙ sym (unwrap_or-slice_get rows k [])) ∙ fit.sized k (omega (arith, h, fit.count)) ∙ same

-- as many values as there are words take the place of all
pub put_whole : (words values : List ℕ) → length values ≡ length words → put_from words 0 values ≡ values
put_whole words values same =
    ap (λ (ws : List ℕ). values ++ ws) (drop_all (0 + length values) words (omega (arith, same))) ∙ append-nil values

module _ {W : ℕ} (z : Inside W) (v : ZoneState) (sound : IsSound z v) (view : state_of z ≡ v) (first order : ℕ) (at : map.get v.handed_out first ≡ Some order) (flags : List Bool) (noted : flags ≡ slice_set z.cleared first true) (given : Words) (stays : LentStays z.words given) where
  abbrev rows : List (List ℕ)
  rows = given.rows

  -- the fields after the block was read or written
  abbrev after : Inside W
  after = record z { words = given; cleared = flags }

  -- the block is here then as it was
  pub still_here : set.contains v.lent first ≡ false → (frames : ℕ) → frames ≡ 2 ^ order → IsHere given first frames
  still_here back frames many f least most = ap (λ (lent : List Bool). has_frame lent f) stays.1 ∙ block_here z v sound first order at back f least (omega (arith, most, many))

  pub is_noted : true_at flags first ≡ true
  is_noted = ap (λ (fs : List Bool). true_at fs first) noted ∙ flag_here z.cleared first true (block_listed z v sound view first order at)

  others_noted : (q : ℕ) → q ≢ first → true_at flags q ≡ true_at z.cleared q
  others_noted q ne = ap (λ (fs : List Bool). true_at fs q) noted ∙ flag_there z.cleared first q true ne

  held_then : (words : List ℕ) → HasBlock z.words.rows rows first (2 ^ order) words → words_held W rows (true_at flags first) first order ≡ words
  held_then words has = ap (λ (b : Bool). words_held W rows b first order) is_noted ∙ has.here

  put_view : (words : List ℕ) → HasBlock z.words.rows rows first (2 ^ order) words → state_of after ≡ record v { contents = map.insert v.contents first words }
  put_view words has = block_view z v sound view first order at given stays words has flags others_noted (held_then words has)

  put_sound : (words : List ℕ) → HasBlock z.words.rows rows first (2 ^ order) words → All (λ row. length row ≡ W) rows → (contents : map.FinMap nat_cmp (List ℕ)) → IsValidZone (record v { contents = contents }) → IsSound after (record v { contents = contents })
  put_sound words has sized contents law =
      block_sound z v sound view first order at given stays words has flags others_noted (held_then words has) (ap length noted ∙ length-set z.cleared first true) (λ gone. is_noted) contents sized law

  -- the block was cleared, if that was left
  module _ (has : HasBlock z.words.rows rows first (2 ^ order) (words_held W z.words.rows (true_at z.cleared first) first order)) where
    pub words_read : block_words rows first (2 ^ order) ≡ contents_of v first
    words_read = has.here ∙ held_is z v sound view first order at

    pub read_holds : All (λ row. length row ≡ W) rows → Becomes after v
    read_holds sized = becomes refl
        (put_view (words_held W z.words.rows (true_at z.cleared first) first order) has
        ∙ ap (λ (m : map.FinMap nat_cmp (List ℕ)). record v { contents = m })
        (ap (map.insert v.contents first) (held_is z v sound view first order at) ∙ put_again v.contents first (contents_of v first) (has_contents v sound.valid first order at)))
        (put_sound (words_held W z.words.rows (true_at z.cleared first) first order) has sized v.contents sound.valid)

  -- values were put among its words
  module _ (from : ℕ) (values : List ℕ) (has : HasBlock z.words.rows rows first (2 ^ order) (put_from (contents_of v first) from values)) where
    pub write_holds : from + length values ≤ 2 ^ order * v.page_size → All (λ row. length row ≡ W) rows → Becomes after (contents_written v first from values)
    write_holds within sized = becomes refl
        (put_view (put_from (contents_of v first) from values) has)
        (put_sound (put_from (contents_of v first) from values) has sized (map.insert v.contents first (put_from (contents_of v first) from values))
        (valid_contents_written v sound.valid first order at from values within))
