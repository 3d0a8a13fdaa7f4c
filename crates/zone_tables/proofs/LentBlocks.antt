-- Which frames of a zone are lent.
use Rattle.std.proofs.Common.{◌≡◌, ℕ, ◌*◌, ◌^◌, ◌<◌, Bool, true, false, length, inl, inr, refl, sym, ap, ◌∙◌, arith}
use Rattle.std.specs.Prelude.{Option, Some, None, IsSome, is_some, nat_eq, slice_set, ◌&&◌}
use Rattle.std.specs.FinMap as map
use Rattle.std.specs.FinSet as set
use Rattle.std.specs.Ordering.{nat_cmp}
use Rattle.std.proofs.lemmas.Bool.{both_ways, cases_Bool, eq-eqb, false_from_ne_true, or_left, or_right}
use Rattle.std.proofs.lemmas.Bool.Decides.{eqb_tells}
use Rattle.std.proofs.lemmas.List.{length-set}
use Rattle.std.proofs.lemmas.Nat.{pow_pos}
use Rattle.frame_core.proofs.Searches.{some_none, some_one}
use Rattle.frame_core.specs.FrameSet.{has_frame}
use Rattle.frame_core.specs.LentWords.{IsHere}
use Rattle.scan_core.specs.NumberSet.{gathered}
use Rattle.state_core.specs.HandingOut.{is_run, block_taken, block_given}
use Rattle.state_core.specs.declared.placement.Placement.{Placement}
use Rattle.state_core.specs.declared.placement.Placement.TheVariants.{Moving}
use Rattle.state_core.specs.Lending.{LendsNone}
use Rattle.state_core.specs.ZoneState.{ZoneState, covers, frame_count, is_free, is_handed_out, is_used, takes_up, words_frame}
use Rattle.state_core.proofs.Claiming.{handed_by}
use Rattle.state_core.proofs.Entries.{get_insert_same, get_insert_other, get_remove_same, get_remove_other}
use Rattle.state_core.proofs.Facts.{takes_own}
use Rattle.state_core.proofs.HandingOut as blocks
use Rattle.state_core.proofs.HandingOut.{in_block, in_block_from}
use Rattle.state_core.proofs.Places.{unheld_frame, untaken}
use Rattle.zone_tables.specs.declared.zone.ZoneTables.TheInside.{Inside}
use Rattle.zone_tables.specs.Fits.{LentFit}
use Rattle.zone_tables.specs.HandedOut.{order_of, is_lent_at}
use Rattle.zone_tables.specs.LentPages.{has_words_lent}
use Rattle.zone_tables.specs.Sound.{IsSound, state_of}
use Rattle.zone_tables.proofs.BlockOrders.{order_there}
use Rattle.zone_tables.proofs.LentPages.{lent_none}
use Rattle.zone_tables.proofs.Tabulating.{gathered_none, gathered_same}

module _ {W : ℕ} (z : Inside W) (v : ZoneState) (sound : IsSound z v) where
  -- a free frame isn't lent: it is in no block, and no page takes it up
  pub free_unlent : (frame : ℕ) → is_free v frame ≡ true → has_frame z.words.lent frame ≡ false
  free_unlent frame free = sound.lent.others frame
      (λ first. false_from_ne_true _ (λ covered. both_ways _ (unheld_frame v frame free) (or_left (is_handed_out v frame) _ (handed_by v sound.valid first frame covered))))
      (λ page. untaken v sound.valid frame free page)

  -- nor is a frame that a page takes up whose words aren't lent
  pub taken_unlent : (page : ℕ) (placement : Placement) (frame : ℕ) → map.get v.placement page ≡ Some placement → takes_up (Some placement) frame ≡ true → set.contains v.lent_pages page ≡ false → has_frame z.words.lent frame ≡ false
  taken_unlent page placement frame at has back = sound.lent.of_page page frame (ap (λ (o : Option Placement). takes_up o frame) at ∙ has) ∙ back

  -- no page takes up a frame that isn't used
  unused : (frame : ℕ) → is_used v frame ≡ false → (page : ℕ) → takes_up (map.get v.placement page) frame ≡ false
  unused frame empty page = false_from_ne_true _ (λ has. both_ways _ (some_none (λ q. takes_up (map.get v.placement q) frame) (frame_count v) empty page (sound.valid.pages.numbered page (in_use _ has))) has) where
    in_use : (o : Option Placement) → takes_up o frame ≡ true → IsSome o
    in_use None has = cc
    in_use (Some placement) has = refl

  one_here : (frame : ℕ) → has_frame z.words.lent frame ≡ false → IsHere z.words frame 1
  one_here frame back f least most = let same : f ≡ frame = omega (arith, least, most) in ap (has_frame z.words.lent) same ∙ back

  pub free_here : (frame : ℕ) → is_free v frame ≡ true → IsHere z.words frame 1
  free_here frame free = one_here frame (free_unlent frame free)

  pub words_here : (page : ℕ) (placement : Placement) → map.get v.placement page ≡ Some placement → set.contains v.lent_pages page ≡ false → IsHere z.words (words_frame placement) 1
  words_here page placement at back = one_here (words_frame placement) (taken_unlent page placement (words_frame placement) at (takes_own placement) back)

  pub source_here : (page serial source target : ℕ) → map.get v.placement page ≡ Some (Moving serial source target) → set.contains v.lent_pages page ≡ false → IsHere z.words source 1
  source_here page serial source target = words_here page (Moving serial source target)

  pub target_here : (page serial source target : ℕ) → map.get v.placement page ≡ Some (Moving serial source target) → set.contains v.lent_pages page ≡ false → IsHere z.words target 1
  target_here page serial source target at back = one_here target (taken_unlent page (Moving serial source target) target at (or_right (nat_eq target source) _ (eq-eqb target target refl)) back)

  -- a frame that a page takes up is in no block
  pub off_blocks : (page frame : ℕ) → takes_up (map.get v.placement page) frame ≡ true → (first order : ℕ) → map.get v.handed_out first ≡ Some order → in_block first order frame ≡ false
  off_blocks page frame has first order held = false_from_ne_true _ (λ here. both_ways _ (sound.valid.pages.clear page frame has) (blocks.held_of v sound.valid first order frame held here))

  -- the first frame of a block tells whether it is lent
  pub first_tells : (first : ℕ) → IsSome (map.get v.handed_out first) → has_frame z.words.lent first ≡ set.contains v.lent first
  first_tells first some = by (map.get v.handed_out first) refl where
    by : (o : Option ℕ) → map.get v.handed_out first ≡ o → has_frame z.words.lent first ≡ set.contains v.lent first
    by None at = absurd (both_ways _ (ap is_some at) some)
    by (Some order) at = sound.lent.of_block first order at first (omega arith) (omega (arith, pow_pos order))

  pub block_here : (first order : ℕ) → map.get v.handed_out first ≡ Some order → set.contains v.lent first ≡ false → IsHere z.words first (2 ^ order)
  block_here first order at back frame least most = sound.lent.of_block first order at frame least most ∙ back

  -- where no words are lent, no frame is
  pub none_lent : LendsNone v → (frame : ℕ) → has_frame z.words.lent frame ≡ false
  none_lent none frame = elim (cases_Bool (is_handed_out v frame)) [
    | inl held ↦ (let at = some_one (λ first. covers (map.get v.handed_out first) first frame) (frame_count v) held in by at.0 (map.get v.handed_out at.0) refl at.2)
    | inr free ↦ elim (cases_Bool (is_used v frame)) [
      | inl used ↦
          (let page = some_one (λ page. takes_up (map.get v.placement page) frame) (frame_count v) used in
          sound.lent.of_page page.0 frame page.2 ∙ ap (λ (lent : set.FinSet nat_cmp). set.contains lent page.0) none.1 ∙ set.contains-empty nat_cmp page.0)
      | inr empty ↦ sound.lent.others frame (λ first. false_from_ne_true _ (λ covered. both_ways _ free (handed_by v sound.valid first frame covered)))
          (unused frame empty)
    ]
  ] where
    by : (first : ℕ) (o : Option ℕ) → map.get v.handed_out first ≡ o → covers (map.get v.handed_out first) first frame ≡ true → has_frame z.words.lent frame ≡ false
    by first None at covered = absurd (both_ways _ (ap (λ (o : Option ℕ). covers o first frame) at) covered)
    by first (Some order) at covered =
        (let parts = blocks.in_block_parts first order frame (sym (ap (λ (o : Option ℕ). covers o first frame) at) ∙ covered) in
        sound.lent.of_block first order at frame parts.0 parts.1 ∙ ap (λ (lent : set.FinSet nat_cmp). set.contains lent first) none.0 ∙ set.contains-empty nat_cmp first)

-- where no frame is lent, no words are
pub lends_none : {W : ℕ} (z : Inside W) (v : ZoneState) → state_of z ≡ v → ((frame : ℕ) → has_frame z.words.lent frame ≡ false) → LendsNone v
lends_none z v view none = (
  ap (λ (u : ZoneState). u.lent) (sym view) ∙ gathered_none (is_lent_at z.words.lent z.handed_out) (length z.handed_out) (λ q. both (is_some (order_of z.handed_out q)) (none q)),
  ap (λ (u : ZoneState). u.lent_pages) (sym view) ∙ gathered_none (λ page. has_words_lent z.words.lent (map.get (state_of z).placement page)) (512 * z.size.blocks) (λ page. lent_none z.words.lent (map.get (state_of z).placement page) (λ place is. none (words_frame place))),
)
  where
    both : (b : Bool) {c : Bool} → c ≡ false → (b && c) ≡ false
    both true is = is
    both false is = refl

-- a free block is handed out: none of it is lent
module _ {W : ℕ} (z : Inside W) (v : ZoneState) (sound : IsSound z v) (view : state_of z ≡ v) (first order : ℕ) (run : is_run v order first ≡ true) where
  block_unlent : (frame : ℕ) → in_block first order frame ≡ true → has_frame z.words.lent frame ≡ false
  block_unlent frame here = free_unlent z v sound frame (blocks.block_free v first order run frame here)

  pub first_unlent : set.contains v.lent first ≡ false
  first_unlent = false_from_ne_true _ (λ gone. both_ways _ (ap is_some (blocks.not_handed_out v first order run)) (sound.valid.blocks.lent first gone))

  pub taken_fit : LentFit z.words.lent (block_taken v first order).handed_out v.lent v.placement v.lent_pages
  taken_fit = record {
    of_block = λ f o at frame least most. elim (eqb_tells f first) [
      | inl same ↦
          (let is : Some order ≡ Some o = sym (get_insert_same v.handed_out first f order same.1) ∙ at in
          let which : order ≡ o = cc in
          block_unlent frame (in_block_from first order frame (omega (arith, least, same.1)) (omega (arith, most, same.1, ap (λ (k : ℕ). 2 ^ k) which)))
          ∙ sym (ap (set.contains v.lent) same.1 ∙ first_unlent))
      | inr other ↦ sound.lent.of_block f o (sym (get_insert_other v.handed_out first f order other.1) ∙ at) frame least most
    ];
    of_page = sound.lent.of_page;
    others = λ frame off. sound.lent.others frame (λ f. elim (eqb_tells f first) [
      | inl same ↦ ap (λ (o : Option ℕ). covers o f frame) (ap (map.get v.handed_out) same.1 ∙ blocks.not_handed_out v first order run)
      | inr other ↦ ap (λ (o : Option ℕ). covers o f frame) (sym (get_insert_other v.handed_out first f order other.1)) ∙ off f
    ]);
  }

  pub taken_lent : first < length z.handed_out → gathered (is_lent_at z.words.lent (slice_set z.handed_out first (Some order))) (length (slice_set z.handed_out first (Some order))) ≡ gathered (is_lent_at z.words.lent z.handed_out) (length z.handed_out)
  taken_lent within =
      ap (gathered (is_lent_at z.words.lent (slice_set z.handed_out first (Some order)))) (length-set z.handed_out first (Some order))
      ∙ gathered_same _ _ (length z.handed_out) (λ q. elim (eqb_tells q first) [
        | inl same ↦
            (let none : has_frame z.words.lent q ≡ false = ap (has_frame z.words.lent) same.1 ∙ block_unlent first (in_block_from first order first (omega arith) (omega (arith, pow_pos order))) in
            off q (order_of (slice_set z.handed_out first (Some order)) q) none ∙ sym (off q (order_of z.handed_out q) none))
        | inr other ↦ ap (λ (o : Option ℕ). is_some o && has_frame z.words.lent q) (order_there z.handed_out first (Some order) within q other.1)
      ])
    where
      off : (q : ℕ) (o : Option ℕ) → has_frame z.words.lent q ≡ false → (is_some o && has_frame z.words.lent q) ≡ false
      off q None none = refl
      off q (Some order) none = none

-- a block whose words are here is taken back
module _ {W : ℕ} (z : Inside W) (v : ZoneState) (sound : IsSound z v) (view : state_of z ≡ v) (first order : ℕ) (at : map.get v.handed_out first ≡ Some order) (back : set.contains v.lent first ≡ false) where
  pub given_fit : LentFit z.words.lent (block_given v first order).handed_out v.lent v.placement v.lent_pages
  given_fit = record {
    of_block = λ f o held frame least most. elim (eqb_tells f first) [
      | inl same ↦ (let bad : None ≡ Some o = sym (get_remove_same v.handed_out first f same.1) ∙ held in absurd (cc))
      | inr other ↦ sound.lent.of_block f o (sym (get_remove_other v.handed_out first f other.1) ∙ held) frame least most
    ];
    of_page = sound.lent.of_page;
    others = λ frame off none. elim (cases_Bool (in_block first order frame)) [
      | inl here ↦ (let parts = blocks.in_block_parts first order frame here in sound.lent.of_block first order at frame parts.0 parts.1 ∙ back)
      | inr there ↦ sound.lent.others frame (λ f. elim (eqb_tells f first) [
        | inl same ↦ (λ i. covers (map.get v.handed_out (same.1 i)) (same.1 i) frame) ∙ ap (λ (o : Option ℕ). covers o first frame) at ∙ there
        | inr other ↦ ap (λ (o : Option ℕ). covers o f frame) (sym (get_remove_other v.handed_out first f other.1)) ∙ off f
      ]) none
    ];
  }

  pub given_lent : first < length z.handed_out → gathered (is_lent_at z.words.lent (slice_set z.handed_out first None)) (length (slice_set z.handed_out first None)) ≡ gathered (is_lent_at z.words.lent z.handed_out) (length z.handed_out)
  given_lent within =
      ap (gathered (is_lent_at z.words.lent (slice_set z.handed_out first None))) (length-set z.handed_out first None)
      ∙ gathered_same _ _ (length z.handed_out) (λ q. elim (eqb_tells q first) [
        | inl same ↦
            (let none : has_frame z.words.lent q ≡ false = ap (has_frame z.words.lent) same.1 ∙ sound.lent.of_block first order at first (omega arith) (omega (arith, pow_pos order)) ∙ back in
            off q (order_of (slice_set z.handed_out first None) q) none ∙ sym (off q (order_of z.handed_out q) none))
        | inr other ↦ ap (λ (o : Option ℕ). is_some o && has_frame z.words.lent q) (order_there z.handed_out first None within q other.1)
      ])
    where
      off : (q : ℕ) (o : Option ℕ) → has_frame z.words.lent q ≡ false → (is_some o && has_frame z.words.lent q) ≡ false
      off q None none = refl
      off q (Some order) none = none
