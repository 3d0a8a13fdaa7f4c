-- A block of free frames is handed out or taken back: the zone stays valid, and the blocks are clear.
use Rattle.std.proofs.Common.{◌≡◌, ◌≢◌, ℕ, ◌+◌, ◌*◌, ◌/◌, ◌^◌, ◌<◌, ◌≤◌, Bool, true, false, not, ◌∷◌, length, inl, inr, refl, sym, ap, ◌∙◌, arith, Option, Some, None, nat_eq, nat_le, nat_lt, is_some, IsSome, ◌⊎◌, subst, ◌&&◌, ◌||◌}
use Rattle.std.specs.FinMap as map
use Rattle.std.specs.FinSet as set
use Rattle.std.specs.Option.{option_map}
use Rattle.std.proofs.Math.Bool.{or-false}
use Rattle.std.proofs.Math.Nat.{mul-div_cancel}
use Rattle.std.proofs.lemmas.Bool.{and_parts, and_from, and_right, both_ways, eq-eqb, eqb-true, false_from_ne_true, leb-true, le-leb, ltb-true, lt-ltb, or_from, or_left, or_parts, or_right}
use Rattle.std.proofs.lemmas.Bool.Decides.{eqb_tells}
use Rattle.std.proofs.lemmas.List.{length-replicate}
use Rattle.std.proofs.lemmas.Nat.{pow_pos}
use Rattle.std.proofs.lemmas.Option.{none-some, same_Some}
use Rattle.frame_core.proofs.Searches.{count_from_all, count_from_full, lowest_is, lowest_some, lowest_before, none_some, some_at, some_more, some_one}
use Rattle.frame_core.specs.Below.{lowest, one_if, some_below, count_from}
use Rattle.frame_core.specs.Order.{is_aligned}
use Rattle.frame_core.specs.declared.record.Record.TheVariants.{TakeHuge, GiveHuge}
use Rattle.frame_core.specs.Blocks.{handed_out_by}
use Rattle.frame_core.specs.Moves.{out}
use Rattle.state_core.specs.declared.placement.Placement.TheVariants.{At}
use Rattle.state_core.specs.Clear.{BlocksAreClear}
use Rattle.state_core.specs.HandingOut.{has_block, is_run, lowest_run, block_taken, block_given}
use Rattle.state_core.specs.Valid.{IsValidZone, IsBlock}
use Rattle.state_core.specs.ZoneState.{ZoneState, frame_count, takes_up, covers, is_used, is_held, is_handed_out, is_free, is_whole}
use Rattle.state_core.proofs.Entries.{written_at, get_insert_same, get_insert_other, get_remove_same, get_remove_other}
use Rattle.state_core.proofs.Facts.{page_named}
use Rattle.state_core.proofs.Holding.{at_takes}
use Rattle.state_core.proofs.Places.{counts_add_up, unheld_frame, untaken}
use Rattle.state_core.proofs.Noted.{journal_noted}
use Rattle.state_core.proofs.Quiet.{fingers_ended}

-- whether a frame is in the block of this order from this first frame on
abbrev pub in_block : ℕ → ℕ → ℕ → Bool
in_block first order frame = covers (Some order) first frame

pub in_block_from : (first order frame : ℕ) → first ≤ frame → frame < first + 2 ^ order → in_block first order frame ≡ true
in_block_from first order frame low high = and_from (nat_le first frame) (nat_lt frame (first + 2 ^ order)) (le-leb first frame low) (lt-ltb frame (first + 2 ^ order) high)

pub in_block_parts : (first order frame : ℕ) → in_block first order frame ≡ true → (first ≤ frame) × (frame < first + 2 ^ order)
in_block_parts first order frame e =
    let parts = and_parts (nat_le first frame) (nat_lt frame (first + 2 ^ order)) e in
    (leb-true first frame parts.0, ltb-true frame (first + 2 ^ order) parts.1)

-- one more block is handed out, and the others stay
pub record IsOneMore (fewer more : ℕ → Option ℕ) (first order : ℕ) : Type 0 where
  pub without : fewer first ≡ None
  pub here : more first ≡ Some order
  pub others : (q : ℕ) → q ≢ first → more q ≡ fewer q

-- whether a frame is in a block whose first frame is below a bound
abbrev held_in : (ℕ → Option ℕ) → ℕ → ℕ → Bool
held_in orders n frame = some_below (λ first. covers (orders first) first frame) n

pub held_more : {fewer more : ℕ → Option ℕ} {first order : ℕ} → IsOneMore fewer more first order → (n : ℕ) → first < n → (frame : ℕ) → held_in more n frame ≡ (held_in fewer n frame || in_block first order frame)
held_more {fewer} {more} {first} {order} one n h frame =
    some_more (λ q. covers (fewer q) q frame) (λ q. covers (more q) q frame) n first h
    (ap (λ (o : Option ℕ). covers o first frame) one.without)
    (λ q ne. ap (λ (o : Option ℕ). covers o q frame) (one.others q ne))
    ∙ ap (λ (o : Option ℕ). held_in fewer n frame || covers o first frame) one.here

or_swap : (a b c : Bool) → ((a || b) || c) ≡ ((a || c) || b)
or_swap true b c = refl
or_swap false true true = refl
or_swap false true false = refl
or_swap false false true = refl
or_swap false false false = refl

-- a frame that becomes held was free: as many frames are free or held as before
balance : (used held more : Bool) → (more ≡ true → (not used && not held) ≡ true) → one_if (not used && not (held || more)) + one_if (held || more) ≡ one_if (not used && not held) + one_if held
balance used held more free = grind (arith, free)

-- a frame of a block that is handed out is held
pub held_of : (v : ZoneState) → IsValidZone v → (first order frame : ℕ) → map.get v.handed_out first ≡ Some order → in_block first order frame ≡ true → is_held v frame ≡ true
held_of v law first order frame at here =
    let within = (law.blocks.each first order at).within in
    or_left _ _ (some_at (λ q. covers (map.get v.handed_out q) q frame) (frame_count v) first
    (omega (arith, within, pow_pos order)) (ap (λ (o : Option ℕ). covers o first frame) at ∙ here))

-- a multiple of a block's frames is aligned
aligned_by : (k first order : ℕ) → first ≡ k * 2 ^ order → first / 2 ^ order * 2 ^ order ≡ first
aligned_by k first order e = ap (λ (n : ℕ). n / 2 ^ order * 2 ^ order) e ∙ ap (λ (n : ℕ). n * 2 ^ order) (mul-div_cancel k (pow_pos order)) ∙ sym e

-- what is known of a free block before and after it is handed out
module _ (v : ZoneState) (first order : ℕ) (run : is_run v order first ≡ true) where
  pub run_within : first + 2 ^ order ≤ frame_count v
  run_within = leb-true _ _ (and_parts (is_aligned order first) _ (and_parts (has_block v order first) _ run).0).1

  pub run_aligned : first / 2 ^ order * 2 ^ order ≡ first
  run_aligned = eqb-true _ _ (and_parts (is_aligned order first) _ (and_parts (has_block v order first) _ run).0).0

  pub run_free : (frame : ℕ) → first ≤ frame → frame < first + 2 ^ order → is_free v frame ≡ true
  run_free frame = count_from_full (is_free v) first (2 ^ order) frame (eqb-true _ _ (and_parts (has_block v order first) _ run).1)

  run_first : first < frame_count v
  run_first = omega (arith, run_within, pow_pos order)

  pub block_free : (frame : ℕ) → in_block first order frame ≡ true → is_free v frame ≡ true
  block_free frame e = let parts = in_block_parts first order frame e in run_free frame parts.0 parts.1

  -- no block that is handed out begins at the first frame of a free block
  pub not_handed_out : map.get v.handed_out first ≡ None
  not_handed_out = by_entry (map.get v.handed_out first) refl where
    by_entry : (o : Option ℕ) → map.get v.handed_out first ≡ o → map.get v.handed_out first ≡ None
    by_entry None e = e
    by_entry (Some held) e =
        let free = run_free first (omega arith) (omega (arith, pow_pos order)) in
        let own : in_block first held first ≡ true = in_block_from first held first (omega arith) (omega (arith, pow_pos held)) in
        absurd (both_ways _ (or_parts (is_handed_out v first) _ (unheld_frame v first free)).0 (some_at (λ q. covers (map.get v.handed_out q) q first) (frame_count v) first run_first (ap (λ (o : Option ℕ). covers o first first) e ∙ own)))

  abbrev taken : ZoneState
  taken = block_taken v first order

  one_taken : IsOneMore (map.get v.handed_out) (map.get taken.handed_out) first order
  one_taken = record { without = not_handed_out; here = get_insert_same v.handed_out first first order refl; others = λ q ne. get_insert_other v.handed_out first q order ne }

  pub held_taken : (frame : ℕ) → is_held taken frame ≡ (is_held v frame || in_block first order frame)
  held_taken frame = ap (λ b. b || set.contains v.claimed frame) (held_more one_taken (frame_count v) run_first frame) ∙ or_swap (is_handed_out v frame) (in_block first order frame) (set.contains v.claimed frame)

  pub free_taken_in : (frame : ℕ) → in_block first order frame ≡ true → is_free taken frame ≡ false
  free_taken_in frame here =
      let held : is_held taken frame ≡ true = held_taken frame ∙ or_right (is_held v frame) _ here in
      and_right (not (is_used v frame)) _ (ap not held)

  pub free_taken_out : (frame : ℕ) → in_block first order frame ≡ false → is_free taken frame ≡ is_free v frame
  free_taken_out frame there = ap (λ b. not (is_used v frame) && not b) (held_taken frame ∙ ap (λ b. is_held v frame || b) there ∙ or-false (is_held v frame))

  balanced_taken : (frame : ℕ) → one_if (is_free taken frame) + one_if (is_held taken frame) ≡ one_if (is_free v frame) + one_if (is_held v frame)
  balanced_taken frame = ap (λ b. one_if (not (is_used v frame) && not b) + one_if b) (held_taken frame) ∙ balance (is_used v frame) (is_held v frame) _ (block_free frame)

  module _ (law : IsValidZone v) (spare : length (out v.records) < v.room) (low : 3 ≤ order) (high : order ≤ 9) where
    clear_taken : (page frame : ℕ) → takes_up (map.get v.placement page) frame ≡ true → is_held taken frame ≡ false
    clear_taken page frame e = held_taken frame ∙ or_from (is_held v frame) _ (law.pages.clear page frame e)
        (false_from_ne_true _ (λ here. both_ways _ (untaken v law frame (block_free frame here) page) e))

    blocks_taken : (f o : ℕ) → map.get taken.handed_out f ≡ Some o → IsBlock (frame_count v) f o
    blocks_taken f o e = elim (eqb_tells f first) [
      | inl same ↦
          (let is : order ≡ o = same_Some order o (sym (get_insert_same v.handed_out first f order same.1) ∙ e) in
          let block : IsBlock (frame_count v) first order = record { low = low; high = high; aligned = (first / 2 ^ order, sym run_aligned); within = run_within } in
          subst (λ (x : ℕ). IsBlock (frame_count v) x o) (sym same.1) (subst (λ (x : ℕ). IsBlock (frame_count v) first x) is block))
      | inr other ↦ law.blocks.each f o (sym (get_insert_other v.handed_out first f order other.1) ∙ e)
    ]

    -- a block that covers a frame after one is handed out is that block, or covered the frame before
    covers_taken : (a frame : ℕ) → covers (map.get taken.handed_out a) a frame ≡ true → ((a ≡ first) × (in_block first order frame ≡ true)) ⊎ ((a ≢ first) × (covers (map.get v.handed_out a) a frame ≡ true))
    covers_taken a frame e = elim (eqb_tells a first) [
      | inl same ↦ inl (same.1, sym (λ i. covers (get_insert_same v.handed_out first a order same.1 i) (same.1 i) frame) ∙ e)
      | inr other ↦ inr (other.1, sym (ap (λ (o : Option ℕ). covers o a frame) (get_insert_other v.handed_out first a order other.1)) ∙ e)
    ]

    -- no block that is handed out covers a frame of the free block
    uncovered : (a frame : ℕ) → in_block first order frame ≡ true → covers (map.get v.handed_out a) a frame ≡ true → ⊥
    uncovered a frame here e = by_entry (map.get v.handed_out a) refl where
      by_entry : (o : Option ℕ) → map.get v.handed_out a ≡ o → ⊥
      by_entry None at = both_ways _ (ap (λ (o : Option ℕ). covers o a frame) at) e
      by_entry (Some held) at = both_ways _ (unheld_frame v frame (block_free frame here)) (held_of v law a held frame at (sym (ap (λ (o : Option ℕ). covers o a frame) at) ∙ e))

    disjoint_taken : (a b frame : ℕ) → covers (map.get taken.handed_out a) a frame ≡ true → covers (map.get taken.handed_out b) b frame ≡ true → a ≡ b
    disjoint_taken a b frame e f = elim (covers_taken a frame e) [
      | inl x ↦ elim (covers_taken b frame f) [ inl y ↦ x.0 ∙ sym y.0 | inr y ↦ absurd (uncovered b frame x.1 y.1) ]
      | inr x ↦ elim (covers_taken b frame f) [ inl y ↦ absurd (uncovered a frame y.1 x.1) | inr y ↦ law.blocks.disjoint a b frame x.1 y.1 ]
    ]

    unclaimed_taken : (a frame : ℕ) → covers (map.get taken.handed_out a) a frame ≡ true → set.contains v.claimed frame ≡ false
    unclaimed_taken a frame e = elim (covers_taken a frame e) [
      | inl x ↦ (or_parts (is_handed_out v frame) _ (unheld_frame v frame (block_free frame x.1))).1
      | inr x ↦ law.blocks.unclaimed a frame x.1
    ]

    handed_taken : (f : ℕ) → map.get taken.handed_out f ≡ handed_out_by (TakeHuge first order ∷ v.records) f
    handed_taken = written_at _ (map.get v.handed_out) (handed_out_by v.records) first (Some order) (λ f. get_insert_same v.handed_out first f order) (λ f. get_insert_other v.handed_out first f order) law.agrees.handed

    contents_taken : (f : ℕ) → option_map length (map.get taken.contents f) ≡ option_map (λ o. 2 ^ o * v.page_size) (map.get taken.handed_out f)
    contents_taken f = elim (eqb_tells f first) [
      | inl same ↦
          (ap (option_map length) (get_insert_same v.contents first f _ same.1) ∙ ap Some (length-replicate (2 ^ order * v.page_size) 0)
          ∙ sym (ap (option_map (λ o. 2 ^ o * v.page_size)) (get_insert_same v.handed_out first f order same.1)))
      | inr other ↦
          (ap (option_map length) (get_insert_other v.contents first f _ other.1) ∙ law.blocks.contents f
          ∙ sym (ap (option_map (λ o. 2 ^ o * v.page_size)) (get_insert_other v.handed_out first f order other.1)))
    ]

    lent_taken : (f : ℕ) → set.contains v.lent f ≡ true → IsSome (map.get taken.handed_out f)
    lent_taken f e = elim (eqb_tells f first) [
      | inl same ↦ ap is_some (get_insert_same v.handed_out first f order same.1)
      | inr other ↦ ap is_some (get_insert_other v.handed_out first f order other.1) ∙ law.blocks.lent f e
    ]

    pub valid_block_taken : IsValidZone (block_taken v first order)
    valid_block_taken = record {
      size = law.size;
      addresses = law.addresses;
      journal = journal_noted (TakeHuge first order) law.journal spare law.journal.truthful law.journal.well_ended refl;
      agrees = record { named = law.agrees.named; in_use = law.agrees.in_use; under_way = law.agrees.under_way; handed = handed_taken; marks = law.agrees.marks };
      pages = record { numbered = law.pages.numbered; elsewhere = law.pages.elsewhere; apart = law.pages.apart; within = law.pages.within; clear = clear_taken; unmovable = law.pages.unmovable };
      blocks = record { each = blocks_taken; disjoint = disjoint_taken; contents = contents_taken; lent = lent_taken; lendable = law.blocks.lendable; claims = law.blocks.claims; unclaimed = unclaimed_taken };
      loans = record { used = law.loans.used; pinned = law.loans.pinned; lendable = law.loans.lendable };
      fingers = fingers_ended v (block_taken v first order) (TakeHuge first order) law law.fingers.ordered refl refl refl;
      sum = omega (arith, law.sum, counts_add_up (is_free taken) (is_held taken) (is_free v) (is_held v) (frame_count v) (λ frame h. balanced_taken frame));
    }

-- what is known of a block that is handed out before and after it is taken back
module _ (v : ZoneState) (law : IsValidZone v) (first order : ℕ) (at : map.get v.handed_out first ≡ Some order) where
  abbrev given : ZoneState
  given = block_given v first order

  pub block_first : first < frame_count v
  block_first = let within = (law.blocks.each first order at).within in omega (arith, within, pow_pos order)

  one_given : IsOneMore (map.get given.handed_out) (map.get v.handed_out) first order
  one_given = record { without = get_remove_same v.handed_out first first refl; here = at; others = λ q ne. sym (get_remove_other v.handed_out first q ne) }

  pub held_given : (frame : ℕ) → is_held v frame ≡ (is_held given frame || in_block first order frame)
  held_given frame = ap (λ b. b || set.contains v.claimed frame) (held_more one_given (frame_count v) block_first frame) ∙ or_swap (is_handed_out given frame) (in_block first order frame) (set.contains v.claimed frame)

  -- a block that covers a frame after one is taken back is another one, and covered the frame before
  covers_given : (a frame : ℕ) → covers (map.get given.handed_out a) a frame ≡ true → (a ≢ first) × (covers (map.get v.handed_out a) a frame ≡ true)
  covers_given a frame e = elim (eqb_tells a first) [
    | inl same ↦ absurd (both_ways _ (ap (λ (o : Option ℕ). covers o a frame) (get_remove_same v.handed_out first a same.1)) e)
    | inr other ↦ (other.1, sym (ap (λ (o : Option ℕ). covers o a frame) (get_remove_other v.handed_out first a other.1)) ∙ e)
  ]

  pub unheld_given : (frame : ℕ) → in_block first order frame ≡ true → is_held given frame ≡ false
  unheld_given frame here = or_from (is_handed_out given frame) _ (false_from_ne_true _ (λ held.
      (let one = some_one (λ q. covers (map.get given.handed_out q) q frame) (frame_count v) held in
      let other = covers_given one.0 frame one.2 in
      other.0 (law.blocks.disjoint one.0 first frame other.1 (ap (λ (o : Option ℕ). covers o first frame) at ∙ here)))))
      (law.blocks.unclaimed first frame (ap (λ (o : Option ℕ). covers o first frame) at ∙ here))

  -- no page takes up a frame of a block that is handed out
  pub unused_in_block : (page frame : ℕ) → in_block first order frame ≡ true → takes_up (map.get v.placement page) frame ≡ false
  unused_in_block page frame here = false_from_ne_true _ (λ e. both_ways _ (law.pages.clear page frame e) (held_of v law first order frame at here))

  pub free_given_in : (frame : ℕ) → in_block first order frame ≡ true → is_free given frame ≡ true
  free_given_in frame here = and_from _ _
      (ap not (none_some (λ page. takes_up (map.get v.placement page) frame) (frame_count v) (λ page h. unused_in_block page frame here)))
      (ap not (unheld_given frame here))

  pub free_given_out : (frame : ℕ) → in_block first order frame ≡ false → is_free given frame ≡ is_free v frame
  free_given_out frame there = sym (ap (λ b. not (is_used v frame) && not b) (held_given frame ∙ ap (λ b. is_held given frame || b) there ∙ or-false (is_held given frame)))

  balanced_given : (frame : ℕ) → one_if (is_free given frame) + one_if (is_held given frame) ≡ one_if (is_free v frame) + one_if (is_held v frame)
  balanced_given frame = sym (ap (λ b. one_if (not (is_used v frame) && not b) + one_if b) (held_given frame) ∙ balance (is_used v frame) (is_held given frame) _ (free_given_in frame))

  -- a block that was handed out is in the zone, and all of its frames are free after it is taken back
  pub block_of_zone : has_block v order first ≡ true
  block_of_zone =
      let block = law.blocks.each first order at in
      and_from _ _ (eq-eqb _ _ (aligned_by block.aligned.0 first order block.aligned.1)) (le-leb _ _ block.within)

  pub run_given : is_run given order first ≡ true
  run_given =
      and_from _ _ block_of_zone
      (eq-eqb _ _ (count_from_all (is_free given) first (2 ^ order) (λ frame low high. free_given_in frame (in_block_from first order frame low high))))

  handed_fewer : (f : ℕ) → map.get given.handed_out f ≡ handed_out_by (GiveHuge first order ∷ v.records) f
  handed_fewer = written_at _ (map.get v.handed_out) (handed_out_by v.records) first None (get_remove_same v.handed_out first) (get_remove_other v.handed_out first) law.agrees.handed

  blocks_given : (f o : ℕ) → map.get given.handed_out f ≡ Some o → IsBlock (frame_count v) f o
  blocks_given f o e = elim (eqb_tells f first) [
    | inl same ↦ absurd (none-some _ (sym (get_remove_same v.handed_out first f same.1) ∙ e))
    | inr other ↦ law.blocks.each f o (sym (get_remove_other v.handed_out first f other.1) ∙ e)
  ]

  contents_given : (f : ℕ) → option_map length (map.get given.contents f) ≡ option_map (λ o. 2 ^ o * v.page_size) (map.get given.handed_out f)
  contents_given f = elim (eqb_tells f first) [
    | inl same ↦
        (ap (option_map length) (get_remove_same v.contents first f same.1)
        ∙ sym (ap (option_map (λ o. 2 ^ o * v.page_size)) (get_remove_same v.handed_out first f same.1)))
    | inr other ↦
        (ap (option_map length) (get_remove_other v.contents first f other.1) ∙ law.blocks.contents f
        ∙ sym (ap (option_map (λ o. 2 ^ o * v.page_size)) (get_remove_other v.handed_out first f other.1)))
  ]

  lent_given : set.contains v.lent first ≡ false → (f : ℕ) → set.contains v.lent f ≡ true → IsSome (map.get given.handed_out f)
  lent_given unlent f e = elim (eqb_tells f first) [
    | inl same ↦ absurd (both_ways _ (ap (set.contains v.lent) same.1 ∙ unlent) e)
    | inr other ↦ ap is_some (get_remove_other v.handed_out first f other.1) ∙ law.blocks.lent f e
  ]

  pub valid_block_given : length (out v.records) < v.room → set.contains v.lent first ≡ false → IsValidZone (block_given v first order)
  valid_block_given spare unlent = record {
    size = law.size;
    addresses = law.addresses;
    journal = journal_noted (GiveHuge first order) law.journal spare law.journal.truthful law.journal.well_ended refl;
    agrees = record { named = law.agrees.named; in_use = law.agrees.in_use; under_way = law.agrees.under_way; handed = handed_fewer; marks = law.agrees.marks };
    pages = record { numbered = law.pages.numbered; elsewhere = law.pages.elsewhere; apart = law.pages.apart; within = law.pages.within; clear = (λ page frame e. (or_parts _ _ (sym (held_given frame) ∙ law.pages.clear page frame e)).0); unmovable = law.pages.unmovable };
    blocks = record { each = blocks_given; disjoint = (λ a b frame e f. law.blocks.disjoint a b frame (covers_given a frame e).1 (covers_given b frame f).1); contents = contents_given; lent = lent_given unlent; lendable = law.blocks.lendable; claims = law.blocks.claims; unclaimed = λ a frame e. law.blocks.unclaimed a frame (covers_given a frame e).1 };
    loans = record { used = law.loans.used; pinned = law.loans.pinned; lendable = law.loans.lendable };
    fingers = fingers_ended v (block_given v first order) (GiveHuge first order) law law.fingers.ordered refl refl refl;
    sum = omega (arith, law.sum, counts_add_up (is_free given) (is_held given) (is_free v) (is_held v) (frame_count v) (λ frame h. balanced_given frame));
  }

-- each block that is handed out is clear
pub blocks_are_clear : (v : ZoneState) → IsValidZone v → BlocksAreClear v
blocks_are_clear v law first order at = record {
  unnamed = λ address frame low high named.
      (let page = page_named v address (At frame) named in
      both_ways _ (unused_in_block v law first order at page.0 frame (in_block_from first order frame low high)) (at_takes _ frame page.2));
  unused = λ page frame low high. unused_in_block v law first order at page frame (in_block_from first order frame low high);
}

-- a pageblock with only free frames is a free block of order 9, and the other way round
whole_run : (v : ZoneState) (block : ℕ) → block < v.blocks → is_whole v block ≡ true → is_run v 9 (512 * block) ≡ true
whole_run v block h whole = and_from _ _ (and_from _ _ (eq-eqb _ _ (aligned_by block (512 * block) 9 (omega arith))) (le-leb _ _ (omega arith))) whole

run_whole : (v : ZoneState) (first : ℕ) → is_run v 9 first ≡ true → (first ≡ 512 * (first / 512)) × (first / 512 < v.blocks) × (is_whole v (first / 512) ≡ true)
run_whole v first run =
    let at : first ≡ 512 * (first / 512) = omega (arith, run_aligned v first 9 run) in
    (at, omega (arith, run_within v first 9 run), sym (ap (λ (f : ℕ). nat_eq (count_from (is_free v) f 512) 512) at) ∙ (and_parts (has_block v 9 first) _ run).1)

-- the lowest free block of order 9 is the lowest pageblock with only free frames
pub lowest_whole : (v : ZoneState) (first : ℕ) → lowest_run v 9 ≡ Some first → (first ≡ 512 * (first / 512)) × (lowest (is_whole v) v.blocks ≡ Some (first / 512))
lowest_whole v first e =
    let found = lowest_some (is_run v 9) (frame_count v) first e in
    let whole = run_whole v first found.1 in (
      whole.0,
      lowest_is (is_whole v) v.blocks (first / 512) whole.1 whole.2 (λ block h. false_from_ne_true _ (λ passes.
          (let below : 512 * block < first = omega (arith, whole.0) in
          let bound : block < v.blocks = omega (arith, whole.1) in
          both_ways _ (lowest_before (is_run v 9) (frame_count v) first (512 * block) e below) (whole_run v block bound passes)))),
    )
