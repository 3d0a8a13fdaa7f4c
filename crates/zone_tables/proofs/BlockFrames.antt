-- A block is handed out or taken back: its frames, and that the tables still stand for the zone.
use Rattle.std.proofs.Common.{◌≡◌, ◌≢◌, ℕ, zero, suc, ◌+◌, ◌^◌, ◌<◌, ◌≤◌, Bool, true, false, List, length, ◌⊎◌, inl, inr, refl, sym, ap, ◌∙◌, arith}
use Rattle.std.specs.Prelude.{Option, Some, None, slice_get, slice_set, nat_eq, nat_le, ◌&&◌, ◌||◌}
use Rattle.std.specs.FinMap as map
use Rattle.std.specs.FinSet as set
use Rattle.std.proofs.Math.Bool.{or-false}
use Rattle.std.proofs.lemmas.Bool.{and_parts, both_ways, cases_Bool, eq-eqb, eqb-true, leb-true, or_left}
use Rattle.std.proofs.lemmas.Bool.Decides.{eqb_tells}
use Rattle.std.proofs.lemmas.List.{length-set}
use Rattle.std.proofs.lemmas.Nat.{pow_pos}
use Rattle.frame_core.proofs.Lists.{slice_get_set_same, slice_get_set_other}
use Rattle.frame_core.proofs.Searches.{count_from_all, count_from_same, count_same, lowest_same}
use Rattle.frame_core.specs.Below.{lowest, count_below, count_from}
use Rattle.frame_core.specs.Order.{is_aligned}
use Rattle.frame_core.specs.declared.state.FrameState.{FrameState}
use Rattle.frame_core.specs.declared.state.FrameState.TheVariants.{Free, Huge}
use Rattle.frame_core.specs.declared.record.Record.TheVariants.{TakeHuge, GiveHuge}
use Rattle.frame_core.specs.Moves.{out}
use Rattle.scan_core.specs.Frames.{free_at, huge_at, is_huge_state, Frames}
use Rattle.scan_core.specs.NumberSet.{all_from}
use Rattle.scan_core.specs.Runs as runs
use Rattle.scan_core.specs.Runs.{with_run}
use Rattle.state_core.specs.HandingOut.{has_block, is_order, is_run, lowest_run, block_taken, block_given}
use Rattle.state_core.specs.ZoneState.{ZoneState, frame_count, is_held, is_free}
use Rattle.state_core.proofs.Entries.{get_remove_same, get_remove_other}
use Rattle.state_core.proofs.HandingOut as blocks
use Rattle.state_core.proofs.HandingOut.{in_block, in_block_from, in_block_parts, held_of}
use Rattle.state_core.proofs.Places.{untaken}
use Rattle.zone_tables.specs.declared.zone.ZoneTables.TheInside.{Inside}
use Rattle.zone_tables.specs.Fits.{FramesFit}
use Rattle.zone_tables.specs.HandedOut.{order_of}
use Rattle.zone_tables.specs.History.{History, told}
use Rattle.zone_tables.specs.Sound.{IsSound, state_of}
use Rattle.zone_tables.proofs.BlockOrders.{order_here, order_there}
use Rattle.zone_tables.proofs.LentBlocks.{first_unlent, taken_fit, taken_lent, given_fit, given_lent}
use Rattle.zone_tables.proofs.HeldWords.{off_block, orders_put, contents_put, flag_here, flag_there, held_contents}
use Rattle.zone_tables.proofs.SearchesAndCounts.{free_seen, orders_seen}
use Rattle.zone_tables.proofs.Placement.{state_taken}
use Rattle.zone_tables.specs.Contents.{words_held}
use Rattle.zone_tables.proofs.Facts.{Becomes, becomes}

-- the states of frames after a run of them changed together
pub length_with_run : (states : List (FrameState ℕ)) (first n : ℕ) (state : FrameState ℕ) → length (with_run states first n state) ≡ length states
unfolding with_run
length_with_run states first zero state = refl
length_with_run states first (suc n) state = length-set (with_run states first n state) (first + n) state ∙ length_with_run states first n state

pub in_run : (states : List (FrameState ℕ)) (first n : ℕ) (state : FrameState ℕ) (k : ℕ) → first + n ≤ length states → first ≤ k → k < first + n → slice_get (with_run states first n state) k ≡ Some state
unfolding with_run
in_run states first zero state k within low high = absurd (omega arith)
in_run states first (suc n) state k within low high = elim (eqb_tells k (first + n)) [
  | inl at ↦ slice_get_set_same (with_run states first n state) (first + n) k state at.1 (omega (arith, within, length_with_run states first n state))
  | inr other ↦ slice_get_set_other (with_run states first n state) (first + n) k state other.1 ∙ in_run states first n state k (omega arith) low (omega (arith, other.1))
]

pub off_run : (states : List (FrameState ℕ)) (first n : ℕ) (state : FrameState ℕ) (k : ℕ) → (k < first) ⊎ (first + n ≤ k) → slice_get (with_run states first n state) k ≡ slice_get states k
unfolding with_run
off_run states first zero state k away = refl
off_run states first (suc n) state k away =
    let other : k ≢ first + n = elim away [ inl under ↦ omega arith | inr above ↦ omega arith ] in
    slice_get_set_other (with_run states first n state) (first + n) k state other ∙ off_run states first n state k (elim away [ inl under ↦ inl under | inr above ↦ inr (omega arith) ])

pub order_held : (o : Option ℕ) (order : ℕ) → is_order o order ≡ true → o ≡ Some order
order_held None order e = cc
order_held (Some held) order e = ap Some (eqb-true held order e)

-- the free blocks in the tables are those of the zone
module _ (states : List (FrameState ℕ)) (v : ZoneState) (fit : FramesFit states v) where
  pub block_seen : (order first : ℕ) → runs.has_block states order first ≡ has_block v order first
  block_seen order first = ap (λ n. is_aligned order first && nat_le (first + 2 ^ order) n) fit.count

  pub run_seen : (order first : ℕ) → runs.is_run states order first ≡ is_run v order first
  run_seen order first = by_block (has_block v order first) refl where
    by_block : (b : Bool) → has_block v order first ≡ b → runs.is_run states order first ≡ is_run v order first
    by_block true is =
        let within = leb-true _ _ (and_parts (is_aligned order first) _ is).1 in
        let counts = count_from_same (free_at states) (is_free v) first (2 ^ order) (λ frame low high. free_seen states v fit frame (omega (arith, high, within))) in
        λ i. block_seen order first i && nat_eq (counts i) (2 ^ order)
    by_block false is =
        (λ i. (block_seen order first ∙ is) i && all_from (free_at states) first (2 ^ order))
        ∙ sym (λ i. is i && nat_eq (count_from (is_free v) first (2 ^ order)) (2 ^ order))

  pub first_run_seen : (order : ℕ) → runs.first_run states order ≡ lowest_run v order
  first_run_seen order =
      lowest_same (runs.is_run states order) (is_run v order) (length states) (λ first h. run_seen order first)
      ∙ ap (lowest (is_run v order)) fit.count

  pub runs_seen : (order : ℕ) → count_below (runs.is_run states order) (length states) ≡ count_below (is_run v order) (frame_count v)
  runs_seen order =
      count_same (runs.is_run states order) (is_run v order) (length states) (λ first h. run_seen order first)
      ∙ ap (count_below (is_run v order)) fit.count

-- a free block is handed out
module _ {W : ℕ} (z : Inside W) (v : ZoneState) (sound : IsSound z v) (view : state_of z ≡ v) (first order : ℕ) (run : is_run v order first ≡ true) where
  within : first + 2 ^ order ≤ length z.frames.states
  within = omega (arith, blocks.run_within v first order run, sound.frames.count)

  pub take_within : first + 2 ^ order ≤ length z.handed_out
  take_within = omega (arith, blocks.run_within v first order run, sound.orders)

  pub take_none : order_of z.handed_out first ≡ None
  take_none = (λ i. orders_seen z v view i first) ∙ blocks.not_handed_out v first order run

  held_states : FramesFit (with_run z.frames.states first (2 ^ order) Huge) (block_taken v first order)
  held_states = record {
    count = length_with_run z.frames.states first (2 ^ order) Huge ∙ sound.frames.count;
    of_page = λ page frame state e. elim (cases_Bool (in_block first order frame)) [
      | inl here ↦ absurd (both_ways _ (untaken v sound.valid frame (blocks.block_free v first order run frame here) page) (state_taken page (map.get v.placement page) frame state e))
      | inr there ↦ off_run z.frames.states first (2 ^ order) Huge frame (off_block first order frame there) ∙ sound.frames.of_page page frame state e
    ];
    of_block = λ frame h held. elim (cases_Bool (in_block first order frame)) [
      | inl here ↦ (let parts = in_block_parts first order frame here in in_run z.frames.states first (2 ^ order) Huge frame within parts.0 parts.1)
      | inr there ↦ off_run z.frames.states first (2 ^ order) Huge frame (off_block first order frame there)
          ∙ sound.frames.of_block frame h (sym (blocks.held_taken v first order run frame ∙ ap (λ b. is_held v frame || b) there ∙ or-false (is_held v frame)) ∙ held)
    ];
    of_none = λ frame h free. elim (cases_Bool (in_block first order frame)) [
      | inl here ↦ absurd (both_ways _ (blocks.free_taken_in v first order run frame here) free)
      | inr there ↦ off_run z.frames.states first (2 ^ order) Huge frame (off_block first order frame there)
          ∙ sound.frames.of_none frame h (sym (blocks.free_taken_out v first order run frame there) ∙ free)
    ];
  }

  -- the fields after the block was handed out
  abbrev after_take : History → Inside W
  after_take history = record z { frames = record z.frames { states = with_run z.frames.states first (2 ^ order) Huge }; handed_out = slice_set z.handed_out first (Some order); cleared = slice_set z.cleared first false; history = history }

  take_sound : length (out v.records) < v.room → 3 ≤ order → order ≤ 9 → (history : History) → IsSound (after_take history) (block_taken v first order)
  take_sound spare low high history = record {
    valid = blocks.valid_block_taken v first order run sound.valid spare low high;
    orders = length-set z.handed_out first (Some order) ∙ sound.orders;
    cleared = record {
      count = length-set z.cleared first false ∙ sound.cleared.count;
      lent = λ q gone. elim (eqb_tells q first) [
        | inl same ↦ absurd (both_ways _ (first_unlent z v sound view first order run) (sym (ap (set.contains v.lent) same.1) ∙ gone))
        | inr other ↦ flag_there z.cleared first q false other.1 ∙ sound.cleared.lent q gone
      ];
    };
    lent = taken_fit z v sound view first order run;
    frames = held_states;
    tables = sound.tables;
    size = sound.size;
    marks = sound.marks;
    claimed = sound.claimed;
    entries = record { each = sound.entries.each };
    words = record { count = sound.words.count; sized = sound.words.sized; each = sound.words.each };
    notes = record { count = sound.notes.count; each = λ page note e used. (let fit = sound.notes.each page note e used in record { dirty = fit.dirty; pins = fit.pins; maps = fit.maps }) };
    moves = record { isolated = sound.moves.isolated; moved = sound.moves.moved; back = sound.moves.back };
    movable = record { count = sound.movable.count; each = sound.movable.each };
    unmovable = record { count = sound.unmovable.count; each = sound.unmovable.each; rest = sound.unmovable.rest };
  }

  take_first : first < length z.handed_out
  take_first = omega (arith, take_within, pow_pos order)

  take_view : (history : History) → history ≡ told z.history (TakeHuge first order) → state_of (after_take history) ≡ block_taken v first order
  take_view history is =
      let table = orders_put z first take_first (Some order) in
      let zeros = flag_here z.cleared first false (omega (arith, take_first, sound.orders, sound.cleared.count)) in
      let contents = contents_put z first take_first (Some order) (slice_set z.cleared first false) (λ q. flag_there z.cleared first q false)
      ∙ ap (λ b. map.insert (held_contents z) first (words_held W z.words.rows b first order)) zeros in
      let here : state_of (after_take history) ≡ block_taken (state_of z) first order =
      λ i. record (state_of z) { records = (is i).records; room = (is i).room; round = (is i).round; handed_out = table i; contents = contents i; lent = taken_lent z v sound view first order run take_first i } in
      here ∙ ap (λ (s : ZoneState). block_taken s first order) view

  pub take_holds : {frames : Frames} {orders : List (Option ℕ)} {cleared : List Bool} {history : History} → length (out v.records) < v.room → 3 ≤ order → order ≤ 9 →
      frames ≡ record z.frames { states = with_run z.frames.states first (2 ^ order) Huge } → orders ≡ slice_set z.handed_out first (Some order) → cleared ≡ slice_set z.cleared first false →
      history ≡ told z.history (TakeHuge first order) → Becomes (record z { frames = frames; handed_out = orders; cleared = cleared; history = history }) (block_taken v first order)
  take_holds {history = history} spare low high f o c is =
      becomes {ideal = after_take history} (λ i. record z { frames = f i; handed_out = o i; cleared = c i; history = history }) (take_view history is) (take_sound spare low high history)

-- a block is taken back
module _ {W : ℕ} (z : Inside W) (v : ZoneState) (sound : IsSound z v) (view : state_of z ≡ v) (first order : ℕ) (at : map.get v.handed_out first ≡ Some order) (back : set.contains v.lent first ≡ false) where
  within_given : first + 2 ^ order ≤ frame_count v
  within_given = (sound.valid.blocks.each first order at).within

  pub give_within : first + 2 ^ order ≤ length z.handed_out
  give_within = omega (arith, within_given, sound.orders)

  give_first : first < length z.handed_out
  give_first = omega (arith, give_within, pow_pos order)

  pub give_here : order_of z.handed_out first ≡ Some order
  give_here = (λ i. orders_seen z v view i first) ∙ at

  pub give_block : runs.has_block z.frames.states order first ≡ true
  give_block = block_seen z.frames.states v sound.frames order first ∙ blocks.block_of_zone v sound.valid first order at

  pub give_huge : all_from (huge_at z.frames.states) first (2 ^ order) ≡ true
  give_huge = eq-eqb _ _ (count_from_all (huge_at z.frames.states) first (2 ^ order) (λ frame low high. ap is_huge_state (sound.frames.of_block frame (omega (arith, high, within_given)) (held_of v sound.valid first order frame at (in_block_from first order frame low high)))))

  -- the list of blocks after the block was taken back
  orders_then : (q : ℕ) → order_of (slice_set z.handed_out first None) q ≡ map.get (map.remove v.handed_out first) q
  orders_then q = elim (eqb_tells q first) [
    | inl same ↦ ap (order_of (slice_set z.handed_out first None)) same.1 ∙ order_here z.handed_out first None give_first ∙ sym (get_remove_same v.handed_out first q same.1)
    | inr other ↦ order_there z.handed_out first None give_first q other.1 ∙ (λ i. orders_seen z v view i q) ∙ sym (get_remove_other v.handed_out first q other.1)
  ]

  freed_states : FramesFit (with_run z.frames.states first (2 ^ order) Free) (block_given v first order)
  freed_states = record {
    count = length_with_run z.frames.states first (2 ^ order) Free ∙ sound.frames.count;
    of_page = λ page frame state e. elim (cases_Bool (in_block first order frame)) [
      | inl here ↦ absurd (both_ways _ (blocks.unused_in_block v sound.valid first order at page frame here) (state_taken page (map.get v.placement page) frame state e))
      | inr there ↦ off_run z.frames.states first (2 ^ order) Free frame (off_block first order frame there) ∙ sound.frames.of_page page frame state e
    ];
    of_block = λ frame h held. elim (cases_Bool (in_block first order frame)) [
      | inl here ↦ absurd (both_ways _ (blocks.unheld_given v sound.valid first order at frame here) held)
      | inr there ↦ off_run z.frames.states first (2 ^ order) Free frame (off_block first order frame there)
          ∙ sound.frames.of_block frame h (blocks.held_given v sound.valid first order at frame ∙ or_left _ _ held)
    ];
    of_none = λ frame h free. elim (cases_Bool (in_block first order frame)) [
      | inl here ↦ (let parts = in_block_parts first order frame here in in_run z.frames.states first (2 ^ order) Free frame (omega (arith, within_given, sound.frames.count)) parts.0 parts.1)
      | inr there ↦ off_run z.frames.states first (2 ^ order) Free frame (off_block first order frame there)
          ∙ sound.frames.of_none frame h (sym (blocks.free_given_out v sound.valid first order at frame there) ∙ free)
    ];
  }

  -- the fields after the block was taken back
  abbrev after_give : History → Inside W
  after_give history = record z { frames = record z.frames { states = with_run z.frames.states first (2 ^ order) Free }; handed_out = slice_set z.handed_out first None; history = history }

  give_sound : length (out v.records) < v.room → (history : History) → IsSound (after_give history) (block_given v first order)
  give_sound spare history = record {
    valid = blocks.valid_block_given v sound.valid first order at spare back;
    orders = length-set z.handed_out first None ∙ sound.orders;
    cleared = sound.cleared;
    lent = given_fit z v sound view first order at back;
    frames = freed_states;
    tables = sound.tables;
    size = sound.size;
    marks = sound.marks;
    claimed = sound.claimed;
    entries = record { each = sound.entries.each };
    words = record { count = sound.words.count; sized = sound.words.sized; each = sound.words.each };
    notes = record { count = sound.notes.count; each = λ page note e used. (let fit = sound.notes.each page note e used in record { dirty = fit.dirty; pins = fit.pins; maps = fit.maps }) };
    moves = record { isolated = sound.moves.isolated; moved = sound.moves.moved; back = sound.moves.back };
    movable = record { count = sound.movable.count; each = sound.movable.each };
    unmovable = record { count = sound.unmovable.count; each = sound.unmovable.each; rest = sound.unmovable.rest };
  }

  give_view : (history : History) → history ≡ told z.history (GiveHuge first order) → state_of (after_give history) ≡ block_given v first order
  give_view history is =
      let table = orders_put z first give_first None in
      let contents = contents_put z first give_first None z.cleared (λ q ne. refl) in
      let here : state_of (after_give history) ≡ block_given (state_of z) first order =
      λ i. record (state_of z) { records = (is i).records; room = (is i).room; round = (is i).round; handed_out = table i; contents = contents i; lent = given_lent z v sound view first order at back give_first i } in
      here ∙ ap (λ (s : ZoneState). block_given s first order) view

  pub give_holds : {frames : Frames} {orders : List (Option ℕ)} {history : History} → length (out v.records) < v.room →
      frames ≡ record z.frames { states = with_run z.frames.states first (2 ^ order) Free } → orders ≡ slice_set z.handed_out first None →
      history ≡ told z.history (GiveHuge first order) → Becomes (record z { frames = frames; handed_out = orders; history = history }) (block_given v first order)
  give_holds {history = history} spare f o is = becomes {ideal = after_give history} (λ i. record z { frames = f i; handed_out = o i; history = history }) (give_view history is) (give_sound spare history)
