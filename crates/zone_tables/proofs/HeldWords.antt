-- The words of blocks that are handed out: which steps leave them, and what the others make of them.
use Rattle.std.proofs.Common.{◌≡◌, ◌≢◌, ℕ, ◌+◌, ◌-◌, ◌*◌, ◌^◌, ◌<◌, ◌≤◌, Bool, true, false, List, [], length, take, drop, get_or, ◌⊎◌, inl, inr, refl, sym, ap, subst, ◌∙◌, arith}
use Rattle.std.specs.Prelude.{Option, Some, None, slice_get, slice_set, unwrap_or, if◌then◌else◌}
use Rattle.std.specs.FinMap as map
use Rattle.std.specs.FinSet as set
use Rattle.std.specs.List.{All}
use Rattle.std.specs.Option.{option_map}
use Rattle.std.specs.Ordering.{nat_cmp}
use Rattle.std.specs.Cmp.{nat_cmp_total}
use Rattle.std.proofs.lemmas.Bool.{both_ways, cases_Bool, false_from_ne_true}
use Rattle.std.proofs.lemmas.Bool.Decides.{eqb_tells, leb_tells}
use Rattle.std.proofs.lemmas.List.{drop-drop, drop-set-add, drop-set-lt, drop-take, get_or-drop, get_or-take, length-set, take-set-le}
use Rattle.std.proofs.lemmas.Option.{unwrap_or-slice_get}
use Rattle.std.proofs.Math.Seq.{take-take}
use Rattle.std.proofs.lemmas.Nat.{pow_pos}
use Rattle.frame_core.proofs.Lists.{slice_get_set_same, slice_get_set_other}
use Rattle.scan_core.specs.Frames.{true_at}
use Rattle.state_core.specs.Contents as state
use Rattle.state_core.specs.Valid.{IsValidZone}
use Rattle.state_core.specs.ZoneState.{ZoneState, covers, is_held, takes_up, words_frame}
use Rattle.state_core.proofs.Entries.{get_insert_same, get_insert_other}
use Rattle.state_core.proofs.Facts.{takes_own}
use Rattle.state_core.proofs.HandingOut.{held_of, in_block, in_block_from}
use Rattle.frame_core.specs.Words.{joined, HasBlock, words_of}
use Rattle.zone_tables.specs.Contents.{words_held, contents_at}
use Rattle.frame_core.specs.LentWords.{LentStays, Words}
use Rattle.scan_core.specs.NumberSet.{gathered}
use Rattle.zone_tables.specs.Fits.{LentFit}
use Rattle.zone_tables.specs.HandedOut.{order_of, is_lent_at}
use Rattle.zone_tables.specs.LentPages.{pages_lent}
use Rattle.zone_tables.specs.Sound.{IsSound, state_of}
use Rattle.zone_tables.specs.Tabulated.{tabulated}
use Rattle.zone_tables.specs.declared.zone.ZoneTables.TheInside.{Inside}
use Rattle.zone_tables.proofs.BlockOrders.{order_here, order_there}
use Rattle.zone_tables.proofs.SearchesAndCounts.{order_past, orders_seen}
use Rattle.zone_tables.proofs.Tabulating.{get_tabulated_all, tabulated_same, put, tabulated_put}

-- the words of each block, as the tables have them
abbrev pub held_contents : {W : ℕ} → Inside W → map.FinMap nat_cmp (List ℕ)
held_contents {W} z = tabulated (contents_at W z.words.rows z.cleared z.handed_out) (length z.handed_out)

contents_past : (size : ℕ) (rows : List (List ℕ)) (cleared : List Bool) (orders : List (Option ℕ)) (first : ℕ) → length orders ≤ first → contents_at size rows cleared orders first ≡ None
contents_past size rows cleared orders first h = ap (option_map (words_held size rows (true_at cleared first) first)) (order_past orders first h)

pub flag_here : (cleared : List Bool) (first : ℕ) (flag : Bool) → first < length cleared → true_at (slice_set cleared first flag) first ≡ flag
flag_here cleared first flag h = ap (λ (o : Option Bool). unwrap_or o false) (slice_get_set_same cleared first first flag refl h)

pub flag_there : (cleared : List Bool) (first q : ℕ) (flag : Bool) → q ≢ first → true_at (slice_set cleared first flag) q ≡ true_at cleared q
flag_there cleared first q flag ne = ap (λ (o : Option Bool). unwrap_or o false) (slice_get_set_other cleared first q flag ne)

-- a block whose rows are the same has the same words
held_same : (size : ℕ) (old new : List (List ℕ)) (flag : Bool) (first order : ℕ) → take (2 ^ order) (drop first new) ≡ take (2 ^ order) (drop first old) → words_held size new flag first order ≡ words_held size old flag first order
held_same size old new true first order e = ap joined e
held_same size old new false first order e = refl

-- the rows of a block are the same where one row outside it changed
rows_off : (rows : List (List ℕ)) (frame : ℕ) (row : List ℕ) (first n : ℕ) → (frame < first) ⊎ (first + n ≤ frame) → take n (drop first (slice_set rows frame row)) ≡ take n (drop first rows)
rows_off rows frame row first n (inl under) = ap (take n) (drop-set-lt first rows frame row under)
rows_off rows frame row first n (inr above) =
    let at : frame ≡ first + (frame - first) = omega arith in
    ap (λ (i : ℕ). take n (drop first (slice_set rows i row))) at
    ∙ ap (take n) (drop-set-add first rows (frame - first) row)
    ∙ take-set-le n (drop first rows) (frame - first) row (omega arith)

module _ {old new : List (List ℕ)} {first n : ℕ} {words : List ℕ} (has : HasBlock old new first n words) where
  same_front : (m : ℕ) → m ≤ first → take m new ≡ take m old
  same_front m low = sym (take-take m first new low) ∙ ap (take m) has.before ∙ take-take m first old low

  same_back : (a : ℕ) → first + n ≤ a → drop a new ≡ drop a old
  same_back a above =
      let at : a ≡ first + n + (a - (first + n)) = omega arith in
      ap (λ (i : ℕ). drop i new) at ∙ sym (drop-drop (a - (first + n)) (first + n) new) ∙ ap (drop (a - (first + n))) has.after
      ∙ drop-drop (a - (first + n)) (first + n) old ∙ sym (ap (λ (i : ℕ). drop i old) at)

  -- the rows of another block are the same where a block was written
  rows_kept : (a m : ℕ) → (a + m ≤ first) ⊎ (first + n ≤ a) → take m (drop a new) ≡ take m (drop a old)
  rows_kept a m (inl below) = sym (drop-take a m new) ∙ ap (drop a) (same_front (a + m) below) ∙ drop-take a m old
  rows_kept a m (inr above) = ap (take m) (same_back a above)

  pub words_kept : (frame : ℕ) → (frame < first) ⊎ (first + n ≤ frame) → words_of new frame ≡ words_of old frame
  words_kept frame (inl under) =
      unwrap_or-slice_get new frame [] ∙ sym (get_or-take first new frame [] under) ∙ ap (λ (rows : List (List ℕ)). get_or rows frame []) has.before
      ∙ get_or-take first old frame [] under ∙ sym (unwrap_or-slice_get old frame [])
  words_kept frame (inr above) =
      let at : frame ≡ first + n + (frame - (first + n)) = omega arith in
      unwrap_or-slice_get new frame [] ∙ ap (λ (i : ℕ). get_or new i []) at ∙ sym (get_or-drop (first + n) new (frame - (first + n)) [])
      ∙ ap (λ (rows : List (List ℕ)). get_or rows (frame - (first + n)) []) has.after
      ∙ get_or-drop (first + n) old (frame - (first + n)) [] ∙ sym (ap (λ (i : ℕ). get_or old i []) at) ∙ sym (unwrap_or-slice_get old frame [])

-- a block is written twice
pub written_again : {old between new : List (List ℕ)} {first n : ℕ} {words next : List ℕ} → HasBlock old between first n words → HasBlock between new first n next → HasBlock old new first n next
written_again a b = record { here = b.here; before = b.before ∙ a.before; after = b.after ∙ a.after; count = b.count ∙ a.count }

-- and what is lent stays
pub stays_again : (old between new : Words) → LentStays old between → LentStays between new → LentStays old new
stays_again old between new a b = (b.0 ∙ a.0, b.1 ∙ a.1, b.2 ∙ a.2)

-- a frame outside a block is below its first frame or above its last
pub off_block : (first order frame : ℕ) → in_block first order frame ≡ false → (frame < first) ⊎ (first + 2 ^ order ≤ frame)
off_block first order frame e = elim (leb_tells first frame) [
  | inl low ↦ elim (leb_tells (first + 2 ^ order) frame) [ inl above ↦ inr above.1 | inr under ↦ absurd (both_ways _ e (in_block_from first order frame low.1 under.1)) ]
  | inr under ↦ inl under.1
]

-- two blocks that are handed out are apart
pub blocks_apart : (v : ZoneState) → IsValidZone v → (a b order_a order_b : ℕ) → map.get v.handed_out a ≡ Some order_a → map.get v.handed_out b ≡ Some order_b → a ≢ b → (a + 2 ^ order_a ≤ b) ⊎ (b + 2 ^ order_b ≤ a)
blocks_apart v law a b order_a order_b at_a at_b ne =
    let covers_a : (frame : ℕ) → in_block a order_a frame ≡ true → covers (map.get v.handed_out a) a frame ≡ true = λ frame e. ap (λ (o : Option ℕ). covers o a frame) at_a ∙ e in
    let covers_b : (frame : ℕ) → in_block b order_b frame ≡ true → covers (map.get v.handed_out b) b frame ≡ true = λ frame e. ap (λ (o : Option ℕ). covers o b frame) at_b ∙ e in
    elim (leb_tells (a + 2 ^ order_a) b) [
      | inl apart ↦ inl apart.1
      | inr over ↦ elim (leb_tells (b + 2 ^ order_b) a) [
        | inl apart ↦ inr apart.1
        | inr under ↦ elim (leb_tells a b) [
          | inl low ↦ absurd (ne (law.blocks.disjoint a b b (covers_a b (in_block_from a order_a b low.1 over.1)) (covers_b b (in_block_from b order_b b (omega arith) (omega (arith, pow_pos order_b))))))
          | inr high ↦ absurd (ne (law.blocks.disjoint a b a (covers_a a (in_block_from a order_a a (omega arith) (omega (arith, pow_pos order_a)))) (covers_b a (in_block_from b order_b a (omega (arith, high.1)) under.1))))
        ]
      ]
    ]

module _ {W : ℕ} (z : Inside W) (v : ZoneState) (sound : IsSound z v) (view : state_of z ≡ v) where
  pub order_is : (first order : ℕ) → order_of z.handed_out first ≡ Some order → map.get v.handed_out first ≡ Some order
  order_is first order e = sym (λ i. orders_seen z v view i first) ∙ e

  -- the words of the blocks stay where a row changes of a frame that is in none of them
  pub contents_kept : (frame : ℕ) (row : List ℕ) → is_held v frame ≡ false
      → tabulated (contents_at W (slice_set z.words.rows frame row) z.cleared z.handed_out) (length z.handed_out) ≡ held_contents z
  contents_kept frame row free = tabulated_same (contents_at W (slice_set z.words.rows frame row) z.cleared z.handed_out) (contents_at W z.words.rows z.cleared z.handed_out) (length z.handed_out) (λ first. by first (order_of z.handed_out first) refl) where
    by : (first : ℕ) (o : Option ℕ) → order_of z.handed_out first ≡ o → option_map (words_held W (slice_set z.words.rows frame row) (true_at z.cleared first) first) (order_of z.handed_out first) ≡ option_map (words_held W z.words.rows (true_at z.cleared first) first) (order_of z.handed_out first)
    by first None e = ap (option_map (words_held W (slice_set z.words.rows frame row) (true_at z.cleared first) first)) e ∙ sym (ap (option_map (words_held W z.words.rows (true_at z.cleared first) first)) e)
    by first (Some order) e =
        let out : in_block first order frame ≡ false = elim (cases_Bool (in_block first order frame)) [ inl here ↦ absurd (both_ways _ free (held_of v sound.valid first order frame (order_is first order e) here)) | inr there ↦ there ] in
        ap (option_map (words_held W (slice_set z.words.rows frame row) (true_at z.cleared first) first)) e
        ∙ ap Some (held_same W z.words.rows (slice_set z.words.rows frame row) (true_at z.cleared first) first order (rows_off z.words.rows frame row first (2 ^ order) (off_block first order frame out)))
        ∙ sym (ap (option_map (words_held W z.words.rows (true_at z.cleared first) first)) e)

  pub contents_seen : (first : ℕ) → contents_at W z.words.rows z.cleared z.handed_out first ≡ map.get v.contents first
  contents_seen first =
      sym (get_tabulated_all (contents_at W z.words.rows z.cleared z.handed_out) (length z.handed_out) first (contents_past W z.words.rows z.cleared z.handed_out))
      ∙ ap (λ (u : ZoneState). map.get u.contents first) view

  module _ (first order : ℕ) (at : map.get v.handed_out first ≡ Some order) where
    pub order_at : order_of z.handed_out first ≡ Some order
    order_at = (λ i. orders_seen z v view i first) ∙ at

    pub held_is : words_held W z.words.rows (true_at z.cleared first) first order ≡ state.contents_of v first
    held_is = ap (λ (o : Option (List ℕ)). unwrap_or o []) (sym (ap (option_map (words_held W z.words.rows (true_at z.cleared first) first)) order_at) ∙ contents_seen first)

    pub block_listed : first < length z.cleared
    block_listed = let block = (sound.valid.blocks.each first order at).within in omega (arith, block, pow_pos order, sound.cleared.count)

    pub block_rows : first + 2 ^ order ≤ length z.words.rows
    block_rows = let block = (sound.valid.blocks.each first order at).within in omega (arith, block, sound.words.count)

    -- the block has other words, and it may be noted as cleared
    module _ (given : Words) (stays : LentStays z.words given) (words : List ℕ) (has : HasBlock z.words.rows given.rows first (2 ^ order) words) (flags : List Bool) (there : (q : ℕ) → q ≢ first → true_at flags q ≡ true_at z.cleared q) (held : words_held W given.rows (true_at flags first) first order ≡ words) where
      abbrev rows : List (List ℕ)
      rows = given.rows

      -- the fields after the block got other words
      abbrev pub after_block : Inside W
      after_block = record z { words = given; cleared = flags }

      contents_here : contents_at W rows flags z.handed_out first ≡ Some words
      contents_here = ap (option_map (words_held W rows (true_at flags first) first)) order_at ∙ ap Some held

      contents_there : (q : ℕ) → q ≢ first → contents_at W rows flags z.handed_out q ≡ contents_at W z.words.rows z.cleared z.handed_out q
      contents_there q ne = ap (λ b. option_map (words_held W rows b q) (order_of z.handed_out q)) (there q ne) ∙ by (order_of z.handed_out q) refl where
        by : (o : Option ℕ) → order_of z.handed_out q ≡ o → option_map (words_held W rows (true_at z.cleared q) q) (order_of z.handed_out q) ≡ option_map (words_held W z.words.rows (true_at z.cleared q) q) (order_of z.handed_out q)
        by None e = ap (option_map (words_held W rows (true_at z.cleared q) q)) e ∙ sym (ap (option_map (words_held W z.words.rows (true_at z.cleared q) q)) e)
        by (Some other) e =
            ap (option_map (words_held W rows (true_at z.cleared q) q)) e
            ∙ ap Some (held_same W z.words.rows rows (true_at z.cleared q) q other (rows_kept has q (2 ^ other) (blocks_apart v sound.valid q first other order (order_is q other e) at ne)))
            ∙ sym (ap (option_map (words_held W z.words.rows (true_at z.cleared q) q)) e)

      pub block_view : state_of after_block ≡ record v { contents = map.insert v.contents first words }
      block_view =
          let table = tabulated_put (contents_at W z.words.rows z.cleared z.handed_out) (contents_at W rows flags z.handed_out) (length z.handed_out) first (Some words)
          (contents_past W z.words.rows z.cleared z.handed_out) (contents_past W rows flags z.handed_out) contents_here contents_there in
          let here : state_of after_block ≡ record (state_of z) { contents = map.insert (state_of z).contents first words } = λ i. record (state_of z) { contents = table i; lent = gathered (is_lent_at (stays.1 i) z.handed_out) (length z.handed_out); lent_pages = pages_lent (stays.1 i) (state_of z).placement (512 * z.size.blocks); memory = if stays.2 i then Some (stays.0 i) else None } in
          here ∙ ap (λ (s : ZoneState). record s { contents = map.insert s.contents first words }) view

      -- the frame with the words of a page is in no block
      page_off : (page : ℕ) (placement : _) → map.get v.placement page ≡ Some placement → (words_frame placement < first) ⊎ (first + 2 ^ order ≤ words_frame placement)
      page_off page placement e = off_block first order (words_frame placement) (false_from_ne_true _ (λ here.
          both_ways _ (sound.valid.pages.clear page (words_frame placement) (ap (λ o. takes_up o (words_frame placement)) e ∙ takes_own placement)) (held_of v sound.valid first order (words_frame placement) at here)))

      pub block_sound : length flags ≡ length z.cleared → (set.contains v.lent first ≡ true → true_at flags first ≡ true) → (contents : map.FinMap nat_cmp (List ℕ)) → All (λ row. length row ≡ W) rows → IsValidZone (record v { contents = contents }) → IsSound after_block (record v { contents = contents })
      block_sound as_many noted contents sized law = record {
        valid = law;
        orders = sound.orders;
        cleared = record {
          count = as_many ∙ sound.cleared.count;
          lent = λ q gone. elim (eqb_tells q first) [
            | inl same ↦ ap (true_at flags) same.1 ∙ noted (sym (ap (set.contains v.lent) same.1) ∙ gone)
            | inr other ↦ there q other.1 ∙ sound.cleared.lent q gone
          ];
        };
        tables = sound.tables;
        size = sound.size;
        marks = sound.marks;
        claimed = sound.claimed;
        frames = record { count = sound.frames.count; of_page = sound.frames.of_page; of_block = sound.frames.of_block; of_none = sound.frames.of_none };
        entries = record { each = sound.entries.each };
        words = record {
          count = has.count ∙ sound.words.count;
          sized = λ frame h. ap length (unwrap_or-slice_get rows frame []) ∙ sized frame [] (omega (arith, h, has.count, sound.words.count)) ∙ ap (λ (u : ZoneState). u.page_size) view;
          each = λ page placement word e h. ap (λ (ws : List ℕ). slice_get ws word) (words_kept has (words_frame placement) (page_off page placement e)) ∙ sound.words.each page placement word e h;
        };
        lent = subst (λ (l : List Bool). LentFit l v.handed_out v.lent v.placement v.lent_pages) (sym stays.1) sound.lent;
        notes = record { count = sound.notes.count; each = λ page note e used. (let fit = sound.notes.each page note e used in record { dirty = fit.dirty; pins = fit.pins; maps = fit.maps }) };
        moves = record { isolated = sound.moves.isolated; moved = sound.moves.moved; back = sound.moves.back };
        movable = record { count = sound.movable.count; each = sound.movable.each };
        unmovable = record { count = sound.unmovable.count; each = sound.unmovable.each; rest = sound.unmovable.rest };
      }

-- a block is handed out or taken back: its words come and go
module _ {W : ℕ} (z : Inside W) (first : ℕ) (within : first < length z.handed_out) (o : Option ℕ) where
  abbrev orders : List (Option ℕ)
  orders = slice_set z.handed_out first o

  pub orders_put : tabulated (order_of orders) (length orders) ≡ put (tabulated (order_of z.handed_out) (length z.handed_out)) first o
  orders_put =
      let same = length-set z.handed_out first o in
      ap (tabulated (order_of orders)) same
      ∙ tabulated_put (order_of z.handed_out) (order_of orders) (length z.handed_out) first o (order_past z.handed_out) (λ q h. order_past orders q (omega (arith, h, same)))
      (order_here z.handed_out first o within) (order_there z.handed_out first o within)

  pub contents_put : (cleared : List Bool) → ((q : ℕ) → q ≢ first → true_at cleared q ≡ true_at z.cleared q)
      → tabulated (contents_at W z.words.rows cleared orders) (length orders) ≡ put (held_contents z) first (option_map (words_held W z.words.rows (true_at cleared first) first) o)
  contents_put cleared flags =
      let same = length-set z.handed_out first o in
      ap (tabulated (contents_at W z.words.rows cleared orders)) same
      ∙ tabulated_put (contents_at W z.words.rows z.cleared z.handed_out) (contents_at W z.words.rows cleared orders) (length z.handed_out) first (option_map (words_held W z.words.rows (true_at cleared first) first) o)
      (contents_past W z.words.rows z.cleared z.handed_out) (λ q h. contents_past W z.words.rows cleared orders q (omega (arith, h, same)))
      (ap (option_map (words_held W z.words.rows (true_at cleared first) first)) (order_here z.handed_out first o within))
      (λ q ne. λ i. option_map (words_held W z.words.rows (flags q ne i) q) (order_there z.handed_out first o within q ne i))

-- words that are put where they are already
pub put_again : (contents : map.FinMap nat_cmp (List ℕ)) (first : ℕ) (words : List ℕ) → map.get contents first ≡ Some words → map.insert contents first words ≡ contents
put_again contents first words e =
    map.same_map nat_cmp_total map.nat_cmp-IsAntisymmetric (map.insert contents first words) contents (λ q.
    elim (eqb_tells q first) [
      | inl same ↦ get_insert_same contents first q words same.1 ∙ sym (ap (map.get contents) same.1 ∙ e)
      | inr other ↦ get_insert_other contents first q words other.1
    ])
