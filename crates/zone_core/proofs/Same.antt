-- What two zones that are the same have in common: whatever the calls read of them.
use Rattle.std.proofs.Common.{◌≡◌, ℕ, List, suc, ◌-◌, not, ◌&&◌, ◌||◌, ◌∷◌, length, refl, sym, ap, ◌∙◌, nat_eq, nat_lt, Option, Some, None, unwrap_or}
use Rattle.std.specs.FinMap as map
use Rattle.std.specs.FinSet as set
use Rattle.std.specs.Ordering.{nat_cmp}
use Rattle.std.specs.Option.{option_and_then}
use Rattle.frame_core.specs.Address.{is_in_table}
use Rattle.frame_core.specs.Below.{count_pairs, some_below}
use Rattle.frame_core.specs.declared.place.Address.{Address}
use Rattle.frame_core.specs.declared.record.Record.{Record}
use Rattle.frame_core.specs.History.{page_at, is_page, last, dirty, maps, pins}
use Rattle.frame_core.specs.Moves.{out, put_back}
use Rattle.state_core.specs.declared.placement.Placement.{Placement}
use Rattle.state_core.specs.declared.round.RoundStart.{RoundStart}
use Rattle.state_core.specs.Pairs.{is_marked, can_move, stays_if_some, holder, is_stuck, is_calm}
use Rattle.state_core.specs.ZoneState.{ZoneState, frame_count, is_held, has_address, has_room, noted, placement_at}
use Rattle.zone_core.specs.Outcome.{without_ends, IsSame}
use Rattle.zone_core.proofs.Records.{page_at-without_ends, pins-without_ends, last-without_ends, dirty-without_ends}

module _ (z w : ZoneState) (same : IsSame z w) where
  -- all but the records, the fingers, and how the latest round began
  abbrev pub there : ZoneState
  there = record z { number = w.number; blocks = w.blocks; spaces = w.spaces; vpages = w.vpages; page_size = w.page_size; room = w.room; unmovable = w.unmovable; marked = w.marked; apart = w.apart; claimed = w.claimed; handed_out = w.handed_out; contents = w.contents; lent = w.lent; lent_pages = w.lent_pages; memory = w.memory; placement = w.placement }

  pub line : z ≡ there
  line = λ i. record z { number = same.number i; blocks = same.blocks i; spaces = same.spaces i; vpages = same.vpages i; page_size = same.page_size i; room = same.room i; unmovable = same.unmovable i; marked = same.marked i; apart = same.apart i; claimed = same.claimed i; handed_out = same.handed_out i; contents = same.contents i; lent = same.lent i; lent_pages = same.lent_pages i; memory = same.memory i; placement = same.placement i }

  -- what the records say
  pub page_same : (a : Address) → page_at z.records a ≡ page_at w.records a
  page_same a = sym (page_at-without_ends z.records a) ∙ ap (λ rs. page_at rs a) same.records ∙ page_at-without_ends w.records a

  pub number_same : (a : Address) → unwrap_or (page_at z.records a) 0 ≡ unwrap_or (page_at w.records a) 0
  number_same a = ap (λ (o : Option ℕ). unwrap_or o 0) (page_same a)

  pub last_same : (page word : ℕ) → last z.records page word ≡ last w.records page word
  last_same page word = sym (last-without_ends z.records page word) ∙ ap (λ rs. last rs page word) same.records ∙ last-without_ends w.records page word

  pub dirty_same : (page : ℕ) → dirty z.records page ≡ dirty w.records page
  dirty_same page = sym (dirty-without_ends z.records page) ∙ ap (λ rs. dirty rs page) same.records ∙ dirty-without_ends w.records page

  pub pins_same : (page : ℕ) → pins z.records page ≡ pins w.records page
  pins_same page = sym (pins-without_ends z.records page) ∙ ap (λ rs. pins rs page) same.records ∙ pins-without_ends w.records page

  pub maps_same : (page : ℕ) → maps z.records page ≡ maps w.records page
  maps_same page = λ i. count_pairs (λ space vpage. is_page (page_same (record { space = space; vpage = vpage }) i) page) 256 16777216

  pub room_same : has_room z ≡ has_room w
  room_same = λ i. nat_lt (length (same.out_is i)) (same.room i)

  pub has_address_same : (a : Address) → has_address z a ≡ has_address w a
  has_address_same a = λ i. is_in_table (same.spaces i) (same.vpages i) a

  pub place_same : (a : Address) → placement_at z a ≡ placement_at w a
  place_same a = λ i. option_and_then (map.get (same.placement i)) (page_same a i)

  -- whether a round that begins now is calm
  pub can_move_same : (page : ℕ) → can_move z page ≡ can_move w page
  can_move_same page = λ i. nat_eq (pins_same page i) 0 && not (set.contains (same.unmovable i) page)

  stays_same : (o : Option ℕ) → stays_if_some z o ≡ stays_if_some w o
  stays_same None = refl
  stays_same (Some page) = ap not (can_move_same page)

  stuck_same : (frame : ℕ) → is_stuck z frame ≡ is_stuck w frame
  stuck_same frame =
      let stays : stays_if_some z (holder z frame) ≡ stays_if_some w (holder w frame) = stays_same (holder z frame) ∙ ap (λ v. stays_if_some w (holder v frame)) line in
      λ i. not (is_marked (line i) frame) && (is_held (line i) frame || stays i)

  pub calm_same : is_calm z ≡ is_calm w
  calm_same = λ i. nat_eq (length (same.out_is i)) 0 && not (some_below (λ frame. stuck_same frame i) (frame_count (line i)))

  -- one more record
  pub noted_same : (entry entry' : Record) → without_ends (entry ∷ z.records) ≡ without_ends (entry' ∷ w.records) → put_back (entry ∷ z.records) ≡ put_back (entry' ∷ w.records)
      → out (entry ∷ z.records) ≡ out (entry' ∷ w.records) → IsSame (noted z entry) (noted w entry')
  noted_same entry entry' records back outs = record {
    number = same.number;
    blocks = same.blocks;
    spaces = same.spaces;
    vpages = same.vpages;
    page_size = same.page_size;
    placement = same.placement;
    unmovable = same.unmovable;
    marked = same.marked;
    apart = same.apart;
    claimed = same.claimed;
    handed_out = same.handed_out;
    contents = same.contents;
    lent = same.lent;
    lent_pages = same.lent_pages;
    memory = same.memory;
    records = records;
    length_is = ap suc same.length_is;
    back = back;
    out_is = outs;
    room = ap (λ n. n - 1) same.room;
  }

  -- other books, which are alike in both
  module _ {p p' : map.FinMap nat_cmp Placement} {u u' m m' : set.FinSet nat_cmp} {h h' : map.FinMap nat_cmp ℕ} {c c' : map.FinMap nat_cmp (List ℕ)} {migrate free migrate' free' : ℕ} {round round' : Option RoundStart} where
    pub with_books : p ≡ p' → u ≡ u' → m ≡ m' → h ≡ h' → c ≡ c' → IsSame (record z { placement = p; unmovable = u; marked = m; handed_out = h; contents = c; migrate = migrate; free = free; round = round })
        (record w { placement = p'; unmovable = u'; marked = m'; handed_out = h'; contents = c'; migrate = migrate'; free = free'; round = round' })
    with_books placement unmovable marked handed_out contents = record {
      number = same.number;
      blocks = same.blocks;
      spaces = same.spaces;
      vpages = same.vpages;
      page_size = same.page_size;
      placement = placement;
      unmovable = unmovable;
      marked = marked;
      apart = same.apart;
      claimed = same.claimed;
      handed_out = handed_out;
      contents = contents;
      lent = same.lent;
      lent_pages = same.lent_pages;
      memory = same.memory;
      records = same.records;
      length_is = same.length_is;
      back = same.back;
      out_is = same.out_is;
      room = same.room;
    }

  -- the fingers don't matter, nor how the latest round began
  pub with_fingers : {migrate free migrate' free' : ℕ} {round round' : Option RoundStart} → IsSame (record z { migrate = migrate; free = free; round = round }) (record w { migrate = migrate'; free = free'; round = round' })
  with_fingers = with_books same.placement same.unmovable same.marked same.handed_out same.contents
