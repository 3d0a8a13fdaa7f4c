-- Two zones that are the same answer each call alike, and are the same after it.
use Rattle.std.proofs.Common.{◌≡◌, ℕ, ◌*◌, ◌^◌, Bool, List, replicate, true, false, not, cond, ◌&&◌, ◌∷◌, length, refl, ap, subst, ◌∙◌, nat_eq, nat_le, nat_lt, Option, Some, None, is_some, is_none, unwrap_or}
use Rattle.std.specs.FinMap as map
use Rattle.std.specs.FinSet as set
use Rattle.std.specs.Option.{option_and_then, option_or}
use Rattle.frame_core.specs.PageFlags.{page_flags}
use Rattle.frame_core.specs.declared.place.Address.{Address}
use Rattle.frame_core.specs.declared.record.Record.{Record}
use Rattle.frame_core.specs.declared.record.Record.TheVariants as entry
use Rattle.frame_core.specs.History.{page_at, last, maps, pins}
use Rattle.frame_core.specs.Moves.{out, put_back}
use Rattle.state_core.specs.declared.call.ZoneAnswer.TheVariants.{Mapped, Frame, Value}
use Rattle.state_core.specs.declared.call.ZoneCall.{ZoneCall}
use Rattle.state_core.specs.declared.call.ZoneCall.TheVariants.{Map, MapAt, Load, Store, Share, Unmap, Pin, Unpin, TakeOrder, GiveOrder, Mark, Unmark}
use Rattle.state_core.specs.declared.error.ZoneError.TheVariants.{JournalFull, Occupied, NoFrame, Range, ShareFull, Unmapped, PinFull, NotPinned, Pinned, NoBlock, NotHuge, Marked, NotMarked, Lent}
use Rattle.state_core.specs.declared.information.Look.TheVariants as look
use Rattle.state_core.specs.declared.placement.Placement.{Placement}
use Rattle.state_core.specs.declared.placement.Placement.TheVariants.{At, Moving}
use Rattle.state_core.specs.Access.{is_page_lent, placement_refusal, access_refusal, value_at}
use Rattle.state_core.specs.Calls.{refusal_of, answer_of, after, record_of}
use Rattle.state_core.specs.Contents.{contents_refusal, contents_from, contents_written}
use Rattle.state_core.specs.HandingOut.{has_block, is_order, lowest_run, take_order_refusal, give_order_refusal, block_taken, block_given}
use Rattle.state_core.specs.Looking.{look_by, look_of, info_of}
use Rattle.state_core.specs.Mapping.{map_refusal, map_at_refusal, mapped}
use Rattle.state_core.specs.Marking.{mark_refusal, unmark_refusal, marked_of, block_marked, block_unmarked}
use Rattle.state_core.specs.Pinning.{pins_at, pin_refusal, unpin_refusal}
use Rattle.state_core.specs.Packed.{frame_of}
use Rattle.state_core.specs.Sharing.{maps_at, share_refusal}
use Rattle.state_core.specs.Unmapping.{is_last, unmap_refusal, without_page, unmapped}
use Rattle.state_core.specs.ZoneState.{ZoneState, frame_count, is_free, frame_for, lowest_free_frame, lowest_unused_page, noted}
use Rattle.zone_core.specs.Outcome.{without_ends, IsSame}
use Rattle.zone_core.proofs.Same.{line, page_same, number_same, last_same, dirty_same, pins_same, maps_same, has_address_same, room_same, place_same, noted_same, with_books}

module _ (z w : ZoneState) (same : IsSame z w) where
  -- one more record, which is the same in both
  agrees : (entry : Record) → without_ends (entry ∷ z.records) ≡ without_ends (entry ∷ w.records) → put_back (entry ∷ z.records) ≡ put_back (entry ∷ w.records)
      → out (entry ∷ z.records) ≡ out (entry ∷ w.records) → IsSame (noted z entry) (noted w entry)
  agrees entry = noted_same z w same entry entry

  -- loads and stores

  lent_agrees : (a : Address) → is_page_lent z a ≡ is_page_lent w a
  lent_agrees a = λ i. set.contains (same.lent_pages i) (number_same z w same a i)

  access_agrees : (a : Address) → access_refusal z a ≡ access_refusal w a
  access_agrees a = λ i. cond (not (room_same z w same i)) (Some JournalFull) (option_or (placement_refusal (place_same z w same a i)) (cond (lent_agrees a i) (Some Lent) None))

  value_agrees : (a : Address) (word : ℕ) → value_at z a word ≡ value_at w a word
  value_agrees a word = ap (λ (page : ℕ). last z.records page word) (number_same z w same a) ∙ last_same z w same (unwrap_or (page_at w.records a) 0) word

  -- maps

  frame_agrees : lowest_free_frame z ≡ lowest_free_frame w
  frame_agrees = λ i. lowest_free_frame (line z w same i)

  map_agrees : (a : Address) → map_refusal z a ≡ map_refusal w a
  map_agrees a = λ i.
      cond (not (has_address_same z w same a i)) (Some Range)
      (cond (not (room_same z w same i)) (Some JournalFull)
      (cond (is_some (page_same z w same a i)) (Some Occupied)
      (cond (is_none (frame_agrees i)) (Some NoFrame) None)))

  map_at_agrees : (a : Address) (frame : ℕ) → map_at_refusal z a frame ≡ map_at_refusal w a frame
  map_at_agrees a frame = λ i.
      cond (not (has_address_same z w same a i && nat_lt frame (frame_count (line z w same i)))) (Some Range)
      (cond (not (room_same z w same i)) (Some JournalFull)
      (cond (is_some (page_same z w same a i)) (Some Occupied)
      (cond (not (is_free (line z w same i) frame)) (Some NoFrame) None)))

  page_agrees : unwrap_or (lowest_unused_page z) 0 ≡ unwrap_or (lowest_unused_page w) 0
  page_agrees = λ i. unwrap_or (lowest_unused_page (line z w same i)) 0

  mapped_agrees : (client : ℕ) (a : Address) (unmovable : Bool) (frame : ℕ) → IsSame (mapped z client a unmovable frame) (mapped w client a unmovable frame)
  mapped_agrees client a unmovable frame =
      with_books _ _ (noted_same z w same (entry.Map client a (unwrap_or (lowest_unused_page z) 0)) (entry.Map client a (unwrap_or (lowest_unused_page w) 0)) (λ i. entry.Map client a (page_agrees i) ∷ same.records i) same.back same.out_is)
      (λ i. map.insert (same.placement i) (page_agrees i) (At frame))
      (λ i. cond unmovable (set.insert (same.unmovable i) (page_agrees i)) (same.unmovable i)) same.marked same.handed_out same.contents

  -- shares

  maps_agrees : (a : Address) → maps_at z a ≡ maps_at w a
  maps_agrees a = ap (λ (page : ℕ). maps z.records page) (number_same z w same a) ∙ maps_same z w same (unwrap_or (page_at w.records a) 0)

  share_agrees : (a alias : Address) → share_refusal z a alias ≡ share_refusal w a alias
  share_agrees a alias = λ i.
      cond (not (has_address_same z w same alias i)) (Some Range)
      (cond (not (room_same z w same i)) (Some JournalFull)
      (option_or (placement_refusal (place_same z w same a i))
      (cond (is_some (page_same z w same alias i)) (Some Occupied) (cond (nat_le 4 (maps_agrees a i)) (Some ShareFull) None))))

  -- pins

  pins_agrees : (a : Address) → pins_at z a ≡ pins_at w a
  pins_agrees a = ap (λ (page : ℕ). pins z.records page) (number_same z w same a) ∙ pins_same z w same (unwrap_or (page_at w.records a) 0)

  pin_agrees : (a : Address) → pin_refusal z a ≡ pin_refusal w a
  pin_agrees a = λ i.
      cond (not (room_same z w same i)) (Some JournalFull)
      (cond (is_none (page_same z w same a i)) (Some Unmapped) (cond (nat_le 255 (pins_agrees a i)) (Some PinFull) None))

  unpin_agrees : (a : Address) → unpin_refusal z a ≡ unpin_refusal w a
  unpin_agrees a = λ i.
      cond (not (room_same z w same i)) (Some JournalFull)
      (cond (is_none (page_same z w same a i)) (Some Unmapped) (cond (nat_eq (pins_agrees a i) 0) (Some NotPinned) (cond (nat_eq (pins_agrees a i) 1 && (is_some (frame_of (place_same z w same a i)) && lent_agrees a i)) (Some Lent) None)))

  -- unmaps

  last_agrees : (a : Address) → is_last z a ≡ is_last w a
  last_agrees a = ap (λ n. nat_eq n 1) (maps_agrees a)

  unmap_agrees : (a : Address) → unmap_refusal z a ≡ unmap_refusal w a
  unmap_agrees a = λ i.
      cond (not (room_same z w same i)) (Some JournalFull)
      (option_or (placement_refusal (place_same z w same a i)) (cond (last_agrees a i && not (nat_eq (pins_agrees a i) 0)) (Some Pinned) None))

  without_agrees : (client : ℕ) (a : Address) → IsSame (noted z (entry.Unmap client a)) (noted w (entry.Unmap client a))
      → IsSame (without_page (noted z (entry.Unmap client a)) (unwrap_or (page_at z.records a) 0)) (without_page (noted w (entry.Unmap client a)) (unwrap_or (page_at w.records a) 0))
  without_agrees client a next =
      let page = number_same z w same a in
      with_books _ _ next (λ i. map.remove (same.placement i) (page i)) (λ i. set.remove (same.unmovable i) (page i)) same.marked same.handed_out same.contents

  unmapped_agrees : (client : ℕ) (a : Address) → IsSame (unmapped z client a) (unmapped w client a)
  unmapped_agrees client a = by (is_last z a) (is_last w a) (last_agrees a) where
    next : IsSame (noted z (entry.Unmap client a)) (noted w (entry.Unmap client a))
    next = agrees (entry.Unmap client a) (ap (λ rs. entry.Unmap client a ∷ rs) same.records) same.back same.out_is

    by : (b c : Bool) → b ≡ c → IsSame (cond b (without_page (noted z (entry.Unmap client a)) (unwrap_or (page_at z.records a) 0)) (noted z (entry.Unmap client a)))
        (cond c (without_page (noted w (entry.Unmap client a)) (unwrap_or (page_at w.records a) 0)) (noted w (entry.Unmap client a)))
    by true true e = without_agrees client a next
    by false false e = next
    by _ _ e = cc

  -- blocks

  pub run_agrees : (order : ℕ) → lowest_run z order ≡ lowest_run w order
  run_agrees order = λ i. lowest_run (line z w same i) order

  pub take_agrees : (order : ℕ) → take_order_refusal z order ≡ take_order_refusal w order
  take_agrees order = λ i. cond (not (room_same z w same i)) (Some JournalFull) (cond (is_none (run_agrees order i)) (Some NoBlock) None)

  give_agrees : (first order : ℕ) → give_order_refusal z first order ≡ give_order_refusal w first order
  give_agrees first order = λ i.
      cond (not (has_block (line z w same i) order first)) (Some Range)
      (cond (not (room_same z w same i)) (Some JournalFull) (cond (not (is_order (map.get (same.handed_out i) first) order)) (Some NotHuge) (cond (set.contains (same.lent i) first) (Some Lent) None)))

  pub taken_agrees : (first order : ℕ) → IsSame (block_taken z first order) (block_taken w first order)
  taken_agrees first order =
      with_books _ _ (agrees (entry.TakeHuge first order) (ap (λ rs. entry.TakeHuge first order ∷ rs) same.records) same.back same.out_is) same.placement same.unmovable same.marked
      (ap (λ m. map.insert m first order) same.handed_out) (λ i. map.insert (same.contents i) first (replicate (2 ^ order * same.page_size i) 0))

  given_agrees : (first order : ℕ) → IsSame (block_given z first order) (block_given w first order)
  given_agrees first order =
      with_books _ _ (agrees (entry.GiveHuge first order) (ap (λ rs. entry.GiveHuge first order ∷ rs) same.records) same.back same.out_is) same.placement same.unmovable same.marked
      (ap (λ m. map.remove m first) same.handed_out) (ap (λ m. map.remove m first) same.contents)

  pub contents_refusal_agrees : (first order from count : ℕ) → contents_refusal z first order from count ≡ contents_refusal w first order from count
  contents_refusal_agrees first order from count = λ i. contents_refusal (line z w same i) first order from count

  pub contents_from_agrees : (first from count : ℕ) → contents_from z first from count ≡ contents_from w first from count
  contents_from_agrees first from count = λ i. contents_from (line z w same i) first from count

  pub written_agrees : (first from : ℕ) (values : List ℕ) → IsSame (contents_written z first from values) (contents_written w first from values)
  written_agrees first from values =
      with_books z w same same.placement same.unmovable same.marked same.handed_out (λ i. (contents_written (line z w same i) first from values).contents)

  -- marks

  mark_agrees : (block : ℕ) → mark_refusal z block ≡ mark_refusal w block
  mark_agrees block = λ i.
      cond (not (nat_lt block (same.blocks i))) (Some Range)
      (cond (not (room_same z w same i)) (Some JournalFull) (cond (set.contains (same.marked i) block) (Some Marked) None))

  unmark_agrees : (block : ℕ) → unmark_refusal z block ≡ unmark_refusal w block
  unmark_agrees block = λ i.
      cond (not (nat_lt block (same.blocks i))) (Some Range)
      (cond (not (room_same z w same i)) (Some JournalFull) (cond (not (set.contains (same.marked i) block)) (Some NotMarked) None))

  pub told_agrees : (block : ℕ) → marked_of z block ≡ marked_of w block
  told_agrees block = λ i. marked_of (line z w same i) block

  marked_agrees : (block : ℕ) → IsSame (block_marked z block) (block_marked w block)
  marked_agrees block =
      with_books _ _ (agrees (entry.Mark block) (ap (λ rs. entry.Mark block ∷ rs) same.records) same.back same.out_is) same.placement same.unmovable
      (ap (λ m. set.insert m block) same.marked) same.handed_out same.contents

  unmarked_agrees : (block : ℕ) → IsSame (block_unmarked z block) (block_unmarked w block)
  unmarked_agrees block =
      with_books _ _ (agrees (entry.Unmark block) (ap (λ rs. entry.Unmark block ∷ rs) same.records) same.back same.out_is) same.placement same.unmovable
      (ap (λ m. set.remove m block) same.marked) same.handed_out same.contents

  -- looks

  look_by_agrees : (page : ℕ) (o : Option Placement) → look_by z page o ≡ look_by w page o
  look_by_agrees page None = refl
  look_by_agrees page (Some (At frame)) = λ i. Some (look.At frame (page_flags (set.contains (same.unmovable i) page) (dirty_same z w same page i)) (pins_same z w same page i) (maps_same z w same page i))
  look_by_agrees page (Some (Moving serial source target)) = λ i. Some (look.Moving serial (pins_same z w same page i) (maps_same z w same page i))

  look_page_agrees : (page : ℕ) → look_by z page (map.get z.placement page) ≡ look_by w page (map.get w.placement page)
  look_page_agrees page = look_by_agrees page (map.get z.placement page) ∙ ap (λ m. look_by w page (map.get m page)) same.placement

  pub look_agrees : (a : Address) → look_of z a ≡ look_of w a
  look_agrees a = λ i. option_and_then (λ page. look_page_agrees page i) (page_same z w same a i)

  pub info_agrees : info_of z ≡ info_of w
  info_agrees = λ i. record (info_of (line z w same i)) { moving = length (same.out_is i) }

  -- any call

  module _ (W : ℕ) where
    pub refusals_agree : (call : ZoneCall W) → refusal_of call z ≡ refusal_of call w
    refusals_agree (Map address unmovable) = map_agrees address
    refusals_agree (MapAt address unmovable frame) = map_at_agrees address frame
    refusals_agree (Load address word) = access_agrees address
    refusals_agree (Store address word value) = access_agrees address
    refusals_agree (Share address alias) = share_agrees address alias
    refusals_agree (Unmap address) = unmap_agrees address
    refusals_agree (Pin address) = pin_agrees address
    refusals_agree (Unpin address) = unpin_agrees address
    refusals_agree (TakeOrder order) = take_agrees order
    refusals_agree (GiveOrder first order) = give_agrees first order
    refusals_agree (Mark block) = mark_agrees block
    refusals_agree (Unmark block) = unmark_agrees block

    same_frame : (unmovable : Bool) → unwrap_or (frame_for z unmovable) 0 ≡ unwrap_or (frame_for w unmovable) 0
    same_frame unmovable = λ i. unwrap_or (frame_for (line z w same i) unmovable) 0

    same_run : (order : ℕ) → unwrap_or (lowest_run z order) 0 ≡ unwrap_or (lowest_run w order) 0
    same_run order = ap (λ (o : Option ℕ). unwrap_or o 0) (run_agrees order)

    pub answers_agree : (call : ZoneCall W) → answer_of call z ≡ answer_of call w
    answers_agree (Map address unmovable) = λ i. Mapped (page_agrees i) (same_frame unmovable i)
    answers_agree (MapAt address unmovable frame) = ap (λ (page : ℕ). Mapped page frame) page_agrees
    answers_agree (Load address word) = ap Value (value_agrees address word)
    answers_agree (TakeOrder order) = ap Frame (same_run order)
    answers_agree _ = refl

    -- a call that changes no book adds its record alone
    pub same_after : (call : ZoneCall W) (client : ℕ) → IsSame (after call client z) (after call client w)
    same_after (Map address unmovable) client =
        subst (λ (frame : ℕ). IsSame (mapped z client address unmovable (unwrap_or (frame_for z unmovable) 0)) (mapped w client address unmovable frame)) (same_frame unmovable)
        (mapped_agrees client address unmovable (unwrap_or (frame_for z unmovable) 0))
    same_after (MapAt address unmovable frame) client = mapped_agrees client address unmovable frame
    same_after (Unmap address) client = unmapped_agrees client address
    same_after (TakeOrder order) client =
        subst (λ (first : ℕ). IsSame (block_taken z (unwrap_or (lowest_run z order) 0) order) (block_taken w first order)) (same_run order)
        (taken_agrees (unwrap_or (lowest_run z order) 0) order)
    same_after (GiveOrder first order) client = given_agrees first order
    same_after (Mark block) client = marked_agrees block
    same_after (Unmark block) client = unmarked_agrees block
    same_after call client =
        noted_same z w same (record_of call client (answer_of call z)) (record_of call client (answer_of call w))
        (λ i. record_of call client (answers_agree call i) ∷ same.records i) same.back same.out_is
