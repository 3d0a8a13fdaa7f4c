-- What a world carries stays its own when its zone changes.
use Rattle.std.proofs.Common.{◌≡◌, ◌≢◌, ℕ, zero, suc, ◌+◌, ◌*◌, ◌<◌, Bool, true, false, not, List, [], ◌∷◌, ◌++◌, length, ◌⊎◌, inl, inr, refl, sym, ap, subst, ◌∙◌, arith}
use Rattle.std.specs.Prelude.{Option, Some, None, IsSome, Result, Ok, Err, IfOk, OnOk, OnErr, map as each, slice_get, slice_set, unwrap_or, nat_eq, nat_lt, if◌then◌else◌}
use Rattle.std.specs.FinMap as map
use Rattle.std.specs.List.{list_any}
use Rattle.std.proofs.lemmas.Bool.{eq-eqb, or_left, or_right}
use Rattle.std.proofs.lemmas.Bool.Decides.{eqb_tells}
use Rattle.std.proofs.lemmas.List.{length-set, length-map, map-append}
use Rattle.std.proofs.lemmas.Option.{slice_get_within}
use Rattle.frame_core.proofs.Lists.{slice_get_set_same, slice_get_set_other}
use Rattle.frame_core.specs.declared.place.Address.{Address}
use Rattle.frame_core.specs.Moves.{isolated, out, page_of}
use Rattle.frame_core.specs.Page.{IsolatedPage}
use Rattle.frame_core.specs.Serials.{serials_of}
use Rattle.state_core.specs.declared.call.ZoneCall.{ZoneCall}
use Rattle.state_core.specs.declared.call.ZoneCall.TheVariants.{Map, MapAt, Store, Unmap}
use Rattle.state_core.specs.declared.error.ZoneError.{ZoneError}
use Rattle.state_core.specs.declared.error.ZoneError.TheVariants.{Range, JournalFull}
use Rattle.machine_core.specs.declared.hands.Held.TheVariants.{Nothing, Page, Copy}
use Rattle.machine_core.specs.Carried.{InHand, hand_as, world_of, IsCarried}
use Rattle.machine_core.specs.Hands.{page_held, copy_held, is_nothing}
use Rattle.state_core.specs.declared.moves.Next.TheVariants.{Page as Found, Met}
use Rattle.state_core.specs.declared.round.Pair.{Pair}
use Rattle.state_core.specs.declared.placement.Placement.TheVariants.{At}
use Rattle.state_core.specs.Valid.{IsValidZone}
use Rattle.state_core.specs.Pairs.{next_pair}
use Rattle.state_core.specs.Ending.{IsOwnCopy}
use Rattle.state_core.specs.Carrying.{page_now}
use Rattle.state_core.specs.Rounds.{round_begun}
use Rattle.state_core.specs.Isolating.{isolate_refusal, isolated_next, next_answer, next_state, Scans}
use Rattle.zone_core.specs.Seats.{ScanSeat, EndSeat, seat_begun, seat_noted}
use Rattle.std.specs.Result.{result_err}
use Rattle.state_core.specs.Access.{loaded, stored}
use Rattle.state_core.specs.Calls.{refusal_of, after}
use Rattle.state_core.specs.Bulk.{has_room_for, bulk_refusal, loaded_all, stored_all}
use Rattle.state_core.specs.Mapping.{map_refusal, mapped, placed}
use Rattle.state_core.specs.Unmapping.{is_last}
use Rattle.state_core.specs.HandingOut.{block_taken}
use Rattle.machine_core.specs.World.{WorldState, IsOrderly, isolated_by}
use Rattle.state_core.specs.ZoneState.{ZoneState, placement_at, lowest_free_frame, lowest_unused_page}
use Rattle.state_core.proofs.Accepted.{passed, at_address, in_a_frame, frame_left, frame_left_at}
use Rattle.state_core.proofs.Finding.{unused_left, unused_is}
use Rattle.state_core.proofs.Pairing.{pair_found}
use Rattle.state_core.proofs.Settled.{pair_here}
use Rattle.state_core.proofs.Carried.{own_begun, own_loaded, own_stored, own_placed, own_isolated, own_fresh, own_unmapped}
use Rattle.machine_core.proofs.Orderly.{orderly_with_zone, orderly_round_opened, orderly_noted, orderly_isolated}

-- Lists of what hands hold

-- what contracts see of a hand is what the hand holds
pub seen_at : (held : List InHand) (i : ℕ) → unwrap_or (slice_get (each hand_as held) i) Nothing ≡ hand_as (unwrap_or (slice_get held i) Nothing)
seen_at [] i = refl
seen_at (h ∷ held) zero = refl
seen_at (h ∷ held) (suc i) = seen_at held i

pub seen_some : (held : List InHand) (i : ℕ) (h : InHand) → slice_get held i ≡ Some h → unwrap_or (slice_get (each hand_as held) i) Nothing ≡ hand_as h
seen_some held i h e = seen_at held i ∙ ap (λ (o : Option InHand). hand_as (unwrap_or o Nothing)) e

-- after place i got x, each place has x or what it had
pub held_after : (held : List InHand) (i j : ℕ) (x y : InHand) → slice_get (slice_set held i x) j ≡ Some y → ((j ≡ i) × (x ≡ y)) ⊎ ((j ≢ i) × (slice_get held j ≡ Some y))
held_after held i j x y e = elim (eqb_tells j i) [
  | inl same ↦ (
      let within : i < length held = omega (arith, slice_get_within (slice_set held i x) j y e, length-set held i x, same.1) in
      let both : Some x ≡ Some y = sym (slice_get_set_same held i j x same.1 within) ∙ e in
      inl (same.1, cc))
  | inr other ↦ inr (other.1, sym (slice_get_set_other held i j x other.1) ∙ e)
]

pub is_page_held : (o : Option InHand) (p : IsolatedPage) → page_held (unwrap_or o Nothing) ≡ Some p → o ≡ Some (Page p)
is_page_held o p e = grind arith

pub is_copy_held : (o : Option InHand) (p : IsolatedPage) → copy_held (unwrap_or o Nothing) ≡ Some p → o ≡ Some (Copy p)
is_copy_held o p e = grind arith

pub nothing_is : (h : InHand) → is_nothing h ≡ true → h ≡ Nothing
nothing_is h e = grind arith

pub waits_at : (list : List IsolatedPage) (i : ℕ) (p : IsolatedPage) → slice_get list i ≡ Some p → list_any (nat_eq p.serial) (serials_of list) ≡ true
waits_at [] i p e = cc
waits_at (q ∷ list) zero p e = let same : q ≡ p = cc in or_left (nat_eq p.serial q.serial) _ (eq-eqb p.serial q.serial (ap (λ x. x.serial) (sym same)))
waits_at (q ∷ list) (suc i) p e = or_right (nat_eq p.serial q.serial) _ (waits_at list i p e)

-- What a world carries when its zone changes.
module _ (zone next : ZoneState) (scan : ScanSeat) (ends : EndSeat) (is_open : Bool) (list : List IsolatedPage) (held : List InHand) (capacity : ℕ) (was : IsCarried zone scan ends is_open list held capacity) where
  pub carried_with : (seat : ScanSeat) (opened : Bool) → IsOrderly (world_of next seat ends opened list held) → ((p : IsolatedPage) → IsOwnCopy zone p → IsOwnCopy next p) → next.blocks ≡ zone.blocks → IsCarried next seat ends opened list held capacity
  carried_with seat opened orderly own blocks = record {
    orderly = orderly;
    waiting = λ i p e. own p (was.waiting i p e);
    pages = λ i p e. own p (was.pages i p e);
    copies = λ i p e. own p (was.copies i p e);
    room = was.room ∙ ap (λ n. 256 * n) (sym blocks);
  }

-- the seat of the scanner notes something
pub carried_noted : (zone : ZoneState) (scan : ScanSeat) (ends : EndSeat) (is_open : Bool) (list : List IsolatedPage) (held : List InHand) (capacity : ℕ) → IsCarried zone scan ends is_open list held capacity → (seat : ScanSeat) → IsCarried zone seat ends is_open list held capacity
carried_noted zone scan ends is_open list held capacity was seat =
    carried_with zone zone scan ends is_open list held capacity was seat is_open (orderly_noted (world_of zone scan ends is_open list held) seat was.orderly) (λ p own. own) refl

-- A round opens, and a page is isolated.
pub carried_opened : (zone : ZoneState) (scan : ScanSeat) (ends : EndSeat) (is_open : Bool) (list : List IsolatedPage) (held : List InHand) (capacity : ℕ) → IsCarried zone scan ends is_open list held capacity → is_open ≡ false → IsCarried (round_begun zone) (seat_begun scan) ends true list held capacity
carried_opened zone scan ends is_open list held capacity was closed =
    carried_with zone (round_begun zone) scan ends is_open list held capacity was (seat_begun scan) true orderly (own_begun zone) refl where
      orderly : IsOrderly (world_of (round_begun zone) (seat_begun scan) ends true list held)
      orderly = subst (λ (b : Bool). IsOrderly (record { zone = if b then zone else round_begun zone; scan = if b then scan else seat_begun scan; ends = ends; is_open = true; waiting = serials_of list; hands = each hand_as held })) closed
          (orderly_round_opened (world_of zone scan ends is_open list held) was.orderly)

one_more : (list : List IsolatedPage) (p : IsolatedPage) (i : ℕ) (q : IsolatedPage) → slice_get (list ++ p ∷ []) i ≡ Some q → (slice_get list i ≡ Some q) ⊎ (p ≡ q)
one_more [] p zero q e = inr cc
one_more [] p (suc i) q e = cc
one_more (x ∷ list) p zero q e = inl e
one_more (x ∷ list) p (suc i) q e = one_more list p i q e

-- what `isolate_next` says of the page that it answers
pub record IsTaken (zone next : ZoneState) (p : IsolatedPage) : Type 0 where
  pub pair : Pair
  pub is : next_pair zone ≡ Some pair
  pub page : p ≡ record { serial = isolated zone.records; page = page_now zone pair.page }
  pub state : next ≡ isolated_next zone pair

pub is_taken : (zone next : ZoneState) (p : IsolatedPage) → Found p ≡ next_answer zone (next_pair zone) → next ≡ next_state zone (next_pair zone) → IsTaken zone next p
is_taken zone next p answer state = by_pair (next_pair zone) refl answer state where
  by_pair : (o : Option Pair) → next_pair zone ≡ o → Found p ≡ next_answer zone o → next ≡ next_state zone o → IsTaken zone next p
  by_pair None is answer state = cc
  by_pair (Some pair) is answer state = record { pair = pair; is = is; page = cc; state = state }

pub met_same : (zone next : ZoneState) → Met ≡ next_answer zone (next_pair zone) → next ≡ next_state zone (next_pair zone) → next ≡ zone
met_same zone next answer state = by_pair (next_pair zone) answer state where
  by_pair : (o : Option Pair) → Met ≡ next_answer zone o → next ≡ next_state zone o → next ≡ zone
  by_pair None answer state = state
  by_pair (Some pair) answer state = cc

module _ (zone next : ZoneState) (scan : ScanSeat) (ends : EndSeat) (is_open : Bool) (list : List IsolatedPage) (held : List InHand) (capacity : ℕ) (p : IsolatedPage) (was : IsCarried zone scan ends is_open list held capacity) (opened : is_open ≡ true) (room : isolate_refusal zone ≡ None) (take : IsTaken zone next p) (scans : Scans zone next (Found p)) where
  abbrev scanning : WorldState
  scanning = world_of zone scan ends is_open list held

  abbrev seat_counted : ScanSeat
  seat_counted = seat_noted scan (Found p)

  at_source : map.get zone.placement take.pair.page ≡ Some (At scans.source)
  at_source = ap (λ (q : IsolatedPage). map.get zone.placement q.page.number) (sym take.page) ∙ scans.pair.from.here

  pub world_is : isolated_by scanning (next_pair zone) ≡ world_of next seat_counted ends is_open (list ++ p ∷ []) held
  world_is =
      ap (isolated_by scanning) take.is
      ∙ (λ i. record { zone = sym take.state i; scan = seat_counted; ends = ends; is_open = is_open; waiting = serials_of list ++ sym (ap (λ (q : IsolatedPage). q.serial) take.page) i ∷ []; hands = each hand_as held })
      ∙ ap (λ (waiting : List ℕ). record { zone = next; scan = seat_counted; ends = ends; is_open = is_open; waiting = waiting; hands = each hand_as held }) (sym (map-append (λ (q : IsolatedPage). q.serial) list (p ∷ [])))

  own_then : (q : IsolatedPage) → IsOwnCopy zone q → IsOwnCopy next q
  own_then q own = subst (λ (v : ZoneState). IsOwnCopy v q) (sym take.state) (own_isolated zone take.pair scans.source at_source q own)

  own_now : IsOwnCopy next p
  own_now =
      subst (λ (v : ZoneState). IsOwnCopy v p) (sym take.state)
      (subst (IsOwnCopy (isolated_next zone take.pair)) (sym take.page) (own_fresh zone take.pair (pair_here zone take.pair was.orderly.valid (pair_found zone was.orderly.valid take.pair take.is))))

  blocks_then : next.blocks ≡ zone.blocks
  blocks_then = ap (λ (v : ZoneState). v.blocks) take.state

  pub carried_scanned : IsCarried next seat_counted ends is_open (list ++ p ∷ []) held capacity
  carried_scanned = record {
    orderly = subst IsOrderly world_is (orderly_isolated scanning was.orderly opened room);
    waiting = λ i q e. elim (one_more list p i q e) [
      | inl old ↦ own_then q (was.waiting i q old)
      | inr fresh ↦ subst (IsOwnCopy next) fresh own_now
    ];
    pages = λ i q e. own_then q (was.pages i q e);
    copies = λ i q e. own_then q (was.copies i q e);
    room = was.room ∙ ap (λ n. 256 * n) (sym blocks_then);
  }

  -- the list has a place for one more page
  pub place_left : length list < capacity
  place_left =
      omega (arith, was.room, was.orderly.few.0, was.orderly.few.1, length-map list (λ (q : IsolatedPage). q.serial), scans.pair.from.low, scans.pair.to.low, scans.pair.to.high)

-- Calls of the zone that leave moving pages as they are.
-- a call leaves the moving pages and the fingers as they are
pub record LeavesMoves (zone after : ZoneState) : Type 0 where
  pub same_out : out after.records ≡ out zone.records
  pub migrate : after.migrate ≡ zone.migrate
  pub free : after.free ≡ zone.free
  pub blocks : after.blocks ≡ zone.blocks
  pub pages : (serial : ℕ) → page_of after.records serial ≡ page_of zone.records serial
  pub lent : after.lent_pages ≡ zone.lent_pages

-- an unmap leaves what it leaves whether or not the address was the page's last
by_last : (P : ZoneState → Type 0) (b : Bool) (gone kept : ZoneState) → P gone → P kept → P (if b then gone else kept)
by_last P true gone kept last more = last
by_last P false gone kept last more = more

pub call_leaves : {W : ℕ} (call : ZoneCall W) (client : ℕ) (z : ZoneState) → LeavesMoves z (after call client z)
call_leaves (Unmap address) client z =
    by_last (LeavesMoves z) (is_last z address) _ _ (record { same_out = refl; migrate = refl; free = refl; blocks = refl; pages = λ s. refl; lent = refl }) (record { same_out = refl; migrate = refl; free = refl; blocks = refl; pages = λ s. refl; lent = refl })
call_leaves _ client z = record { same_out = refl; migrate = refl; free = refl; blocks = refl; pages = λ s. refl; lent = refl }

-- a copy of a moving page stays the zone's own
own_mapped : (z : ZoneState) (client : ℕ) (address : Address) (unmovable : Bool) (frame : ℕ) → IsValidZone z → IsSome (lowest_free_frame z) → (p : IsolatedPage) → IsOwnCopy z p → IsOwnCopy (mapped z client address unmovable frame) p
own_mapped z client address unmovable frame law free = by_page (lowest_unused_page z) refl where
  by_page : (o : Option ℕ) → lowest_unused_page z ≡ o → (p : IsolatedPage) → IsOwnCopy z p → IsOwnCopy (placed z client address unmovable (unwrap_or o 0) frame) p
  by_page None none = absurd (unused_left z law free none)
  by_page (Some page) unused = own_placed z client address unmovable page frame (unused_is z page unused).1

own_called : {W : ℕ} (call : ZoneCall W) (client : ℕ) (z : ZoneState) → IsValidZone z → refusal_of call z ≡ None → (p : IsolatedPage) → IsOwnCopy z p → IsOwnCopy (after call client z) p
own_called (Map address unmovable) client z law accepted = own_mapped z client address unmovable _ law (frame_left z address accepted)
own_called (MapAt address unmovable frame) client z law accepted = own_mapped z client address unmovable frame law (frame_left_at z address frame accepted)
own_called (Store address word value) client z law accepted = let at = at_address z address _ accepted in own_stored z client address word value at.0 at.1
own_called (Unmap address) client z law accepted = let at = at_address z address _ accepted in own_unmapped z client address at.0 at.1
own_called _ client z law accepted = λ p own. record { own = own.own; same = own.same }

-- words that are read or written in bulk, one after the other
read_leaves : (z : ZoneState) (client : ℕ) (address : Address) (from count : ℕ) → LeavesMoves z (loaded_all z client address from count)
read_leaves z client address from zero = record { same_out = refl; migrate = refl; free = refl; blocks = refl; pages = λ s. refl; lent = refl }
read_leaves z client address from (suc count) =
    let rest = read_leaves (loaded z client address from) client address (from + 1) count in
    record { same_out = rest.same_out; migrate = rest.migrate; free = rest.free; blocks = rest.blocks; pages = rest.pages; lent = rest.lent }

own_read : (z : ZoneState) (client : ℕ) (address : Address) (from count : ℕ) (p : IsolatedPage) → IsOwnCopy z p → IsOwnCopy (loaded_all z client address from count) p
own_read z client address from zero p own = own
own_read z client address from (suc count) p own = own_read (loaded z client address from) client address (from + 1) count p (own_loaded z client address from p own)

written_leaves : (z : ZoneState) (client : ℕ) (address : Address) (from : ℕ) (values : List ℕ) → LeavesMoves z (stored_all z client address from values)
written_leaves z client address from [] = record { same_out = refl; migrate = refl; free = refl; blocks = refl; pages = λ s. refl; lent = refl }
written_leaves z client address from (value ∷ values) =
    let rest = written_leaves (stored z client address from value) client address (from + 1) values in
    record { same_out = rest.same_out; migrate = rest.migrate; free = rest.free; blocks = rest.blocks; pages = rest.pages; lent = rest.lent }

own_written : (z : ZoneState) (client : ℕ) (address : Address) (from : ℕ) (values : List ℕ) (frame : ℕ) → placement_at z address ≡ Some (At frame) → (p : IsolatedPage) → IsOwnCopy z p → IsOwnCopy (stored_all z client address from values) p
own_written z client address from [] frame at p own = own
own_written z client address from (value ∷ values) frame at p own =
    own_written (stored z client address from value) client address (from + 1) values frame at p (own_stored z client address from value frame at p own)

module _ (zone next : ZoneState) (scan : ScanSeat) (ends : EndSeat) (is_open : Bool) (list : List IsolatedPage) (held : List InHand) (capacity : ℕ) (was : IsCarried zone scan ends is_open list held capacity) where
  -- a refused call changes nothing
  unchanged : next ≡ zone → IsCarried next scan ends is_open list held capacity
  unchanged same = subst (λ (v : ZoneState). IsCarried v scan ends is_open list held capacity) (sym same) was

  changed : (after : ZoneState) → next ≡ after → IsValidZone next → LeavesMoves zone after → ((p : IsolatedPage) → IsOwnCopy zone p → IsOwnCopy after p) → IsCarried next scan ends is_open list held capacity
  changed after is law leaves own =
      subst (λ (v : ZoneState). IsCarried v scan ends is_open list held capacity) (sym is)
      (carried_with zone after scan ends is_open list held capacity was scan is_open
      (orderly_with_zone (world_of zone scan ends is_open list held) after was.orderly (subst IsValidZone is law) (λ serial. ap (list_any (nat_eq serial)) leaves.same_out) leaves.pages leaves.lent leaves.migrate leaves.free leaves.blocks) own leaves.blocks)

  -- any call, and calls that name the frame that they answer
  pub carried_call : {T : Type 0} (W : ℕ) (call : ZoneCall W) (client : ℕ) (result : Result T ZoneError) → IsValidZone next → result_err result ≡ refusal_of call zone → OnErr result (next ≡ zone) → OnOk result (next ≡ after call client zone) → IsCarried next scan ends is_open list held capacity
  carried_call W call client (Err error) law refused err ok = unchanged err
  carried_call W call client (Ok done) law refused err ok =
      changed (after call client zone) ok law (call_leaves call client zone) (own_called call client zone was.orderly.valid (sym refused))

  pub carried_mapped : (client : ℕ) (address : Address) (unmovable : Bool) (result : Result ℕ ZoneError) → IsValidZone next → result_err result ≡ map_refusal zone address → OnErr result (next ≡ zone) → IfOk result (λ frame. next ≡ mapped zone client address unmovable frame) → IsCarried next scan ends is_open list held capacity
  carried_mapped client address unmovable (Err error) law refused err ok = unchanged err
  carried_mapped client address unmovable (Ok frame) law refused err ok =
      changed (mapped zone client address unmovable frame) ok law (record { same_out = refl; migrate = refl; free = refl; blocks = refl; pages = λ s. refl; lent = refl }) (own_mapped zone client address unmovable frame was.orderly.valid (frame_left zone address (sym refused)))

  pub carried_taken : {T : Type 0} (first : T → ℕ) (order : ℕ) (result : Result T ZoneError) → IsValidZone next → OnErr result (next ≡ zone) → IfOk result (λ block. next ≡ block_taken zone (first block) order) → IsCarried next scan ends is_open list held capacity
  carried_taken first order (Err error) law err ok = unchanged err
  carried_taken first order (Ok block) law err ok =
      changed (block_taken zone (first block) order) ok law (record { same_out = refl; migrate = refl; free = refl; blocks = refl; pages = λ s. refl; lent = refl }) (λ p own. record { own = own.own; same = own.same })

  pub carried_read : {T : Type 0} (kept : Type 0) (client : ℕ) (address : Address) (from count : ℕ) (result : Result T ZoneError) → IsValidZone next → OnErr result ((next ≡ zone) × kept) → OnOk result (next ≡ loaded_all zone client address from count) → IsCarried next scan ends is_open list held capacity
  carried_read kept client address from count (Err error) law err ok = unchanged err.0
  carried_read kept client address from count (Ok done) law err ok = changed (loaded_all zone client address from count) ok law (read_leaves zone client address from count) (own_read zone client address from count)

  pub carried_written : {T : Type 0} (client : ℕ) (address : Address) (from : ℕ) (values : List ℕ) (result : Result T ZoneError) → IsValidZone next → result_err result ≡ bulk_refusal zone address from (length values) → OnErr result (next ≡ zone) → OnOk result (next ≡ stored_all zone client address from values) → IsCarried next scan ends is_open list held capacity
  carried_written client address from values (Err error) law refused err ok = unchanged err
  carried_written client address from values (Ok done) law refused err ok =
      let within = passed (nat_lt zone.page_size (from + length values)) Range _ (sym refused) in
      let room = passed (not (has_room_for zone (length values))) JournalFull _ within.1 in
      let at = in_a_frame (placement_at zone address) _ room.1 in
      changed (stored_all zone client address from values) ok law (written_leaves zone client address from values) (own_written zone client address from values at.0 at.1)
