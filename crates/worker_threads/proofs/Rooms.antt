-- What a room keeps is so after each step.
use Rattle.std.proofs.Common.{◌≡◌, ◌≢◌, ℕ, zero, suc, ◌+◌, ◌*◌, ◌^◌, ◌<◌, ◌≤◌, true, false, List, [], length, inl, inr, refl, sym, ap, subst, ◌∙◌, arith, Option, Some, None, IsSome, nat_eq, is_none}
use Rattle.std.specs.Prelude.{IfOk, Result, Ok, Err, is_ok, replicate, slice_get, slice_set}
use Rattle.std.specs.List.{list_any}
use Rattle.std.proofs.lemmas.Bool.{eq-eqb}
use denote.RawPtr.{Ptr}
use Rattle.frame_core.specs.Ends.{AreEndedOnce}
use Rattle.frame_core.specs.Moves.{isolated, is_out, out}
use Rattle.frame_core.proofs.OnTheWay.{out_below}
use Rattle.row_core.specs.Seen.{Half, Row}
use Rattle.state_core.specs.declared.call.ZoneCall.{ZoneCall}
use Rattle.state_core.specs.declared.error.ZoneError.{ZoneError}
use Rattle.state_core.specs.declared.information.Audit.{Audit}
use Rattle.state_core.specs.declared.moves.Ended.{Ended}
use Rattle.state_core.specs.declared.moves.Ended.TheVariants as ended
use Rattle.state_core.specs.declared.moves.Next.TheVariants.{Page as Found}
use Rattle.state_core.specs.declared.placement.Placement.{Placement}
use Rattle.fewest_core.specs.FewestMoves.{Move}
use Rattle.state_core.specs.Calls.{after}
use Rattle.state_core.specs.Carrying.{words_now}
use Rattle.state_core.specs.Lending.{block_place}
use Rattle.state_core.specs.LentMoves.{LentMove, IsCopiedMove, IsLentMove, is_lent_move}
use Rattle.state_core.specs.Pairs.{HaveMet}
use Rattle.state_core.specs.Valid.{IsValidZone, is_under}
use Rattle.state_core.specs.ZoneState.{ZoneState, frame_count, is_quiet}
use Rattle.state_core.proofs.Facts.{isolated_bound}
use Rattle.state_core.proofs.LentMoves.{is_lent}
use Rattle.state_core.proofs.Packing.{packed_quiet}
use Rattle.worker_threads.specs.Hands.{AreOf, PageInHand, place_in}
use Rattle.worker_threads.specs.Kept.{AreKept, IsKept, IsRoom, lent_by}
use Rattle.worker_threads.specs.Rooms.{Gets, Room, counted, fresh_round, in_hand, way_of}
use Rattle.worker_threads.specs.Work.{AreRuns, Lends, next_move, next_sent, page_ended, page_sent, work_begun, work_left}
use Rattle.worker_threads.specs.Working.{WasSettled}
use Rattle.worker_threads.specs.declared.room.KeptHalf.{KeptHalf}
use Rattle.worker_threads.specs.declared.round.Round.{Round}
use Rattle.worker_threads.specs.declared.round.Stop.{Stop}
use Rattle.worker_threads.specs.declared.round.Stop.TheVariants as stop
use Rattle.worker_threads.specs.declared.work.Work.{Work}
use Rattle.worker_threads.specs.declared.work.Work.TheVariants.{Compact}
use Rattle.worker_threads.proofs.Called.{IsShaped, lent_called, shape_called}
use Rattle.worker_threads.proofs.Meeting.{met_called}
use Rattle.worker_threads.proofs.Places.{none_in_hand, one_less, one_more, place_after}
use Rattle.worker_threads.proofs.Steps.{isolated_sent, lent_after_end, lent_sent, lent_work_begun, memory_begun, memory_sent, not_met, page_here, quiet_ended_page, quiet_sent, runs_left, shape_ended, words_sent}
use Rattle.zone_core.specs.Counted.{IsCounted}
use Rattle.zone_core.specs.Made.{IsMade}
use Rattle.zone_core.specs.ZoneIdentity.{HasIdentity}

-- the serial of a move whose words are lent is out, and so below the number of pages that were isolated
module _ {size : ℕ} (z : ZoneState) (law : IsValidZone z) (k : KeptHalf) (is : IsKept size z k) where
  pub kept_out : is_out z.records k.way.serial ≡ true
  kept_out = ((law.agrees.under_way k.way.page k.way.serial).0 (ap (λ (o : Option Placement). is_under o k.way.serial) is.lent.way ∙ eq-eqb k.way.serial k.way.serial refl)).0

  kept_below : k.way.serial < isolated z.records
  kept_below = out_below z.records law.journal.well_ended k.way.serial kept_out

-- an audit that isn't refused tells that no page is out
pub counted_out : {E : Type 0} (z : ZoneState) (result : Result Audit E) → IfOk result (IsCounted z) → is_ok result ≡ true → out z.records ≡ []
counted_out z (Ok audit) counted so = counted.none_out
counted_out z (Err error) counted so = cc

-- no worker has a page where none is out
pub settled : {size : ℕ} (z : ZoneState) → IsValidZone z → (kept : List (Option KeptHalf)) → AreKept size z kept → out z.records ≡ [] → in_hand kept ≡ 0
settled z law kept are none = none_in_hand kept (λ i k has. (let out_is = kept_out z law k (are.each i k has) in let no : is_out z.records k.way.serial ≡ false = ap (λ (serials : List ℕ). list_any (nat_eq k.way.serial) serials) none in cc))

-- halves stay kept where their moves stay moves of the zone
stays : {size : ℕ} (z next : ZoneState) (k : KeptHalf) → IsKept size z k → ((to : Row) → IsLentMove z (lent_by k to) → IsLentMove next (lent_by k to)) → IsKept size next k
stays z next k is moves = record { first = is.first; long = is.long; to = is.to; lent = moves is.to is.lent }

pub all_stay : {size : ℕ} (z next : ZoneState) (kept : List (Option KeptHalf)) → AreKept size z kept → ((m : LentMove) → IsLentMove z m → IsLentMove next m) → AreKept size next kept
all_stay z next kept are moves = record { each = λ i k has. stays z next k (are.each i k has) (λ to. moves (lent_by k to)); apart = are.apart }

-- a worker gets the page of a move, under the next serial
module _ {size : ℕ} (work : Work) (z : ZoneState) (law : IsValidZone z) (kept : List (Option KeptHalf)) (are : AreKept size z kept) (place : ℕ) (free : slice_get kept place ≡ Some None) (m : Move) (found : next_move work z ≡ Some m) (k : KeptHalf) (way : k.way ≡ way_of z m) (is : IsKept size (page_sent work z m) k) where
  fresh : (i : ℕ) (l : KeptHalf) → slice_get kept i ≡ Some (Some l) → l.way.serial ≢ k.way.serial
  fresh i l has same = (let below = kept_below z law l (are.each i l has) in omega (arith, below, same, ap (λ w. w.serial) way))

  pub gets : AreKept size (page_sent work z m) (slice_set kept place (Some k))
  gets = record {
    each = λ i l has. elim (place_after kept place None (Some k) free i (Some l) has) [
      | inl here ↦ (let same : k ≡ l = cc in subst (IsKept size (page_sent work z m)) same is)
      | inr there ↦ (stays z (page_sent work z m) l (are.each i l there.1) (λ to. lent_sent work z (lent_by l to) m (page_here work z law m found)))
    ];
    apart = λ i j l other has_l has_other same. elim (place_after kept place None (Some k) free i (Some l) has_l) [
      | inl here ↦ (elim (place_after kept place None (Some k) free j (Some other) has_other) [
        | inl too ↦ here.0 ∙ sym too.0
        | inr there ↦ absurd (fresh j other there.1 (sym same ∙ ap (λ (x : KeptHalf). x.way.serial) (let is_k : k ≡ l = cc in sym is_k)))
      ])
      | inr there ↦ (elim (place_after kept place None (Some k) free j (Some other) has_other) [
        | inl too ↦ absurd (fresh i l there.1 (same ∙ ap (λ (x : KeptHalf). x.way.serial) (let is_k : k ≡ other = cc in sym is_k)))
        | inr also ↦ are.apart i j l other there.1 also.1 same
      ])
    ];
  }

-- a worker gives its page back, whose move ends
module _ {size : ℕ} (z next : ZoneState) (kept : List (Option KeptHalf)) (are : AreKept size z kept) (place : ℕ) (k : KeptHalf) (at : slice_get kept place ≡ Some (Some k)) (others : (m : LentMove) → k.way.serial ≢ m.serial → IsLentMove z m → IsLentMove next m) where
  pub gives : AreKept size next (slice_set kept place None)
  gives = record {
    each = λ i l has. elim (place_after kept place (Some k) None at i (Some l) has) [
      | inl here ↦ (let no : None ≡ Some l = here.1 in cc)
      | inr there ↦ stays z next l (are.each i l there.1) (λ to. others (lent_by l to) (λ same. there.0 (sym (are.apart place i k l at there.1 same))))
    ];
    apart = λ i j l m has_l has_m same. elim (place_after kept place (Some k) None at i (Some l) has_l) [
      | inl here ↦ (let no : None ≡ Some l = here.1 in cc)
      | inr there ↦ (elim (place_after kept place (Some k) None at j (Some m) has_m) [
        | inl too ↦ (let no : None ≡ Some m = too.1 in cc)
        | inr also ↦ are.apart i j l m there.1 also.1 same
      ])
    ];
  }

module _ (before round : Round) where
  isolated_same : (end : Ended) → round ≡ counted before end → round.isolated ≡ before.isolated
  isolated_same ended.Moved count = ap (λ (r : Round). r.isolated) count
  isolated_same ended.Back count = ap (λ (r : Round). r.isolated) count

  pub stopped_same : (end : Ended) → round ≡ counted before end → round.stopped ≡ before.stopped
  stopped_same ended.Moved count = ap (λ (r : Round). r.stopped) count
  stopped_same ended.Back count = ap (λ (r : Round). r.stopped) count

  ended_one : (end : Ended) → round ≡ counted before end → round.moved + round.back ≡ before.moved + before.back + 1
  ended_one ended.Moved count = omega (arith, ap (λ (r : Round). r.moved) count, ap (λ (r : Round). r.back) count)
  ended_one ended.Back count = omega (arith, ap (λ (r : Round). r.moved) count, ap (λ (r : Round). r.back) count)

none_replicated : (n i : ℕ) (k : KeptHalf) → slice_get (replicate n None) i ≡ Some (Some k) → ⊥
none_replicated zero i k has = cc
none_replicated (suc n) zero k has = (let no : None ≡ Some k = cc in cc)
none_replicated (suc n) (suc i) k has = none_replicated n i k has

-- what a room is after each call under the lock
module _ (number blocks : ℕ) (memory : Option Ptr) (size : ℕ) where
  -- the zone changes, and each move whose words are lent stays one of it
  pub room_with : (r : Room) (next : ZoneState) → IsRoom number blocks memory size r → IsValidZone next → HasIdentity r.zone.number r.zone.blocks next → IsShaped r.zone next
      → ((m : LentMove) → IsLentMove r.zone m → IsLentMove next m) → ((is_quiet r.zone ≡ true → HaveMet r.zone) → is_quiet next ≡ true → HaveMet next) → IsRoom number blocks memory size (record r { zone = next })
  room_with r next is law identity shape moves met = record {
    valid = law;
    identity = (identity.0 ∙ is.identity.0, identity.1 ∙ is.identity.1);
    memory_is = shape.memory ∙ is.memory_is;
    given = is.given;
    halves = all_stay r.zone next r.kept is.halves moves;
    sum = is.sum;
    most = subst (λ (n : ℕ). r.round.isolated ≤ n) (sym shape.isolated) is.most;
    runs = is.runs;
    met = λ noted. met (is.met noted);
  }

  -- a client makes a call
  pub room_called : {W : ℕ} {A : Type 0} (call : ZoneCall W) (client : ℕ) (r : Room) (next : ZoneState) (result : Result A ZoneError) → IsRoom number blocks memory size r → IsMade call client r.zone next result → IsRoom number blocks memory size (record r { zone = next })
  room_called call client r next (Err error) is made = subst (λ (z : ZoneState). IsRoom number blocks memory size (record r { zone = z })) (sym made.err) is
  room_called call client r next (Ok answer) is made =
      let law = is.valid in
      subst (λ (z : ZoneState). IsRoom number blocks memory size (record r { zone = z })) (sym made.ok)
      (room_with r (after call client r.zone) is (subst IsValidZone made.ok made.valid) (subst (HasIdentity r.zone.number r.zone.blocks) made.ok made.identity) (shape_called call client r.zone)
      (λ m its. lent_called r.zone law m its client call (sym made.refused)) (met_called r.zone law call client))

  -- work begins, where no worker has a page
  pub room_begun : (r : Room) (work : Work) (next : ZoneState) (rounds : ℕ) → IsRoom number blocks memory size r → AreRuns (frame_count r.zone) work → in_hand r.kept ≡ 0 → next ≡ work_begun work r.zone → IsValidZone next → HasIdentity r.zone.number r.zone.blocks next
      → IsRoom number blocks memory size (record r { zone = next; work = work; rounds = rounds; is_under_way = true; round = fresh_round })
  room_begun r work next rounds is runs none step law identity = record {
    valid = law;
    identity = (identity.0 ∙ is.identity.0, identity.1 ∙ is.identity.1);
    memory_is = ap (λ (z : ZoneState). z.memory) step ∙ memory_begun work r.zone ∙ is.memory_is;
    given = is.given;
    halves = subst (λ (z : ZoneState). AreKept size z r.kept) (sym step) (all_stay r.zone (work_begun work r.zone) r.kept is.halves (λ m its. lent_work_begun work r.zone m its));
    sum = omega (arith, none);
    most = omega arith;
    runs = subst (λ (n : ℕ). AreRuns (512 * n) work) is.identity.1 runs;
    met = λ noted. cc;
  }

  -- a new room has no page in hand
  pub room_new : (z : ZoneState) (kept : List (Option KeptHalf)) → IsValidZone z → HasIdentity number blocks z → z.memory ≡ memory → is_none memory ≡ false → kept ≡ replicate (length kept) None → IsRoom number blocks memory size (record { zone = z; kept = kept; work = Compact; rounds = 0; is_under_way = false; round = fresh_round })
  room_new z kept law identity memory_is given free =
      let no : (i : ℕ) (k : KeptHalf) → slice_get kept i ≡ Some (Some k) → ⊥ = λ i k has. none_replicated (length kept) i k (ap (λ (l : List (Option KeptHalf)). slice_get l i) (sym free) ∙ has) in
      record {
        valid = law;
        identity = identity;
        memory_is = memory_is;
        given = given;
        halves = record { each = λ i k has. absurd (no i k has); apart = λ i j k l has also same. absurd (no i k has) };
        sum = omega (arith, none_in_hand kept no);
        most = omega arith;
        runs = tt;
        met = λ noted. cc;
      }

  module _ (r : Room) (is : IsRoom number blocks memory size r) where
    pub counts_few : r.round.isolated + 1 < 2 ^ 64
    counts_few = omega (arith, is.most, isolated_bound r.zone is.valid)

    pub room_over : IsRoom number blocks memory size (record r { is_under_way = false })
    room_over = record { valid = is.valid; identity = is.identity; memory_is = is.memory_is; given = is.given; halves = is.halves; sum = is.sum; most = is.most; runs = is.runs; met = is.met }

    -- a worker finds no page
    pub room_stopped : (work : Work) (reason : Stop) → AreRuns (512 * blocks) work → (reason ≡ stop.Met → HaveMet r.zone) → IsRoom number blocks memory size (record r { work = work; round = record r.round { stopped = Some reason } })
    room_stopped work reason runs have_met = record {
      valid = is.valid;
      identity = is.identity;
      memory_is = is.memory_is;
      given = is.given;
      halves = is.halves;
      sum = is.sum;
      most = is.most;
      runs = runs;
      met = λ noted quiet. have_met (let same : Some reason ≡ Some stop.Met = noted in cc);
    }

    -- a worker gets a page
    module _ (next : ZoneState) (place : ℕ) (free : slice_get r.kept place ≡ Some None) (l : LentMove) (lends : Lends (next_move r.work r.zone) r.zone next (Found l)) (step : next ≡ next_sent r.work r.zone (next_move r.work r.zone)) (k : KeptHalf)
        (way : k.way ≡ record { page = l.page; serial = l.serial; source = l.source; target = l.target }) (half : k.half ≡ record { at = l.from.at; words = l.from.words; is_first = true }) (long : length l.from.words ≡ size) where
      abbrev m : Move
      m = record { page = l.page; source = l.source; target = l.target }

      is_next : next ≡ page_sent r.work r.zone m
      is_next = step ∙ ap (next_sent r.work r.zone) lends.0

      way_is : k.way ≡ way_of r.zone m
      way_is = way ∙ (λ i. record { page = l.page; serial = lends.1 i; source = l.source; target = l.target })

      lent_is : l ≡ lent_by k l.to
      lent_is = λ i. record { page = (sym way i).page; serial = (sym way i).serial; source = (sym way i).source; target = (sym way i).target; from = record { at = (sym half i).at; words = (sym half i).words }; to = l.to }

      kept_now : IsKept size (page_sent r.work r.zone m) k
      kept_now = record { long = ap (λ (h : Half). length h.words) half ∙ long; first = ap (λ (h : Half). h.is_first) half; to = l.to; lent = subst (λ (z : ZoneState). IsLentMove z (lent_by k l.to)) is_next (subst (IsLentMove next) lent_is lends.2) }

      pub room_gets : IsValidZone next → HasIdentity r.zone.number r.zone.blocks next → (work : Work) → work ≡ work_left r.work r.zone → (round : Round) → round ≡ record r.round { isolated = r.round.isolated + 1 } → IsRoom number blocks memory size (record r { zone = next; kept = slice_set r.kept place (Some k); work = work; round = round })
      room_gets law identity work left round counted = subst (λ (w : Round). IsRoom number blocks memory size (record r { zone = next; kept = slice_set r.kept place (Some k); work = work; round = w })) (sym counted) (record {
        valid = law;
        identity = (identity.0 ∙ is.identity.0, identity.1 ∙ is.identity.1);
        memory_is = ap (λ (z : ZoneState). z.memory) is_next ∙ memory_sent r.work r.zone m ∙ is.memory_is;
        given = is.given;
        halves = subst (λ (z : ZoneState). AreKept size z (slice_set r.kept place (Some k))) (sym is_next) (gets r.work r.zone is.valid r.kept is.halves place free m lends.0 k way_is kept_now);
        sum = omega (arith, is.sum, one_more r.kept place k free);
        most = omega (arith, is.most, ap (λ (z : ZoneState). isolated z.records) is_next, isolated_sent r.work r.zone m);
        runs = subst (AreRuns (512 * blocks)) (sym left) (runs_left r.work r.zone (512 * blocks) is.runs);
        met = λ noted quiet. (let before = quiet_sent r.work r.zone is.valid m (subst (λ (z : ZoneState). is_quiet z ≡ true) is_next quiet) in absurd (not_met r.work r.zone is.valid m lends.0 before.0 (is.met noted before.1)));
      })

      pub page_got : (p : PageInHand) → p ≡ record { place = place; way = k.way; from = l.from.words; to = p.to } → (new : Room) → new ≡ record r { zone = next; kept = slice_set r.kept place (Some k); work = work_left r.work r.zone; round = record r.round { isolated = r.round.isolated + 1 } }
          → (x : Move) × (next_move r.work r.zone ≡ Some x) × Gets place r new x p
      page_got p page new room = (
        m,
        lends.0,
        record {
          half = k;
          way = way_is;
          room = room ∙ (λ i. record r { zone = is_next i; kept = slice_set r.kept place (Some k); work = work_left r.work r.zone; round = record r.round { isolated = r.round.isolated + 1 } });
          place_is = ap (λ (q : PageInHand). q.place) page;
          page = ap (λ (q : PageInHand). q.way) page ∙ way_is;
          from = ap (λ (q : PageInHand). q.from) page ∙ words_got;
        },
      ) where
        words_got : l.from.words ≡ words_now r.zone m.page
        words_got = lends.2.words ∙ ap (λ (z : ZoneState). words_now z l.page) is_next ∙ words_sent r.work r.zone m l.page

    -- a worker gives its page back, with the half that the zone kept
    module _ (place : ℕ) (k : KeptHalf) (at : slice_get r.kept place ≡ Some (Some k)) (from : Half) (to : Row) (lie : AreOf memory size k.way from to) where
      kept_half : IsKept size r.zone k
      kept_half = is.halves.each place k at

      size_is : r.zone.page_size ≡ size
      size_is = sym kept_half.lent.sizes.0 ∙ kept_half.long

      in_zone : (frame : ℕ) → place_in memory size frame ≡ block_place r.zone frame
      in_zone frame = λ i. place_in (sym is.memory_is i) (sym size_is i) frame

      pub halves_meet : (k.half.is_first ≡ true) × (from.is_first ≡ false)
      halves_meet = (kept_half.first, lie.second)

      pub places_meet : (from.at ≡ k.half.at) × (length from.words ≡ length k.half.words)
      places_meet = (
        (let both : Some from.at ≡ Some k.half.at = lie.source ∙ in_zone k.way.source ∙ sym kept_half.lent.source_place in cc),
        lie.sizes.0 ∙ sym size_is ∙ sym kept_half.lent.sizes.0,
      )

      pub few_ended : r.round.moved + r.round.back + 1 < 2 ^ 64
      few_ended = omega (arith, counts_few, is.sum, one_less r.kept place k at)

      -- the move that is made of both
      module _ (m : LentMove) (row : Row) (joined : (row.at ≡ k.half.at) × (row.words ≡ k.half.words)) (move : m ≡ record { page = k.way.page; serial = k.way.serial; source = k.way.source; target = k.way.target; from = row; to = to }) where
        pub its_move : IsLentMove r.zone m
        its_move = subst (IsLentMove r.zone) (sym move) (record {
          way = kept_half.lent.way;
          lent = kept_half.lent.lent;
          source_place = ap Some joined.0 ∙ kept_half.lent.source_place;
          target_place = lie.target ∙ in_zone k.way.target;
          sizes = (ap length joined.1 ∙ kept_half.lent.sizes.0, lie.sizes.1 ∙ sym size_is);
          words = joined.1 ∙ kept_half.lent.words;
        })

        pub still_lent : is_lent_move r.zone m ≡ true
        still_lent = is_lent r.zone m its_move

        pub its_copy : to.words ≡ row.words → IsCopiedMove r.zone m
        its_copy copied = record { lent = its_move; copied = ap (λ (x : LentMove). x.to.words) move ∙ copied ∙ sym (ap (λ (x : LentMove). x.from.words) move) }

      room_gives : (next : ZoneState) (kept : List (Option KeptHalf)) (round : Round) → IsValidZone next → HasIdentity r.zone.number r.zone.blocks next → IsShaped r.zone next → ((m : LentMove) → k.way.serial ≢ m.serial → IsLentMove r.zone m → IsLentMove next m)
          → kept ≡ slice_set r.kept place None → round.isolated ≡ r.round.isolated → round.moved + round.back ≡ r.round.moved + r.round.back + 1 → (round.stopped ≡ Some stop.Met → is_quiet next ≡ true → HaveMet next)
          → IsRoom number blocks memory size (record r { zone = next; kept = kept; round = round })
      room_gives next kept round law identity shape others taken same_isolated one_ended met = record {
        valid = law;
        identity = (identity.0 ∙ is.identity.0, identity.1 ∙ is.identity.1);
        memory_is = shape.memory ∙ is.memory_is;
        given = is.given;
        halves = subst (AreKept size next) (sym taken) (gives r.zone next r.kept is.halves place k at others);
        sum = omega (arith, is.sum, same_isolated, one_ended, one_less r.kept place k at, ap in_hand taken);
        most = omega (arith, is.most, same_isolated, shape.isolated);
        runs = is.runs;
        met = met;
      }

      pub room_commits : (next : ZoneState) (kept : List (Option KeptHalf)) (round : Round) (end : Ended) → IsValidZone next → HasIdentity r.zone.number r.zone.blocks next → next ≡ page_ended r.work r.zone k.way.serial k.way.page k.way.source
          → kept ≡ slice_set r.kept place None → round ≡ counted r.round end → (is_quiet r.zone ≡ true → HaveMet r.zone → is_quiet next ≡ true → HaveMet next)
          → IsRoom number blocks memory size (record r { zone = next; kept = kept; round = round })
      room_commits next kept round end law identity step taken count met = room_gives next kept round law identity
          (subst (IsShaped r.zone) (sym step) (shape_ended r.work r.zone k.way.serial k.way.page k.way.source))
          (λ m ne its. subst (λ (z : ZoneState). IsLentMove z m) (sym step) (lent_after_end r.work r.zone m its k.way.page k.way.serial k.way.source k.way.target kept_half.lent.way ne))
          taken (isolated_same r.round round end count) (ended_one r.round round end count)
          (λ noted quiet. (let before = quiet_ended_page r.work r.zone is.valid k.way.serial k.way.page k.way.source (subst (λ (z : ZoneState). is_quiet z ≡ true) step quiet) in met before (is.met (sym (stopped_same r.round round end count) ∙ noted) before) quiet))

    -- a round whose last page was given back is settled
    pub room_settled : IsSome r.round.stopped → out r.zone.records ≡ [] → AreEndedOnce r.zone.records → in_hand r.kept ≡ 0 → (round : Round) → round ≡ r.round → WasSettled number blocks memory size round
    room_settled some none once free round same = record {
      room = r;
      is = is;
      its_round = same;
      has_stopped = subst (λ (w : Round). IsSome w.stopped) (sym same) some;
      none_out = none;
      once = once;
      sum = omega (arith, is.sum, free, ap (λ (w : Round). w.isolated) same, ap (λ (w : Round). w.moved) same, ap (λ (w : Round). w.back) same);
      packed = λ noted quiet. packed_quiet r.zone is.valid quiet (ap length none) (is.met (sym (ap (λ (w : Round). w.stopped) same) ∙ noted) quiet);
    }
