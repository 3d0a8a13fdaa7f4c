-- Worlds that are the same answer each call alike, refusals too, and are the same after it.
use Rattle.std.proofs.Common.{◌≡◌, ℕ, zero, suc, ◌+◌, ◌-◌, ◌*◌, Bool, true, false, cond, List, [], ◌∷◌, ◌++◌, length, refl, ap, subst, subst₂, ◌∙◌, Option, Some, None, option_and_then}
use Rattle.std.specs.Prelude.{slice_set, unwrap_or}
use Rattle.std.specs.List.{list_all}
use Rattle.frame_core.specs.declared.place.Address.{Address}
use Rattle.frame_core.specs.declared.record.Cause.TheVariants.{NotCopied}
use Rattle.frame_core.specs.Moves.{page_of}
use Rattle.state_core.specs.declared.call.ZoneAnswer.{ZoneAnswer}
use Rattle.state_core.specs.declared.call.ZoneCall.{ZoneCall}
use Rattle.state_core.specs.declared.call.ZoneCall.TheVariants.{TakeOrder, GiveOrder}
use Rattle.state_core.specs.declared.error.ZoneError.{ZoneError}
use Rattle.state_core.specs.declared.information.Look.{Look}
use Rattle.state_core.specs.declared.round.Pair.{Pair}
use Rattle.state_core.specs.Ending.{ended_as, committed, put_back_to_source}
use Rattle.state_core.specs.Calls.{after}
use Rattle.state_core.specs.Rounds.{round_begun}
use Rattle.state_core.specs.ZoneState.{ZoneState}
use Rattle.zone_core.specs.Outcome.{IsSame}
use Rattle.zone_core.proofs.Records.{isolated_same}
use Rattle.zone_core.specs.Fingers.{IsSameInRound}
use Rattle.zone_core.proofs.Calls.{look_agrees, info_agrees, answers_agree, refusals_agree, same_after}
use Rattle.zone_core.proofs.Moves.{LeavesFingers, begun_agrees, committed_agrees, committed_leaves, ended_agrees, isolate_agrees}
use Rattle.zone_core.proofs.Moves.{next_agrees, page_of_agrees, pair_agrees, put_back_agrees, stays_in_round}
use Rattle.machine_core.specs.declared.finished.Finished.{Finished}
use Rattle.machine_core.specs.declared.hands.Held.{Held}
use Rattle.machine_core.specs.declared.hands.Held.TheVariants.{Nothing, Page, Copy as CopyOf}
use Rattle.machine_core.specs.Hands.{copy_held, held_at, is_nothing, page_held}
use Rattle.machine_core.specs.World.{WorldState, all_put_back, finished_as, finished_by, finished_in, isolated_by}
use Rattle.machine_core.proofs.Carrying.{call_leaves}
use Rattle.machine_core.specs.World.{round_opened, scan_refusal, scan_stopped, scanned_by, shut, taken_by, with_hand, with_zone}
use Rattle.text_core.specs.declared.command.Call.{Call}
use Rattle.text_core.specs.declared.command.Call.TheVariants.{Info, InfoWithHeld, Scan, Take, Copy, Finish, Shut, Look as LookAt, Huge, Give}
use Rattle.text_core.specs.declared.command.Calls.{Calls}
use Rattle.text_core.specs.declared.command.Calls.TheVariants.{Zone, One, Series as SeriesOf}
use Rattle.text_core.specs.declared.command.Repeated.{Repeated}
use Rattle.text_core.specs.declared.reply.Reply.{Reply}
use Rattle.text_core.specs.declared.reply.Reply.TheVariants as reply
use Rattle.text_core.specs.Grammar.{address_of}
use Rattle.machine_core.specs.Machine.{Answered, by_hand, call_at, call_step, calls_step, copied, ending, found}
use Rattle.machine_core.specs.Machine.{looked, page_step, reply_for, reply_for_huge, says, series_from, unless, unless_refused, zone_step}
use Rattle.script_core.specs.Worlds.{IsSameWorld}

-- the same reply, and worlds that are the same
pub record Alike (a b : Answered) : Type 0 where
  pub reply : a.reply ≡ b.reply
  pub world : IsSameWorld a.world b.world

alike_unless : (v w : WorldState) (p q : Option ZoneError) (a b : Answered) → p ≡ q → IsSameWorld v w → Alike a b → Alike (unless p v a) (unless q w b)
alike_unless v w p q a b e stopped accepted = subst (λ o. Alike (unless p v a) (unless o w b)) e (by p) where
  by : (o : Option ZoneError) → Alike (unless o v a) (unless o w b)
  by None = accepted
  by (Some error) = record { reply = refl; world = stopped }

-- the pages that wait are put back alike
all_back_alike : (serials : List ℕ) (y z : ZoneState) → IsSame y z → IsSame (all_put_back y serials) (all_put_back z serials)
all_back_alike [] y z same = same
all_back_alike (serial ∷ more) y z same =
    let page = ap (λ (o : Option ℕ). unwrap_or o 0) (page_of_agrees y z same serial) in
    let back = subst (λ n. IsSame (put_back_to_source y serial (unwrap_or (page_of y.records serial) 0) NotCopied) (put_back_to_source z serial n NotCopied)) page
    (put_back_agrees y z same serial (unwrap_or (page_of y.records serial) 0) NotCopied) in
    all_back_alike more _ _ back

fingers_left : (call : ZoneCall 8) (z : ZoneState) → LeavesFingers z (after call 0 z)
fingers_left call z = let leaves = call_leaves call 0 z in record { migrate = leaves.migrate; free = leaves.free }

-- an accepted scan with this next pair, or none
abbrev finds : WorldState → Option Pair → Answered
finds u pair = says (found (scanned_by (round_opened u).zone pair)) (isolated_by (round_opened u) pair)

-- a take by hand k, where it holds this and these serials wait
abbrev takes : WorldState → ℕ → Held ℕ ℕ → List ℕ → Answered
takes u k hand waiting = by_hand (λ serial. reply.Serial serial) u (taken_by u k hand waiting)

-- a copy by hand k, where it holds this page or none
abbrev copies : WorldState → ℕ → Option ℕ → Answered
copies u k page = copied u (option_and_then (λ serial. Some (with_hand u k (CopyOf serial))) page)

-- a finish by hand k, where it holds this copy or none
abbrev finishes : WorldState → ℕ → Option ℕ → Answered
finishes u k copy = by_hand (λ (f : Finished). ending f.serial f.ended) u (option_and_then (λ serial. Some (finished_as u.zone serial, finished_by u k serial)) copy)

-- a shut, where all hands are empty or not
abbrev shuts_if : WorldState → Bool → Answered
shuts_if u empty = by_hand (λ count. reply.Shut count) u (cond empty (Some (length u.waiting, shut u)) None)

module _ (v w : WorldState) (same : IsSameWorld v w) where
  -- calls of the zone that leave the fingers as they are

  zone_alike : (y z : ZoneState) → IsSame y z → LeavesFingers v.zone y → LeavesFingers w.zone z → IsSameWorld (with_zone v y) (with_zone w z)
  zone_alike y z after left right = record {
    zone = after;
    is_open = same.is_open;
    in_round = λ o. stays_in_round v.zone w.zone (same.in_round o) y z after left right;
    waiting = same.waiting;
    hands = same.hands;
  }

  step_alike : (call : ZoneCall 8) (told : ZoneAnswer → Reply) → Alike (zone_step v call told) (zone_step w call told)
  step_alike call told = alike_unless v w _ _ _ _ (refusals_agree v.zone w.zone same.zone 8 call) same (record {
    reply = ap told (answers_agree v.zone w.zone same.zone 8 call);
    world = zone_alike _ _ (same_after v.zone w.zone same.zone 8 call 0) (fingers_left call v.zone) (fingers_left call w.zone);
  })

  looked_alike : (p q : Option Look) → p ≡ q → Alike (looked v p) (looked w q)
  looked_alike p q e = subst (λ o. Alike (looked v p) (looked w o)) e (by p) where
    by : (o : Option Look) → Alike (looked v o) (looked w o)
    by None = record { reply = refl; world = same }
    by (Some known) = record { reply = refl; world = same }

  -- scans

  opened_alike : IsSameInRound (round_opened v).zone (round_opened w).zone
  opened_alike = by v.is_open w.is_open same.is_open same.in_round where
    by : (b c : Bool) → b ≡ c → (b ≡ true → IsSameInRound v.zone w.zone) → IsSameInRound (cond b v.zone (round_begun v.zone)) (cond c w.zone (round_begun w.zone))
    by true true e fingers = fingers refl
    by false false e fingers = begun_agrees v.zone w.zone same.zone
    by true false e fingers = cc
    by false true e fingers = cc

  stopped_alike : IsSameWorld (scan_stopped v) (scan_stopped w)
  stopped_alike = record { zone = opened_alike.same; is_open = refl; in_round = λ o. opened_alike; waiting = same.waiting; hands = same.hands }

  found_alike : (p q : Option Pair) → p ≡ q → Alike (finds v p) (finds w q)
  found_alike p q e = subst (λ o. Alike (finds v p) (finds w o)) e (by p) where
    by : (o : Option Pair) → Alike (finds v o) (finds w o)
    by None = record { reply = refl; world = record { zone = opened_alike.same; is_open = refl; in_round = λ o. opened_alike; waiting = same.waiting; hands = same.hands } }
    by (Some pair) =
        let serial = isolated_same (round_opened v).zone (round_opened w).zone opened_alike.same in
        let next = next_agrees (round_opened v).zone (round_opened w).zone opened_alike (Some pair) in
        record {
          reply = λ i. reply.Serial (serial i);
          world = record { zone = next.same; is_open = refl; in_round = λ o. next; waiting = λ i. same.waiting i ++ serial i ∷ []; hands = same.hands };
        }

  scan_alike : Alike (call_step v Scan) (call_step w Scan)
  scan_alike = alike_unless (scan_stopped v) (scan_stopped w) (scan_refusal v) (scan_refusal w) _ _
      (isolate_agrees (round_opened v).zone (round_opened w).zone opened_alike.same) stopped_alike
      (found_alike _ _ (pair_agrees (round_opened v).zone (round_opened w).zone opened_alike))

  -- what a hand does

  hand_same : (k : ℕ) → held_at v.hands k ≡ held_at w.hands k
  hand_same k = ap (λ hands. held_at hands k) same.hands

  with_same : (k : ℕ) (hand : Held ℕ ℕ) → IsSameWorld (with_hand v k hand) (with_hand w k hand)
  with_same k hand = record { zone = same.zone; is_open = same.is_open; in_round = same.in_round; waiting = same.waiting; hands = ap (λ hands. slice_set hands (k - 1) hand) same.hands }

  take_alike : (k : ℕ) → Alike (call_step v (Take k)) (call_step w (Take k))
  take_alike k = subst₂ (λ hand waiting. Alike (call_step v (Take k)) (takes w k hand waiting)) (hand_same k) same.waiting (by (held_at v.hands k) v.waiting) where
    by : (hand : Held ℕ ℕ) (waiting : List ℕ) → Alike (takes v k hand waiting) (takes w k hand waiting)
    by Nothing [] = record { reply = refl; world = same }
    by Nothing (serial ∷ more) =
        let after = with_same k (Page serial) in
        record { reply = refl; world = record { zone = after.zone; is_open = after.is_open; in_round = after.in_round; waiting = refl; hands = after.hands } }
    by (Page serial) waiting = record { reply = refl; world = same }
    by (CopyOf serial) waiting = record { reply = refl; world = same }

  copy_alike : (k : ℕ) → Alike (call_step v (Copy k)) (call_step w (Copy k))
  copy_alike k = subst (λ hand. Alike (call_step v (Copy k)) (copies w k (page_held hand))) (hand_same k) (by (page_held (held_at v.hands k))) where
    by : (page : Option ℕ) → Alike (copies v k page) (copies w k page)
    by None = record { reply = refl; world = same }
    by (Some serial) = record { reply = refl; world = with_same k (CopyOf serial) }

  page_same : (serial : ℕ) → unwrap_or (page_of v.zone.records serial) 0 ≡ unwrap_or (page_of w.zone.records serial) 0
  page_same serial = ap (λ (o : Option ℕ). unwrap_or o 0) (page_of_agrees v.zone w.zone same.zone serial)

  ended_alike : (k serial : ℕ) → IsSameWorld (finished_by v k serial) (finished_by w k serial)
  ended_alike k serial =
      let page = unwrap_or (page_of v.zone.records serial) 0 in
      let ends : IsSame (finished_in v.zone serial) (finished_in w.zone serial)
      = subst (λ n. IsSame (finished_in v.zone serial) (committed w.zone serial n)) (page_same serial) (committed_agrees v.zone w.zone same.zone serial page) in
      let hand = with_same k Nothing in
      let zone = zone_alike (finished_in v.zone serial) (finished_in w.zone serial) ends (committed_leaves v.zone serial page) (committed_leaves w.zone serial _) in
      record { zone = zone.zone; is_open = same.is_open; in_round = zone.in_round; waiting = same.waiting; hands = hand.hands }

  finish_alike : (k : ℕ) → Alike (call_step v (Finish k)) (call_step w (Finish k))
  finish_alike k = subst (λ hand. Alike (call_step v (Finish k)) (finishes w k (copy_held hand))) (hand_same k) (by (copy_held (held_at v.hands k))) where
    by : (copy : Option ℕ) → Alike (finishes v k copy) (finishes w k copy)
    by None = record { reply = refl; world = same }
    by (Some serial) = record {
      reply = ap (λ page. ending serial (ended_as v.zone page)) (page_same serial) ∙ ap (ending serial) (ended_agrees v.zone w.zone same.zone (unwrap_or (page_of w.zone.records serial) 0));
      world = ended_alike k serial;
    }

  shut_alike : Alike (call_step v Shut) (call_step w Shut)
  shut_alike = subst (λ hands. Alike (call_step v Shut) (shuts_if w (list_all is_nothing hands))) same.hands (by (list_all is_nothing v.hands)) where
    by : (empty : Bool) → Alike (shuts_if v empty) (shuts_if w empty)
    by false = record { reply = refl; world = same }
    by true = record {
      reply = ap (λ serials. reply.Shut (length serials)) same.waiting;
      world = record {
        zone = subst (λ serials. IsSame (all_put_back v.zone v.waiting) (all_put_back w.zone serials)) same.waiting (all_back_alike v.waiting v.zone w.zone same.zone);
        is_open = refl;
        in_round = λ o. cc;
        waiting = refl;
        hands = same.hands;
      };
    }

-- each other call, in the order of `call_step`
call_alike : (v w : WorldState) → IsSameWorld v w → (c : Call) → Alike (call_step v c) (call_step w c)
call_alike v w s Info = record { reply = ap reply.Info (info_agrees v.zone w.zone s.zone); world = s }
call_alike v w s Scan = scan_alike v w s
call_alike v w s (Take hand) = take_alike v w s hand
call_alike v w s (Copy hand) = copy_alike v w s hand
call_alike v w s (Finish hand) = finish_alike v w s hand
call_alike v w s Shut = shut_alike v w s
call_alike v w s (LookAt a) = looked_alike v w s _ _ (look_agrees v.zone w.zone s.zone a)
call_alike v w s Huge = step_alike v w s (TakeOrder 9) reply_for_huge
call_alike v w s (Give block) = step_alike v w s (GiveOrder (512 * block) 9) (λ _. reply.Done)
call_alike v w s InfoWithHeld = record { reply = ap reply.InfoWithHeld (info_agrees v.zone w.zone s.zone); world = s }

-- a series of calls

at_alike : (v w : WorldState) → IsSameWorld v w → (c : Repeated) (p : Option Address) → Alike (page_step c v p) (page_step c w p)
at_alike v w s c None = record { reply = refl; world = s }
at_alike v w s c (Some a) = step_alike v w s (call_at c a) (reply_for (call_at c a))

alike_on : (v w : WorldState) (done : ℕ) (p q : Reply) (a b : Answered) → p ≡ q → IsSameWorld v w → Alike a b → Alike (unless_refused done p v a) (unless_refused done q w b)
alike_on v w done p q a b e same rest = subst (λ r. Alike (unless_refused done p v a) (unless_refused done r w b)) e (by p) where
  by : (r : Reply) → Alike (unless_refused done r v a) (unless_refused done r w b)
  by (reply.Refused number) = record { reply = refl; world = same }
  by _ = rest

series_alike : (c : Repeated) (s p further done n : ℕ) (v w : WorldState) → IsSameWorld v w → Alike (series_from c s p further done n v) (series_from c s p further done n w)
series_alike c s p further done zero v w same = record { reply = refl; world = same }
series_alike c s p further done (suc n) v w same =
    let a : Answered = page_step c v (address_of s p) in
    let b : Answered = page_step c w (address_of s p) in
    let first = at_alike v w same c (address_of s p) in
    alike_on a.world b.world done a.reply b.reply _ _ first.reply first.world (series_alike c s (p + further) further (done + 1) n a.world b.world first.world)

pub calls_alike : (v w : WorldState) → IsSameWorld v w → (c : Calls) → Alike (calls_step v c) (calls_step w c)
calls_alike v w same (Zone call) = step_alike v w same call (reply_for call)
calls_alike v w same (One call) = call_alike v w same call
calls_alike v w same (SeriesOf s) = series_alike s.call s.space s.first s.step 0 s.count v w same
