-- A machine with threads beside the machine that makes its rounds by hand.
use Rattle.std.proofs.Common.{◌≡◌, ℕ, ◌-◌, ◌<◌, ◌≤◌, Bool, true, false, not, ◌&&◌, ◌||◌, List, [], ◌∷◌, length, refl, sym, ap, subst, ◌∙◌, inl, inr, arith, Option, Some, None}
use Rattle.std.specs.Prelude.{⊤, IsTrue, Result, Ok, Err, map, nat_eq, replicate, if◌then◌else◌}
use Rattle.std.specs.List.{AllByRecursion, list_any}
use Rattle.std.proofs.lemmas.Bool.{and_parts, eq-eqb, false≢true, false_from_ne_true, not-true, or_parts, true≢false}
use Rattle.frame_core.specs.Moves.{out}
use Rattle.state_core.specs.Valid.{IsValidZone}
use Rattle.state_core.specs.ZoneState.{ZoneState}
use Rattle.zone_core.specs.Alone.{IsAtRest}
use Rattle.zone_core.specs.ByHand.{by_hand}
use Rattle.zone_core.specs.Outcome.{IsSame}
use Rattle.zone_core.proofs.Records.{isolated_same}
use Rattle.zone_core.specs.Seats.{ScanSeat, EndSeat, audit_refusal}
use Rattle.machine_core.specs.Hands.{serial_in}
use Rattle.machine_core.specs.World.{IsOrderly, WorldState, is_in, is_in_hand, waits, world_closed, world_opened}
use Rattle.machine_core.specs.declared.hands.Held.{Held}
use Rattle.machine_core.specs.declared.hands.Held.TheVariants.{Nothing, Page, Copy as CopyOf}
use Rattle.round_core.specs.declared.error.RoundError.{RoundError}
use Rattle.round_core.specs.declared.error.RoundError.TheVariants.{Memory, NoWorker, Broken, Stranger}
use Rattle.round_core.specs.declared.round.Round.{Round}
use Rattle.round_core.specs.Errors.{number_of}
use Rattle.round_core.specs.Rounds.{IsRefusedEarly, IsRound, IsWant}
use Rattle.huge_core.specs.ByHand.{NoneFailed, Reservation, frames_of, reservation_for, reserved_by_hand, rounds_for, stop_for}
use Rattle.huge_core.specs.Huge.{Huge}
use Rattle.huge_core.specs.Reserving.{HasRun}
use Rattle.huge_core.specs.declared.collector.Collector.{Collector}
use Rattle.huge_core.specs.declared.report.Report.{Report}
use Rattle.huge_core.specs.declared.report.Stop.{Stop as PoolStop}
use Rattle.huge_core.specs.declared.report.Stop.TheVariants as pool_stop
use Rattle.huge_core.proofs.SameByHand.{AreSame, by_hand_same, reserved_same, rest_by_hand, same_refl, same_sym, same_trans, stop_same}
use Rattle.text_core.specs.declared.command.Calls.{Calls}
use Rattle.text_core.specs.declared.command.Command.{Command}
use Rattle.text_core.specs.declared.command.Command.TheVariants.{Open, On, Compact, Pool, During}
use Rattle.text_core.specs.declared.pool.PoolBlocks.{PoolBlocks}
use Rattle.text_core.specs.declared.pool.PoolStopped.TheVariants as pool_stopped
use Rattle.text_core.specs.declared.reply.Reply.{Reply}
use Rattle.text_core.specs.declared.reply.Reply.TheVariants as reply
use Rattle.text_core.specs.Pool.{pool_order, told_as}
use Rattle.text_core.proofs.Ranges.{HasOrder, IsInRange}
use Rattle.machine_core.specs.Machine.{Answered, Step, answered, calls_step, compact_on, declined, opens, pool_from, pool_on, refused, step}
use Rattle.machine_core.specs.OneThread.{IsStep, is_at_rest}
use Rattle.text_core.specs.Script.{Answer, Numbered}
use Rattle.client_core.specs.Receipts.{Client}
use Rattle.script_core.specs.MachineByHand.{count_by_hand, pool_by_hand, pool_stopped_as, reservation_reply, round_by_hand, step_by_hand, stopped_as, work_by_hand}
use Rattle.script_core.specs.Worlds.{IsSameWorld}
use Rattle.script_core.proofs.MachineByHand.{closed_orderly, closed_rests}
use Rattle.script_core.proofs.CommandsInRange.{AreInRange}
use Rattle.script_core.proofs.RoundsByHand.{reserved_rests}
use Rattle.script_core.proofs.Runs.{keeps_calls, opened_orderly}
use Rattle.script_core.proofs.Worlds.{calls_alike}
use Rattle.script_core.specs.ByHand.{Followed, To, NoLonger, IsNoBlock, IsByHandStep, IsReplyByHand, IsUnbegun, HasFailed, OpensByHand}
use Rattle.script_core.specs.WithThreads.{AsksMemory, IsBlockFor, IsDoneByHand, IsPoolOn, IsRoundOn, IsStepAt, IsStepBy, IsThreadedStep, IsWorkStep, Settles, WithThreads, is_threaded, left_by, round_reply, threaded_at_first, told_of}
use Rattle.script_core.proofs.Pools.{whole_after}
use Rattle.script_core.proofs.RunsAs.{Goes}

-- a command that isn't a block, whose arguments are in their ranges
abbrev pub IsFollowable : Numbered → Type 0
IsFollowable c = IsNoBlock c.command × IsInRange c.command

pub all_followable : (commands : List Numbered) → AllByRecursion (λ c. IsNoBlock c.command) commands → AreInRange commands → AllByRecursion IsFollowable commands
all_followable [] none ranged = tt
all_followable (c ∷ commands) none ranged = ((none.0, ranged.0), all_followable commands none.1 ranged.1)

-- two worlds that no reply tells apart
pub record AreBeside (v w : WorldState) : Type 0 where
  pub same : IsSameWorld v w
  pub orderly : IsOrderly v
  pub orderly_by_hand : IsOrderly w

-- or no world in either
abbrev Beside : Option WorldState → Option WorldState → Type 0
Beside None None = ⊤
Beside (Some v) (Some w) = AreBeside v w
Beside None (Some w) = ⊥
Beside (Some v) None = ⊥

-- a machine with threads that is followed so far
abbrev pub Follows : ℕ → WithThreads → Followed → Type 0
Follows places old NoLonger = ⊤
Follows places old (To world) = (old.broken ≡ None) × (old.single.places ≡ places) × Beside old.single.world world

pub first_follows : (places : ℕ) → Follows places (threaded_at_first places) (To None)
first_follows places = (refl, refl, tt)

-- what a reply and the machine after it are followed by
record GoesOn (places : ℕ) (world : Option WorldState) (command : Command) (answer : Reply) (new : WithThreads) : Type 0 where
  beside : Followed
  step : IsReplyByHand places world command answer beside
  related : Follows places new beside

-- a step of the machine by hand that gives this reply and leaves such a world
done_as : (places : ℕ) (world : Option WorldState) (command : Command) (answer : Reply) (new : WithThreads) (s : Step) → step_by_hand places world command ≡ s
    → answer ≡ s.reply → Follows places new (To s.world) → GoesOn places world command answer new
done_as places world command answer new s is told follows = record {
  beside = To s.world;
  step = inl (told ∙ ap (λ (t : Step). t.reply) (sym is), ap (λ (t : Step). To t.world) (sym is));
  related = follows;
}

-- steps of both machines that give the same reply

record StepsAlike (a b : Step) : Type 0 where
  reply : a.reply ≡ b.reply
  world : Beside a.world b.world

if_alike : (a b : Bool) → a ≡ b → (x x' y y' : Step) → StepsAlike x y → StepsAlike x' y' → StepsAlike (if a then x else x') (if b then y else y')
if_alike true true e x x' y y' is other = is
if_alike false false e x x' y y' is other = other
if_alike _ _ e x x' y y' is other = cc

alike_follows : (places : ℕ) (old : WithThreads) (world : Option WorldState) (command : Command) (answer : Reply) (new : WithThreads) → old.single.places ≡ places
    → StepsAlike (step places old.single.world command) (step_by_hand places world command) → IsStep old.single command answer new.single → new.broken ≡ None → GoesOn places world command answer new
alike_follows places old world command answer new same_places alike is whole =
    let here : record { reply = answer; world = new.single.world } ≡ step places old.single.world command = is.step_is ∙ ap (λ n. step n old.single.world command) same_places in
    done_as places world command answer new (step_by_hand places world command) refl (ap (λ (t : Step). t.reply) here ∙ alike.reply)
    (whole, is.places_are ∙ same_places, rw (ap (λ (t : Step). t.world) here) alike.world)

opened_same : (zone blocks places : ℕ) → IsSameWorld (world_opened zone blocks places) (world_opened zone blocks places)
opened_same zone blocks places = record { zone = same_refl (world_opened zone blocks places).zone; is_open = refl; in_round = λ e. absurd (false≢true e); waiting = refl; hands = refl }

module _ (places : ℕ) (range : (0 < places) × (places ≤ 65536)) where
  open_alike : (v w : Option WorldState) → Beside v w → (zone blocks : ℕ) → (0 < blocks) × (blocks ≤ 8) → StepsAlike (step places v (Open zone blocks)) (step places w (Open zone blocks))
  open_alike None None with zone blocks some =
      let orderly = opened_orderly zone blocks places some range in
      record { reply = refl; world = record { same = opened_same zone blocks places; orderly = orderly; orderly_by_hand = orderly } }
  open_alike (Some v) (Some w) with zone blocks some = record { reply = refl; world = with }
  open_alike _ _ with zone blocks some = absurd with

  calls_on : (v w : Option WorldState) → Beside v w → (zone : ℕ) (c : Calls) → IsInRange (On zone c) → StepsAlike (step places v (On zone c)) (step places w (On zone c))
  calls_on None None with zone c ranged = record { reply = refl; world = tt }
  calls_on (Some v) (Some w) with zone c ranged =
      let alike = calls_alike v w with.same c in
      if_alike (nat_eq zone v.zone.number) (nat_eq zone w.zone.number) (ap (nat_eq zone) with.same.zone.number)
      (answered (calls_step v c)) (declined 43 (Some v)) (answered (calls_step w c)) (declined 43 (Some w))
      (record {
        reply = alike.reply;
        world = record { same = alike.world; orderly = (keeps_calls v with.orderly zone c ranged).orderly; orderly_by_hand = (keeps_calls w with.orderly_by_hand zone c ranged).orderly };
      })
      (record { reply = refl; world = with })
  calls_on _ _ with zone c ranged = absurd with

-- work over a zone that isn't open, or while a hand round is open, is refused alike

refused_alike : (v w : WorldState) → AreBeside v w → (a b o p : Bool) → a ≡ b → o ≡ p → (a && not o) ≡ false → (other : Answered) (number : ℕ)
    → StepsAlike (declined (if a then (if o then 45 else number) else 43) (Some v)) (if b then answered (if p then refused 45 w else other) else declined 43 (Some w))
refused_alike v w with true true true true e f r other number = record { reply = refl; world = with }
refused_alike v w with false false o p e f r other number = record { reply = refl; world = with }
refused_alike v w with _ _ _ _ e f r other number = cc

compact_alike : (v w : Option WorldState) → Beside v w → (zone : ℕ) → is_at_rest zone v ≡ false → StepsAlike (compact_on zone v) (work_by_hand zone round_by_hand w)
compact_alike None None with zone r = record { reply = refl; world = tt }
compact_alike (Some v) (Some w) with zone r =
    refused_alike v w with (nat_eq zone v.zone.number) (nat_eq zone w.zone.number) v.is_open w.is_open (ap (nat_eq zone) with.same.zone.number) with.same.is_open r (round_by_hand w) 32
compact_alike _ _ with zone r = absurd with

pool_refused : (v w : WorldState) → AreBeside v w → (a b o p : Bool) → a ≡ b → o ≡ p → (a && not o) ≡ false → (one other : Answered)
    → StepsAlike (if a then answered (if o then refused 45 v else one) else declined 43 (Some v)) (if b then answered (if p then refused 45 w else other) else declined 43 (Some w))
pool_refused v w with true true true true e f r one other = record { reply = refl; world = with }
pool_refused v w with false false o p e f r one other = record { reply = refl; world = with }
pool_refused v w with _ _ _ _ e f r one other = cc

pool_alike : (v w : Option WorldState) → Beside v w → (zone count : ℕ) (blocks : PoolBlocks) → is_at_rest zone v ≡ false → StepsAlike (pool_on zone count blocks v) (work_by_hand zone (pool_by_hand 4 count blocks) w)
pool_alike None None with zone count blocks r = record { reply = refl; world = tt }
pool_alike (Some v) (Some w) with zone count blocks r =
    pool_refused v w with (nat_eq zone v.zone.number) (nat_eq zone w.zone.number) v.is_open w.is_open (ap (nat_eq zone) with.same.zone.number) with.same.is_open r (pool_from blocks [] count v) (pool_by_hand 4 count blocks w)
pool_alike _ _ with zone count blocks r = absurd with

-- worlds in which no hand round is open

nothing_waits : (list : List ℕ) → ((serial : ℕ) → list_any (nat_eq serial) list ≡ false) → list ≡ []
nothing_waits [] none = refl
nothing_waits (serial ∷ list) none =
    let first : nat_eq serial serial ≡ true = eq-eqb serial serial refl in
    let bad : true ≡ false = ap (λ b. b || list_any (nat_eq serial) list) (sym first) ∙ none serial in
    cc

hands_hold_nothing : (hands : List (Held ℕ ℕ)) → ((serial : ℕ) → list_any (λ hand. is_in serial (serial_in hand)) hands ≡ false) → hands ≡ replicate (length hands) Nothing
hands_hold_nothing [] none = refl
hands_hold_nothing (Nothing ∷ hands) none = ap (λ (more : List (Held ℕ ℕ)). Nothing ∷ more) (hands_hold_nothing hands none)
hands_hold_nothing (Page serial ∷ hands) none =
    let bad : true ≡ false = ap (λ b. b || list_any (λ hand. is_in serial (serial_in hand)) hands) (sym (eq-eqb serial serial refl)) ∙ none serial in
    cc
hands_hold_nothing (CopyOf serial ∷ hands) none =
    let bad : true ≡ false = ap (λ b. b || list_any (λ hand. is_in serial (serial_in hand)) hands) (sym (eq-eqb serial serial refl)) ∙ none serial in
    cc

closed_is : (w : WorldState) → IsOrderly w → w.is_open ≡ false → w ≡ world_closed w.zone w.scan w.ends
closed_is w o closed =
    let none : (serial : ℕ) → (waits w serial || is_in_hand w serial) ≡ false = λ serial. false_from_ne_true _ (λ e. true≢false (sym ((o.out serial).1 e) ∙ o.closed closed serial)) in
    let waiting = nothing_waits w.waiting (λ serial. (or_parts _ _ (none serial)).0) in
    let hands = hands_hold_nothing w.hands (λ serial. (or_parts _ _ (none serial)).1) in
    λ i. record { zone = w.zone; scan = w.scan; ends = w.ends; is_open = closed i; waiting = waiting i; hands = (hands ∙ ap (λ n. replicate n Nothing) o.four) i }

-- the world after a round or a pool, and that after it by hand
closed_beside : (zone : ZoneState) (scan : ScanSeat) (ends : EndSeat) (z : ZoneState) (scan_z : ScanSeat) (ends_z : EndSeat) → IsSame zone z → IsAtRest zone → ends.parts ≡ 64 → IsAtRest z → ends_z.parts ≡ 64
    → AreBeside (world_closed zone scan ends) (world_closed z scan_z ends_z)
closed_beside zone scan ends z scan_z ends_z same rest whole rest_z whole_z = record {
  same = record { zone = same; is_open = refl; in_round = λ e. absurd (false≢true e); waiting = refl; hands = refl };
  orderly = closed_orderly zone scan ends rest whole;
  orderly_by_hand = closed_orderly z scan_z ends_z rest_z whole_z;
}

-- an audit passes after work over a zone
audit_passes : (zone : ZoneState) (ends : EndSeat) → out zone.records ≡ [] → ends.parts ≡ 64 → audit_refusal zone ends ≡ None
audit_passes zone ends none whole = rw (whole, none) refl

module _ (v w : WorldState) (with : AreBeside v w) (closed : v.is_open ≡ false) where
  rest_v : IsAtRest v.zone
  rest_v = closed_rests v with.orderly closed

  closed_w : w.is_open ≡ false
  closed_w = sym with.same.is_open ∙ closed

  rest_w : IsAtRest w.zone
  rest_w = closed_rests w with.orderly_by_hand closed_w

  agrees : IsSame (by_hand v.zone) (by_hand w.zone)
  agrees = by_hand_same v.zone w.zone rest_v rest_w with.same.zone

  counts : count_by_hand v.zone ≡ count_by_hand w.zone
  counts = λ i. isolated_same (by_hand v.zone) (by_hand w.zone) agrees i - isolated_same v.zone w.zone with.same.zone i

  -- a round that was done, one that wasn't begun, and one that failed

  done_reply : (zone : ZoneState) (r : Round) → IsDoneByHand v.zone zone r → round_reply (Ok r) ≡ (round_by_hand w).reply
  done_reply zone r d =
      let stops = d.stopped ∙ stop_same v.zone w.zone rest_v rest_w with.same.zone in
      λ i. reply.Round ((d.count ∙ counts) i) ((d.moved ∙ counts) i) (d.none_back i) (stopped_as (stops i))

  round_world : (zone : ZoneState) (scan : ScanSeat) (ends : EndSeat) → IsValidZone zone → ends.parts ≡ 64 → IsSame (by_hand v.zone) zone → AreBeside (world_closed zone scan ends) (round_by_hand w).world
  round_world zone scan ends law whole same =
      closed_beside zone scan ends (by_hand w.zone) w.scan w.ends (same_trans zone (by_hand v.zone) (by_hand w.zone) (same_sym (by_hand v.zone) zone same) agrees)
      (record { valid = law; none_out = sym same.out_is ∙ (rest_by_hand v.zone rest_v).none_out }) whole (rest_by_hand w.zone rest_w) with.orderly_by_hand.whole

  same_world_as_before : (zone : ZoneState) (scan : ScanSeat) (ends : EndSeat) → IsValidZone zone → ends.parts ≡ 64 → IsSame v.zone zone → AreBeside (world_closed zone scan ends) w
  same_world_as_before zone scan ends law whole same =
      subst (AreBeside (world_closed zone scan ends)) (sym (closed_is w with.orderly_by_hand closed_w))
      (closed_beside zone scan ends w.zone w.scan w.ends (same_trans zone v.zone w.zone (same_sym v.zone zone same) with.same.zone)
      (record { valid = law; none_out = sym same.out_is ∙ rest_v.none_out }) whole rest_w with.orderly_by_hand.whole)

  module _ (places : ℕ) (client : Client) (zone_number : ℕ) (answer : Reply) (new : WithThreads) (is : step_by_hand places (Some w) (Compact zone_number) ≡ answered (round_by_hand w)) (on : IsRoundOn v places client answer new) where
    passed : Settles on.over.result → new ≡ left_by places client on.over.zone on.over.scan on.over.ends None
    passed settles = rw (on.over.settled settles) at on.left

    unbegun : (error : RoundError) → on.over.result ≡ Err error → IsWant error → IsUnbegun (Compact zone_number) answer → GoesOn places (Some w) (Compact zone_number) answer new
    unbegun error result want told =
        let settles = subst Settles (sym result) want in
        let after = passed settles in
        let early : IsRefusedEarly v.scan on.over.scan v.ends on.over.ends (Err error) = rw result at on.over.early in
        let same : IsSame v.zone on.over.zone = (rw result at on.by_hand) want in
        let whole : on.over.ends.parts ≡ 64 = ap (λ (e : EndSeat). e.parts) (early.same (early.want want)).1 ∙ with.orderly.whole in
        record {
          beside = To (Some w);
          step = inr (inl (told, refl));
          related = rw after (refl, refl, same_world_as_before on.over.zone on.over.scan on.over.ends on.over.kept.valid whole same);
        }

    failed : HasFailed (Compact zone_number) answer → GoesOn places (Some w) (Compact zone_number) answer new
    failed told = record { beside = NoLonger; step = inr (inr (told, refl)); related = tt }

    done : (r : Round) → on.over.result ≡ Ok r → GoesOn places (Some w) (Compact zone_number) answer new
    done r result =
        let after = passed (subst Settles (sym result) tt) in
        let d : IsDoneByHand v.zone on.over.zone r = rw result at on.by_hand in
        let round : IsRound v.scan on.over.scan v.ends on.over.ends r = rw result at on.over.round in
        done_as places (Some w) (Compact zone_number) answer new (answered (round_by_hand w)) is (on.answer_is ∙ ap round_reply result ∙ done_reply on.over.zone r d)
        (rw after (refl, refl, round_world on.over.zone on.over.scan on.over.ends on.over.kept.valid round.whole d.same))

    round_goes : GoesOn places (Some w) (Compact zone_number) answer new
    round_goes = by_result on.over.result refl where
      by_result : (r : Result Round RoundError) → on.over.result ≡ r → GoesOn places (Some w) (Compact zone_number) answer new
      by_result (Ok r) result = done r result
      by_result (Err Memory) result = unbegun Memory result tt (inl (on.answer_is ∙ ap round_reply result))
      by_result (Err NoWorker) result = unbegun NoWorker result tt (inr (on.answer_is ∙ ap round_reply result))
      by_result (Err Broken) result = failed (inl (on.answer_is ∙ ap round_reply result))
      by_result (Err (Stranger serial)) result = failed (inr (on.answer_is ∙ ap round_reply result))

-- the numbers of the blocks of a report
told_frames : (blocks : PoolBlocks) (got : List (Option Huge)) → told_of blocks got ≡ map (told_as blocks) (frames_of got)
told_frames blocks [] = refl
told_frames blocks (Some block ∷ more) = ap (λ (rest : List ℕ). told_as blocks block.frame ∷ rest) (told_frames blocks more)
told_frames blocks (None ∷ more) = told_frames blocks more

-- the end seat after a pool that stopped for another reason than a refused round
whole_left : (c : Collector) (scan scan_new : ScanSeat) (ends ends_new : EndSeat) (report : Report) → ends.parts ≡ 64 → (run : HasRun c scan scan_new ends ends_new report) → ends_new ≡ run.ends_after → ends_new.parts ≡ 64
whole_left c scan scan_new ends ends_new report whole run same =
    ap (λ (e : EndSeat). e.parts) same ∙ whole_after run.rounds scan run.scan_after ends run.ends_after whole run.ran

module _ (v w : WorldState) (with : AreBeside v w) (closed : v.is_open ≡ false) (blocks : PoolBlocks) (order : HasOrder blocks) (count : ℕ) where
  abbrev at_v : Reservation
  at_v = reserved_by_hand (pool_order blocks) 4 count v.zone

  abbrev at_w : Reservation
  at_w = reserved_by_hand (pool_order blocks) 4 count w.zone

  same_at : AreSame at_v at_w
  same_at = reserved_same (pool_order blocks) order.0 order.1 4 count v.zone w.zone (rest_v v w with closed) (rest_w v w with closed) with.same.zone

  module _ (places : ℕ) (client : Client) (number : ℕ) (answer : Reply) (new : WithThreads) (is : step_by_hand places (Some w) (Pool number count blocks) ≡ answered (pool_by_hand 4 count blocks w)) (on : IsPoolOn count blocks v places client answer new) where
    pool_done : (stop : PoolStop) → on.report.stop ≡ stop → stop_for stop ≡ stop → rounds_for on.collector stop on.report.rounds ≡ on.collector.rounds → NoneFailed stop → on.ends ≡ on.ran.ends_after
        → GoesOn places (Some w) (Pool number count blocks) answer new
    pool_done stop stops same_stop rounds none left =
        let h = on.by_hand (rest_v v w with closed) in
        let rounds_are : rounds_for on.collector on.report.stop on.report.rounds ≡ 4 = ap (λ s. rounds_for on.collector s on.report.rounds) stops ∙ rounds ∙ on.rounds in
        let is_v : reservation_for on.collector count v.zone on.report ≡ at_v = λ i. reserved_by_hand (on.order i) (rounds_are i) count v.zone in
        let frames : frames_of on.report.got.items ≡ at_w.frames = h.frames ∙ ap (λ (r : Reservation). r.frames) is_v ∙ same_at.frames in
        let ran : on.report.rounds ≡ at_w.rounds = h.rounds ∙ ap (λ (r : Reservation). r.rounds) is_v ∙ same_at.rounds in
        let stopped : on.report.stop ≡ at_w.stop = stops ∙ sym same_stop ∙ ap stop_for (sym stops) ∙ h.stop ∙ ap (λ (r : Reservation). r.stop) is_v ∙ same_at.stop in
        let told : answer ≡ reservation_reply blocks at_w = on.answer_is ∙ (λ i. reply.Pool blocks (record { items = (told_frames blocks on.report.got.items ∙ ap (map (told_as blocks)) frames) i }) (ran i) (pool_stopped_as (stopped i))) in
        let zone_v : IsSame at_v.zone on.zone = subst (λ (r : Reservation). IsSame r.zone on.zone) is_v (h.zone_is (subst NoneFailed (sym stops) none)) in
        let zone_w : IsSame on.zone at_w.zone = same_trans on.zone at_v.zone at_w.zone (same_sym at_v.zone on.zone zone_v) same_at.zone in
        let rest_at_w = (reserved_rests (pool_order blocks) order.0 order.1 4 count w.zone (rest_w v w with closed)).rest in
        let none_out : out on.zone.records ≡ [] = zone_w.out_is ∙ rest_at_w.none_out in
        let whole = whole_left on.collector v.scan on.scan v.ends on.ends on.report with.orderly.whole on.ran left in
        let after : new ≡ left_by places client on.zone on.scan on.ends None = rw (audit_passes on.zone on.ends none_out whole) at on.left in
        done_as places (Some w) (Pool number count blocks) answer new (answered (pool_by_hand 4 count blocks w)) is told
        (rw after (refl, refl, closed_beside on.zone on.scan on.ends at_w.zone w.scan w.ends zone_w (record { valid = on.kept.valid; none_out = none_out }) whole rest_at_w with.orderly_by_hand.whole))

    -- the number of a refusal of a round
    of_round : (error : RoundError) → (31 ≤ number_of error) × (number_of error ≤ 34)
    of_round Memory = (omega arith, omega arith)
    of_round _ = (omega arith, omega arith)

    pool_failed : (error : RoundError) → on.report.stop ≡ pool_stop.Refused error → GoesOn places (Some w) (Pool number count blocks) answer new
    pool_failed error stops =
        let told : answer ≡ reply.Pool blocks (record { items = told_of blocks on.report.got.items }) on.report.rounds (pool_stopped.Refused (number_of error)) =
        on.answer_is ∙ ap (λ (s : PoolStop). reply.Pool blocks (record { items = told_of blocks on.report.got.items }) on.report.rounds (pool_stopped_as s)) stops in
        record { beside = NoLonger; step = inr (inr (subst (HasFailed (Pool number count blocks)) (sym told) (of_round error), refl)); related = tt }

    pool_goes : GoesOn places (Some w) (Pool number count blocks) answer new
    pool_goes = by_stop on.report.stop refl where
      by_stop : (stop : PoolStop) → on.report.stop ≡ stop → GoesOn places (Some w) (Pool number count blocks) answer new
      by_stop (pool_stop.Refused error) stops = pool_failed error stops
      by_stop stop stops = pool_done stop stops refl refl tt (rw stops at on.ran.left).1

-- work over a zone at rest

at_rest_parts : (zone : ℕ) (v : WorldState) → is_at_rest zone (Some v) ≡ true → (nat_eq zone v.zone.number ≡ true) × (v.is_open ≡ false)
at_rest_parts zone v rest = let both = and_parts (nat_eq zone v.zone.number) (not v.is_open) rest in (both.0, not-true v.is_open both.1)

work_is : (zone : ℕ) (work : WorldState → Answered) (w : WorldState) → nat_eq zone w.zone.number ≡ true → w.is_open ≡ false → work_by_hand zone work (Some w) ≡ answered (work w)
work_is zone work w here closed = λ i. if here i then answered (if closed i then refused 45 w else work w) else declined 43 (Some w)

round_follows : (places : ℕ) (client : Client) (zone : ℕ) (answer : Reply) (new : WithThreads) (v w : Option WorldState) → Beside v w → is_at_rest zone v ≡ true → IsWorkStep (Compact zone) v places client answer new
    → GoesOn places w (Compact zone) answer new
round_follows places client zone answer new (Some v) (Some w) with rest on =
    let parts = at_rest_parts zone v rest in
    round_goes v w with parts.1 places client zone answer new
    (work_is zone round_by_hand w (sym (ap (nat_eq zone) with.same.zone.number) ∙ parts.0) (sym with.same.is_open ∙ parts.1)) on
round_follows places client zone answer new (Some v) None with rest on = absurd with
round_follows places client zone answer new None w with rest on = absurd on

pool_follows : (places : ℕ) (client : Client) (zone count : ℕ) (blocks : PoolBlocks) → HasOrder blocks → (answer : Reply) (new : WithThreads) (v w : Option WorldState) → Beside v w → is_at_rest zone v ≡ true
    → IsWorkStep (Pool zone count blocks) v places client answer new → GoesOn places w (Pool zone count blocks) answer new
pool_follows places client zone count blocks order answer new (Some v) (Some w) with rest on =
    let parts = at_rest_parts zone v rest in
    pool_goes v w with parts.1 blocks order count places client zone answer new
    (work_is zone (pool_by_hand 4 count blocks) w (sym (ap (nat_eq zone) with.same.zone.number) ∙ parts.0) (sym with.same.is_open ∙ parts.1)) on
pool_follows places client zone count blocks order answer new (Some v) None with rest on = absurd with
pool_follows places client zone count blocks order answer new None w with rest on = absurd on

-- a command of one line where no zone is broken
module _ (places : ℕ) (range : (0 < places) × (places ≤ 65536)) (old : WithThreads) (world : Option WorldState) (same_places : old.single.places ≡ places) (with : Beside old.single.world world) where
  -- a round or a pool: at rest it works over the zone, and else it is refused
  by_rest : (c : Command) (answer : Reply) (new : WithThreads) (b : Bool) → (b ≡ true → IsWorkStep c old.single.world places old.client answer new → GoesOn places world c answer new)
      → (b ≡ false → StepsAlike (step places old.single.world c) (step_by_hand places world c)) → IsStepBy b old c answer new → GoesOn places world c answer new
  by_rest c answer new true follows alike on = follows refl (rw same_places at on)
  by_rest c answer new false follows alike on = alike_follows places old world c answer new same_places (alike refl) on.0 on.1

  reply_follows : (command : Command) (answer : Reply) (new : WithThreads) → IsNoBlock command → IsInRange command → IsStepBy (is_threaded command old.single.world) old command answer new
      → GoesOn places world command answer new
  reply_follows (Open zone blocks) answer new none ranged step =
      alike_follows places old world (Open zone blocks) answer new same_places (open_alike places range old.single.world world with zone blocks ranged) step.0 step.1
  reply_follows (On zone calls) answer new none ranged step =
      alike_follows places old world (On zone calls) answer new same_places (calls_on places range old.single.world world with zone calls ranged) step.0 step.1
  reply_follows (Compact zone) answer new none ranged step = by_rest (Compact zone) answer new (is_at_rest zone old.single.world)
      (λ rest on. round_follows places old.client zone answer new old.single.world world with rest on) (compact_alike old.single.world world with zone) step
  reply_follows (Pool zone count blocks) answer new none ranged step = by_rest (Pool zone count blocks) answer new (is_at_rest zone old.single.world)
      (λ rest on. pool_follows places old.client zone count blocks ranged answer new old.single.world world with rest on) (pool_alike old.single.world world with zone count blocks) step
  reply_follows (During number) answer new none ranged step = absurd none
  reply_follows c answer new none ranged step = alike_follows places old world c answer new same_places (record { reply = refl; world = with }) step.0 step.1

-- a command that isn't a block runs none
no_block : (c : Command) (world : Option WorldState) → IsNoBlock c → IsBlockFor c world → ⊥
no_block (During zone) world none block = none
no_block _ world none block = block

module _ (places : ℕ) where
  pub step_follows : (0 < places) × (places ≤ 65536) → (old : WithThreads) (b : Followed) (c : Numbered) (answers : List Answer) (new : WithThreads) → IsFollowable c → Follows places old b → IsThreadedStep old c answers new
      → Goes (IsByHandStep places) (Follows places) b c answers new
  step_follows range old NoLonger c answers new followable follows step = record { beside = NoLonger; step = refl; related = tt }
  step_follows range old (To world) c answers new followable follows (inl one) =
      let S : Option ℕ → Type 0 = λ o. IsStepAt o old c.command one.reply new in
      let goes_on = reply_follows places range old world follows.1 follows.2 c.command one.reply new followable.0 followable.1 (subst S follows.0 one.step) in
      record { beside = goes_on.beside; step = record { reply = one.reply; one = one.one; step = goes_on.step }; related = goes_on.related }
  step_follows range old (To world) c answers new followable follows (inr block) = absurd (no_block c.command old.single.world followable.0 block.block)

  opens_alike : (v w : Option WorldState) (c : Command) → Beside v w → IsTrue (opens v c) → IsTrue (opens w c)
  opens_alike None None c with t = t
  opens_alike (Some v) (Some w) c with t = t
  opens_alike _ _ c with t = absurd with

  pub asks_follows : (old : WithThreads) (b : Followed) (c : Numbered) → IsFollowable c → Follows places old b → AsksMemory old c.command → OpensByHand b c.command
  asks_follows old NoLonger c followable follows asks = tt
  asks_follows old (To world) c followable follows (whole, inl opened) = opens_alike old.single.world world c.command follows.2 opened
  asks_follows old (To world) c followable follows (whole, inr block) = absurd (no_block c.command old.single.world followable.0 block)
