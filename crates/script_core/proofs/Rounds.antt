-- The steps of a machine with threads.
use Rattle.std.proofs.Common.{◌≡◌, ℕ, ◌+◌, ◌≤◌, ◌⊎◌, true, List, refl, sym, ap, subst, ◌∙◌, inl, inr, arith, Option, Some, None, Result, Ok, Err}
use Rattle.std.specs.Prelude.{IfOk, OnOk}
use Rattle.std.proofs.lemmas.Bool.Decides.{nat_tests}
use Rattle.frame_core.specs.Moves.{isolated}
use Rattle.zone_core.specs.ByHand.{by_hand}
use Rattle.zone_core.specs.Outcome.{IsSame}
use Rattle.state_core.specs.declared.error.ZoneError.{ZoneError}
use Rattle.state_core.specs.ZoneState.{ZoneState}
use Rattle.zone_core.specs.declared.seats.Seats.{Seats}
use Rattle.zone_core.specs.Seats.{ScanSeat, EndSeat, audit_refusal}
use Rattle.zone_core.specs.ZoneIdentity.{HasIdentity}
use Rattle.machine_core.specs.World.{WorldState, world_closed}
use Rattle.round_core.specs.declared.error.RoundError.{RoundError}
use Rattle.round_core.specs.declared.round.Round.{Round}
use Rattle.round_core.specs.Calls.{IsAddedBeside}
use Rattle.round_core.specs.Kept.{LockInvariant}
use Rattle.round_core.specs.Rounds.{IsBroken, IsRefusedEarly, IsRound, stop_by_hand}
use Rattle.huge_core.proofs.StoppedByHand.{unbroken, wanting}
use Rattle.text_core.specs.declared.command.Command.{Command}
use Rattle.text_core.specs.declared.command.Command.TheVariants.{During}
use Rattle.text_core.specs.declared.reply.Reply.{Reply}
use Rattle.text_core.specs.Grammar.{zone_of}
use Rattle.client_core.specs.Receipts.{Client}
use Rattle.text_core.specs.Script.{Answer, ClientLine, Numbered}
use Rattle.script_core.specs.WithThreads.{ComesToByHand, IsBlockFor, IsNothingRun, IsRoundBeside, IsRoundOver, IsSplit, IsStepBy, IsThreadedStep, IsTurnBeside, IsUnstarted, IsWorkOn, Settles, WithThreads, is_threaded, left_by}
use Rattle.machine_core.specs.OneThread.{is_at_rest, number_is_at_rest}

-- a command that uses threads
pub threaded_step : (old : WithThreads) (command : Command) (answer : Reply) (new : WithThreads) (w : WorldState) (places : ℕ) (client : Client)
    → old.single.world ≡ Some w → is_threaded command (Some w) ≡ true → places ≡ old.single.places → client ≡ old.client
    → IsWorkOn command w places client answer new → IsStepBy (is_threaded command old.single.world) old command answer new
threaded_step old command answer new w places client is threaded same_places same_client on =
    rw (is, threaded) (rw (same_places, same_client) at on)

-- the machine where its zone passes the audit, and where the zone doesn't
pub left_whole : (places : ℕ) (client : Client) (zone zone_new : ZoneState) (scan scan_new : ScanSeat) (ends ends_new : EndSeat) (refusal : Option ZoneError) (new : WithThreads)
    → refusal ≡ None → zone_new ≡ zone → scan_new ≡ scan → ends_new ≡ ends → new.single.places ≡ places
    → new.single.world ≡ Some (world_closed zone_new scan_new ends_new) → new.broken ≡ None → new.client ≡ client → new ≡ left_by places client zone scan ends refusal
left_whole places client zone zone_new scan scan_new ends ends_new refusal new passes same_zone same_scan same_ends same_places world none same_client =
    let there : new.single.world ≡ Some (world_closed zone scan ends) = rw (same_zone, same_scan, same_ends) at world in
    rw passes (λ i. record { single = record { places = same_places i; world = there i }; broken = none i; client = same_client i })

pub left_broken : (places : ℕ) (client : Client) (zone : ZoneState) (scan : ScanSeat) (ends : EndSeat) (error : ZoneError) (refusal : Option ZoneError) (new : WithThreads)
    → refusal ≡ Some error → new.single.places ≡ places → new.single.world ≡ None → new.broken ≡ Some zone.number → new.client ≡ client → new ≡ left_by places client zone scan ends refusal
left_broken places client zone scan ends error refusal new refused same_places none number same_client =
    rw refused (λ i. record { single = record { places = same_places i; world = none i }; broken = number i; client = same_client i })

-- numbers that can't differ are equal
stable : (n m : ℕ) → ((n ≡ m → ⊥) → ⊥) → n ≡ m
stable n m twice = grind (arith, nat_tests)

-- seats that weren't broken before a round that wasn't begun pass an audit after it
module _ (scan_old scan : ScanSeat) (ends_old ends : EndSeat) (refusal : Option ZoneError) (whole : ends_old.parts ≡ 64)
    (passes : 64 ≤ ends.parts → ends.moved + ends.back ≡ scan.count → refusal ≡ None) where
  unbegun_passes : (IsBroken scan_old ends_old → ⊥) → (scan ≡ scan_old) × (ends ≡ ends_old) → refusal ≡ None
  unbegun_passes unbroken same =
      let settled : ends_old.moved + ends_old.back ≡ scan_old.count = stable _ _ (λ differs. unbroken (inr differs)) in
      passes (omega (arith, ap (λ (e : EndSeat). e.parts) same.1, whole))
      (ap (λ (e : EndSeat). e.moved + e.back) same.1 ∙ settled ∙ ap (λ (s : ScanSeat). s.count) (sym same.0))

  pub settles : (result : Result Round RoundError) → IfOk result (λ r. IsRound scan_old scan ends_old ends r) → IsRefusedEarly scan_old scan ends_old ends result
      → Settles result → refusal ≡ None
  settles (Ok r) round early is = (let parts = round.whole in passes (omega (arith, parts)) round.settled)
  settles (Err error) round early want = unbegun_passes (unbroken error scan_old scan ends_old ends early want) (early.same (early.want want))

-- what the clauses of a round over a zone that nobody else has say of the round by hand
pub came_by_hand : (zone zone_new : ZoneState) (scan scan_new : ScanSeat) (ends ends_new : EndSeat) (result : Result Round RoundError) → OnOk result (IsSame (by_hand zone) zone_new)
    → IfOk result (λ r. isolated zone.records + r.count ≡ isolated (by_hand zone).records) → IfOk result (λ r. r.back ≡ 0) → IfOk result (λ r. r.stopped ≡ stop_by_hand zone)
    → ((IsBroken scan ends → ⊥) → scan_new.rounds ≡ scan.rounds → IsSame zone zone_new) → IfOk result (λ r. IsRound scan scan_new ends ends_new r) → IsRefusedEarly scan scan_new ends ends_new result
    → ComesToByHand zone zone_new result
came_by_hand zone zone_new scan scan_new ends ends_new (Ok r) exact count none_back stopped unbegun round early =
    let sum = round.sum in
    record { same = exact; count = omega (arith, count); moved = omega (arith, count, none_back, sum); none_back = none_back; stopped = stopped }
came_by_hand zone zone_new scan scan_new ends ends_new (Err error) exact count none_back stopped unbegun round early =
    wanting error zone zone_new scan scan_new ends ends_new early unbegun

-- a round over the zone and the seats that a world was split into
abbrev pub round_over : {I N M B : Type 0} (w : WorldState) (zone_old zone : ZoneState) (seats_old seats : Seats I N M B) (result : Result Round RoundError)
    → IsSplit w zone_old seats_old → LockInvariant zone → HasIdentity zone_old.number zone_old.blocks zone
    → IfOk result (λ r. IsRound seats_old.scan seats.scan seats_old.ends seats.ends r) → IsRefusedEarly seats_old.scan seats.scan seats_old.ends seats.ends result
    → (64 ≤ seats.ends.parts → seats.ends.moved + seats.ends.back ≡ seats.scan.count → audit_refusal zone seats.ends ≡ None) → IsRoundOver w
round_over w zone_old zone seats_old seats result split kept identity round early passes =
    record {
      zone = zone;
      kept = kept;
      identity = (identity.0 ∙ ap (λ (z : ZoneState). z.number) split.same_zone, identity.1 ∙ ap (λ (z : ZoneState). z.blocks) split.same_zone);
      scan = seats.scan;
      ends = seats.ends;
      result = result;
      round = rw (split.scan, split.ends) at round;
      early = rw (split.scan, split.ends) at early;
      settled = settles seats_old.scan seats.scan seats_old.ends seats.ends (audit_refusal zone seats.ends) split.whole passes result round early;
    }

-- a block is for the open zone
pub block_for : (number zone : ℕ) (world : Option WorldState) (w : WorldState)
    → zone_of number ≡ Some zone → world ≡ Some w → is_at_rest zone (Some w) ≡ true → IsBlockFor (During number) world
block_for number zone world w is there closed =
    ap (λ (z : Option ℕ). number_is_at_rest z world) is ∙ ap (is_at_rest zone) there ∙ closed

-- a turn of this machine's client, with the lines of this block
pub turn_of : (w : WorldState) (old : WithThreads) (c : Numbered) (places : ℕ) (client : Client) (lines : List ClientLine) (told : List Answer) (own : Reply) (new : WithThreads)
    → places ≡ old.single.places → client ≡ old.client → lines ≡ c.clients
    → IsTurnBeside w places client lines told own new → IsTurnBeside w old.single.places old.client c.clients told own new
turn_of w old c places client lines told own new same_places same_client same_lines turn =
    rw (same_places, same_client, same_lines) at turn

-- what ran over a world ran for the machine that gave the world away
module _ (w : WorldState) (old given : WithThreads) (c : Numbered) (answers : List Answer) (new : WithThreads)
    (places : given.single.places ≡ old.single.places) (client : given.client ≡ old.client) where
  round_beside : IsRoundBeside w given c answers new → IsRoundBeside w old c answers new
  round_beside b = record {
    told = b.told;
    own = b.own;
    answers_are = b.answers_are;
    turn = turn_of w old c given.single.places given.client c.clients b.told b.own new places client refl b.turn;
  }

  unstarted : IsUnstarted w given c answers new → IsUnstarted w old c answers new
  unstarted u = let nothing = u.nothing in record {
    one = u.one;
    nothing = record {
      zone = nothing.zone;
      added = subst (λ (k : Client). IsAddedBeside k.number w.zone.records nothing.zone.records) client nothing.added;
      kept = nothing.kept;
      identity = nothing.identity;
      left = nothing.left ∙ (λ i. left_by (places i) (client i) nothing.zone w.scan w.ends (audit_refusal nothing.zone w.ends));
    };
  }

  pub block_step : old.single.world ≡ Some w → old.broken ≡ None → IsBlockFor c.command old.single.world
      → IsRoundBeside w given c answers new ⊎ IsUnstarted w given c answers new → IsThreadedStep old c answers new
  block_step there whole block (inl b) = inr (record { world = w; there = there; whole = whole; block = block; ran = inl (round_beside b) })
  block_step there whole block (inr u) = inr (record { world = w; there = there; whole = whole; block = block; ran = inr (unstarted u) })

-- nothing ran over the zone and the seats that a world was split into
pub nothing_ran : {I N M B : Type 0} (w : WorldState) (old new : WithThreads) (zone_old zone : ZoneState) (seats_old seats : Seats I N M B)
    → IsSplit w zone_old seats_old → (seats.scan ≡ seats_old.scan) × (seats.ends ≡ seats_old.ends)
    → (client : Client) → client ≡ old.client → IsAddedBeside client.number zone_old.records zone.records → LockInvariant zone → HasIdentity zone_old.number zone_old.blocks zone
    → new ≡ left_by old.single.places old.client zone seats.scan seats.ends (audit_refusal zone seats.ends) → IsNothingRun w old new
nothing_ran w old new zone_old zone seats_old seats split same client same_client added kept identity left =
    let scans : seats.scan ≡ w.scan = same.0 ∙ split.scan in
    let ends_are : seats.ends ≡ w.ends = same.1 ∙ split.ends in
    record {
      zone = zone;
      added = rw (same_client, split.same_zone) at added;
      kept = kept;
      identity = (identity.0 ∙ ap (λ (z : ZoneState). z.number) split.same_zone, identity.1 ∙ ap (λ (z : ZoneState). z.blocks) split.same_zone);
      left = left ∙ (λ i. left_by old.single.places old.client zone (scans i) (ends_are i) (audit_refusal zone (ends_are i)));
    }
