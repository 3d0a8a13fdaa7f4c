-- Pools over the zone and the seats that a world was split into.
use Rattle.std.proofs.Common.{◌≡◌, ◌∙◌, ℕ, ◌+◌, ◌<◌, ◌≤◌, All, List, [], ◌∷◌, ◌++◌, length, drop, get_or, refl, sym, ap, subst, add-one, append_assoc, drop-cons, arith, Option, Some, None, Err}
use Rattle.std.specs.Prelude.{◌↔◌}
use Rattle.state_core.specs.declared.error.ZoneError.{ZoneError}
use Rattle.state_core.specs.ZoneState.{ZoneState}
use Rattle.zone_core.specs.Alone.{IsAtRest}
use Rattle.zone_core.specs.declared.seats.Seats.{Seats}
use Rattle.zone_core.specs.Seats.{ScanSeat, EndSeat, audit_refusal}
use Rattle.zone_core.specs.ZoneIdentity.{HasIdentity}
use Rattle.machine_core.specs.World.{WorldState}
use Rattle.round_core.specs.declared.round.Round.{Round}
use Rattle.round_core.specs.Kept.{LockInvariant}
use Rattle.round_core.specs.Rounds.{IsRefusedEarly}
use Rattle.huge_core.specs.declared.collector.Collector.{Collector}
use Rattle.huge_core.specs.declared.report.Report.{Report}
use Rattle.huge_core.specs.declared.report.Stop.{Stop}
use Rattle.huge_core.specs.declared.report.Stop.TheVariants as stop
use Rattle.huge_core.specs.ByHand.{IsReservedByHand}
use Rattle.huge_core.specs.Huge.{Huge}
use Rattle.huge_core.specs.Reserving.{AreRounds, HasRun, IsGot}
use Rattle.text_core.specs.declared.pool.PoolBlocks.{PoolBlocks}
use Rattle.text_core.specs.declared.reply.Reply.{Reply}
use Rattle.text_core.specs.Pool.{pool_order, told_as}
use Rattle.client_core.specs.Receipts.{Client}
use Rattle.script_core.specs.WithThreads.{IsPoolOn, IsSplit, SettlesAt, WithThreads, left_by, pool_reply, told_of}
use Rattle.script_core.proofs.Rounds.{settles}

-- the number of the block at an index, and those of the blocks after it
pub told_at : (blocks : PoolBlocks) (xs : List (Option Huge)) (i : ℕ) (x : Option Huge) → i < length xs → x ≡ get_or xs i x
    → told_of blocks (drop i xs) ≡ told_of blocks (x ∷ drop (i + 1) xs)
told_at blocks xs i x within is =
    let ahead : drop i xs ≡ get_or xs i x ∷ drop (i + 1) xs = rw (add-one, drop-cons xs i x) refl in
    ap (told_of blocks) ahead ∙ ap (λ (y : Option Huge). told_of blocks (y ∷ drop (i + 1) xs)) (sym is)

-- the numbers so far, and that of one more block
pub told_more : (blocks : PoolBlocks) (told told_new : List ℕ) (block : Huge) (rest : List (Option Huge)) → told_new ≡ told ++ told_as blocks block.frame ∷ []
    → told_new ++ told_of blocks rest ≡ told ++ told_of blocks (Some block ∷ rest)
told_more blocks told told_new block rest is =
    ap (λ (list : List ℕ). list ++ told_of blocks rest) is ∙ append_assoc told (told_as blocks block.frame ∷ []) (told_of blocks rest)

-- the end seat after rounds is whole where it was whole before them
pub whole_after : (rounds : List Round) (scan scan_new : ScanSeat) (ends ends_new : EndSeat) → ends.parts ≡ 64 → AreRounds rounds scan scan_new ends ends_new → ends_new.parts ≡ 64
whole_after [] scan scan_new ends ends_new whole ran = ap (λ (e : EndSeat). e.parts) ran.1 ∙ whole
whole_after (latest ∷ earlier) scan scan_new ends ends_new whole ran = ran.3.whole

-- after at least one round the end seat is whole, and its counts add up to the scan seat's
settled_after : (rounds : List Round) (scan scan_new : ScanSeat) (ends ends_new : EndSeat) → 0 < length rounds → AreRounds rounds scan scan_new ends ends_new
    → (64 ≤ ends_new.parts) × (ends_new.moved + ends_new.back ≡ scan_new.count)
settled_after [] scan scan_new ends ends_new some ran = absurd (omega (arith, some))
settled_after (latest ∷ earlier) scan scan_new ends ends_new some ran = let parts = ran.3.whole in (omega (arith, parts), ran.3.settled)

module _ (scan_old scan : ScanSeat) (ends_old ends : EndSeat) (refusal : Option ZoneError) (whole : ends_old.parts ≡ 64)
    (passes : 64 ≤ ends.parts → ends.moved + ends.back ≡ scan.count → refusal ≡ None) where
  -- an audit passes where a collector ran a round and stopped for another reason than a refused round
  kept_on : (c : Collector) (report : Report) (run : HasRun c scan_old scan ends_old ends report) → (scan ≡ run.scan_after) × (ends ≡ run.ends_after)
      → 0 < report.rounds → refusal ≡ None
  kept_on c report run same some =
      let count = run.count in
      let behind = settled_after run.rounds scan_old run.scan_after ends_old run.ends_after (omega (arith, some, count)) run.ran in
      passes (omega (arith, behind.0, ap (λ (e : EndSeat). e.parts) same.1))
      (ap (λ (e : EndSeat). e.moved + e.back) same.1 ∙ behind.1 ∙ sym (ap (λ (s : ScanSeat). s.count) same.0))

  pub pool_settles : (c : Collector) (report : Report) → HasRun c scan_old scan ends_old ends report → SettlesAt report.stop report.rounds → refusal ≡ None
  pool_settles c report run = by_stop report.stop refl where
    by_stop : (why : Stop) → report.stop ≡ why → SettlesAt why report.rounds → refusal ≡ None
    by_stop (stop.Refused error) is want =
        let early : IsRefusedEarly run.scan_after scan run.ends_after ends (Err error) = rw is at run.left in
        settles run.scan_after scan run.ends_after ends refusal (whole_after run.rounds scan_old run.scan_after ends_old run.ends_after whole run.ran) passes
        (Err error) tt early want
    by_stop _ is some = kept_on c report run (rw is at run.left) some

-- a pool over the zone and the seats that a world was split into
pub pool_done : {I N M B : Type 0} (w : WorldState) (client : Client) (places count : ℕ) (blocks : PoolBlocks) (zone_old zone : ZoneState) (seats_old seats : Seats I N M B)
    (collector : Collector) (report : Report) (answer : Reply) (new : WithThreads) → IsSplit w zone_old seats_old
    → collector.rounds ≡ 4 → collector.order ≡ pool_order blocks → LockInvariant zone → HasIdentity zone_old.number zone_old.blocks zone
    → All (IsGot collector.order) report.got.items → length report.got.items ≤ count
    → (report.stop ≡ stop.Enough) ↔ (length report.got.items ≡ count)
    → HasRun collector seats_old.scan seats.scan seats_old.ends seats.ends report
    → (64 ≤ seats.ends.parts → seats.ends.moved + seats.ends.back ≡ seats.scan.count → audit_refusal zone seats.ends ≡ None)
    → (IsAtRest zone_old → IsReservedByHand collector count zone_old zone report)
    → answer ≡ pool_reply blocks report → new ≡ left_by places client zone seats.scan seats.ends (audit_refusal zone seats.ends) → IsPoolOn count blocks w places client answer new
pool_done w client places count blocks zone_old zone seats_old seats collector report answer new split four order kept identity got most enough ran passes exact told left =
    record {
      zone = zone;
      kept = kept;
      identity = (identity.0 ∙ ap (λ (z : ZoneState). z.number) split.same_zone, identity.1 ∙ ap (λ (z : ZoneState). z.blocks) split.same_zone);
      scan = seats.scan;
      ends = seats.ends;
      report = report;
      collector = collector;
      rounds = four;
      ran = subst (λ s. HasRun collector s seats.scan w.ends seats.ends report) split.scan (subst (λ e. HasRun collector seats_old.scan seats.scan e seats.ends report) split.ends ran);
      order = order;
      got = got;
      most = most;
      enough = enough;
      settled = pool_settles seats_old.scan seats.scan seats_old.ends seats.ends (audit_refusal zone seats.ends) split.whole passes collector report ran;
      by_hand = subst (λ z. IsAtRest z → IsReservedByHand collector count z zone report) split.same_zone exact;
      answer_is = told;
      left = left;
    }
