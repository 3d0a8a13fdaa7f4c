-- Only the reply to a call for the counts of a zone has counts.
use Rattle.std.proofs.Common.{◌≡◌, ℕ, zero, suc, ◌+◌, ◌*◌, Bool, true, false, refl}
use Rattle.state_core.specs.declared.call.ZoneAnswer.{ZoneAnswer}
use Rattle.state_core.specs.declared.call.ZoneAnswer.TheVariants as zone_answer
use Rattle.state_core.specs.declared.call.ZoneCall.{ZoneCall}
use Rattle.state_core.specs.declared.call.ZoneCall.TheVariants.{TakeOrder, GiveOrder}
use Rattle.state_core.specs.declared.moves.Ended.{Ended}
use Rattle.state_core.specs.declared.moves.Ended.TheVariants as ended
use Rattle.state_core.specs.Looking.{look_of}
use Rattle.state_core.specs.Calls.{refusal_of, answer_of}
use Rattle.machine_core.specs.declared.finished.Finished.{Finished}
use Rattle.machine_core.specs.declared.scanned.Scanned.{Scanned}
use Rattle.machine_core.specs.declared.scanned.Scanned.TheVariants as scan
use Rattle.machine_core.specs.World.{WorldState, copy_step, finish_step, scan_answer, scan_refusal, scan_stopped, shut_step, take_step}
use Rattle.text_core.specs.declared.command.Call.{Call}
use Rattle.text_core.specs.declared.command.Call.TheVariants.{Info, InfoWithHeld, Scan, Take, Copy, Finish, Shut, Look as LookAt, Huge, Give}
use Rattle.text_core.specs.declared.command.Repeated.{Repeated}
use Rattle.text_core.specs.declared.reply.Reply.{Reply}
use Rattle.text_core.specs.declared.reply.Reply.TheVariants as reply
use Rattle.text_core.specs.Grammar.{address_of}
use Rattle.machine_core.specs.Machine.{Answered, call_step, ending, found, make_step, page_step, reply_for, series_from, unless_refused}
use Rattle.script_core.proofs.EitherAnswer.{copied_by, hand_by, looked_by, unless_by}

-- whether a reply has counts
abbrev pub has_counts : Reply → Bool
has_counts (reply.Info i) = true
has_counts (reply.InfoWithHeld i) = true
has_counts _ = false

-- whether a call asks for the counts of a zone
abbrev pub asks_counts : Call → Bool
asks_counts Info = true
asks_counts InfoWithHeld = true
asks_counts _ = false

-- or a value
abbrev pub has_value : Reply → Bool
has_value (reply.Value x) = true
has_value _ = false

abbrev HasNone : Answered → Type 0
HasNone a = has_counts a.reply ≡ false

plain_answer : (call : ZoneCall 8) (a : ZoneAnswer) → has_counts (reply_for call a) ≡ false
plain_answer call zone_answer.Done = refl
plain_answer call (zone_answer.Mapped page frame) = refl
plain_answer call (zone_answer.Value x) = refl
plain_answer (TakeOrder order) (zone_answer.Frame first) = refl
plain_answer call (zone_answer.Frame first) = refl

abbrev HasNeither : Answered → Type 0
HasNeither a = (has_counts a.reply ≡ false) × (has_value a.reply ≡ false)

neither_found : (s : Scanned) → (has_counts (found s) ≡ false) × (has_value (found s) ≡ false)
neither_found (scan.Serial serial) = (refl, refl)
neither_found scan.Met = (refl, refl)

neither_ending : (serial : ℕ) (e : Ended) → (has_counts (ending serial e) ≡ false) × (has_value (ending serial e) ≡ false)
neither_ending serial ended.Moved = (refl, refl)
neither_ending serial ended.Back = (refl, refl)

pub plain_make : (w : WorldState) (call : ZoneCall 8) → has_counts (make_step w call).reply ≡ false
plain_make w call = unless_by HasNone w (λ number. refl) (refusal_of call w.zone) _ (λ accepted. plain_answer call (answer_of call w.zone))

pub plain_call : (w : WorldState) (c : Call) → asks_counts c ≡ false → HasNeither (call_step w c)
plain_call w Info h = cc
plain_call w InfoWithHeld h = cc
plain_call w Scan h = unless_by HasNeither (scan_stopped w) (λ number. (refl, refl)) (scan_refusal w) _ (λ accepted. neither_found (scan_answer w))
plain_call w (Take hand) h = hand_by HasNeither w (λ number. (refl, refl)) (λ serial. reply.Serial serial) (take_step w hand) (λ serial after e. (refl, refl))
plain_call w (Copy hand) h = copied_by HasNeither w (λ number. (refl, refl)) (copy_step w hand) (λ after e. (refl, refl))
plain_call w (Finish hand) h = hand_by HasNeither w (λ number. (refl, refl)) (λ (f : Finished). ending f.serial f.ended) (finish_step w hand) (λ f after e. neither_ending f.serial f.ended)
plain_call w Shut h = hand_by HasNeither w (λ number. (refl, refl)) (λ count. reply.Shut count) (shut_step w) (λ count after e. (refl, refl))
plain_call w (LookAt a) h = looked_by HasNeither w (λ number. (refl, refl)) (look_of w.zone a) (λ known. (refl, refl))
plain_call w Huge h = unless_by HasNeither w (λ number. (refl, refl)) (refusal_of {W = 8} (TakeOrder 9) w.zone) _ (λ accepted. (refl, refl))
plain_call w (Give block) h = unless_by HasNeither w (λ number. (refl, refl)) (refusal_of {W = 8} (GiveOrder (512 * block) 9) w.zone) _ (λ accepted. (refl, refl))

plain_refused : (done : ℕ) (r : Reply) (w : WorldState) (rest : Answered) → HasNone rest → HasNone (unless_refused done r w rest)
plain_refused done (reply.Refused number) w rest h = refl
plain_refused done _ w rest h = h

pub plain_series : (c : Repeated) (s v further done n : ℕ) (w : WorldState) → has_counts (series_from c s v further done n w).reply ≡ false
plain_series c s v further done zero w = refl
plain_series c s v further done (suc n) w =
    let a : Answered = page_step c w (address_of s v) in
    plain_refused done a.reply a.world _ (plain_series c s (v + further) further (done + 1) n a.world)
