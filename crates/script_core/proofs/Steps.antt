-- Each call keeps a world orderly, with the same number of pageblocks.
use Rattle.std.proofs.Common.{◌≡◌, ℕ, zero, suc, ◌+◌, ◌*◌, refl, ap, ◌∙◌, arith, Option, Some, None}
use Rattle.std.specs.Prelude.{nat_eq}
use Rattle.std.specs.List.{list_any}
use Rattle.frame_core.specs.declared.place.Address.{Address}
use Rattle.state_core.specs.declared.call.ZoneAnswer.{ZoneAnswer}
use Rattle.state_core.specs.declared.call.ZoneCall.{ZoneCall}
use Rattle.state_core.specs.declared.call.ZoneCall.TheVariants.{TakeOrder, GiveOrder}
use Rattle.state_core.specs.Looking.{look_of}
use Rattle.state_core.specs.Calls.{IsInRange, refusal_of, after}
use Rattle.state_core.proofs.Calls.{call_valid}
use Rattle.machine_core.specs.declared.finished.Finished.{Finished}
use Rattle.zone_core.specs.Seats.{seat_full}
use Rattle.machine_core.specs.World.{IsOrderly, WorldState, copy_step, finish_step, round_opened, scan_refusal, scan_stopped, shut_step, take_step, with_zone}
use Rattle.machine_core.proofs.Carrying.{call_leaves}
use Rattle.machine_core.proofs.HandsTaking.{orderly_copied, orderly_taken}
use Rattle.machine_core.proofs.MovesEnded.{orderly_finished, orderly_shut}
use Rattle.machine_core.proofs.Orderly.{orderly_isolated, orderly_noted, orderly_round_opened, orderly_with_zone}
use Rattle.text_core.specs.declared.command.Call.{Call}
use Rattle.text_core.specs.declared.command.Call.TheVariants.{Scan, Take, Copy, Finish, Shut, Look as LookAt, Huge, Give}
use Rattle.text_core.specs.declared.command.Repeated.{Repeated}
use Rattle.text_core.specs.declared.command.Repeated.TheVariants as repeated
use Rattle.text_core.specs.declared.reply.Reply.{Reply}
use Rattle.text_core.specs.declared.reply.Reply.TheVariants as reply
use Rattle.text_core.specs.Grammar.{address_of}
use Rattle.text_core.proofs.Ranges.{IsCallInRange}
use Rattle.machine_core.specs.Machine.{Answered, call_at, call_step, ending, page_step, reply_for, reply_for_huge, series_from, unless_refused, zone_step}
use Rattle.script_core.proofs.EitherAnswer.{copied_by, hand_by, looked_by, unless_by}
use Rattle.script_core.proofs.PagesMoved.{leaves_call}

-- a world after some calls is orderly and has the same number of pageblocks
pub record Keeps (w after : WorldState) : Type 0 where
  pub orderly : IsOrderly after
  pub blocks : after.zone.blocks ≡ w.zone.blocks

pub keeps_all : (w : WorldState) → IsOrderly w → Keeps w w
keeps_all w o = record { orderly = o; blocks = refl }

pub keeps_then : (a b c : WorldState) → Keeps a b → Keeps b c → Keeps a c
keeps_then a b c first second = record { orderly = second.orderly; blocks = second.blocks ∙ first.blocks }

-- the zone after a call that it doesn't refuse
pub keeps_zone : (w : WorldState) (call : ZoneCall 8) → IsOrderly w → IsInRange call → refusal_of call w.zone ≡ None → Keeps w (with_zone w (after call 0 w.zone))
keeps_zone w call o r accepted =
    let leaves = call_leaves call 0 w.zone in
    record {
      orderly = orderly_with_zone w (after call 0 w.zone) o (call_valid 8 call 0 w.zone o.valid r accepted) (λ serial. ap (list_any (nat_eq serial)) leaves.same_out) leaves.pages leaves.lent leaves.migrate leaves.free leaves.blocks;
      blocks = leaves.blocks;
    }

pub keeps_zone_step : (w : WorldState) → IsOrderly w → (call : ZoneCall 8) (told : ZoneAnswer → Reply) → IsInRange call → Keeps w (zone_step w call told).world
keeps_zone_step w o call told r = unless_by (λ a. Keeps w a.world) w (λ number. keeps_all w o) (refusal_of call w.zone) _ (λ accepted. keeps_zone w call o r accepted)

-- each other call
abbrev IsOrderlyAfter : Answered → Type 0
IsOrderlyAfter a = IsOrderly a.world

orderly_call : (w : WorldState) → IsOrderly w → (c : Call) → IsCallInRange c → IsOrderly (call_step w c).world
orderly_call w o Scan r =
    let opened = orderly_round_opened w o in
    unless_by IsOrderlyAfter (scan_stopped w) (λ number. orderly_noted (round_opened w) (seat_full (round_opened w).scan) opened) (scan_refusal w) _
    (λ accepted. orderly_isolated (round_opened w) opened refl accepted)
orderly_call w o (Take hand) r = hand_by IsOrderlyAfter w (λ number. o) _ (take_step w hand) (λ serial after e. orderly_taken w hand serial after r.0 r.1 o e)
orderly_call w o (Copy hand) r = copied_by IsOrderlyAfter w (λ number. o) (copy_step w hand) (λ after e. orderly_copied w hand after r.0 r.1 o e)
orderly_call w o (Finish hand) r = hand_by IsOrderlyAfter w (λ number. o) (λ (f : Finished). ending f.serial f.ended) (finish_step w hand) (λ finished after e. orderly_finished w hand finished after r.0 r.1 o e)
orderly_call w o Shut r = hand_by IsOrderlyAfter w (λ number. o) _ (shut_step w) (λ count after e. orderly_shut w count after o e)
orderly_call w o (LookAt a) r = looked_by IsOrderlyAfter w (λ number. o) (look_of w.zone a) (λ known. o)
orderly_call w o Huge r = (keeps_zone_step w o (TakeOrder 9) reply_for_huge (omega arith, omega arith)).orderly
orderly_call w o (Give block) r = (keeps_zone_step w o (GiveOrder (512 * block) 9) (λ _. reply.Done) tt).orderly
orderly_call w o _ r = o

pub keeps_call : (w : WorldState) → IsOrderly w → (c : Call) → IsCallInRange c → Keeps w (call_step w c).world
keeps_call w o c r = record { orderly = orderly_call w o c r; blocks = (leaves_call w c).blocks }

-- the call of a series at an address is in range
at_ranged : (c : Repeated) (a : Address) → IsInRange (call_at c a)
at_ranged repeated.Map a = tt
at_ranged repeated.Unmap a = tt

keeps_at : (w : WorldState) → IsOrderly w → (c : Repeated) (p : Option Address) → Keeps w (page_step c w p).world
keeps_at w o c None = keeps_all w o
keeps_at w o c (Some a) = keeps_zone_step w o (call_at c a) (reply_for (call_at c a)) (at_ranged c a)

pub keeps_page_step : (w : WorldState) → IsOrderly w → (c : Repeated) (s v : ℕ) → Keeps w (page_step c w (address_of s v)).world
keeps_page_step w o c s v = keeps_at w o c (address_of s v)

keeps_on : (w after : WorldState) (done : ℕ) (r : Reply) (rest : Answered) → Keeps w after → Keeps after rest.world → Keeps w (unless_refused done r after rest).world
keeps_on w after done (reply.Refused number) rest first second = first
keeps_on w after done _ rest first second = keeps_then w after rest.world first second

pub keeps_series : (c : Repeated) (s v further done n : ℕ) (w : WorldState) → IsOrderly w → Keeps w (series_from c s v further done n w).world
keeps_series c s v further done zero w o = keeps_all w o
keeps_series c s v further done (suc n) w o =
    let a : Answered = page_step c w (address_of s v) in
    let first = keeps_page_step w o c s v in
    keeps_on w a.world done a.reply (series_from c s (v + further) further (done + 1) n a.world) first (keeps_series c s (v + further) further (done + 1) n a.world first.orderly)
