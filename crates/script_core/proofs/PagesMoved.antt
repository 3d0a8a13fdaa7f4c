-- Scans, hands and ends of moves keep a world orderly, and change no address and no word.
use Rattle.std.proofs.Common.{◌≡◌, ℕ, ◌*◌, Bool, true, false, List, [], ◌∷◌, length, refl, ap, subst, ◌∙◌}
use Rattle.std.specs.Prelude.{Option, Some, None, nat_eq, unwrap_or, if◌then◌else◌}
use Rattle.std.specs.List.{list_all}
use Rattle.std.specs.Option.{option_and_then}
use Rattle.std.proofs.lemmas.Option.{same_Some, some_pair_parts}
use Rattle.frame_core.specs.declared.place.Address.{Address}
use Rattle.frame_core.specs.declared.record.Cause.TheVariants.{Pinned, NotCopied}
use Rattle.frame_core.specs.History.{page_at, last, pins}
use Rattle.frame_core.specs.Moves.{page_of}
use Rattle.state_core.specs.declared.round.Pair.{Pair}
use Rattle.state_core.specs.Ending.{moved_to_target, put_back_to_source}
use Rattle.state_core.specs.Pairs.{next_pair}
use Rattle.state_core.specs.Rounds.{round_begun}
use Rattle.state_core.specs.ZoneState.{ZoneState}
use Rattle.machine_core.specs.declared.finished.Finished.{Finished}
use Rattle.machine_core.specs.declared.hands.Held.{Held}
use Rattle.machine_core.specs.declared.hands.Held.TheVariants.{Nothing, Page, Copy}
use Rattle.machine_core.specs.Hands.{copy_held, is_nothing, page_held}
use Rattle.machine_core.specs.World.{WorldState, all_put_back, copy_step, finish_step, finished_as, finished_by, isolated_by, round_opened, scan_refusal, scan_stopped, scanned, shut, shut_step, take_step, taken_by, with_hand}
use Rattle.state_core.specs.Calls.{refusal_of}
use Rattle.state_core.specs.declared.call.ZoneCall.TheVariants.{TakeOrder, GiveOrder}
use Rattle.state_core.specs.Looking.{look_of}
use Rattle.text_core.specs.declared.command.Call.{Call}
use Rattle.text_core.specs.declared.command.Call.TheVariants.{Scan, Take, Copy as CopyBy, Finish, Shut, Look as LookAt, Huge, Give}
use Rattle.machine_core.specs.Machine.{Answered, call_step, ending, refused}
use Rattle.script_core.proofs.EitherAnswer.{copied_by, hand_by, looked_by, unless_by}

-- a call makes no address name another page, and stores nothing
pub record LeavesCells (z after : ZoneState) : Type 0 where
  pub blocks : after.blocks ≡ z.blocks
  pub names : (address : Address) → page_at after.records address ≡ page_at z.records address
  pub words : (page word : ℕ) → last after.records page word ≡ last z.records page word

pub leaves_all : (z : ZoneState) → LeavesCells z z
leaves_all z = record { blocks = refl; names = λ address. refl; words = λ page word. refl }

pub leaves_then : (a b c : ZoneState) → LeavesCells a b → LeavesCells b c → LeavesCells a c
leaves_then a b c first second = record {
  blocks = second.blocks ∙ first.blocks;
  names = λ address. second.names address ∙ first.names address;
  words = λ page word. second.words page word ∙ first.words page word;
}

-- a round begins, and a page is isolated
begun_leaves : (z : ZoneState) (is_open : Bool) → LeavesCells z (if is_open then z else round_begun z)
begun_leaves z true = leaves_all z
begun_leaves z false = record { blocks = refl; names = λ address. refl; words = λ page word. refl }

pub opened_leaves : (w : WorldState) → LeavesCells w.zone (round_opened w).zone
opened_leaves w = begun_leaves w.zone w.is_open

isolated_leaves : (w : WorldState) (pair : Option Pair) → LeavesCells w.zone (isolated_by w pair).zone
isolated_leaves w None = leaves_all w.zone
isolated_leaves w (Some pair) = record { blocks = refl; names = λ address. refl; words = λ page word. refl }

pub scanned_leaves : (w : WorldState) → LeavesCells w.zone (scanned w).zone
scanned_leaves w = leaves_then w.zone (round_opened w).zone (scanned w).zone (opened_leaves w) (isolated_leaves (round_opened w) (next_pair (round_opened w).zone))

-- a hand takes a page, and copies it
taken_zone : (w : WorldState) (k serial : ℕ) (after : WorldState) (hand : Held ℕ ℕ) (waiting : List ℕ) → taken_by w k hand waiting ≡ Some (serial, after) → w.zone ≡ after.zone
taken_zone w k serial after Nothing (first ∷ more) e = ap (λ (v : WorldState). v.zone) (some_pair_parts first serial (record (with_hand w k (Page first)) { waiting = more }) after e).1
taken_zone w k serial after Nothing [] e = cc
taken_zone w k serial after (Page s) waiting e = cc
taken_zone w k serial after (Copy s) waiting e = cc

pub taken_leaves : (w : WorldState) (k serial : ℕ) (after : WorldState) → take_step w k ≡ Some (serial, after) → LeavesCells w.zone after.zone
taken_leaves w k serial after e = subst (LeavesCells w.zone) (taken_zone w k serial after _ w.waiting e) (leaves_all w.zone)

pub copied_leaves : (w : WorldState) (k : ℕ) (after : WorldState) → copy_step w k ≡ Some after → LeavesCells w.zone after.zone
copied_leaves w k after e = by_page (page_held _) e where
  by_page : (o : Option ℕ) → option_and_then (λ serial. Some (with_hand w k (Copy serial))) o ≡ Some after → LeavesCells w.zone after.zone
  by_page None e = cc
  by_page (Some serial) e = subst (λ (v : WorldState). LeavesCells w.zone v.zone) (same_Some _ _ e) (leaves_all w.zone)

-- a move ends
pub finished_leaves : (w : WorldState) (k : ℕ) (finished : Finished) (after : WorldState) → finish_step w k ≡ Some (finished, after) → LeavesCells w.zone after.zone
finished_leaves w k finished after e = by_copy (copy_held _) e where
  by_pins : (serial page : ℕ) (b : Bool) → LeavesCells w.zone (if b then moved_to_target w.zone serial page else put_back_to_source w.zone serial page Pinned)
  by_pins serial page true = record { blocks = refl; names = λ address. refl; words = λ page word. refl }
  by_pins serial page false = record { blocks = refl; names = λ address. refl; words = λ page word. refl }

  by_copy : (o : Option ℕ) → option_and_then {U = Finished × WorldState} (λ serial. Some (finished_as w.zone serial, finished_by w k serial)) o ≡ Some (finished, after) → LeavesCells w.zone after.zone
  by_copy None e = cc
  by_copy (Some serial) e =
      subst (λ (v : WorldState). LeavesCells w.zone v.zone) (some_pair_parts _ finished (finished_by w k serial) after e).1
      (by_pins serial (unwrap_or (page_of w.zone.records serial) 0) (nat_eq (pins w.zone.records (unwrap_or (page_of w.zone.records serial) 0)) 0))

-- all pages that wait are put back
put_back_leaves : (serials : List ℕ) (z : ZoneState) → LeavesCells z (all_put_back z serials)
put_back_leaves [] z = leaves_all z
put_back_leaves (serial ∷ more) z =
    let next : ZoneState = put_back_to_source z serial (unwrap_or (page_of z.records serial) 0) NotCopied in
    leaves_then z next (all_put_back next more) (record { blocks = refl; names = λ address. refl; words = λ page word. refl }) (put_back_leaves more next)

pub shut_leaves : (w : WorldState) (count : ℕ) (after : WorldState) → shut_step w ≡ Some (count, after) → LeavesCells w.zone after.zone
shut_leaves w count after e = by_empty (list_all is_nothing w.hands) e where
  by_empty : (b : Bool) → if◌then◌else◌ {A = Option (ℕ × WorldState)} b (Some (length w.waiting, shut w)) None ≡ Some (count, after) → LeavesCells w.zone after.zone
  by_empty true e = subst (λ (v : WorldState). LeavesCells w.zone v.zone) (some_pair_parts _ count (shut w) after e).1 (put_back_leaves w.waiting w.zone)
  by_empty false e = cc

-- each other call
module _ (w : WorldState) where
  abbrev Leaves : Answered → Type 0
  Leaves a = LeavesCells w.zone a.world.zone

  refusal_leaves : (number : ℕ) → Leaves (refused number w)
  refusal_leaves number = leaves_all w.zone

  pub leaves_call : (c : Call) → Leaves (call_step w c)
  leaves_call Scan = unless_by Leaves (scan_stopped w) (λ number. opened_leaves w) (scan_refusal w) _ (λ accepted. scanned_leaves w)
  leaves_call (Take hand) = hand_by Leaves w refusal_leaves _ (take_step w hand) (taken_leaves w hand)
  leaves_call (CopyBy hand) = copied_by Leaves w refusal_leaves (copy_step w hand) (copied_leaves w hand)
  leaves_call (Finish hand) = hand_by Leaves w refusal_leaves (λ (f : Finished). ending f.serial f.ended) (finish_step w hand) (finished_leaves w hand)
  leaves_call Shut = hand_by Leaves w refusal_leaves _ (shut_step w) (shut_leaves w)
  leaves_call (LookAt a) = looked_by Leaves w refusal_leaves (look_of w.zone a) (λ known. leaves_all w.zone)
  leaves_call Huge = unless_by Leaves w refusal_leaves (refusal_of {W = 8} (TakeOrder 9) w.zone) _ (λ accepted. record { blocks = refl; names = λ address. refl; words = λ page word. refl })
  leaves_call (Give block) = unless_by Leaves w refusal_leaves (refusal_of {W = 8} (GiveOrder (512 * block) 9) w.zone) _ (λ accepted. record { blocks = refl; names = λ address. refl; words = λ page word. refl })
  leaves_call _ = leaves_all w.zone
