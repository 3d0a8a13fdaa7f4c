-- What a round beside a client adds to a journal, step by step.
use Rattle.std.proofs.Common.{◌≡◌, ℕ, Bool, true, false, ◌||◌, if◌then◌else◌, List, [], ◌∷◌, refl, sym, ap, subst, ◌∙◌, nat_eq}
use Rattle.frame_core.specs.declared.record.Cause.{Cause}
use Rattle.frame_core.specs.declared.record.Cause.TheVariants.{Pinned}
use Rattle.frame_core.specs.declared.record.Record.{Record}
use Rattle.frame_core.specs.declared.record.Record.TheVariants.{Isolate, Moved, Back}
use Rattle.frame_core.specs.History.{pins}
use Rattle.frame_core.specs.Moves.{isolated}
use Rattle.zone_core.specs.ByHand.{scan_step}
use Rattle.zone_core.proofs.Scanning.{by_scan}
use Rattle.state_core.specs.Ending.{committed, moved_to_target, put_back_to_source}
use Rattle.state_core.specs.Valid.{IsValidZone}
use Rattle.state_core.specs.ZoneState.{ZoneState}
use Rattle.round_core.specs.Calls.{IsAddedBeside, IsCall, is_of, is_of_round}

or_true : (b : Bool) → (b || true) ≡ true
or_true true = refl
or_true false = refl

pub either : {A : Type 0} (P : A → Type 0) (b : Bool) (x y : A) → P x → P y → P (if b then x else y)
either P true x y p q = p
either P false x y p q = q

-- nothing was added
pub added_none : (number : ℕ) (before : List Record) → IsAddedBeside number before before
added_none number before = record { added = []; is = refl; each = tt }

-- one record more
added_more : (number : ℕ) (before after : List Record) (entry : Record) → (is_of_round entry || is_of number entry) ≡ true
    → IsAddedBeside number before after → IsAddedBeside number before (entry ∷ after)
added_more number before after entry own so_far = record {
  added = entry ∷ so_far.added;
  is = ap (λ (records : List Record). entry ∷ records) so_far.is;
  each = (own, so_far.each);
}

-- the scanner isolates a page, or stops
pub added_scan : (number : ℕ) (before : List Record) (z : ZoneState) → IsValidZone z → IsAddedBeside number before z.records → IsAddedBeside number before (scan_step z).records
added_scan number before z law so_far =
    by_scan z law (λ w. IsAddedBeside number before w.records) (λ e. so_far) (λ pair t. added_more number before z.records (Isolate pair.page (isolated z.records)) refl so_far)

-- the move of a page ends
pub added_back : (number : ℕ) (before : List Record) (z : ZoneState) (page serial : ℕ) (cause : Cause) → IsAddedBeside number before z.records → IsAddedBeside number before (put_back_to_source z serial page cause).records
added_back number before z page serial cause so_far = added_more number before z.records (Back cause serial) refl so_far

pub added_commit : (number : ℕ) (before : List Record) (z : ZoneState) (page serial : ℕ) → IsAddedBeside number before z.records → IsAddedBeside number before (committed z serial page).records
added_commit number before z page serial so_far =
    either (λ (w : ZoneState). IsAddedBeside number before w.records) (nat_eq (pins z.records page) 0) (moved_to_target z serial page) (put_back_to_source z serial page Pinned)
    (added_more number before z.records (Moved serial) refl so_far)
    (added_back number before z page serial Pinned so_far)

-- the client makes a call
pub added_call : (number : ℕ) (before : List Record) (z z_new : ZoneState) (client : ℕ) → client ≡ number → IsCall client z z_new → IsAddedBeside number before z.records → IsAddedBeside number before z_new.records
added_call number before z z_new client same call so_far =
    let own : is_of number call.entry ≡ true = subst (λ (n : ℕ). is_of n call.entry ≡ true) same call.own in
    subst (IsAddedBeside number before) (sym call.more)
    (added_more number before z.records call.entry (ap (λ (b : Bool). is_of_round call.entry || b) own ∙ or_true (is_of_round call.entry)) so_far)
