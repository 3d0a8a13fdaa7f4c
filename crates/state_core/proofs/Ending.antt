-- The move of a page ends: the page is in its target or in its source, and the other frame is free.
use Rattle.std.proofs.Common.{◌≡◌, ◌≢◌, ℕ, ◌+◌, ◌<◌, true, false, ◌∷◌, length, inl, refl, sym, ap, subst, ◌∙◌, arith, Option, Some, IsSomeAnd, IsTrue, nat_eq, ◌||◌, ◌↔◌}
use Rattle.std.specs.Prelude.{⊤}
use Rattle.std.specs.List.{list_any}
use Rattle.std.specs.FinMap as map
use Rattle.std.specs.FinSet as set
use Rattle.std.proofs.lemmas.Bool.{both_ways, eq-eqb, eqb-true, ne_eqb, or_left, or_right}
use Rattle.std.proofs.lemmas.Option.{same_Some}
use Rattle.frame_core.proofs.OnTheWay.{still_out, ended_out, length_without}
use Rattle.frame_core.specs.declared.record.Cause.{Cause}
use Rattle.frame_core.specs.declared.record.Cause.TheVariants.{Pinned, NotCopied}
use Rattle.frame_core.specs.declared.record.Record.{Record}
use Rattle.frame_core.specs.declared.record.Record.TheVariants.{Moved, Back}
use Rattle.frame_core.specs.History.{pins}
use Rattle.frame_core.specs.Moves.{out, is_out, without, page_of, IsWellEnded}
use Rattle.state_core.specs.declared.placement.Placement.{Placement}
use Rattle.state_core.specs.declared.placement.Placement.TheVariants.{At, Moving}
use Rattle.state_core.specs.Valid.{IsValidZone, is_under}
use Rattle.state_core.specs.Carrying.{relocated}
use Rattle.state_core.specs.Ending.{HasCause}
use Rattle.state_core.specs.ZoneState.{ZoneState, frame_count, takes_up, is_free}
use Rattle.state_core.proofs.Facts.{not_none}
use Rattle.state_core.proofs.Moving.{CanSettle, IsRecorded, moved_still, back_still}
use Rattle.state_core.proofs.Places.{IsOutWith, free_left, free_same, ways_of}

module _ (v : ZoneState) (page serial source target : ℕ) (law : IsValidZone v) (at : map.get v.placement page ≡ Some (Moving serial source target)) where
  abbrev way : Placement
  way = Moving serial source target

  -- the page is out under its serial
  known_out : IsOutWith v.records page serial
  known_out = (law.agrees.under_way page serial).0 (ap (λ (o : Option Placement). is_under o serial) at ∙ eq-eqb serial serial refl)

  pub frames_apart : source ≢ target
  frames_apart = law.pages.elsewhere page serial source target at

  takes_source : takes_up (Some way) source ≡ true
  takes_source = or_left _ _ (eq-eqb source source refl)

  takes_target : takes_up (Some way) target ≡ true
  takes_target = or_right (nat_eq target source) _ (eq-eqb target target refl)

  can_end : (frame : ℕ) → takes_up (Some way) frame ≡ true → CanSettle v page way (At frame)
  can_end frame had = record {
    valid = law;
    at = at;
    numbered = law.pages.numbered page (not_none _ way at);
    takes = λ g e. inl (ap (takes_up (Some way)) (eqb-true g frame e) ∙ had);
    elsewhere = λ s from to e. cc;
  }

  pub can_move_on : CanSettle v page way (At target)
  can_move_on = can_end target takes_target

  pub can_go_back : CanSettle v page way (At source)
  can_go_back = can_end source takes_source

  -- after a page was moved, only its source differs in being free
  pub moved_others : (entry : Record) (g : ℕ) → g ≢ source → is_free (relocated v entry page (At target)) g ≡ is_free v g
  moved_others entry g ne = free_same can_move_on g (ap (λ b. b || nat_eq g target) (ne_eqb g source ne))

  pub moved_source : (entry : Record) → is_free (relocated v entry page (At target)) source ≡ true
  moved_source entry = free_left can_move_on source takes_source (ne_eqb source target frames_apart)

  -- after a page was put back, only its target differs in being free
  pub back_target : (entry : Record) → is_free (relocated v entry page (At source)) target ≡ true
  back_target entry = free_left can_go_back target takes_target (ne_eqb target source (λ e. frames_apart (sym e)))

  pub source_within : source < frame_count v
  source_within = law.pages.within page source (ap (λ (o : Option Placement). takes_up o source) at ∙ takes_source)

  pub target_in : target < frame_count v
  target_in = law.pages.within page target (ap (λ (o : Option Placement). takes_up o target) at ∙ takes_target)

  pub out_fewer : length (without serial (out v.records)) + 1 ≡ length (out v.records)
  out_fewer = length_without v.records law.journal.well_ended serial known_out.0

  -- a serial that is out after an end is another one, and was out before
  was_out : (s : ℕ) → list_any (nat_eq s) (without serial (out v.records)) ≡ true → (s ≢ serial) × (is_out v.records s ≡ true)
  was_out s e =
      let apart : s ≢ serial = λ same. both_ways _ (ended_out serial (out v.records)) (ap (λ (n : ℕ). list_any (nat_eq n) (without serial (out v.records))) (sym same) ∙ e) in
      (apart, sym (still_out serial s (out v.records) apart) ∙ e)

  no_way : (s : ℕ) → list_any (nat_eq s) (without serial (out v.records)) ≡ true → page_of v.records s ≡ Some page → ⊥
  no_way s e of =
      let old = was_out s e in
      old.0 (sym (eqb-true serial s (sym (ap (λ (o : Option Placement). is_under o s) at) ∙ (law.agrees.under_way page s).1 (old.1, of))))

  other_ways : (q s : ℕ) → q ≢ page → IsOutWith v.records q s ↔ (IsTrue (list_any (nat_eq s) (without serial (out v.records))) × (page_of v.records s ≡ Some q))
  other_ways q s ne = (
    λ known. (still_out serial s (out v.records) (λ same. ne (same_Some q page (sym known.1 ∙ ap (page_of v.records) same ∙ known_out.1))) ∙ known.0, known.1),
    λ known. ((was_out s known.0).1, known.1),
  )

  pub moved_recorded : set.contains v.lent_pages page ≡ false → pins v.records page ≡ 0 → IsRecorded v (Moved serial) page (At target)
  moved_recorded here none =
      let room = law.journal.room_left in
      record {
        still = moved_still v.records serial;
        truthful = law.journal.truthful;
        well_ended = (record { under_way = known_out.0; page = subst (λ (o : Option ℕ). IsSomeAnd o (λ p. pins v.records p ≡ 0)) (sym known_out.1) none }, law.journal.well_ended);
        spare = omega (arith, out_fewer);
        room_left = omega (arith, out_fewer);
        here = here;
        own_way = λ s. (λ under. cc, λ known. absurd (no_way s known.0 known.1));
        other_ways = other_ways;
        ways = omega (arith, out_fewer, ap ways_of at);
      }

  ends_back : (cause : Cause) → HasCause cause (pins v.records page) → IsWellEnded (Back cause serial ∷ v.records)
  ends_back Pinned has = let E : Option ℕ → Type 0 = λ o. IsSomeAnd o (λ p. 0 < pins v.records p) in (record { under_way = known_out.0; page = subst E (sym known_out.1) has }, law.journal.well_ended)
  ends_back NotCopied has = let E : Option ℕ → Type 0 = λ o. IsSomeAnd o (λ p. ⊤) in (record { under_way = known_out.0; page = subst E (sym known_out.1) tt }, law.journal.well_ended)

  pub back_recorded : set.contains v.lent_pages page ≡ false → (cause : Cause) → HasCause cause (pins v.records page) → IsRecorded v (Back cause serial) page (At source)
  back_recorded here cause has =
      let room = law.journal.room_left in
      record {
        still = back_still v.records serial cause;
        truthful = law.journal.truthful;
        well_ended = ends_back cause has;
        spare = omega (arith, out_fewer);
        room_left = omega (arith, out_fewer);
        here = here;
        own_way = λ s. (λ under. cc, λ known. absurd (no_way s known.0 known.1));
        other_ways = other_ways;
        ways = omega (arith, out_fewer, ap ways_of at);
      }
