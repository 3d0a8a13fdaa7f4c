-- The page of a pair is isolated: it takes up its target besides its source.
use Rattle.std.proofs.Common.{◌≡◌, ◌≢◌, ℕ, ◌+◌, ◌<◌, true, false, ◌∷◌, length, inl, inr, refl, sym, ap, ◌∙◌, arith, Option, Some, nat_eq, ◌||◌}
use Rattle.std.specs.FinSet as set
use Rattle.std.proofs.Math.Bool.{or-false}
use Rattle.std.proofs.lemmas.Bool.{and_parts, both_ways, cond-true, cond-false, eq-eqb, eqb-true, ne_eqb, or_cases, or_left, or_right}
use Rattle.std.proofs.lemmas.Bool.Decides.{eqb_tells}
use Rattle.std.proofs.lemmas.Option.{same_Some}
use Rattle.frame_core.proofs.OnTheWay.{out_below, not_moving}
use Rattle.frame_core.specs.declared.record.Record.TheVariants.{Isolate}
use Rattle.frame_core.specs.History.{pins}
use Rattle.frame_core.specs.Moves.{isolated, out, is_out, page_of}
use Rattle.state_core.specs.declared.round.Pair.{Pair}
use Rattle.state_core.specs.declared.placement.Placement.{Placement}
use Rattle.state_core.specs.declared.placement.Placement.TheVariants.{At, Moving}
use Rattle.state_core.specs.Valid.{IsValidZone, is_under}
use Rattle.state_core.specs.Carrying.{relocated}
use Rattle.state_core.specs.Pairs.{IsPair}
use Rattle.state_core.specs.ZoneState.{ZoneState, frame_count, is_free}
use Rattle.state_core.proofs.Facts.{unpinned_here, not_none}
use Rattle.state_core.proofs.Moving.{CanSettle, IsRecorded, isolate_still}
use Rattle.state_core.proofs.Places.{IsOutWith, free_new, free_same, ways_of}

module _ (v : ZoneState) (pair : Pair) (law : IsValidZone v) (is : IsPair v pair.page pair.source pair.target) where
  abbrev serial_next : ℕ
  serial_next = isolated v.records

  abbrev way_next : Placement
  way_next = Moving serial_next pair.source pair.target

  pub target_within : pair.target < frame_count v
  target_within = omega (arith, is.to.high, law.fingers.ordered.1)

  pub can_isolate : CanSettle v pair.page (At pair.source) way_next
  can_isolate = record {
    valid = law;
    at = is.from.here;
    numbered = law.pages.numbered pair.page (not_none _ (At pair.source) is.from.here);
    takes = λ g e. elim (or_cases (nat_eq g pair.source) (nat_eq g pair.target) e) [
      | inl source ↦ inl source
      | inr target ↦ inr (ap (is_free v) (eqb-true g pair.target target) ∙ is.to.free, omega (arith, eqb-true g pair.target target, target_within))
    ];
    elsewhere = λ serial source target e same. (let low = is.to.low in let s : pair.source ≡ source = cc in let t : pair.target ≡ target = cc in absurd (omega arith));
  }

  -- after a page was isolated, only its target differs in being free
  pub isolated_others : (g : ℕ) → g ≢ pair.target → is_free (relocated v (Isolate pair.page serial_next) pair.page way_next) g ≡ is_free v g
  isolated_others g ne = free_same can_isolate g (sym (ap (λ b. nat_eq g pair.source || b) (ne_eqb g pair.target ne) ∙ or-false (nat_eq g pair.source)))

  pub isolated_target : is_free (relocated v (Isolate pair.page serial_next) pair.page way_next) pair.target ≡ false
  isolated_target = free_new can_isolate pair.target (or_right (nat_eq pair.target pair.source) _ (eq-eqb pair.target pair.target refl))

  -- no serial that is out is of the page that is to be isolated
  at_rest : (serial : ℕ) → is_out v.records serial ≡ true → page_of v.records serial ≡ Some pair.page → ⊥
  at_rest serial e under = both_ways _ (ap (λ (o : Option Placement). is_under o serial) is.from.here) ((law.agrees.under_way pair.page serial).1 (e, under))

  -- a page that is out under another serial than the new one was out before
  was_out : (q serial : ℕ) → serial_next ≢ serial → IsOutWith (Isolate pair.page serial_next ∷ v.records) q serial → IsOutWith v.records q serial
  was_out q serial ne way = (
    elim (or_cases (nat_eq serial serial_next) _ way.0) [ inl fresh ↦ absurd (ne (sym (eqb-true serial serial_next fresh))) | inr old ↦ old ],
    sym (cond-false _ (Some pair.page) (page_of v.records serial) (ne_eqb serial_next serial ne)) ∙ way.1,
  )

  -- the words of the page aren't lent
  pub pair_here : set.contains v.lent_pages pair.page ≡ false
  pair_here = unpinned_here v law pair.page pair.source is.from.here (eqb-true (pins v.records pair.page) 0 (and_parts _ _ is.from.movable).0)

  pub isolate_recorded : length (out v.records) + 1 < v.room → IsRecorded v (Isolate pair.page serial_next) pair.page way_next
  isolate_recorded room = record {
    still = isolate_still v.records serial_next pair.page;
    truthful = law.journal.truthful;
    well_ended = (
      refl,
      (let used = law.agrees.in_use pair.page (not_none _ (At pair.source) is.from.here) in
          record {
            in_use = used.0;
            here = not_moving v.records pair.page at_rest;
            unpinned = eqb-true (pins v.records pair.page) 0 (and_parts _ _ is.from.movable).0;
          }),
      law.journal.well_ended,
    );
    spare = omega arith;
    room_left = omega arith;
    here = pair_here;
    own_way = λ serial. (
      λ under. (or_left _ _ (eq-eqb serial serial_next (sym (eqb-true serial_next serial under))), cond-true _ (Some pair.page) (page_of v.records serial) under),
      λ way. elim (eqb_tells serial_next serial) [ inl same ↦ same.0 | inr other ↦ (let old = was_out pair.page serial other.1 way in absurd (at_rest serial old.0 old.1)) ],
    );
    other_ways = λ q serial ne. (
      λ way. (or_right _ _ way.0, cond-false _ (Some pair.page) (page_of v.records serial) (ne_eqb serial_next serial (λ same. let below = out_below v.records law.journal.well_ended serial way.0 in absurd (omega arith))) ∙ way.1),
      λ way. elim (eqb_tells serial_next serial) [
        | inl same ↦ absurd (ne (same_Some q pair.page (sym way.1 ∙ cond-true _ (Some pair.page) (page_of v.records serial) same.0)))
        | inr other ↦ was_out q serial other.1 way
      ],
    );
    ways = omega (arith, ap ways_of is.from.here);
  }
