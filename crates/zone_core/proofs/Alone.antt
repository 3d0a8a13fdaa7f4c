-- Each step of a round keeps what the lock of a zone keeps that nobody else has.
use Rattle.std.proofs.Common.{◌≡◌, ◌⊎◌, ℕ, ◌<◌, ◌≤◌, [], length, inl, inr, refl, sym, ap, subst, ◌∙◌, arith, Some, None}
use Rattle.std.specs.FinMap as map
use Rattle.frame_core.specs.declared.record.Cause.{Cause}
use Rattle.frame_core.specs.History.{pins}
use Rattle.frame_core.specs.Moves.{isolated, out, put_back}
use Rattle.state_core.specs.declared.placement.Placement.TheVariants.{Moving}
use Rattle.state_core.specs.Ending.{moved_to_target, put_back_to_source, committed, HasCause}
use Rattle.state_core.specs.Valid.{IsValidZone}
use Rattle.state_core.specs.Rounds.{round_begun}
use Rattle.state_core.specs.ZoneState.{ZoneState}
use Rattle.state_core.proofs.Facts.{taken as if_true}
use Rattle.state_core.proofs.Holding.{at_rest}
use Rattle.state_core.proofs.Rounds.{valid_begun}
use Rattle.std.proofs.lemmas.Bool.{eq-eqb}
use Rattle.zone_core.specs.Alone.{IsSeenAs, IsAtRest, IsUnderWay, KeepsScanning, KeepsAlone}
use Rattle.zone_core.specs.ByHand.{scan_pair, scan_step, all_isolated, by_hand}
use Rattle.zone_core.specs.Outcome.{IsSame}
use Rattle.zone_core.proofs.Scanning.{by_scan, no_pin}
use Rattle.zone_core.proofs.Coming.{comes_begun, comes_scan, comes_move, comes_put_back, stopped_seen}
use Rattle.zone_core.proofs.ByHand.{exact}
use Rattle.zone_core.proofs.Same.{with_fingers}

under_way_begun : (start : ZoneState) → IsAtRest start → IsUnderWay start (round_begun start)
under_way_begun start rest = record { comes = comes_begun start rest; least = omega arith; fresh = λ e. refl }

-- the facts of `IsSame` don't look at the fingers, nor at how the latest round began
same_begun : (v z : ZoneState) → IsSame v (round_begun z) → IsSame v z
same_begun v z same = with_fingers v (round_begun z) same

-- a zone whose round has just begun is the same
begun_same : (z : ZoneState) → IsSame z (round_begun z)
begun_same z = record { number = refl; blocks = refl; spaces = refl; vpages = refl; page_size = refl; placement = refl; unmovable = refl; marked = refl; apart = refl; claimed = refl; handed_out = refl; contents = refl; lent = refl; lent_pages = refl; memory = refl; records = refl; length_is = refl; back = refl; out_is = refl; room = refl }

module _ (start : ZoneState) where
  -- the round begins where no page of it was isolated, and its scanner goes on where one was

  pub alone_begins : (z : ZoneState) → IsValidZone z → isolated z.records ≡ isolated start.records → KeepsAlone start z → KeepsScanning start (round_begun z)
  alone_begins z law at keeps rest = elim (keeps rest) [
    | inl e ↦ subst (λ (w : ZoneState). IsUnderWay start (round_begun w)) (sym e) (under_way_begun start rest)
    | inr under ↦ subst (λ (w : ZoneState). IsUnderWay start (round_begun w)) (sym (under.fresh at)) (under_way_begun start rest)
  ]

  pub alone_goes_on : (z : ZoneState) → IsValidZone z → isolated start.records < isolated z.records → KeepsAlone start z → KeepsScanning start z
  alone_goes_on z law more keeps rest = elim (keeps rest) [
    | inl e ↦ (let same = ap (λ (w : ZoneState). isolated w.records) e in absurd (omega arith))
    | inr under ↦ under
  ]

  pub alone_lets_go : (z : ZoneState) → KeepsScanning start z → KeepsAlone start z
  alone_lets_go z keeps rest = inr (keeps rest)

  -- a page is isolated, or the scanner stops

  pub alone_scans : (z : ZoneState) → IsValidZone z → KeepsScanning start z → KeepsScanning start (scan_step z)
  alone_scans z law keeps rest =
      let under = keeps rest in
      let least = under.least in
      record {
        comes = comes_scan start z law under.comes;
        least = by_scan z law (λ w. isolated start.records ≤ isolated w.records) (λ e. least) (λ pair t. omega arith);
        fresh = by_scan z law (λ w. isolated w.records ≡ isolated start.records → w ≡ round_begun start) (λ e. under.fresh) (λ pair t same. absurd (omega arith));
      }

  pub alone_stops : (z : ZoneState) → KeepsScanning start z → scan_pair z ≡ None → IsAtRest start → IsSeenAs z (all_isolated start)
  alone_stops z keeps none rest = stopped_seen start z (keeps rest).comes none

  -- no page is moving before the round, or where it has just begun

  never : (z : ZoneState) (page serial source target : ℕ) → IsAtRest start → z.placement ≡ start.placement → map.get z.placement page ≡ Some (Moving serial source target) → ⊥
  never z page serial source target rest e at = at_rest start rest.valid (ap length rest.none_out) page serial source target (sym (ap (λ m. map.get m page) e) ∙ at)

  -- a page is moved, or put back

  pub alone_unpinned : (z : ZoneState) (page serial source target : ℕ) → IsAtRest start → KeepsAlone start z → map.get z.placement page ≡ Some (Moving serial source target) → pins z.records page ≡ 0
  alone_unpinned z page serial source target rest keeps at = elim (keeps rest) [
    | inl e ↦ absurd (never z page serial source target rest (ap (λ (w : ZoneState). w.placement) e) at)
    | inr under ↦ no_pin z under.comes.carried page serial source target at
  ]

  pub alone_commits : (z : ZoneState) (page serial source target : ℕ) → IsValidZone z → map.get z.placement page ≡ Some (Moving serial source target) → KeepsAlone start z → KeepsAlone start (committed z serial page)
  alone_commits z page serial source target law at keeps rest = elim (keeps rest) [
    | inl e ↦ absurd (never z page serial source target rest (ap (λ (w : ZoneState). w.placement) e) at)
    | inr under ↦
        (let none = no_pin z under.comes.carried page serial source target at in
        let moves : committed z serial page ≡ moved_to_target z serial page = if_true _ _ _ (eq-eqb (pins z.records page) 0 none) in
        subst (λ (w : ZoneState). (w ≡ start) ⊎ IsUnderWay start w) (sym moves) (inr (record {
          comes = comes_move start z page serial source target law at under.comes;
          least = under.least;
          fresh = λ same. absurd (never z page serial source target rest (ap (λ (w : ZoneState). w.placement) (under.fresh same)) at);
        })))
  ]

  pub alone_puts_back : (z : ZoneState) (page serial source target : ℕ) (cause : Cause) → IsValidZone z → HasCause cause (pins z.records page) → map.get z.placement page ≡ Some (Moving serial source target) → KeepsAlone start z → KeepsAlone start (put_back_to_source z serial page cause)
  alone_puts_back z page serial source target cause law has at keeps rest = elim (keeps rest) [
    | inl e ↦ absurd (never z page serial source target rest (ap (λ (w : ZoneState). w.placement) e) at)
    | inr under ↦ inr (record {
      comes = comes_put_back start z page serial source target cause law has at under.comes;
      least = under.least;
      fresh = λ same. absurd (never z page serial source target rest (ap (λ (w : ZoneState). w.placement) (under.fresh same)) at);
    })
  ]

  -- the zone that the lock hands back is the one after the round by hand

  pub alone_exact : (z : ZoneState) → IsAtRest start → IsValidZone z → KeepsAlone start z → isolated z.records ≡ isolated (all_isolated start).records → out z.records ≡ [] → put_back z.records ≡ put_back start.records → IsSame (by_hand start) z
  alone_exact z rest law keeps count none back = elim (keeps rest) [
    | inl e ↦
        (let stays : isolated start.records ≡ isolated (all_isolated start).records = ap (λ (w : ZoneState). isolated w.records) (sym e) ∙ count in
        subst (IsSame (by_hand start)) (sym e) (same_begun (by_hand start) start (exact start (round_begun start) rest (valid_begun start rest.valid) (comes_begun start rest) stays rest.none_out refl)))
    | inr under ↦ exact start z rest law under.comes count none back
  ]

  -- and where no page was isolated, it is the same as before

  pub alone_unbegun : (z : ZoneState) → IsAtRest start → KeepsAlone start z → isolated z.records ≡ isolated start.records → IsSame start z
  alone_unbegun z rest keeps none = elim (keeps rest) [
    | inl e ↦ subst (IsSame start) (sym e) (same_begun start start (begun_same start))
    | inr under ↦ subst (IsSame start) (sym (under.fresh none)) (begun_same start)
  ]
