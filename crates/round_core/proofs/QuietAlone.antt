-- A round over a zone that nobody else has stays as quiet as it began.
use Rattle.std.proofs.Common.{◌≡◌, ℕ, ◌<◌, inl, inr, refl, sym, ap, subst, ◌∙◌, arith, Some}
use Rattle.std.specs.FinMap as map
use Rattle.std.proofs.lemmas.Bool.{cases_eq, eq-eqb}
use Rattle.frame_core.specs.declared.record.Cause.{Cause}
use Rattle.frame_core.specs.declared.record.Record.TheVariants.{Isolate, Moved}
use Rattle.frame_core.specs.History.{pins}
use Rattle.frame_core.specs.Moves.{isolated, put_back}
use Rattle.state_core.specs.declared.placement.Placement.TheVariants.{Moving}
use Rattle.state_core.specs.Ending.{committed, moved_to_target, put_back_to_source}
use Rattle.state_core.specs.Pairs.{is_calm}
use Rattle.state_core.specs.Rounds.{round_begun}
use Rattle.state_core.specs.Valid.{IsValidZone}
use Rattle.state_core.specs.ZoneState.{ZoneState, is_quiet}
use Rattle.state_core.proofs.Facts.{taken as if_true}
use Rattle.state_core.proofs.Quiet.{quiet_is_calm, quiet_kept}
use Rattle.zone_core.specs.Alone.{KeepsAlone, KeepsScanning}
use Rattle.zone_core.specs.ByHand.{scan_step}
use Rattle.zone_core.proofs.Alone.{alone_unpinned}
use Rattle.zone_core.proofs.Scanning.{by_scan}
use Rattle.round_core.specs.Alone.{IsAsQuiet, QuietAlone}

module _ (start : ZoneState) where
  pub quiet_begins : (z : ZoneState) → isolated z.records ≡ isolated start.records → QuietAlone start (round_begun z)
  quiet_begins z none rest more same = absurd (omega (arith, none, more))

  pub quiet_scans : (z : ZoneState) → IsValidZone z → KeepsScanning start z → QuietAlone start z → QuietAlone start (scan_step z)
  quiet_scans z law keeps quiet rest =
      let under = keeps rest in
      let least = under.least in
      by_scan z law (IsAsQuiet start) (λ e. quiet rest) (λ pair t more same.
      quiet_kept z.records (Isolate pair.page (isolated z.records)) z.round refl law.fingers.begun
      ∙ elim (cases_eq (isolated z.records) (isolated start.records)) [
        | inl none ↦ ap is_quiet (under.fresh none) ∙ quiet_is_calm start
        | inr some ↦ quiet rest (omega (arith, least, some)) same
      ])

  pub quiet_commits : (z : ZoneState) (page serial source target : ℕ) → IsValidZone z → map.get z.placement page ≡ Some (Moving serial source target)
      → KeepsAlone start z → QuietAlone start z → QuietAlone start (committed z serial page)
  quiet_commits z page serial source target law at keeps quiet rest =
      let none = alone_unpinned start z page serial source target rest keeps at in
      let moves : committed z serial page ≡ moved_to_target z serial page = if_true _ _ _ (eq-eqb (pins z.records page) 0 none) in
      subst (IsAsQuiet start) (sym moves) (λ more same. quiet_kept z.records (Moved serial) z.round refl law.fingers.begun ∙ quiet rest more same)

  pub quiet_puts_back : (z : ZoneState) (page serial : ℕ) (cause : Cause) → KeepsAlone start z → QuietAlone start (put_back_to_source z serial page cause)
  quiet_puts_back z page serial cause keeps rest more same = elim (keeps rest) [
    | inl e ↦ (let none = ap (λ (w : ZoneState). isolated w.records) e in absurd (omega (arith, none, more)))
    | inr under ↦ (let least = under.comes.least in absurd (omega (arith, least, same)))
  ]
