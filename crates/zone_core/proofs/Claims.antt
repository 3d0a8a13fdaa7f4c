-- The frames of a run are claimed, or their claims dropped, one after the other.
use Rattle.std.proofs.Common.{◌≡◌, ℕ, suc, ◌+◌, ◌≤◌, true, false, not, ◌&&◌, ◌||◌, sym, subst, ap, ◌∙◌, arith, inl, inr, None, nat_le, nat_lt}
use Rattle.std.specs.FinSet as set
use Rattle.std.specs.Cmp.{nat_cmp_total}
use Rattle.std.specs.Ordering.{nat_cmp}
use Rattle.std.proofs.Math.Bool.{or-false}
use Rattle.std.proofs.lemmas.Bool.{cond-true, cond-false}
use Rattle.std.proofs.lemmas.Bool.Decides.{eqb_tells, nat_tests}
use Rattle.frame_core.proofs.Searches.{count_from_most}
use Rattle.fewest_core.specs.Claims.{claimed_frames}
use Rattle.state_core.specs.Claiming.{claimed_at, dropped_at, is_claimed, run_claimed, run_dropped, with_run, without_run}
use Rattle.state_core.specs.Valid.{IsValidZone}
use Rattle.state_core.specs.ZoneState.{ZoneState, is_free, is_handed_out, is_used}
use Rattle.state_core.proofs.Claiming.{with_run_has}
use Rattle.state_core.proofs.Entries.{contains_remove_same, contains_remove_other}

-- the number after a run isn't in it
next_out : (first n : ℕ) → (nat_le first (first + n) && nat_lt (first + n) (first + n)) ≡ false
next_out first n = grind (arith, nat_tests)

-- the frames below one of a run are done
pub record IsClaiming (first n : ℕ) (old z : ZoneState) : Type 0 where
  pub same : z ≡ run_claimed first n old
  pub valid : IsValidZone z

module _ (first n : ℕ) (old z : ZoneState) (is : IsClaiming first n old z) where
  has_next : set.contains (with_run (is_free old) old.claimed first n) (first + n) ≡ is_claimed old (first + n)
  has_next = with_run_has (is_free old) old.claimed first n (first + n) ∙ ap (λ b. is_claimed old (first + n) || (b && is_free old (first + n))) (next_out first n) ∙ or-false (is_claimed old (first + n))

  free_next : is_free z (first + n) ≡ is_free old (first + n)
  free_next = ap (λ (u : ZoneState). is_free u (first + n)) is.same ∙ ap (λ b. not (is_used old (first + n)) && not (is_handed_out old (first + n) || b)) has_next

  pub claimed_next : (w : ZoneState) → is_free z (first + n) ≡ true → w ≡ claimed_at z (first + n) → IsValidZone w → IsClaiming first (n + 1) old w
  claimed_next w free e valid = let same : n + 1 ≡ suc n = omega arith in subst (λ (k : ℕ). IsClaiming first k old w) (sym same) (record {
    same = e ∙ ap (λ (u : ZoneState). claimed_at u (first + n)) is.same
        ∙ ap (λ (s : set.FinSet nat_cmp). record old { claimed = s; round = None }) (sym (cond-true (is_free old (first + n)) (set.insert (with_run (is_free old) old.claimed first n) (first + n)) (with_run (is_free old) old.claimed first n) (sym free_next ∙ free)));
    valid = valid;
  })

  pub claimed_none : is_free z (first + n) ≡ false → IsClaiming first (n + 1) old z
  claimed_none taken = let same : n + 1 ≡ suc n = omega arith in subst (λ (k : ℕ). IsClaiming first k old z) (sym same) (record {
    same = is.same ∙ ap (λ (s : set.FinSet nat_cmp). record old { claimed = s; round = None }) (sym (cond-false (is_free old (first + n)) (set.insert (with_run (is_free old) old.claimed first n) (first + n)) (with_run (is_free old) old.claimed first n) (sym free_next ∙ taken)));
    valid = is.valid;
  })

-- the claims below a frame of a run are dropped
pub record IsDropping (first n : ℕ) (old z : ZoneState) : Type 0 where
  pub same : z ≡ run_dropped first n old
  pub valid : IsValidZone z

module _ (first n : ℕ) (old z : ZoneState) (is : IsDropping first n old z) where
  pub dropped_next : (w : ZoneState) → w ≡ dropped_at z (first + n) → IsValidZone w → IsDropping first (n + 1) old w
  dropped_next w e valid = let same : n + 1 ≡ suc n = omega arith in subst (λ (k : ℕ). IsDropping first k old w) (sym same) (record { same = e ∙ ap (λ (u : ZoneState). dropped_at u (first + n)) is.same; valid = valid })

  -- a number that a set doesn't have isn't taken out
  removed_none : set.contains (without_run old.claimed first n) (first + n) ≡ false → set.remove (without_run old.claimed first n) (first + n) ≡ without_run old.claimed first n
  removed_none none = set.same_set nat_cmp_total set.nat_cmp-IsAntisymmetric _ _ (λ k. elim (eqb_tells k (first + n)) [
    | inl same ↦ contains_remove_same _ (first + n) k same.1 ∙ sym (ap (set.contains (without_run old.claimed first n)) same.1 ∙ none)
    | inr other ↦ contains_remove_other _ (first + n) k other.1
  ])

  pub dropped_none : is_claimed z (first + n) ≡ false → IsDropping first (n + 1) old z
  dropped_none none = let same : n + 1 ≡ suc n = omega arith in subst (λ (k : ℕ). IsDropping first k old z) (sym same) (record {
    same = is.same ∙ ap (λ (s : set.FinSet nat_cmp). record old { claimed = s; round = None }) (sym (removed_none (sym (ap (λ (u : ZoneState). is_claimed u (first + n)) is.same) ∙ none)));
    valid = is.valid;
  })

-- at most all frames of a run are claimed
pub all_claimed : (first size : ℕ) (z : ZoneState) → size ≤ claimed_frames first size z → claimed_frames first size z ≡ size
all_claimed first size z most = let few = count_from_most (is_claimed z) first size in omega (arith, few, most)
