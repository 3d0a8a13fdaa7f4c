-- The page of a pair is isolated: how each table changes.
use Rattle.std.proofs.Common.{◌≡◌, ◌≢◌, ℕ, ◌<◌, Bool, true, false, List, length, ◌⊎◌, inl, inr, refl, sym, ap, ◌∙◌, arith}
use Rattle.std.specs.Prelude.{Some, None, slice_get, slice_set, nat_eq, ◌||◌, if◌then◌else◌}
use Rattle.std.proofs.lemmas.Bool.{eqb-false, or_parts, or_left, both_ways}
use Rattle.std.proofs.lemmas.Bool.Decides.{eqb_tells}
use Rattle.std.proofs.lemmas.List.{length-set}
use Rattle.frame_core.proofs.Lists.{slice_get_set_same, slice_get_set_other}
use Rattle.frame_core.specs.declared.state.FrameState.{FrameState}
use Rattle.frame_core.specs.declared.state.FrameState.TheVariants.{Source, Target}
use Rattle.state_core.specs.declared.placement.Placement.TheVariants.{At, Moving}
use Rattle.zone_tables.specs.Fits.{state_by, WordsFit}
use Rattle.state_core.specs.ZoneState.{ZoneState, frame_count}
use Rattle.zone_tables.proofs.Relocation.{FramesSettled, MovableSettled, WordsSettled}

-- two frames changed their states
pub record TwoSet (frames changed : List (FrameState ℕ)) (a b : ℕ) (x y : FrameState ℕ) : Type 0 where
  pub count : length changed ≡ length frames
  pub first : slice_get changed a ≡ Some x
  pub second : slice_get changed b ≡ Some y
  pub others : (g : ℕ) → g ≢ a → g ≢ b → slice_get changed g ≡ slice_get frames g

pub two_set : (frames : List (FrameState ℕ)) (a b : ℕ) (x y : FrameState ℕ) → a ≢ b → a < length frames → b < length frames → TwoSet frames (slice_set (slice_set frames a x) b y) a b x y
two_set frames a b x y apart a_in b_in = record {
  count = length-set (slice_set frames a x) b y ∙ length-set frames a x;
  first = slice_get_set_other (slice_set frames a x) b a y apart ∙ slice_get_set_same frames a a x refl a_in;
  second = slice_get_set_same (slice_set frames a x) b b y refl (omega (arith, length-set frames a x, b_in));
  others = λ g ne_a ne_b. slice_get_set_other (slice_set frames a x) b g y ne_b ∙ slice_get_set_other frames a g x ne_a;
}

module _ (frames : List (FrameState ℕ)) (page source target serial : ℕ) (apart : source ≢ target) (source_in : source < length frames) (target_in : target < length frames) where
  abbrev changed : List (FrameState ℕ)
  changed = slice_set (slice_set frames source (Source page)) target (Target page)

  two : TwoSet frames changed source target (Source page) (Target page)
  two = two_set frames source target (Source page) (Target page) apart source_in target_in

  by_test : (g : ℕ) (state : FrameState ℕ) → ((nat_eq g source ≡ true) × (g ≡ source)) ⊎ ((nat_eq g source ≡ false) × (g ≢ source)) → ((nat_eq g target ≡ true) × (g ≡ target)) ⊎ ((nat_eq g target ≡ false) × (g ≢ target)) → state_by page (Some (Moving serial source target)) g ≡ Some state → slice_get changed g ≡ Some state
  by_test g state (inl s) t e =
      ap (slice_get changed) s.1 ∙ two.first ∙ sym (ap (λ b. if b then Some (Source page) else if nat_eq g target then Some (Target page) else None) s.0) ∙ e
  by_test g state (inr s) (inl t) e =
      ap (slice_get changed) t.1 ∙ two.second ∙ sym (λ i. if s.0 i then Some (Source page) else if t.0 i then Some (Target page) else None) ∙ e
  by_test g state (inr s) (inr t) e =
      let bad : None ≡ Some state = sym (λ i. if s.0 i then Some (Source page) else if t.0 i then Some (Target page) else None) ∙ e in cc

  pub isolated_frames : FramesSettled frames changed page (At source) (Moving serial source target)
  isolated_frames = record {
    count = two.count;
    taken = λ g state e. by_test g state (eqb_tells g source) (eqb_tells g target) e;
    left = λ g had gone. absurd (both_ways _ gone (or_left _ _ had));
    kept = λ g off gone. two.others g (eqb-false g source off) (eqb-false g target (or_parts _ _ gone).1);
  }

pub isolated_words : (rows : List (List ℕ)) (v : ZoneState) → WordsFit rows v → (serial source target : ℕ) → source < frame_count v → target < frame_count v → WordsSettled v.page_size rows rows (At source) (Moving serial source target)
isolated_words rows v fit serial source target source_in target_in = record {
  count = refl;
  carried = refl;
  kept = λ g gone. refl;
  sized = λ g has. fit.sized g (elim (eqb_tells g source) [
    | inl s ↦ omega (arith, s.1, source_in)
    | inr s ↦ elim (eqb_tells g target) [
      | inl t ↦ omega (arith, t.1, target_in)
      | inr t ↦ (let bad : false ≡ true = sym (λ i. s.0 i || t.0 i) ∙ has in absurd (cc))
    ]
  ]);
}

pub isolated_movable : (movable : List Bool) (can : Bool) (serial source target : ℕ) → MovableSettled movable movable can (Moving serial source target)
isolated_movable movable can serial source target = record { count = refl; here = λ g e. cc; kept = λ g gone. refl }
