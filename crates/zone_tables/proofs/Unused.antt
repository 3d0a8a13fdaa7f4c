-- The lowest number of a set.
use Rattle.std.proofs.Common.{◌≡◌, ℕ, ◌<◌, Bool, sym, ap, ◌∙◌}
use Rattle.std.specs.Prelude.{nat_lt, ◌&&◌, Some, None}
use Rattle.std.proofs.lemmas.Bool.{lt-ltb, ltb-true}
use Rattle.frame_core.proofs.Searches.{lowest_is, lowest_none, lowest_same}
use Rattle.frame_core.specs.Below.{lowest}
use Rattle.scan_core.proofs.Spanning.{both}
use Rattle.number_set.specs.Finds.{IsFirst, NoneAtAll}

-- of a set that has the numbers below n that pass, the first one is the lowest that passes
module _ (p r : ℕ → Bool) (n : ℕ) (each : (k : ℕ) → r k ≡ (nat_lt k n && p k)) where
  same_below : lowest r n ≡ lowest p n
  same_below = lowest_same r p n (λ k h. each k ∙ ap (λ b. b && p k) (lt-ltb k n h))

  pub first_is_lowest : (number : ℕ) → IsFirst r number → lowest p n ≡ Some number
  first_is_lowest number first =
      let below : number < n = ltb-true number n ((both (nat_lt number n) (p number) (sym (each number) ∙ first.passes)).0) in
      sym same_below ∙ lowest_is r n number below first.passes first.before

  pub none_is_lowest : NoneAtAll r → lowest p n ≡ None
  none_is_lowest none = sym same_below ∙ lowest_none r n (λ k h. none k)
