-- What holds of each end of a queue, after a step of one of them.
use Rattle.std.proofs.Common.{◌≡◌, ◌≢◌, ℕ, zero, suc, List, [], ◌∷◌, ◌++◌, length, set, sym, subst, ⊎_elim}
use mathlib.Core.Option.{some, some-ne-none, some-injective}
use lib.ListN.{get_elem?}
use Rattle.atomic_table.proofs.Lists.{at_set}
use Rattle.hand_core.specs.Queue.{Each}

-- it holds of each end after one of them changed
pub each_set : {V : Type 0} (holds : ℕ → V → Type 0) (ends : List V) (number : ℕ) (w : V) → holds number w
    → ((other : ℕ) (u : V) → other ≢ number → get_elem? ends other ≡ some u → holds other u) → Each (set ends number w) holds
each_set {V} holds ends number w this others other u at =
    ⊎_elim
    (λ (x : (other ≡ number) × (w ≡ u)). subst (λ (y : ℕ × V). holds y.0 y.1) (λ i. (sym x.0 i, x.1 i)) this)
    (λ (x : (other ≢ number) × (get_elem? ends other ≡ some u)). others other u x.0 x.1)
    (at_set ends number other w u at)

-- it holds of each end after one was added as the last
pub each_new : {V : Type 0} (holds : ℕ → V → Type 0) (ends : List V) (new : V) → Each ends holds → holds (length ends) new → Each (ends ++ new ∷ []) holds
each_new holds [] new old fresh zero u at = subst (holds 0) (some-injective new u at) fresh
each_new holds [] new old fresh (suc number) u at = absurd (some-ne-none u (sym at))
each_new holds (v ∷ ends) new old fresh zero u at = old 0 u at
each_new holds (v ∷ ends) new old fresh (suc number) u at = each_new (λ k. holds (suc k)) ends new (λ k. old (suc k)) fresh number u at
