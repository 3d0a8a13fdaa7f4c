-- What a call answered, and a test that failed.
use Rattle.std.proofs.Common.{◌≡◌, ℕ, Bool, true, false, refl, ap}
use Rattle.std.specs.Prelude.{Option, Some, None, IsSome, IfSome, ◌&&◌}

pub some_is : (o : Option ℕ) (i : ℕ) → IsSome o → IfSome o (λ z. z ≡ i) → o ≡ Some i
some_is None i s e = cc
some_is (Some z) i s e = ap Some e

-- both tests don't hold where the second doesn't
pub skipped_and : (a b : Bool) → b ≡ false → (a && b) ≡ false
skipped_and true b e = e
skipped_and false b e = refl
