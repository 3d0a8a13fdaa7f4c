-- Truth values.
use mathlib.Core.Bool.{beq}
use Rattle.std.proofs.Common.{◌≡◌, Bool, true, false, not, refl, arith}
use Rattle.std.specs.Prelude.{◌&&◌, ◌||◌, if◌then◌else◌}
pub use Rattle.std.proofs.Math.Bool.{and-true as and_true}

pub clash : (b : Bool) → b ≡ true → b ≡ false → ⊥
clash true e f = cc
clash false e f = cc

pub insert_if : (b x m : Bool) → m ≡ true → (b || x) ≡ (if b then m else x)
insert_if b x m e = grind (arith, e)

pub remove_if : (b x m : Bool) → m ≡ false → (not b && x) ≡ (if b then m else x)
remove_if b x m e = grind (arith, e)

-- of two truth values that differ each is the other one's opposite
pub other : (a b : Bool) → not (beq a b) ≡ true → a ≡ not b
other true true e = cc
other true false e = refl
other false true e = refl
other false false e = cc

pub twice : (b : Bool) → not (not b) ≡ b
twice true = refl
twice false = refl
