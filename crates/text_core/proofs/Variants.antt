-- Facts about the variants of options and results.
use Rattle.std.proofs.Common.{◌≡◌, ℕ, false, IsTrue, List, refl, Option, Some, None, Result, Ok, Err}
use Rattle.std.specs.Prelude.{IfErr, IfSome, OnOk}

pub both_ok : {T E : Type 0} (r : Result T E) (P Q : Type 0) → OnOk r P → OnOk r Q → OnOk r (P × Q)
both_ok (Ok x) P Q p q = (p, q)
both_ok (Err e) P Q p q = tt

pub both_err : {T E : Type 0} (r : Result T E) (P Q : E → Type 0) → IfErr r P → IfErr r Q → IfErr r (λ e. P e × Q e)
both_err (Ok x) P Q p q = tt
both_err (Err e) P Q p q = (p, q)

-- what holds of a result by what is known where it is Ok, and where it is Err
pub by_result : {T E : Type 0} (F : Result T E → Type 0) {P : Type 0} {Q : E → Type 0} (r : Result T E) → OnOk r P → IfErr r Q → ((x : T) → P → F (Ok x)) → ((e : E) → Q e → F (Err e)) → F r
by_result F (Ok x) p q ok err = ok x p
by_result F (Err e) p q ok err = err e q

pub not_true : IsTrue false → ⊥
not_true t = cc

pub if_known : (o : Option (List ℕ)) (P : List ℕ → Type 0) → ((x : List ℕ) → o ≡ Some x → P x) → IfSome o P
if_known None P f = tt
if_known (Some x) P f = f x refl

-- what follows from known bytes
pub known_weaker : (o : Option (List ℕ)) (P Q : List ℕ → Type 0) → ((x : List ℕ) → o ≡ Some x → P x → Q x) → IfSome o P → IfSome o Q
known_weaker None P Q f p = tt
known_weaker (Some x) P Q f p = f x refl p
