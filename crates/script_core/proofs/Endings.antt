-- What clap's answer makes where it isn't options.
use Rattle.std.proofs.Common.{◌≡◌, ◌⊎◌, ◌&&◌, ℕ, Bool, true, false, IsTrue, List, [], ◌∷◌, take, refl, ap, subst, sym, ◌∙◌, inl, inr, arith, Option, Result, Ok, Err}
use Rattle.std.specs.Prelude.{IfErr, OnErr, OnOk}
use Rattle.std.specs.Io.KnownBytes.{Appends}
use Rattle.std.specs.List.{list_all, list_any}
use Rattle.std.proofs.lemmas.Bool.{or_parts, true≢false}
use Rattle.clap.specs.Kinds.{HasKind, IsAmong, Kinds}
use Rattle.clap.specs.Values.{kind_of}
use Rattle.clap.specs.declared.error.Error.{Error}
use Rattle.clap.specs.declared.error.kind.ErrorKind.{ErrorKind}
use Rattle.clap.specs.declared.error.kind.ErrorKind.TheVariants.{DisplayHelp, DisplayVersion, OutOfMemory}
use Rattle.script_core.specs.Status.{status_of}
use Rattle.script_core.specs.CommandLine.{is_help}
use Rattle.script_core.specs.Stops.{FailsIn}

among_no_help : (kinds : Kinds) (k : ErrorKind) → IsAmong k kinds → list_any is_help kinds ≡ false → is_help k ≡ false
among_no_help [] k among none = absurd among
among_no_help (x ∷ xs) k (inl same) none = ap is_help same ∙ (or_parts (is_help x) _ none).0
among_no_help (x ∷ xs) k (inr among) none = among_no_help xs k among (or_parts (is_help x) _ none).1

-- an answer whose kinds have no help among them isn't help
pub no_help : (kinds : Kinds) (e : Error) → HasKind kinds e → list_any is_help kinds ≡ false → is_help (kind_of e) ≡ false
no_help kinds e (inl memory) none = ap is_help memory
no_help kinds e (inr among) none = among_no_help kinds (kind_of e) among none

-- an answer that isn't help is a refusal, or memory ran out
refuses : (k : ErrorKind) → is_help k ≡ false → (status_of k ≡ 2) ⊎ (k ≡ OutOfMemory)
refuses DisplayHelp none = cc
refuses DisplayVersion none = cc
refuses OutOfMemory none = inr refl
refuses _ none = inl refl

pub refused : (k : ErrorKind) (status : ℕ) (M : Type 0) → status ≡ status_of k → is_help k ≡ false → (k ≡ OutOfMemory → M) → (status ≡ 2) ⊎ M
refused k status M is none memory = by_kind (refuses k none) where
  by_kind : (status_of k ≡ 2) ⊎ (k ≡ OutOfMemory) → (status ≡ 2) ⊎ M
  by_kind (inl two) = inl (is ∙ two)
  by_kind (inr lacks) = inr (memory lacks)

pub two_is_no_help : (k : ErrorKind) → status_of k ≡ 2 → is_help k ≡ false
two_is_no_help DisplayHelp two = cc
two_is_no_help DisplayVersion two = cc
two_is_no_help OutOfMemory two = cc
two_is_no_help _ two = refl

pub one_lacks_memory : (k : ErrorKind) → status_of k ≡ 1 → k ≡ OutOfMemory
one_lacks_memory OutOfMemory one = refl
one_lacks_memory _ one = cc

false_of_right : (a b : Bool) → b ≡ false → (a && b) ≡ false
false_of_right true b none = none
false_of_right false b none = refl

among_refused : (kinds : Kinds) (k : ErrorKind) → IsAmong k kinds → is_help k ≡ false → list_all is_help kinds ≡ false
among_refused [] k among none = absurd among
among_refused (x ∷ xs) k (inl same) none = ap (λ (b : Bool). b && list_all is_help xs) (ap is_help (sym same) ∙ none)
among_refused (x ∷ xs) k (inr among) none = false_of_right (is_help x) (list_all is_help xs) (among_refused xs k among none)

-- the status 2 isn't given to words that ask only for help
pub two_refuses : (kinds : Kinds) (e : Error) → HasKind kinds e → status_of (kind_of e) ≡ 2 → list_all is_help kinds ≡ false
two_refuses kinds e (inl memory) two = let bad : ◌≡◌ {A = ℕ} 1 2 = sym (ap status_of memory) ∙ two in absurd (omega arith)
two_refuses kinds e (inr among) two = among_refused kinds (kind_of e) among (two_is_no_help (kind_of e) two)

-- help gives the status 0
help_ends : (k : ErrorKind) → is_help k ≡ true → status_of k ≡ 0
help_ends DisplayHelp is = refl
help_ends DisplayVersion is = refl
help_ends _ is = cc

help_or : (b : Bool) (k : ErrorKind) (kinds : Kinds) → is_help k ≡ b → IsAmong k kinds → list_all is_help kinds ≡ true → status_of k ≡ 0
help_or true k kinds is among all = help_ends k is
help_or false k kinds is among all = absurd (true≢false (sym all ∙ among_refused kinds k among is))

-- words that ask only for help get it, or memory ran out
pub helped : (kinds : Kinds) (e : Error) (status : ℕ) (M : Type 0) → status ≡ status_of (kind_of e) → HasKind kinds e → list_all is_help kinds ≡ true → (kind_of e ≡ OutOfMemory → M) → (status ≡ 0) ⊎ M
helped kinds e status M is (inl lacks) all memory = inr (memory lacks)
helped kinds e status M is (inr among) all memory = inl (is ∙ help_or (is_help (kind_of e)) (kind_of e) kinds refl among all)

-- a line that was written was told, unless the writer failed
pub told : {T : Type 0} (r : Result T ℕ) (line bytes : List ℕ) (old new : Option (List ℕ)) (stuck : Bool) → bytes ≡ line → OnOk r (Appends old new bytes) → IfErr r (λ taken. Appends old new (take taken bytes)) → OnErr r (IsTrue stuck)
    → Appends old new line ⊎ FailsIn line old new stuck
told (Ok x) line bytes old new stuck is all part failed = let A : List ℕ → Type 0 = λ l. Appends old new l in inl (subst A is all)
told (Err taken) line bytes old new stuck is all part failed = let A : List ℕ → Type 0 = λ l. Appends old new (take taken l) in inr (record { failed = failed; taken = taken; written = subst A is part })
