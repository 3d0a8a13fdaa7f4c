-- The commands of the beginning of an input are the first of its commands.
use Rattle.std.proofs.Common.{◌≡◌, ℕ, ◌+◌, Bool, true, false, cond, List, [], ◌∷◌, ◌++◌, refl, sym, ap, subst, Option, Some, None, Result, Ok, Err}
use Rattle.std.specs.Prelude.{nat_eq, ⊤}
use Rattle.std.specs.List.{AllByRecursion, onto_first}
use Rattle.text_core.specs.declared.fault.Fault.{Fault}
use Rattle.text_core.specs.declared.profile.Profile.TheVariants.{Untold}
use Rattle.text_core.specs.Script.{Came, Numbered, Reading, by, commands_from, commands_of, line_comes, onto, onto_commands, parts_of, reading_after}
use Rattle.text_core.proofs.Lines.{commands_by, parts_are}

-- what holds of all of a list holds of its first part
pub all_before : {A : Type 0} (P : A → Type 0) (xs ys : List A) → AllByRecursion P (xs ++ ys) → AllByRecursion P xs
all_before P [] ys all = tt
all_before P (x ∷ xs) ys all = (all.0, all_before P xs ys all.1)

-- all of these parts but the last are the first ones of the others, and there are at least as many others
abbrev Begin : List (List ℕ) → List (List ℕ) → Type 0
Begin [] all = ⊤
Begin (cut ∷ []) all = ⊤
Begin (text ∷ next ∷ parts) [] = ⊥
Begin (text ∷ next ∷ parts) (line ∷ []) = ⊥
Begin (text ∷ next ∷ parts) (line ∷ other ∷ all) = (text ≡ line) × Begin (next ∷ parts) (other ∷ all)

begin_onto : (b : ℕ) (parts all : List (List ℕ)) → Begin parts all → Begin (onto_first b parts) (onto_first b all)
begin_onto b [] all begin = tt
begin_onto b (cut ∷ []) all begin = tt
begin_onto b (text ∷ next ∷ parts) [] begin = absurd begin
begin_onto b (text ∷ next ∷ parts) (line ∷ []) begin = absurd begin
begin_onto b (text ∷ next ∷ parts) (line ∷ other ∷ all) begin = (ap (λ (t : List ℕ). b ∷ t) begin.0, begin.1)

-- both lists of parts with one more line in front
begin_newline : (parts all : List (List ℕ)) (first line : List ℕ) (others lines : List (List ℕ)) → parts ≡ first ∷ others → all ≡ line ∷ lines → Begin parts all → Begin ([] ∷ parts) ([] ∷ all)
begin_newline parts all first line others lines are are_all begin =
    let B : List (List ℕ) → List (List ℕ) → Type 0 = λ p q. Begin p q in
    let C : List (List ℕ) → List (List ℕ) → Type 0 = λ p q. Begin ([] ∷ p) ([] ∷ q) in
    let here : B (first ∷ others) (line ∷ lines) = subst (λ q. B (first ∷ others) q) are_all (subst (λ p. B p all) are begin) in
    subst (λ p. C p all) (sym are) (subst (λ q. C (first ∷ others) q) (sym are_all) (refl, here))

begins : (past rest : List ℕ) → Begin (parts_of past) (parts_of (past ++ rest))
begins [] rest = tt
begins (b ∷ past) rest = by_test (begins past rest) (nat_eq b 10) where
  by_test : Begin (parts_of past) (parts_of (past ++ rest)) → (t : Bool) → Begin (cond t ([] ∷ parts_of past) (onto_first b (parts_of past))) (cond t ([] ∷ parts_of (past ++ rest)) (onto_first b (parts_of (past ++ rest))))
  by_test begin true = let p = parts_are past in let q = parts_are (past ++ rest) in
      begin_newline (parts_of past) (parts_of (past ++ rest)) p.first q.first p.others q.others p.are q.are begin
  by_test begin false = begin_onto b (parts_of past) (parts_of (past ++ rest)) begin

-- the second list is the first one and then more
abbrev pub IsMore : List Numbered → List Numbered → Type 0
IsMore few many = (more : List Numbered) × (many ≡ few ++ more)

onto_one : (o : Option Numbered) (few many : List Numbered) → IsMore few many → IsMore (onto o few) (onto o many)
onto_one (Some c) few many more = (more.0, ap (λ (r : List Numbered). c ∷ r) more.1)
onto_one None few many more = more

onto_more : (came : Result Came Fault) (few many : List Numbered) → IsMore few many → IsMore (onto_commands came few) (onto_commands came many)
onto_more (Ok came) few many more = onto_one came.ended few many more
onto_more (Err fault) few many more = ([], refl)

more_commands : (q : Reading) (n : ℕ) (parts all : List (List ℕ)) → Begin parts all → IsMore (commands_from q n parts) (commands_from q n all)
more_commands q n [] all begin = (commands_from q n all, refl)
more_commands q n (cut ∷ []) all begin = (commands_from q n all, refl)
more_commands q n (text ∷ next ∷ parts) [] begin = absurd begin
more_commands q n (text ∷ next ∷ parts) (line ∷ []) begin = absurd begin
more_commands q n (text ∷ next ∷ parts) (line ∷ other ∷ all) begin =
    let came = line_comes q n text in
    let M : List ℕ → Type 0 = λ t. IsMore (commands_from q n (text ∷ next ∷ parts)) (commands_by q n (line_comes q n t) (other ∷ all)) in
    subst M begin.0 (onto_more came _ _ (more_commands (reading_after q came) (n + 1) (next ∷ parts) (other ∷ all) begin.1))

-- the commands of an input are those of its beginning, and then more
pub commands_begin : (past rest : List ℕ) → IsMore (commands_of past) (commands_of (past ++ rest))
commands_begin past rest = more_commands (by Untold) 1 (parts_of past) (parts_of (past ++ rest)) (begins past rest)

-- what holds of all commands of an input holds of those of its beginning
pub all_of_beginning : (P : Numbered → Type 0) (past rest : List ℕ) → AllByRecursion P (commands_of (past ++ rest)) → AllByRecursion P (commands_of past)
all_of_beginning P past rest all =
    let more = commands_begin past rest in
    all_before P (commands_of past) more.0 (subst (AllByRecursion P) more.1 all)
