-- Parts of lists that are replaced, and how many words are out.
use Rattle.std.proofs.Common.{◌≡◌, ◌⊎◌, ℕ, zero, suc, ◌+◌, ◌-◌, ◌≤◌, Bool, true, false, List, [], ◌∷◌, ◌++◌, length, take, drop, replicate, refl, sym, ap, ◌∙◌, arith, length-take, length-take-le, length-append, length-drop, take-append-drop, drop-drop, drop_at}
use Rattle.std.proofs.lemmas.List.{append_assoc, drop-append-le, take-append-le, take_at}
use mathlib.Core.Logic.{inl, inr}
use lib.ListN.{length-replicate}
use Rattle.row_core.specs.Owned.{count_out}
use Rattle.row_core.specs.Parts.{part, spliced, AreHere}

module _ {X : Type 0} (xs : List X) (from n : ℕ) where
  pub unspliced : spliced xs from n (part xs from n) ≡ xs
  unspliced =
      ap (λ (l : List X). take from xs ++ (part xs from n ++ l)) (sym (drop-drop n from xs))
      ∙ ap (λ (l : List X). take from xs ++ l) (take-append-drop n (drop from xs))
      ∙ take-append-drop from xs

  module _ (fits : from + n ≤ length xs) where
    pub part_long : length (part xs from n) ≡ n
    part_long = let rest = length-drop from xs in length-take-le n (drop from xs) (omega arith)

    pub front_long : length (take from xs) ≡ from
    front_long = length-take-le from xs (omega arith)

    pub spliced_long : (ws : List X) → length ws ≡ n → length (spliced xs from n ws) ≡ length xs
    spliced_long ws long =
        omega (arith, front_long, long, length-append (take from xs) (ws ++ drop (from + n) xs), length-append ws (drop (from + n) xs), length-drop (from + n) xs)

    pub rest_stays : (ws : List X) → length ws ≡ n → drop (from + n) (spliced xs from n ws) ≡ drop (from + n) xs
    rest_stays ws long =
        ap (drop (from + n)) (sym (append_assoc (take from xs) ws (drop (from + n) xs)))
        ∙ drop_at (take from xs ++ ws) (drop (from + n) xs) (from + n) (omega (arith, length-append (take from xs) ws, front_long, long))

    -- what is replaced twice is as if it had been replaced once
    pub spliced_again : (ws vs : List X) → length ws ≡ n → spliced (spliced xs from n ws) from n vs ≡ spliced xs from n vs
    spliced_again ws vs long =
        let rest = drop (from + n) xs in
        ap (λ (l : List X). l ++ (vs ++ drop (from + n) (spliced xs from n ws))) (take_at (take from xs) (ws ++ rest) from front_long)
        ∙ ap (λ (l : List X). take from xs ++ (vs ++ l)) (rest_stays ws long)

    -- what was replaced came back
    pub spliced_back : (ws : List X) → length ws ≡ n → spliced (spliced xs from n ws) from n (part xs from n) ≡ xs
    spliced_back ws long = spliced_again ws (part xs from n) long ∙ unspliced

count_append : (xs ys : List Bool) → count_out (xs ++ ys) ≡ count_out xs + count_out ys
count_append [] ys = omega arith
count_append (true ∷ xs) ys = omega (arith, count_append xs ys)
count_append (false ∷ xs) ys = omega (arith, count_append xs ys)

pub count_false : (n : ℕ) → count_out (replicate n false) ≡ n
count_false zero = refl
count_false (suc n) = ap suc (count_false n)

pub count_true : (n : ℕ) → count_out (replicate n true) ≡ 0
count_true zero = refl
count_true (suc n) = count_true n

pub count_most : (xs : List Bool) → count_out xs ≤ length xs
count_most [] = omega arith
count_most (true ∷ xs) = omega (arith, count_most xs)
count_most (false ∷ xs) = omega (arith, count_most xs)

pub none_out : (xs : List Bool) → count_out xs ≡ 0 → AreHere xs (length xs)
none_out [] none = refl
none_out (true ∷ xs) none = ap (λ (l : List Bool). true ∷ l) (none_out xs none)
none_out (false ∷ xs) none = absurd (omega (arith, none))

count_parts : (xs : List Bool) (from n : ℕ) (ws : List Bool) → count_out (spliced xs from n ws) ≡ count_out (take from xs) + (count_out ws + count_out (drop (from + n) xs))
count_parts xs from n ws = count_append (take from xs) (ws ++ drop (from + n) xs) ∙ ap (λ (k : ℕ). count_out (take from xs) + k) (count_append ws (drop (from + n) xs))

count_spliced : (xs : List Bool) (from n : ℕ) (ws : List Bool) → count_out (spliced xs from n ws) + count_out (part xs from n) ≡ count_out xs + count_out ws
count_spliced xs from n ws =
    omega (arith, count_parts xs from n ws, count_parts xs from n (part xs from n), ap count_out (unspliced xs from n))

-- a part that was here is out
pub count_lent : (xs : List Bool) (from n : ℕ) → AreHere (part xs from n) n → count_out (spliced xs from n (replicate n false)) ≡ count_out xs + n
count_lent xs from n here =
    omega (arith, count_spliced xs from n (replicate n false), ap count_out here, count_true n, count_false n)

-- a part that was out is here
pub count_back : (xs : List Bool) (from n : ℕ) → part xs from n ≡ replicate n false → count_out (spliced xs from n (replicate n true)) + n ≡ count_out xs
count_back xs from n out =
    omega (arith, count_spliced xs from n (replicate n true), ap count_out out, count_true n, count_false n)

pub out_least : (xs : List Bool) (from n : ℕ) → part xs from n ≡ replicate n false → n ≤ count_out xs
out_least xs from n out = omega (arith, count_back xs from n out)

take_true : (n k : ℕ) → n ≤ k → take n (replicate k true) ≡ replicate n true
take_true zero k fits = refl
take_true (suc n) zero fits = absurd (omega (arith, fits))
take_true (suc n) (suc k) fits = ap (λ (l : List Bool). true ∷ l) (take_true n k (omega (arith, fits)))

part_true : (k from n : ℕ) → from + n ≤ k → AreHere (part (replicate k true) from n) n
part_true k zero n fits = take_true n k (omega (arith, fits))
part_true zero (suc from) n fits = absurd (omega (arith, fits))
part_true (suc k) (suc from) n fits = part_true k from n (omega (arith, fits))

-- where all words are here, those of each part are
pub part_here : (xs : List Bool) (k from n : ℕ) → AreHere xs k → from + n ≤ k → AreHere (part xs from n) n
part_here xs k from n all fits = ap (λ (l : List Bool). part l from n) all ∙ part_true k from n fits

module _ {X : Type 0} (xs ws : List X) (from n at m : ℕ) (fits : from + n ≤ length xs) (same : length ws ≡ n) where
  part_before : at + m ≤ from → part (spliced xs from n ws) at m ≡ part xs at m
  part_before before =
      let front = take from xs in
      let enough : at ≤ length front = omega (arith, front_long xs from n fits, before) in
      let long : m ≤ length (drop at front) = omega (arith, front_long xs from n fits, before, length-drop at front) in
      let of = λ (l : List X) (rest : List X) (is : front ++ rest ≡ l). ap (λ (k : List X). take m (drop at k)) (sym is) ∙ ap (take m) (drop-append-le at front rest enough) ∙ take-append-le m (drop at front) rest long in
      of (spliced xs from n ws) (ws ++ drop (from + n) xs) refl ∙ sym (of xs (drop from xs) (take-append-drop from xs))

  part_after : from + n ≤ at → part (spliced xs from n ws) at m ≡ part xs at m
  part_after after =
      let more = at - (from + n) in
      let sum : from + n + more ≡ at = omega (arith, after) in
      let of = λ (l : List X). ap (λ (k : ℕ). take m (drop k l)) (sym sum) ∙ ap (take m) (sym (drop-drop more (from + n) l)) in
      of (spliced xs from n ws) ∙ ap (λ (l : List X). take m (drop more l)) (rest_stays xs from n fits ws same) ∙ sym (of xs)

  -- a part that lies beside the one that is replaced stays
  pub part_beside : (at + m ≤ from) ⊎ (from + n ≤ at) → part (spliced xs from n ws) at m ≡ part xs at m
  part_beside (inl before) = part_before before
  part_beside (inr after) = part_after after

-- a part of no words is replaced by none
none_spliced : {X : Type 0} (xs : List X) (from : ℕ) → spliced xs from 0 [] ≡ xs
none_spliced xs from = let same : from + 0 ≡ from = omega arith in ap (λ (k : ℕ). take from xs ++ drop k xs) same ∙ take-append-drop from xs

here_within : (xs : List Bool) (from n : ℕ) → AreHere (part xs from (suc n)) (suc n) → from + suc n ≤ length xs
here_within xs from n here =
    omega (arith, ap length here, length-replicate (suc n) true, length-take (suc n) (drop from xs), length-drop from xs)

-- a part beside one that is lent stays
pub lent_beside : (xs : List Bool) (from n at m : ℕ) → AreHere (part xs from n) n → (at + m ≤ from) ⊎ (from + n ≤ at) → part (spliced xs from n (replicate n false)) at m ≡ part xs at m
lent_beside xs from zero at m here beside = ap (λ (l : List Bool). part l at m) (none_spliced xs from)
lent_beside xs from (suc n) at m here beside = part_beside xs (replicate (suc n) false) from (suc n) at m (here_within xs from n here) (length-replicate (suc n) false) beside

came_back : (xs : List Bool) (from n : ℕ) → AreHere (part xs from n) n → spliced (spliced xs from n (replicate n false)) from n (replicate n true) ≡ xs
came_back xs from zero here = none_spliced (spliced xs from 0 []) from ∙ none_spliced xs from
came_back xs from (suc n) here =
    ap (spliced (spliced xs from (suc n) (replicate (suc n) false)) from (suc n)) (sym here)
    ∙ spliced_back xs from (suc n) (here_within xs from n here) (replicate (suc n) false) (length-replicate (suc n) false)

-- a part that was here was out, and is here
pub here_again : (xs ys zs : List Bool) (from n m : ℕ) → AreHere (part xs from n) n → ys ≡ spliced xs from n (replicate n false) → m ≡ n → zs ≡ spliced ys from m (replicate m true) → zs ≡ xs
here_again xs ys zs from n m here lent same back = back ∙ (λ i. spliced (lent i) from (same i) (replicate (same i) true)) ∙ came_back xs from n here
