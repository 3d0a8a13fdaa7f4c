-- The items of a list that pass a test, compared with another list, and where the two first differ.
use Rattle.std.proofs.Common.{◌≡◌, ◌≢◌, ℕ, zero, suc, refl, ◌+◌, ◌<◌, ◌≤◌, Bool, true, false, List, [], ◌∷◌, ◌++◌, length, get_or, take, drop, sym, ap, ◌∙◌, arith}
use Rattle.std.specs.Prelude.{Some, None, slice_get}
use Rattle.std.specs.List.{filter}
use Rattle.std.proofs.lemmas.Option.{slice_get_within, get_or_from_slice_get, slice_get-get_or, slice_get_past}
use Rattle.std.proofs.lemmas.List.{take_more, append-nil, length-take-le, take-append-drop, take_all}
use Rattle.std.proofs.lemmas.List.Elements.{filter-append, filter_more}
use Rattle.std.proofs.Math.Seq.{drop-cons, take-append_seam}
use Rattle.client_core.specs.Settling.{IsFirstDifference}

-- the first items of a list, with one more
take_next : {X : Type 0} (xs : List X) (i : ℕ) (x : X) → slice_get xs i ≡ Some x → take (i + 1) xs ≡ take i xs ++ x ∷ []
take_next xs i x at = take_more xs i x (slice_get_within xs i x at) ∙ ap (λ y. take i xs ++ y ∷ []) (get_or_from_slice_get xs i x x at)

drop_next : {X : Type 0} (xs : List X) (i : ℕ) (x : X) → slice_get xs i ≡ Some x → drop i xs ≡ x ∷ drop (i + 1) xs
drop_next xs i x at = grind (arith, drop-cons xs i x, slice_get_within xs i x at, get_or_from_slice_get xs i x x at)

filter_kept : {X : Type 0} (p : X → Bool) (x : X) (xs : List X) → p x ≡ true → filter p (x ∷ xs) ≡ x ∷ filter p xs
filter_kept p x xs passes = rw passes refl

-- the item after the end of the first list
slice_get-append : {X : Type 0} (xs rest : List X) (x : X) (n : ℕ) → length xs ≡ n → slice_get (xs ++ x ∷ rest) n ≡ Some x
slice_get-append [] rest x zero is = refl
slice_get-append [] rest x (suc n) is = cc
slice_get-append (y ∷ xs) rest x zero is = cc
slice_get-append (y ∷ xs) rest x (suc n) is = slice_get-append xs rest x n (omega arith)

-- the item that a loop is at
pub item_at : {X : Type 0} (xs : List X) (i : ℕ) (x : X) → i < length xs → x ≡ get_or xs i x → slice_get xs i ≡ Some x
item_at xs i x lt is = slice_get-get_or xs i x lt ∙ ap Some (sym is)

-- a list has an item at each index below its length
slice_get-Some : {X : Type 0} (xs : List X) (n : ℕ) → n < length xs → slice_get xs n ≢ None
slice_get-Some [] n lt none = omega arith
slice_get-Some (x ∷ xs) zero lt none = cc
slice_get-Some (x ∷ xs) (suc n) lt none = slice_get-Some xs n (omega arith) none

-- an item that fails leaves the items that pass as they are
pub filter-take_past : {X : Type 0} (p : X → Bool) (xs : List X) (i : ℕ) (x : X) → slice_get xs i ≡ Some x → p x ≡ false
    → filter p (take (i + 1) xs) ≡ filter p (take i xs)
filter-take_past p xs i x at fails = grind (arith, filter_more p xs i x, slice_get_within xs i x at, get_or_from_slice_get xs i x x at, append-nil (filter p (take i xs)))

-- an item that passes, and is the next one of the other list too
pub filter-take_next : {X : Type 0} (p : X → Bool) (xs ys : List X) (i n : ℕ) (x : X) → slice_get xs i ≡ Some x → p x ≡ true
    → filter p (take i xs) ≡ take n ys → slice_get ys n ≡ Some x → filter p (take (i + 1) xs) ≡ take (n + 1) ys
filter-take_next p xs ys i n x at passes same there = grind (arith, filter_more p xs i x, slice_get_within xs i x at, get_or_from_slice_get xs i x x at, take_next ys n x there)

-- an item that passes, and isn't the next one of the other list
pub differs_at : {X : Type 0} (p : X → Bool) (xs ys : List X) (i n : ℕ) (x : X) → slice_get xs i ≡ Some x → p x ≡ true
    → filter p (take i xs) ≡ take n ys → n ≤ length ys → slice_get ys n ≢ Some x → IsFirstDifference (filter p xs) ys n
differs_at p xs ys i n x at passes same le other =
    let rest = filter p (drop (i + 1) xs) in
    let tail : drop i xs ≡ x ∷ drop (i + 1) xs = drop_next xs i x at in
    let is : filter p xs ≡ take n ys ++ x ∷ rest =
    ap (filter p) (sym (take-append-drop i xs) ∙ ap (λ l. take i xs ++ l) tail) ∙ filter-append p (take i xs) (x ∷ drop (i + 1) xs)
    ∙ ap (λ l. l ++ filter p (x ∷ drop (i + 1) xs)) same ∙ ap (λ l. take n ys ++ l) (filter_kept p x (drop (i + 1) xs) passes) in
    let long : length (take n ys) ≡ n = length-take-le n ys le in
    let before : take n (filter p xs) ≡ take n ys =
    ap (take n) is ∙ ap (λ k. take k (take n ys ++ x ∷ rest)) (sym long) ∙ take-append_seam (take n ys) (x ∷ rest) in
    let here : slice_get (filter p xs) n ≡ Some x = ap (λ l. slice_get l n) is ∙ slice_get-append (take n ys) rest x n long in
    record { before = before; there = λ alike. other (sym alike ∙ here) }

-- one list is the beginning of another, which goes on
pub ends_early : {X : Type 0} (xs ys : List X) (n : ℕ) → xs ≡ take n ys → n < length ys → IsFirstDifference xs ys n
ends_early xs ys n is lt =
    let long : length (take n ys) ≡ n = length-take-le n ys (omega arith) in
    let over : length xs ≤ n = omega (arith, ap length is) in
    record {
      before = take_all n xs over ∙ is;
      there = λ alike. slice_get-Some ys n lt (sym alike ∙ slice_get_past xs n over);
    }

-- lists that differ at an index aren't the same
pub not_same : {X : Type 0} (xs ys : List X) (index : ℕ) → IsFirstDifference xs ys index → xs ≢ ys
not_same xs ys index differ same = differ.there (ap (λ l. slice_get l index) same)
