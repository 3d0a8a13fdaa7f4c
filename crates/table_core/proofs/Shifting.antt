-- The front part of an array, after an item was put into it or taken out of it, and those after it were moved.
use Rattle.std.proofs.Common.{◌≡◌, ℕ, ◌+◌, ◌-◌, ◌<◌, ◌≤◌, List, [], ◌∷◌, ◌++◌, length, take, drop, get_or, sym, ap, ◌∙◌, arith, length-drop, length-take-le, length-append, append_assoc, take-take}
use Rattle.std.specs.Prelude.{slice_set, insert, remove}
use Rattle.std.specs.List.{copy_within}
use Rattle.std.proofs.lemmas.List.{same_lists, places, set_at, set-append_left, take_at, take_more, drop-take}

pub shifted_in : {X : Type 0} (all : List X) (place count : ℕ) (x : X) → place ≤ count → count < length all →
    take (count + 1) (slice_set (copy_within all place count (place + 1)) place x) ≡ insert (take count all) place x
shifted_in all place count x within room =
    let head = take place all in
    let moved = take (count - place) (drop place all) in
    let rest = drop (place + 1 + (count - place)) all in
    let head_size : length head ≡ place = length-take-le place all (omega arith) in
    let front_size : length (take (place + 1) all) ≡ place + 1 = length-take-le (place + 1) all (omega arith) in
    let moved_size : length moved ≡ count - place = length-take-le (count - place) (drop place all) (omega (arith, length-drop place all)) in
    let whole : place + (count - place) ≡ count = omega arith in
    let put : slice_set (take (place + 1) all) place x ≡ head ++ x ∷ [] =
    ap (λ xs. slice_set xs place x) (take_more all place x (omega arith)) ∙ set_at head (get_or all place x) [] x place head_size in
    ap (take (count + 1)) (set-append_left (take (place + 1) all ++ moved) rest place x (omega (arith, length-append (take (place + 1) all) moved)))
    ∙ ap (λ xs. take (count + 1) (xs ++ rest)) (set-append_left (take (place + 1) all) moved place x (omega arith) ∙ ap (λ xs. xs ++ moved) put)
    ∙ take_at ((head ++ x ∷ []) ++ moved) rest (count + 1) (omega (arith, length-append (head ++ x ∷ []) moved, length-append head (x ∷ [])))
    ∙ append_assoc head (x ∷ []) moved
    ∙ (λ i. sym (take-take place count all within) i ++ x ∷ (sym (drop-take place (count - place) all) ∙ ap (λ n. drop place (take n all)) whole) i)

pub shifted_out : {X : Type 0} (all : List X) (place count : ℕ) → place < count → count ≤ length all →
    take (count - 1) (copy_within all (place + 1) count place) ≡ remove (take count all) place
shifted_out all place count within room = same_lists _ _ (grind (arith, places)) (λ k d h. grind (arith, places))
