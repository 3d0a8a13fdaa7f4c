-- Which words are here, where some frames are lent.
use Rattle.std.proofs.Common.{◌≡◌, ℕ, zero, suc, ◌+◌, ◌-◌, ◌*◌, ◌<◌, ◌≤◌, Bool, true, false, true≢false, List, [], ◌∷◌, ◌++◌, length, take, drop, get_or, replicate, refl, sym, ap, ap₂, ◌∙◌, arith}
use Rattle.std.specs.Prelude.{not}
use Rattle.std.proofs.lemmas.List.{append_assoc, get_or-drop, drop-take, length-drop, length-replicate, replicate-append-replicate, drop_at, take-take, take_all}
use Rattle.std.proofs.lemmas.Option.{unwrap_or-slice_get}
use Rattle.std.proofs.Math.Seq.{take-append-add, drop-append-add}
use Rattle.row_core.specs.Parts.{part, spliced, AreHere}
use Rattle.row_core.proofs.Lists.{part_long}
use Rattle.frame_core.specs.FrameSet.{has_frame, HasEach}
use Rattle.frame_core.specs.LentInside.{here_of}
use Rattle.frame_core.specs.LentWords.{LentStays, Words, with_rows}
use Rattle.frame_core.proofs.FrameSets.{part_each}

-- a part of the first items is a part of all
pub part_taken : {X : Type 0} (xs : List X) (n from m : ℕ) → from + m ≤ n → part (take n xs) from m ≡ part xs from m
part_taken xs n from m fits =
    let sum : n ≡ from + (n - from) = omega (arith, fits) in
    ap (λ (k : ℕ). part (take k xs) from m) sum ∙ ap (take m) (drop-take from (n - from) xs) ∙ take-take m (n - from) (drop from xs) (omega (arith, fits))

-- items that are all false
all_false : (n : ℕ) (xs : List Bool) → n ≤ length xs → ((k : ℕ) → k < n → get_or xs k false ≡ false) → take n xs ≡ replicate n false
all_false zero xs long each = refl
all_false (suc n) [] long each = absurd (omega (arith, long))
all_false (suc n) (x ∷ xs) long each =
    ap₂ (λ (b : Bool) (l : List Bool). b ∷ l) (each 0 (omega arith)) (all_false n xs (omega (arith, long)) (λ k less. each (suc k) (omega (arith, less))))

none_lent : (lent : List Bool) (first frames : ℕ) → first + frames ≤ length lent → HasEach lent first frames false → part lent first frames ≡ replicate frames false
none_lent lent first frames within none =
    all_false frames (drop first lent) (omega (arith, within, length-drop first lent))
    (λ k less. get_or-drop first lent k false ∙ sym (unwrap_or-slice_get lent (first + k) false) ∙ none (first + k) (omega arith) (omega (arith, less)))

module _ (size : ℕ) where
  one_more : (n : ℕ) (b : Bool) → suc n * size ≡ length (replicate size b) + n * size
  one_more n b = omega (arith, length-replicate size b)

  take-here_of : (n : ℕ) (lent : List Bool) → n ≤ length lent → take (n * size) (here_of size lent) ≡ here_of size (take n lent)
  take-here_of zero lent long = let none : 0 * size ≡ 0 = omega arith in ap (λ (k : ℕ). take k (here_of size lent)) none
  take-here_of (suc n) [] long = absurd (omega (arith, long))
  take-here_of (suc n) (x ∷ lent) long =
      let front = replicate size (not x) in
      ap (λ (k : ℕ). take k (front ++ here_of size lent)) (one_more n (not x))
      ∙ take-append-add front (here_of size lent) (n * size)
      ∙ ap (λ (l : List Bool). front ++ l) (take-here_of n lent (omega (arith, long)))

  drop-here_of : (n : ℕ) (lent : List Bool) → n ≤ length lent → drop (n * size) (here_of size lent) ≡ here_of size (drop n lent)
  drop-here_of zero lent long = let none : 0 * size ≡ 0 = omega arith in ap (λ (k : ℕ). drop k (here_of size lent)) none
  drop-here_of (suc n) [] long = absurd (omega (arith, long))
  drop-here_of (suc n) (x ∷ lent) long =
      let front = replicate size (not x) in
      ap (λ (k : ℕ). drop k (front ++ here_of size lent)) (one_more n (not x))
      ∙ drop-append-add front (here_of size lent) (n * size)
      ∙ drop-here_of n lent (omega (arith, long))

  here_of-append : (xs ys : List Bool) → here_of size (xs ++ ys) ≡ here_of size xs ++ here_of size ys
  here_of-append [] ys = refl
  here_of-append (x ∷ xs) ys =
      ap (λ (l : List Bool). replicate size (not x) ++ l) (here_of-append xs ys)
      ∙ sym (append_assoc (replicate size (not x)) (here_of size xs) (here_of size ys))

  pub here_of-replicate : (n : ℕ) (b : Bool) → here_of size (replicate n b) ≡ replicate (n * size) (not b)
  here_of-replicate zero b = let none : 0 * size ≡ 0 = omega arith in ap (λ (k : ℕ). replicate k (not b)) (sym none)
  here_of-replicate (suc n) b =
      let sum : size + n * size ≡ suc n * size = omega arith in
      ap (λ (l : List Bool). replicate size (not b) ++ l) (here_of-replicate n b)
      ∙ replicate-append-replicate size (n * size) (not b)
      ∙ ap (λ (k : ℕ). replicate k (not b)) sum

-- where no frame is lent, all words are here
pub all_here : (size : ℕ) (lent : List Bool) → ((frame : ℕ) → has_frame lent frame ≡ false) → here_of size lent ≡ replicate (length lent * size) true
all_here size lent none =
    ap (here_of size)
    (sym (take_all (length lent) lent (omega arith)) ∙ all_false (length lent) lent (omega arith) (λ k less. sym (unwrap_or-slice_get lent k false) ∙ none k))
    ∙ here_of-replicate size (length lent) false

-- frames whose words are all out are lent
all_lent : (size : ℕ) → 0 < size → (lent : List Bool) → here_of size lent ≡ replicate (length lent * size) false → lent ≡ replicate (length lent) true
all_lent zero some lent out = absurd (omega (arith, some))
all_lent (suc size) some [] out = refl
all_lent (suc size) some (false ∷ lent) out = absurd (true≢false (ap (λ (l : List Bool). get_or l 0 false) (out ∙ sym (cut_first lent))))
  where
    cut_first : (l : List Bool) → false ∷ replicate (size + length l * suc size) false ≡ replicate (suc (length l) * suc size) false
    cut_first l = let sum : suc (size + length l * suc size) ≡ suc (length l) * suc size = omega arith in ap (λ (k : ℕ). replicate k false) sum
all_lent (suc size) some (true ∷ lent) out =
    let sum : suc (length lent) * suc size ≡ suc size + length lent * suc size = omega arith in
    let front = replicate (suc size) false in
    let rest = drop_at front (here_of (suc size) lent) (suc size) (length-replicate (suc size) false) in
    let same = out ∙ ap (λ (k : ℕ). replicate k false) sum ∙ sym (replicate-append-replicate (suc size) (length lent * suc size) false) in
    ap (λ (l : List Bool). true ∷ l)
    (all_lent (suc size) some lent (sym rest ∙ ap (drop (suc size)) same ∙ drop_at front (replicate (length lent * suc size) false) (suc size) (length-replicate (suc size) false)))

-- the words of so many frames, from a first one on
module _ (size : ℕ) (lent : List Bool) (first frames : ℕ) (within : first + frames ≤ length lent) (here : List Bool) (kept : here ≡ here_of size lent) where
  here_part : part here (first * size) (frames * size) ≡ here_of size (part lent first frames)
  here_part =
      ap (λ (l : List Bool). part l (first * size) (frames * size)) kept
      ∙ ap (take (frames * size)) (drop-here_of size first lent (omega (arith, within)))
      ∙ take-here_of size frames (drop first lent) (omega (arith, within, length-drop first lent))

  -- they are here where none of the frames is lent
  pub words_here : HasEach lent first frames false → AreHere (part here (first * size) (frames * size)) (frames * size)
  words_here none = here_part ∙ ap (here_of size) (none_lent lent first frames within none) ∙ here_of-replicate size frames false

  -- where they are out, each of the frames is lent
  pub words_out : 0 < size → part here (first * size) (frames * size) ≡ replicate (frames * size) false → HasEach lent first frames true
  words_out some out =
      let long : length (part lent first frames) ≡ frames = part_long lent first frames within in
      part_each lent first frames true within
      (all_lent size some (part lent first frames) (sym here_part ∙ out ∙ ap (λ (k : ℕ). replicate (k * size) false) (sym long))
      ∙ ap (λ (k : ℕ). replicate k true) long)

  -- they go out, or come back
  pub words_put : (are_lent : Bool) → spliced here (first * size) (frames * size) (replicate (frames * size) (not are_lent)) ≡ here_of size (spliced lent first frames (replicate frames are_lent))
  words_put are_lent =
      let sum : first * size + frames * size ≡ (first + frames) * size = omega arith in
      let others = replicate frames are_lent in
      ap (λ (l : List Bool). spliced l (first * size) (frames * size) (replicate (frames * size) (not are_lent))) kept
      ∙ ap (spliced (here_of size lent) (first * size) (frames * size)) (sym (here_of-replicate size frames are_lent))
      ∙ ap (λ (l : List Bool). l ++ (here_of size others ++ drop (first * size + frames * size) (here_of size lent))) (take-here_of size first lent (omega (arith, within)))
      ∙ ap (λ (k : ℕ). here_of size (take first lent) ++ (here_of size others ++ drop k (here_of size lent))) sum
      ∙ ap (λ (l : List Bool). here_of size (take first lent) ++ (here_of size others ++ l)) (drop-here_of size (first + frames) lent within)
      ∙ ap (λ (l : List Bool). here_of size (take first lent) ++ l) (sym (here_of-append size others (drop (first + frames) lent)))
      ∙ sym (here_of-append size (take first lent) (others ++ drop (first + frames) lent))

-- only rows changed
pub only_rows : (old new : Words) (rows : List (List ℕ)) → LentStays old new → new.rows ≡ rows → new ≡ with_rows old rows
only_rows old new rows lent is = λ i. record { at = lent.0 i; rows = is i; lent = lent.1 i; given = lent.2 i }
