-- The serials of a round that was settled, as its copiers' lists have them.
use Rattle.std.proofs.Common.{◌≡◌, ℕ, List, [], ◌∷◌, ◌++◌, map, All, refl, ap, sym, subst, ◌∙◌}
use Rattle.std.specs.List.{flat_map, range_with_len}
use Rattle.std.specs.List.Sorted.{IsPermutation, IsStrictlyIncreasing}
use Rattle.std.proofs.lemmas.List.{map-append}
use Rattle.std.proofs.lemmas.List.Concat.{flat_map-cons}
use Rattle.std.proofs.lemmas.List.Elements.{All-map}
use Rattle.frame_core.specs.Serials.{serials_of, IsRising}
use Rattle.hand_core.specs.PageEnds.{Taker, taken_by}
use Rattle.round_core.specs.Crews.{AreListed}
use Rattle.round_core.specs.Rounds.{AreShared}

abbrev serials_in : Taker → List ℕ
serials_in t = serials_of t.taken

-- the serials of all lists are those of the pages that all takers took
in_lists : (takers : List Taker) → flat_map (λ list. list) (map serials_in takers) ≡ serials_of (taken_by takers)
in_lists [] = refl
in_lists (t ∷ takers) =
    flat_map-cons (λ list. list) (serials_in t) (map serials_in takers)
    ∙ ap (λ l. serials_in t ++ l) (in_lists takers)
    ∙ sym (map-append (λ p. p.serial) t.taken (taken_by takers))
    ∙ ap serials_of (sym (flat_map-cons (λ (u : Taker). u.taken) t takers))

pub shared : (lists : List (List ℕ)) (takers : List Taker) (base many count : ℕ) → AreListed lists takers → many ≡ count
    → IsPermutation (serials_of (taken_by takers)) (range_with_len base many) → All (λ (t : Taker). IsRising t.taken) takers → AreShared lists base count
shared lists takers base many count listed is permuted rising = record {
  rising = subst (All IsStrictlyIncreasing) (sym listed) (All-map IsStrictlyIncreasing serials_in takers rising);
  each_once = subst (λ n. IsPermutation (flat_map (λ list. list) lists) (range_with_len base n)) is
      (subst (λ l. IsPermutation l (range_with_len base many)) (sym (ap (flat_map (λ list. list)) listed ∙ in_lists takers)) permuted);
}
