-- Which of the pages received were answered, where the last of them are still in hand.
use Rattle.std.proofs.Common.{◌≡◌, ℕ, ◌-◌, ◌*◌, ◌<◌, ◌≤◌, ⊎_elim, List, [], ◌∷◌, ◌++◌, length, take, Some, None, Option, MatchOption, IfSome, ap, sym, ◌∙◌, All, append_assoc, append-nil, length-append, arith}
use Rattle.std.specs.Option.{option_to_list}
use Rattle.std.specs.List.{flat_map}
use Rattle.std.proofs.Math.Nat.{mul-le-mul_right}
use Rattle.std.proofs.lemmas.List.Concat.{length-flat_map}
use Rattle.std.proofs.lemmas.List.Sums.{sum_by-le}
use Rattle.std.proofs.Math.Seq.{take-append_seam}
use Rattle.std.proofs.lemmas.Bool.{cases_lt}
use Rattle.frame_core.specs.Page.{IsolatedPage}
use Rattle.hand_core.specs.Batches.{before_hand}

pub before_hand_is : (before in_hand : List IsolatedPage) → before_hand (before ++ in_hand) in_hand ≡ before
before_hand_is before in_hand =
    let all = length-append before in_hand in
    let left : length (before ++ in_hand) - length in_hand ≡ length before = omega arith in
    ap (λ n. take n (before ++ in_hand)) left ∙ take-append_seam before in_hand

-- the first page in hand is answered
pub one_taken : (before : List IsolatedPage) (p : IsolatedPage) (rest : List IsolatedPage) → before_hand (before ++ p ∷ rest) rest ≡ before ++ p ∷ []
one_taken before p rest = ap (λ l. before_hand l rest) (sym (append_assoc before (p ∷ []) rest)) ∙ before_hand_is (before ++ p ∷ []) rest

-- with an empty hand all pages received were answered
pub all_answered : (came : List IsolatedPage) → before_hand came [] ≡ came
all_answered came = ap (λ l. before_hand l []) (sym (append-nil came)) ∙ before_hand_is came []

-- the pages answered and those in hand are all that came off
pub hand_whole : (came before in_hand : List IsolatedPage) → came ≡ before ++ in_hand → before_hand came in_hand ++ in_hand ≡ came
hand_whole came before in_hand is = ap (λ l. l ++ in_hand) (ap (λ l. before_hand l in_hand) is ∙ before_hand_is before in_hand) ∙ sym is

-- the pages received are those answered, the next of those in hand, and the rest
pub hand_step : (came before in_hand rest : List IsolatedPage) (next : Option IsolatedPage) → came ≡ before ++ in_hand → MatchOption next ((in_hand ≡ []) × (rest ≡ [])) (λ p. in_hand ≡ p ∷ rest)
    → came ≡ (before ++ option_to_list next) ++ rest
hand_step came before in_hand rest None is none =
    is ∙ ap (λ l. before ++ l) none.0 ∙ sym (append-nil (before ++ [])) ∙ ap (λ l. (before ++ []) ++ l) (sym none.1)
hand_step came before in_hand rest (Some p) is first = is ∙ ap (λ l. before ++ l) first ∙ sym (append_assoc before (p ∷ []) rest)

-- an empty hand stays empty
pub empty_step : (in_hand rest : List IsolatedPage) (next : Option IsolatedPage) → in_hand ≡ [] → MatchOption next ((in_hand ≡ []) × (rest ≡ [])) (λ p. in_hand ≡ p ∷ rest) → rest ≡ []
empty_step in_hand rest None empty none = none.1
empty_step in_hand rest (Some p) empty first = absurd (cc)

-- the next of the pages in hand was answered
pub next_taken : (came before in_hand rest : List IsolatedPage) (next : Option IsolatedPage) → came ≡ before ++ in_hand → MatchOption next ((in_hand ≡ []) × (rest ≡ [])) (λ p. in_hand ≡ p ∷ rest)
    → IfSome next (λ p. before_hand came rest ≡ before_hand came in_hand ++ p ∷ [])
next_taken came before in_hand rest None is none = tt
next_taken came before in_hand rest (Some p) is first =
    let now = ap (λ l. before_hand l rest) (hand_step came before in_hand rest (Some p) is first) ∙ before_hand_is (before ++ p ∷ []) rest in
    let was = ap (λ l. before_hand l in_hand) is ∙ before_hand_is before in_hand in now ∙ ap (λ l. l ++ p ∷ []) (sym was)

-- a single page always fits in a batch
pub fits : (count most : ℕ) → 0 < most → (1 < count → count ≤ most) → count ≤ most
fits count most some several = ⊎_elim (λ (more : 1 < count). several more) (λ (single : count ≤ 1). omega arith) (cases_lt 1 count)

-- so many batches, each with at most so many pages
pub few_in_all : {X A : Type 0} (of : X → List A) (room most : ℕ) (xs : List X) → length xs ≤ room → All (λ x. length (of x) ≤ most) xs → length (flat_map of xs) ≤ room * most
few_in_all of room most xs low every = omega (arith, length-flat_map of xs, sum_by-le (λ x. length (of x)) most xs every, mul-le-mul_right most low)
