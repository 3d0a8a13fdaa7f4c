-- Serials that follow one another, and lists that rise.
use Rattle.std.proofs.Common.{◌≡◌, ℕ, zero, suc, ◌+◌, ◌<◌, ◌≤◌, List, [], ◌∷◌, ◌++◌, length, get_or, Some, All, sym, ap, ◌∙◌, subst, refl, arith, length-append, ⊎_elim, append_assoc, append-nil}
use Rattle.std.specs.Prelude.{slice_get}
use Rattle.std.proofs.lemmas.Bool.{cases_lt}
use Rattle.std.proofs.lemmas.List.{map-append}
use Rattle.std.proofs.Math.ListN.{get_or-append}
use Rattle.std.proofs.Math.Seq.{get_or-append_seam, take-append_seam, drop-append_seam}
use Rattle.std.specs.List.{range_with_len}
use Rattle.std.specs.List.Sorted.{IsStrictlyIncreasing}
use Rattle.std.proofs.lemmas.List.Elements.{All-map, All-take, All-drop, All-cons, All-nil, All-append}
use Rattle.frame_core.specs.Page.{IsolatedPage}
use Rattle.frame_core.specs.Serials.{serials_of, HasSerialsFrom, IsRising}

-- the first of pages with serials in order, and the others
parts : (first : ℕ) (p : IsolatedPage) (pages : List IsolatedPage) → HasSerialsFrom first (p ∷ pages) → (p.serial ≡ first) × HasSerialsFrom (first + 1) pages
parts first p pages h = first_and_rest p.serial first (serials_of pages) (range_with_len (first + 1) (length pages)) h
  where
    first_and_rest : (a b : ℕ) (xs ys : List ℕ) → a ∷ xs ≡ b ∷ ys → (a ≡ b) × (xs ≡ ys)
    first_and_rest a b xs ys e = (cc, cc)

-- more pages with the next serials
pub serials-append : (first : ℕ) (pages more : List IsolatedPage) → HasSerialsFrom first pages → HasSerialsFrom (first + length pages) more → HasSerialsFrom first (pages ++ more)
serials-append first [] more h next = subst (λ n. HasSerialsFrom n more) (let e : first + 0 ≡ first = omega arith in e) next
serials-append first (p ∷ pages) more h next =
    let this = parts first p pages h in
    let inner = serials-append (first + 1) pages more this.1 (subst (λ n. HasSerialsFrom n more) (let e : first + suc (length pages) ≡ first + 1 + length pages = omega arith in e) next) in
    λ i. this.0 i ∷ inner i

-- one more page with the next serial
pub serials-snoc : (first : ℕ) (pages : List IsolatedPage) (p : IsolatedPage) → HasSerialsFrom first pages → p.serial ≡ first + length pages → HasSerialsFrom first (pages ++ p ∷ [])
serials-snoc first pages p h next = serials-append first pages (p ∷ []) h (ap (λ n. n ∷ []) next)

-- the pages at the front of a list have serials in order
pub serials_front : (first : ℕ) (pages rest : List IsolatedPage) → HasSerialsFrom first (pages ++ rest) → HasSerialsFrom first pages
serials_front first [] rest h = refl
serials_front first (p ∷ pages) rest h =
    let this = parts first p (pages ++ rest) h in
    let inner = serials_front (first + 1) pages rest this.1 in
    λ i. this.0 i ∷ inner i

-- the pages after these have the serials that come next
pub serials_after : (first : ℕ) (pages rest : List IsolatedPage) → HasSerialsFrom first (pages ++ rest) → HasSerialsFrom (first + length pages) rest
serials_after first [] rest h = subst (λ n. HasSerialsFrom n rest) (let e : first ≡ first + 0 = omega arith in e) h
serials_after first (p ∷ pages) rest h =
    subst (λ n. HasSerialsFrom n rest) (let e : first + 1 + length pages ≡ first + suc (length pages) = omega arith in e) (serials_after (first + 1) pages rest (parts first p (pages ++ rest) h).1)

-- the serial of the page at an index
pub serial_of : (first : ℕ) (pages : List IsolatedPage) (place : ℕ) (p : IsolatedPage) → HasSerialsFrom first pages → Some p ≡ slice_get pages place → (p.serial ≡ first + place) × (place < length pages)
serial_of first [] place p h is = absurd (cc)
serial_of first (q ∷ pages) zero p h is =
    let same : p ≡ q = cc in
    let serial : p.serial ≡ q.serial = ap (λ (o : IsolatedPage). o.serial) same in
    let e = (parts first q pages h).0 in (omega arith, omega arith)
serial_of first (q ∷ pages) (suc place) p h is =
    let e = serial_of (first + 1) pages place p (parts first q pages h).1 is in (omega arith, omega arith)

-- each page has a lower serial than those that come next
pub serials_below : (first : ℕ) (pages : List IsolatedPage) → HasSerialsFrom first pages → All (λ (q : IsolatedPage). q.serial < first + length pages) pages
serials_below first [] h k d lt = absurd (omega arith)
serials_below first (p ∷ pages) h zero d lt = let e = (parts first p pages h).0 in omega arith
serials_below first (p ∷ pages) h (suc k) d lt = let e = serials_below (first + 1) pages (parts first p pages h).1 k d (omega arith) in omega arith

pub all_front : {A : Type 0} (P : A → Type 0) (xs ys : List A) → All P (xs ++ ys) → All P xs
all_front P xs ys h = subst (All P) (take-append_seam xs ys) (All-take P (length xs) (xs ++ ys) h)

pub all_back : {A : Type 0} (P : A → Type 0) (xs ys : List A) → All P (xs ++ ys) → All P ys
all_back P xs ys h = subst (All P) (drop-append_seam xs ys) (All-drop P (length xs) (xs ++ ys) h)

-- a list that rises still does with a number above all others at its end
increasing-snoc : (xs : List ℕ) (y : ℕ) → IsStrictlyIncreasing xs → All (λ x. x < y) xs → IsStrictlyIncreasing (xs ++ y ∷ [])
increasing-snoc xs y rises below k lt =
    let longer = length-append xs (y ∷ []) in
    let this : get_or (xs ++ y ∷ []) k 0 ≡ get_or xs k 0 = get_or-append xs (y ∷ []) 0 k (omega arith) in
    ⊎_elim
    (λ (inside : k + 1 < length xs).
    let next : get_or (xs ++ y ∷ []) (k + 1) 0 ≡ get_or xs (k + 1) 0 = get_or-append xs (y ∷ []) 0 (k + 1) inside in
    let e = rises k inside in omega arith)
    (λ (last : length xs ≤ k + 1).
    let is : length xs ≡ k + 1 = omega arith in
    let next : get_or (xs ++ y ∷ []) (k + 1) 0 ≡ y = ap (λ n. get_or (xs ++ y ∷ []) n 0) (sym is) ∙ get_or-append_seam xs y [] 0 in
    let e = below k 0 (omega arith) in omega arith)
    (cases_lt (k + 1) (length xs))

pub rising-snoc : (pages : List IsolatedPage) (p : IsolatedPage) → IsRising pages → All (λ (q : IsolatedPage). q.serial < p.serial) pages → IsRising (pages ++ p ∷ [])
rising-snoc pages p rises below =
    subst IsStrictlyIncreasing (sym (map-append (λ (q : IsolatedPage). q.serial) pages (p ∷ [])))
    (increasing-snoc (serials_of pages) p.serial rises (All-map (λ n. n < p.serial) (λ (q : IsolatedPage). q.serial) pages below))

-- a list that rises still does with the pages of the next serials at its end
pub rising-append : (pages : List IsolatedPage) (first : ℕ) (more : List IsolatedPage) → IsRising pages → All (λ (q : IsolatedPage). q.serial < first) pages → HasSerialsFrom first more → IsRising (pages ++ more)
rising-append pages first [] rises below h = subst IsRising (sym (append-nil pages)) rises
rising-append pages first (p ∷ more) rises below h =
    let parted = parts first p more h in
    let same = parted.0 in
    let Below : ℕ → IsolatedPage → Type 0 = λ n q. q.serial < n in
    let wider : All (Below (first + 1)) pages = λ k d lt. let low = below k d lt in omega arith in
    let this : All (Below (first + 1)) (p ∷ []) = All-cons (Below (first + 1)) p [] (omega arith) (All-nil (Below (first + 1))) in
    subst IsRising (append_assoc pages (p ∷ []) more)
    (rising-append (pages ++ p ∷ []) (first + 1) more
    (rising-snoc pages p rises (subst (λ n. All (Below n) pages) (sym same) below))
    (All-append (Below (first + 1)) pages (p ∷ []) wider this)
    parted.1)

pub rising-nil : IsRising []
rising-nil k lt = absurd (omega arith)
