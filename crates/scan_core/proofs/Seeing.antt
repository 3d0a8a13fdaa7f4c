-- The states of frames, as they are kept and as they are seen.
use Rattle.std.proofs.Common.{◌≡◌, ℕ, zero, suc, ◌+◌, ◌<◌, ◌≤◌, Bool, true, false, not, List, [], ◌∷◌, length, inl, inr, refl, sym, ap, ◌∙◌, arith, length-set}
use Rattle.std.specs.Prelude.{Option, Some, None, nat_eq, slice_get, slice_set, if◌then◌else◌, ◌&&◌, ◌||◌}
use Rattle.std.proofs.lemmas.Bool.{ne_eqb}
pub use Rattle.std.proofs.lemmas.Bool.{cond-true as taken, cond-false as skipped}
use Rattle.std.proofs.lemmas.Bool.Decides.{eqb_tells, nat_tests}
use Rattle.std.proofs.lemmas.Option.{slice_get_past}
use Rattle.frame_core.proofs.Lists.{slice_get_set_same, slice_get_set_other}
use Rattle.frame_core.specs.declared.state.FrameState.{FrameState}
use Rattle.frame_core.specs.declared.state.FrameState.TheVariants.{Free, Huge}
use Rattle.scan_core.specs.Frames.{page_held}
use Rattle.scan_core.specs.NumberSet.{in_run}
use Rattle.scan_core.specs.Runs.{with_run}
use Rattle.scan_core.specs.Seen.{seen_from}
use Rattle.scan_core.proofs.Spanning.{same_by, in_run_is, is_in_run}

-- two lists with the same items are equal
pub same_items : {X : Type 0} → (xs ys : List X) → ((i : ℕ) → slice_get xs i ≡ slice_get ys i) → xs ≡ ys
same_items [] [] same = refl
same_items [] (y ∷ ys) same = let e = same zero in cc
same_items (x ∷ xs) [] same = let e = same zero in cc
same_items (x ∷ xs) (y ∷ ys) same =
    let e = same zero in
    let head : x ≡ y = cc in
    λ i. head i ∷ same_items xs ys (λ k. same (suc k)) i

-- a frame's state as it is seen, given whether the frame is held
abbrev pub seen_state : Bool → Option (FrameState ℕ) → Option (FrameState ℕ)
seen_state true (Some state) = Some Huge
seen_state true None = None
seen_state false state = state

pub length_seen : (h : ℕ → Bool) (first : ℕ) (xs : List (FrameState ℕ)) → length (seen_from h first xs) ≡ length xs
length_seen h first [] = refl
length_seen h first (x ∷ xs) = ap suc (length_seen h (suc first) xs)

one_seen : (b : Bool) (x : FrameState ℕ) → Some (if b then Huge else x) ≡ seen_state b (Some x)
one_seen true x = refl
one_seen false x = refl

seen_none : (b : Bool) → None ≡ seen_state b None
seen_none true = refl
seen_none false = refl

pub seen_get_from : (h : ℕ → Bool) (first : ℕ) (xs : List (FrameState ℕ)) (i : ℕ) → slice_get (seen_from h first xs) i ≡ seen_state (h (first + i)) (slice_get xs i)
seen_get_from h first [] i = slice_get_past (seen_from h first []) i (omega arith) ∙ seen_none (h (first + i)) ∙ ap (seen_state (h (first + i))) (sym (slice_get_past {X = FrameState ℕ} [] i (omega arith)))
seen_get_from h first (x ∷ xs) zero = let e : first ≡ first + zero = omega arith in one_seen (h first) x ∙ ap (λ k. seen_state (h k) (Some x)) e
seen_get_from h first (x ∷ xs) (suc i) = let e : suc first + i ≡ first + suc i = omega arith in seen_get_from h (suc first) xs i ∙ ap (λ k. seen_state (h k) (slice_get xs i)) e

pub seen_get : (h : ℕ → Bool) (xs : List (FrameState ℕ)) (i : ℕ) → slice_get (seen_from h 0 xs) i ≡ seen_state (h i) (slice_get xs i)
seen_get h xs i = let e : 0 + i ≡ i = omega arith in seen_get_from h 0 xs i ∙ ap (λ k. seen_state (h k) (slice_get xs i)) e

-- where no frame is held, the states are seen as they are kept
pub seen_none_held : (h : ℕ → Bool) (xs : List (FrameState ℕ)) → ((i : ℕ) → h i ≡ false) → seen_from h 0 xs ≡ xs
seen_none_held h xs none = same_items (seen_from h 0 xs) xs (λ i. seen_get h xs i ∙ ap (λ b. seen_state b (slice_get xs i)) (none i))

-- a frame that isn't held is used for something else
pub seen_put : (h : ℕ → Bool) (kept : List (FrameState ℕ)) (frame : ℕ) (state : FrameState ℕ) → frame < length kept → h frame ≡ false → seen_from h 0 (slice_set kept frame state) ≡ slice_set (seen_from h 0 kept) frame state
seen_put h kept frame state within free =
    same_items (seen_from h 0 (slice_set kept frame state)) (slice_set (seen_from h 0 kept) frame state) (λ i.
    seen_get h (slice_set kept frame state) i ∙ elim (eqb_tells i frame) [
      | inl at ↦ ((λ j. seen_state ((ap h at.1 ∙ free) j) (slice_get_set_same kept frame i state at.1 within j))
          ∙ sym (slice_get_set_same (seen_from h 0 kept) frame i state at.1 (omega (arith, length_seen h 0 kept))))
      | inr away ↦ (ap (seen_state (h i)) (slice_get_set_other kept frame i state away.1)
          ∙ sym (seen_get h kept i) ∙ sym (slice_get_set_other (seen_from h 0 kept) frame i state away.1))
    ])

-- which frames are in a run
pub run_none : (first n : ℕ) → in_run first zero n ≡ false
run_none first n = same_by (in_run first zero n) false (λ e. let is = in_run_is first zero n e in absurd (omega (arith, is))) (λ e. cc)

pub run_next : (first count n : ℕ) → in_run first (suc count) n ≡ (nat_eq n (first + count) || in_run first count n)
run_next first count n = grind (arith, nat_tests)

-- a run of one frame
pub run_of_one : (first n : ℕ) → in_run first 1 n ≡ nat_eq n first
run_of_one first n = grind (arith, nat_tests)

pub with_run_of_one : (states : List (FrameState ℕ)) (frame : ℕ) (state : FrameState ℕ) → with_run states frame 1 state ≡ slice_set states frame state
unfolding with_run
with_run_of_one states frame state = let at : frame + 0 ≡ frame = omega arith in ap (λ k. slice_set states k state) at

pub length_with_run : (states : List (FrameState ℕ)) (first count : ℕ) (state : FrameState ℕ) → length (with_run states first count state) ≡ length states
unfolding with_run
length_with_run states first zero state = refl
length_with_run states first (suc n) state = length-set (with_run states first n state) (first + n) state ∙ length_with_run states first n state

pub with_run_get : (states : List (FrameState ℕ)) (first count : ℕ) (state : FrameState ℕ) (i : ℕ) → first + count ≤ length states → slice_get (with_run states first count state) i ≡ (if in_run first count i then Some state else slice_get states i)
unfolding with_run
with_run_get states first zero state i within = sym (skipped (in_run first zero i) (Some state) (slice_get states i) (run_none first i))
with_run_get states first (suc n) state i within = elim (eqb_tells i (first + n)) [
  | inl at ↦ (slice_get_set_same (with_run states first n state) (first + n) i state at.1 (omega (arith, length_with_run states first n state))
      ∙ sym (taken (in_run first (suc n) i) (Some state) (slice_get states i) (is_in_run first (suc n) i (omega (arith, at.1)) (omega (arith, at.1)))))
  | inr away ↦ (slice_get_set_other (with_run states first n state) (first + n) i state away.1 ∙ with_run_get states first n state i (omega arith)
      ∙ ap (λ b. if b then Some state else slice_get states i) (sym (run_next first n i ∙ ap (λ b. b || in_run first n i) (ne_eqb i (first + n) away.1))))
]

huge_where : (b : Bool) (o : Option (FrameState ℕ)) (h : Bool) → (b ≡ true → (x : FrameState ℕ) × (o ≡ Some x)) → seen_state (b || h) o ≡ (if b then Some Huge else seen_state h o)
huge_where true None h some = let x = some refl in cc
huge_where true (Some x) h some = refl
huge_where false o h some = refl

-- frames of a run are handed out
pub seen_held : (h new : ℕ → Bool) (kept : List (FrameState ℕ)) (first count : ℕ) → first + count ≤ length kept → ((n : ℕ) → new n ≡ (in_run first count n || h n)) → seen_from new 0 kept ≡ with_run (seen_from h 0 kept) first count Huge
seen_held h new kept first count within each =
    same_items (seen_from new 0 kept) (with_run (seen_from h 0 kept) first count Huge) (λ i.
    seen_get new kept i ∙ ap (λ b. seen_state b (slice_get kept i)) (each i)
    ∙ huge_where (in_run first count i) (slice_get kept i) (h i) (λ e. let is = in_run_is first count i e in some_item kept i (omega (arith, is.1)))
    ∙ sym (with_run_get (seen_from h 0 kept) first count Huge i (omega (arith, length_seen h 0 kept)) ∙ ap (λ o. if in_run first count i then Some Huge else o) (seen_get h kept i)))
  where
    some_item : (xs : List (FrameState ℕ)) (i : ℕ) → i < length xs → (x : FrameState ℕ) × (slice_get xs i ≡ Some x)
    some_item [] i h = absurd (omega arith)
    some_item (x ∷ xs) zero h = (x, refl)
    some_item (x ∷ xs) (suc i) h = some_item xs i (omega arith)

free_where : (b : Bool) (o : Option (FrameState ℕ)) (h : Bool) → (b ≡ true → o ≡ Some Free) → seen_state (not b && h) o ≡ (if b then Some Free else seen_state h o)
free_where true o h free = free refl
free_where false o h free = refl

-- frames of a run are free again
pub seen_released : (h new : ℕ → Bool) (kept : List (FrameState ℕ)) (first count : ℕ) → first + count ≤ length kept → ((n : ℕ) → new n ≡ (not (in_run first count n) && h n)) → ((n : ℕ) → in_run first count n ≡ true → slice_get kept n ≡ Some Free) → seen_from new 0 kept ≡ with_run (seen_from h 0 kept) first count Free
seen_released h new kept first count within each free =
    same_items (seen_from new 0 kept) (with_run (seen_from h 0 kept) first count Free) (λ i.
    seen_get new kept i ∙ ap (λ b. seen_state b (slice_get kept i)) (each i)
    ∙ free_where (in_run first count i) (slice_get kept i) (h i) (free i)
    ∙ sym (with_run_get (seen_from h 0 kept) first count Free i (omega (arith, length_seen h 0 kept)) ∙ ap (λ o. if in_run first count i then Some Free else o) (seen_get h kept i)))

-- a frame that is held has no page, however it is kept
pub page_seen : (held : Bool) (kept : Option (FrameState ℕ)) → (held ≡ true → kept ≡ Some Free) → page_held (seen_state held kept) ≡ page_held kept
page_seen true kept free = ap (λ o. page_held (seen_state true o)) (free refl) ∙ sym (ap page_held (free refl))
page_seen false kept free = refl
