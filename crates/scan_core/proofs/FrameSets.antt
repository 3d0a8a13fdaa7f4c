-- Sets of frames: what a call adds to them or takes from them, and what is read off their counts.
use Rattle.std.proofs.Common.{◌≡◌, ℕ, zero, suc, ◌+◌, ◌*◌, ◌/◌, ◌^◌, ◌<◌, ◌≤◌, Bool, true, false, not, List, length, inl, inr, refl, sym, ap, ◌∙◌, slice_index, replicate, arith}
use Rattle.std.specs.Prelude.{Some, None, nat_eq, nat_lt, slice_get, if◌then◌else◌, ◌&&◌, ◌||◌}
use Rattle.std.specs.FinSet as set
use Rattle.std.specs.Ordering.{nat_cmp}
use Rattle.std.proofs.lemmas.Bool.{lt-ltb, le-ltb, ltb-true, eqb-true, true_from_ne_false}
use Rattle.std.proofs.lemmas.Bool.Decides.{leb_tells, nat_tests}
use Rattle.std.proofs.lemmas.List.{length-replicate}
use Rattle.frame_core.specs.Below.{count_below, count_from, lowest, one_if, some_below, sum_below}
use Rattle.frame_core.specs.Order.{is_aligned}
use Rattle.frame_core.proofs.Bounds.{count_from_short}
use Rattle.frame_core.proofs.Lists.{slice_get_replicate}
use Rattle.frame_core.proofs.Searches.{count_all, count_from_all, count_from_same, count_none, some_at, some_one, lowest_is, lowest_none}
use Rattle.scan_core.specs.FrameCounts.{CountsEach, is_all_counted, unmarked_count}
use Rattle.scan_core.specs.FrameSet.{Counts, all_of_block, is_run_of}
use Rattle.scan_core.specs.Frames.{true_at}
use Rattle.scan_core.specs.NumberSet.{all_from, in_run}
use Rattle.scan_core.specs.Pairs.{is_marked}
use Rattle.scan_core.proofs.Masking.{clash}
pub use Rattle.scan_core.proofs.Masking.{insert_if, remove_if}
use Rattle.scan_core.proofs.Numbering.{member_insert, member_remove}
use Rattle.scan_core.proofs.Orders.{first_of_run, run_aligned, run_of, run_within, runs_end, some_frames}
use Rattle.scan_core.proofs.RunCounts.{Adds, counted, from_some, one_run}
use Rattle.scan_core.proofs.Spanning.{same_by, both, in_run_is}

-- a test stays as it was where the one number that is written had that value already
pub keep_if : (k frame : ℕ) (p : ℕ → Bool) (m : Bool) → p frame ≡ m → p k ≡ (if nat_eq k frame then m else p k)
keep_if k frame p m is = grind (arith, nat_tests, is)

restore : (b x : Bool) → (b ≡ true → x ≡ true) → x ≡ (b || (not b && x))
restore b x keeps = grind (arith, keeps)

-- r is p without the numbers of a run
pub takes_run : (p r : ℕ → Bool) (first m : ℕ) → ((k : ℕ) → in_run first m k ≡ true → p k ≡ true) → ((k : ℕ) → r k ≡ (not (in_run first m k) && p k)) → Adds r p first m
takes_run p r first m all each = record {
  none = λ k e. each k ∙ ap (λ b. not b && p k) e;
  each = λ k. restore (in_run first m k) (p k) (all k) ∙ ap (λ b. in_run first m k || b) (sym (each k));
}

adds_one : (p r : ℕ → Bool) (frame : ℕ) → p frame ≡ false → ((k : ℕ) → r k ≡ (nat_eq k frame || p k)) → Adds p r frame 1
adds_one p r frame fails each = record {
  none = λ k e. ap p (eqb-true k frame (sym (one_run frame k) ∙ e)) ∙ fails;
  each = λ k. each k ∙ ap (λ b. b || p k) (sym (one_run frame k));
}

takes_one : (p r : ℕ → Bool) (frame : ℕ) → p frame ≡ true → ((k : ℕ) → r k ≡ (not (nat_eq k frame) && p k)) → Adds r p frame 1
takes_one p r frame passes each =
    takes_run p r frame 1 (λ k e. ap p (eqb-true k frame (sym (one_run frame k) ∙ e)) ∙ passes) (λ k. each k ∙ ap (λ b. not b && p k) (sym (one_run frame k)))

pub inserts_one : (s t : set.FinSet nat_cmp) (frame number : ℕ) → number ≡ frame → set.contains s frame ≡ false → t ≡ set.insert s number → Adds (set.contains s) (set.contains t) frame 1
inserts_one s t frame number at fails now = adds_one (set.contains s) (set.contains t) frame fails (λ k. ap (λ u. set.contains u k) now ∙ member_insert s number k ∙ ap (λ n. nat_eq k n || set.contains s k) at)

pub removes_one : (s t : set.FinSet nat_cmp) (frame number : ℕ) → number ≡ frame → set.contains s frame ≡ true → t ≡ set.remove s number → Adds (set.contains t) (set.contains s) frame 1
removes_one s t frame number at passes now = takes_one (set.contains s) (set.contains t) frame passes (λ k. ap (λ u. set.contains u k) now ∙ member_remove s number k ∙ ap (λ n. not (nat_eq k n) && set.contains s k) at)

pub inserts_run : (s t : set.FinSet nat_cmp) (first number m : ℕ) → number ≡ first → ((k : ℕ) → in_run first m k ≡ true → set.contains s k ≡ false) → ((k : ℕ) → set.contains t k ≡ (in_run number m k || set.contains s k)) → Adds (set.contains s) (set.contains t) first m
inserts_run s t first number m at none each = record { none = none; each = λ k. each k ∙ ap (λ n. in_run n m k || set.contains s k) at }

pub removes_run : (s t : set.FinSet nat_cmp) (first number m : ℕ) → number ≡ first → ((k : ℕ) → in_run first m k ≡ true → set.contains s k ≡ true) → ((k : ℕ) → set.contains t k ≡ (not (in_run number m k) && set.contains s k)) → Adds (set.contains t) (set.contains s) first m
removes_run s t first number m at all each = takes_run (set.contains s) (set.contains t) first m all (λ k. each k ∙ ap (λ n. not (in_run n m k) && set.contains s k) at)

-- all numbers of a run pass where the test of the run says so
pub all_pass : (p : ℕ → Bool) (first count : ℕ) → all_from p first count ≡ true → (k : ℕ) → in_run first count k ≡ true → p k ≡ true
all_pass p first count all k inside =
    let is = in_run_is first count k inside in
    true_from_ne_false (p k) (λ e. let short = count_from_short p first count k is.0 is.1 e in let whole = eqb-true (count_from p first count) count all in omega (arith, short, whole))

by_last : (p : ℕ → Bool) (n : ℕ) (b : Bool) → p n ≡ b → 0 < one_if b + count_below p n → (0 < count_below p n → (k : ℕ) × (k < n) × (p k ≡ true)) → (k : ℕ) × (k < suc n) × (p k ≡ true)
by_last p n true at some below = (n, omega arith, at)
by_last p n false at some below = let under = below (omega arith) in (under.0, omega (arith, under.1), under.2)

-- some number passes, where the count isn't 0
some_upto : (p : ℕ → Bool) (n : ℕ) → 0 < count_below p n → (k : ℕ) × (k < n) × (p k ≡ true)
some_upto p zero some = absurd (omega arith)
some_upto p (suc n) some = by_last p n (p n) refl some (some_upto p n)

pub some_from : (p : ℕ → Bool) (first n : ℕ) → 0 < count_from p first n → (k : ℕ) × (first ≤ k) × (k < first + n) × (p k ≡ true)
unfolding count_from
some_from p first n some = let found = some_upto (λ k. p (first + k)) n some in (first + found.0, omega arith, omega (arith, found.1), found.2)

-- whether an unmarked pageblock has a frame that passes, read off the counts
pub unmarked_by_counts : (p : ℕ → Bool) (marked : List Bool) (counts : List ℕ) → CountsEach counts p → some_below (λ block. not (true_at marked block) && nat_lt 0 (slice_index counts block)) (length counts) ≡ some_below (λ frame. not (is_marked marked frame) && p frame) (512 * length counts)
unmarked_by_counts p marked counts each =
    same_by _ _
    (λ e. let found = some_one (λ block. not (true_at marked block) && nat_lt 0 (slice_index counts block)) (length counts) e in
    let parts = both (not (true_at marked found.0)) (nat_lt 0 (slice_index counts found.0)) found.2 in
    let some = some_from p (512 * found.0) 512 (omega (arith, counted counts p found.0 each found.1, ltb-true 0 (slice_index counts found.0) parts.1)) in
    let block : some.0 / 512 ≡ found.0 = omega (arith, some.1, some.2) in
    some_at (λ frame. not (is_marked marked frame) && p frame) (512 * length counts) some.0 (omega (arith, block, found.1))
    (λ i. (ap (λ b. not (true_at marked b)) block ∙ parts.0) i && some.3 i))
    (λ e. let found = some_one (λ frame. not (is_marked marked frame) && p frame) (512 * length counts) e in
    let parts = both (not (is_marked marked found.0)) (p found.0) found.2 in
    let low : found.0 / 512 < length counts = omega (arith, found.1) in
    let some = from_some p (512 * (found.0 / 512)) 512 found.0 (omega arith) (omega arith) parts.1 in
    some_at (λ block. not (true_at marked block) && nat_lt 0 (slice_index counts block)) (length counts) (found.0 / 512) low
    (λ i. parts.0 i && lt-ltb 0 (slice_index counts (found.0 / 512)) (omega (arith, counted counts p (found.0 / 512) each low, some)) i))

none_within : (p : ℕ → Bool) (first n : ℕ) → ((k : ℕ) → first ≤ k → k < first + n → p k ≡ false) → count_from p first n ≡ 0
unfolding count_from
none_within p first n fails = count_none (λ k. p (first + k)) n (λ k h. fails (first + k) (omega arith) (omega (arith, h)))

pub count_split : (p : ℕ → Bool) (first n : ℕ) → count_below p (first + n) ≡ count_below p first + count_from p first n
unfolding count_from
count_split p first zero = let same : first + 0 ≡ first = omega arith in ap (count_below p) same ∙ omega arith
count_split p first (suc n) =
    let same : first + suc n ≡ suc (first + n) = omega arith in
    let next : count_below p (first + suc n) ≡ one_if (p (first + n)) + count_below p (first + n) = ap (count_below p) same in
    omega (arith, next, count_split p first n)

-- how many frames of unmarked pageblocks pass, read off the counts
module _ (p : ℕ → Bool) (marked : List Bool) (counts : List ℕ) (each : CountsEach counts p) where
  abbrev passes_unmarked : ℕ → Bool
  passes_unmarked frame = not (is_marked marked frame) && p frame

  of_block : (block : ℕ) → block < length counts → (b : Bool) → true_at marked block ≡ b → count_from passes_unmarked (512 * block) 512 ≡ (if b then 0 else slice_index counts block)
  of_block block low true is =
      none_within passes_unmarked (512 * block) 512 (λ k from to. let at : k / 512 ≡ block = omega (arith, from, to) in ap (λ b. not b && p k) (ap (true_at marked) at ∙ is))
  of_block block low false is =
      count_from_same passes_unmarked p (512 * block) 512 (λ k from to. let at : k / 512 ≡ block = omega (arith, from, to) in ap (λ b. not b && p k) (ap (true_at marked) at ∙ is))
      ∙ sym (counted counts p block each low)

  pub unmarked_sum : (n : ℕ) → n ≤ length counts → sum_below (unmarked_count marked counts) n ≡ count_below passes_unmarked (512 * n)
  unmarked_sum zero few = refl
  unmarked_sum (suc n) few =
      let same : 512 * suc n ≡ 512 * n + 512 = omega arith in
      omega (arith, unmarked_sum n (omega (arith, few)), of_block n (omega (arith, few)) (true_at marked n) refl, ap (count_below passes_unmarked) same, count_split passes_unmarked (512 * n) 512)

pub full_by_counts : (p : ℕ → Bool) (counts : List ℕ) → CountsEach counts p → (block : ℕ) → block < length counts → is_all_counted counts block ≡ all_of_block p block
full_by_counts p counts each block h = ap (λ n. nat_eq n 512) (counted counts p block each h)

-- the counts of a set that has all frames of its pageblocks
pub full_counts : (p : ℕ → Bool) (blocks count : ℕ) (counts : List ℕ) → ((n : ℕ) → p n ≡ nat_lt n (512 * blocks)) → count ≡ 512 * blocks → counts ≡ replicate blocks 512 → Counts count counts p
full_counts p blocks count counts each all are =
    let long : length counts ≡ blocks = ap length are ∙ length-replicate blocks 512 in
    let passes = λ (k : ℕ) (h : k < 512 * blocks). each k ∙ lt-ltb k (512 * blocks) h in
    record {
      all = all ∙ sym (count_all p (512 * blocks) passes) ∙ ap (λ n. count_below p (512 * n)) (sym long);
      each = λ block h. let low : block < blocks = omega (arith, h, long) in
          ap (λ (xs : List ℕ). slice_get xs block) are ∙ slice_get_replicate blocks block 512 low ∙ ap Some (sym (count_from_all p (512 * block) 512 (λ k from to. passes k (omega (arith, from, to, low)))));
      none = λ k past. each k ∙ le-ltb k (512 * blocks) (omega (arith, past, long));
    }

-- a frame that passes is one of the pageblocks
pub below_bound : (p : ℕ → Bool) (count : ℕ) (counts : List ℕ) → Counts count counts p → (n : ℕ) → p n ≡ true → n < 512 * length counts
below_bound p count counts is n passes = elim (leb_tells (512 * length counts) n) [
  | inl past ↦ absurd (clash (p n) passes (is.none n past.1))
  | inr under ↦ under.1
]

none_from : (p : ℕ → Bool) (first n : ℕ) → ((k : ℕ) → p k ≡ false) → count_from p first n ≡ 0
unfolding count_from
none_from p first n fails = count_none (λ k. p (first + k)) n (λ k h. fails (first + k))

-- the counts where no frame passes
pub none_counted : (p : ℕ → Bool) (blocks : ℕ) (counts : List ℕ) → ((n : ℕ) → p n ≡ false) → counts ≡ replicate blocks 0 → CountsEach counts p
none_counted p blocks counts fails are = λ block h.
    let long : length counts ≡ blocks = ap length are ∙ length-replicate blocks 0 in
    ap (λ (xs : List ℕ). slice_get xs block) are ∙ slice_get_replicate blocks block 0 (omega (arith, h, long)) ∙ ap Some (sym (none_from p (512 * block) 512 fails))

no_run_here : (p : ℕ → Bool) (order at k : ℕ) (aligned : Bool) → is_aligned order k ≡ aligned → (is_aligned order k ≡ true → k ≡ at) → all_from p at (2 ^ order) ≡ false → is_run_of p order k ≡ false
no_run_here p order at k true e only fails = ap (λ b. b && all_from p k (2 ^ order)) e ∙ ap (λ f. all_from p f (2 ^ order)) (only e) ∙ fails
no_run_here p order at k false e only fails = ap (λ b. b && all_from p k (2 ^ order)) e

-- the lowest of the blocks of an order
module _ (p : ℕ → Bool) (blocks order : ℕ) (low : 3 ≤ order) (high : order ≤ 9) where
  no_run_between : (run k : ℕ) → all_from p (run * 2 ^ order) (2 ^ order) ≡ false → run * 2 ^ order ≤ k → k < (run + 1) * 2 ^ order → is_run_of p order k ≡ false
  no_run_between run k fails from to = no_run_here p order (run * 2 ^ order) k (is_aligned order k) refl (first_of_run order low high run k from to) fails

  no_run_below : (run : ℕ) → ((k : ℕ) → k < run → all_from p (k * 2 ^ order) (2 ^ order) ≡ false) → (k : ℕ) → k < run * 2 ^ order → is_run_of p order k ≡ false
  no_run_below run fails k under =
      let at = run_of order low high run k under in
      no_run_between (k / 2 ^ order) k (fails (k / 2 ^ order) at.0) at.1 at.2

  pub no_run : ((k : ℕ) → k < 512 * blocks / 2 ^ order → all_from p (k * 2 ^ order) (2 ^ order) ≡ false) → lowest (is_run_of p order) (512 * blocks) ≡ None
  no_run fails =
      let runs = 512 * blocks / 2 ^ order in
      lowest_none (is_run_of p order) (512 * blocks) (λ k h. no_run_below runs fails k (omega (arith, h, runs_end order low high blocks runs (omega arith))))

  pub run_lowest : (run : ℕ) → run < 512 * blocks / 2 ^ order → all_from p (run * 2 ^ order) (2 ^ order) ≡ true → ((k : ℕ) → k < run → all_from p (k * 2 ^ order) (2 ^ order) ≡ false) → lowest (is_run_of p order) (512 * blocks) ≡ Some (run * 2 ^ order)
  run_lowest run within all fails =
      lowest_is (is_run_of p order) (512 * blocks) (run * 2 ^ order) (omega (arith, run_within order low high blocks run within, some_frames order low high))
      (λ i. run_aligned order low high run i && all i) (no_run_below run fails)
