-- Counts after the numbers of a run began to pass, or no longer do.
use Rattle.std.proofs.Common.{◌≡◌, ◌≢◌, ℕ, zero, suc, ◌+◌, ◌-◌, ◌*◌, ◌/◌, ◌%◌, ◌^◌, ◌<◌, ◌≤◌, Bool, true, false, List, length, inl, inr, refl, sym, ap, ◌∙◌, slice_index, length-set, eq-eqb, arith}
use Rattle.std.specs.Prelude.{Some, nat_eq, slice_set, ◌||◌, if◌then◌else◌}
use Rattle.std.proofs.lemmas.Bool.{eqb-true, ne_eqb, or_right}
use Rattle.std.proofs.lemmas.Bool.Decides.{eqb_tells, nat_tests}
use Rattle.std.proofs.lemmas.Option.{get_or_from_slice_get}
use Rattle.frame_core.specs.Below.{count_below, count_from}
use Rattle.frame_core.specs.Order.{is_aligned}
use Rattle.frame_core.proofs.Lists.{slice_get_set_same, slice_get_set_other}
use Rattle.frame_core.proofs.Searches.{count_more, count_same, count_some, count_from_same, count_from_most}
use Rattle.frame_core.proofs.Bounds.{count_most, count_from_short}
use Rattle.scan_core.specs.FrameCounts.{CountsEach, count_in_block, recounted, with_fewer, with_more}
use Rattle.scan_core.specs.FrameSet.{Counts}
use Rattle.scan_core.specs.NumberSet.{in_run}
use Rattle.scan_core.proofs.Seeing.{run_next, run_none}
use Rattle.scan_core.proofs.Spanning.{same_by, in_run_is, is_in_run}

module _ (p : ℕ → Bool) (first : ℕ) where
  count_upto : (m n : ℕ) → first + m ≤ n → ((k : ℕ) → in_run first m k ≡ true → p k ≡ false) → count_below (λ k. in_run first m k || p k) n ≡ count_below p n + m
  count_upto zero n most none = let same = count_same (λ k. in_run first zero k || p k) p n (λ k h. ap (λ b. b || p k) (run_none first k)) in omega (arith, same)
  count_upto (suc m) n most none =
      let here = count_more (λ k. in_run first m k || p k) (λ k. in_run first (suc m) k || p k) n (first + m) (omega arith)
      ((λ i. not_yet i || none (first + m) (is_in_run first (suc m) (first + m) (omega arith) (omega arith)) i))
      (ap (λ b. b || p (first + m)) (is_in_run first (suc m) (first + m) (omega arith) (omega arith)))
      (λ q ne. ap (λ b. b || p q) (run_next first m q ∙ ap (λ b. b || in_run first m q) (ne_eqb q (first + m) ne))) in
      let rest = count_upto m n (omega arith) (λ k e. none k (run_next first m k ∙ or_right (nat_eq k (first + m)) (in_run first m k) e)) in
      omega (arith, here, rest)
    where
      not_yet : in_run first m (first + m) ≡ false
      not_yet = same_by (in_run first m (first + m)) false (λ e. let is = in_run_is first m (first + m) e in absurd (omega (arith, is.1))) (λ e. cc)

-- r is p with the numbers of a run, none of which passes in p
pub record Adds (p r : ℕ → Bool) (first m : ℕ) : Type 0 where
  pub none : (k : ℕ) → in_run first m k ≡ true → p k ≡ false
  pub each : (k : ℕ) → r k ≡ (in_run first m k || p k)

pub count_run : (p r : ℕ → Bool) (first m n : ℕ) → first + m ≤ n → Adds p r first m → count_below r n ≡ count_below p n + m
count_run p r first m n most adds = count_same r (λ k. in_run first m k || p k) n (λ k h. adds.each k) ∙ count_upto p first m n most adds.none

-- the number that a list has for a pageblock is the count of its frames that pass
pub counted : (counts : List ℕ) (p : ℕ → Bool) (block : ℕ) → CountsEach counts p → block < length counts → slice_index counts block ≡ count_in_block p block
counted counts p block each within = get_or_from_slice_get counts block _ 0 (each block within)

-- where a block is a pageblock, this number is the count of its frames that pass
pub pageblock_counted : (counts : List ℕ) (p : ℕ → Bool) (first order : ℕ) → CountsEach counts p → order ≡ 9 → is_aligned order first ≡ true → first / 512 < length counts → slice_index counts (first / 512) ≡ count_from p first (2 ^ order)
pageblock_counted counts p first order each nine aligned within =
    let at : first / 512 * 512 ≡ first = eqb-true (first / 512 * 512) first (sym (ap (λ o. is_aligned o first) nine) ∙ aligned) in
    let from : 512 * (first / 512) ≡ first = omega (arith, at) in
    counted counts p (first / 512) each within ∙ (λ i. count_from p (from i) (2 ^ sym nine i))

-- a frame that doesn't pass leaves room for one more, and a frame that passes is counted
pub counted_less : (counts : List ℕ) (p : ℕ → Bool) (frame : ℕ) → CountsEach counts p → frame / 512 < length counts → p frame ≡ false → slice_index counts (frame / 512) < 512
counted_less counts p frame each within fails =
    omega (arith, counted counts p (frame / 512) each within, count_from_short p (512 * (frame / 512)) 512 frame (omega arith) (omega arith) fails)

pub from_some : (p : ℕ → Bool) (first n k : ℕ) → first ≤ k → k < first + n → p k ≡ true → 0 < count_from p first n
unfolding count_from
from_some p first n k low high passes = let at : first + (k - first) ≡ k = omega arith in count_some (λ i. p (first + i)) n (k - first) (omega arith) (ap p at ∙ passes)

pub counted_some : (counts : List ℕ) (p : ℕ → Bool) (frame : ℕ) → CountsEach counts p → frame / 512 < length counts → p frame ≡ true → 0 < slice_index counts (frame / 512)
counted_some counts p frame each within passes =
    omega (arith, counted counts p (frame / 512) each within, from_some p (512 * (frame / 512)) 512 frame (omega arith) (omega arith) passes)

or_none : (a b : Bool) → (a || b) ≡ false → b ≡ false
or_none true b e = cc
or_none false b e = e

module _ (p r : ℕ → Bool) (first m : ℕ) (within : first % 512 + m ≤ 512) (adds : Adds p r first m) where
  pub all_more : (blocks : ℕ) → first / 512 < blocks → count_below r (512 * blocks) ≡ count_below p (512 * blocks) + m
  all_more blocks low = count_run p r first m (512 * blocks) (omega (arith, low, within)) adds

  in_block : (k : ℕ) → in_run first m (512 * (first / 512) + k) ≡ in_run (first % 512) m k
  in_block k = grind (arith, nat_tests)

  pub block_more : count_in_block r (first / 512) ≡ count_in_block p (first / 512) + m
  unfolding count_from
  block_more =
      count_run (λ k. p (512 * (first / 512) + k)) (λ k. r (512 * (first / 512) + k)) (first % 512) m 512 within
      (record {
        none = λ k e. adds.none (512 * (first / 512) + k) (in_block k ∙ e);
        each = λ k. adds.each (512 * (first / 512) + k) ∙ ap (λ b. b || p (512 * (first / 512) + k)) (in_block k);
      })

  block_same : (block : ℕ) → block ≢ first / 512 → count_in_block r block ≡ count_in_block p block
  block_same block away = count_from_same r p (512 * block) 512 (λ k l h. adds.each k ∙ ap (λ b. b || p k)
      (same_by (in_run first m k) false (λ e. let is = in_run_is first m k e in let at : block ≡ first / 512 = omega (arith, is, within, l, h) in absurd (away at)) (λ e. cc)))

  changed : (q w : ℕ → Bool) (item : ℕ) (counts : List ℕ) → CountsEach counts q → first / 512 < length counts → item ≡ count_in_block w (first / 512) → ((block : ℕ) → block ≢ first / 512 → count_in_block q block ≡ count_in_block w block) → CountsEach (slice_set counts (first / 512) item) w
  changed q w item counts each low here away = λ block h. elim (eqb_tells block (first / 512)) [
    | inl at ↦ (slice_get_set_same counts (first / 512) block item at.1 low ∙ ap Some (here ∙ ap (count_in_block w) (sym at.1)))
    | inr other ↦ (slice_get_set_other counts (first / 512) block item other.1 ∙ each block (omega (arith, h, length-set counts (first / 512) item)) ∙ ap Some (away block other.1))
  ]

  module _ (counts : List ℕ) (low : first / 512 < length counts) where
    pub each_more : CountsEach counts p → CountsEach (with_more counts (first / 512) m) r
    each_more each = changed p r _ counts each low (omega (arith, counted counts p (first / 512) each low, block_more)) (λ block away. sym (block_same block away))

    pub each_fewer : CountsEach counts r → CountsEach (with_fewer counts (first / 512) m) p
    each_fewer each = changed r p _ counts each low (omega (arith, counted counts r (first / 512) each low, block_more)) block_same

    -- the counts have room for the run before, and count it afterwards
    pub room_more : CountsEach counts p → slice_index counts (first / 512) + m ≤ 512
    room_more each = omega (arith, counted counts p (first / 512) each low, block_more, count_from_most r (512 * (first / 512)) 512)

    pub room_fewer : CountsEach counts r → m ≤ slice_index counts (first / 512)
    room_fewer each = omega (arith, counted counts r (first / 512) each low, block_more)

    pub counts_more : (count : ℕ) → Counts count counts p → Counts (count + m) (with_more counts (first / 512) m) r
    counts_more count is =
        let long = length-set counts (first / 512) (slice_index counts (first / 512) + m) in
        record {
          all = ap (λ n. n + m) is.all ∙ sym (all_more (length counts) low) ∙ ap (λ n. count_below r (512 * n)) (sym long);
          each = each_more is.each;
          none = λ k past. adds.each k ∙ (λ i. (same_by (in_run first m k) false (λ e. let at = in_run_is first m k e in absurd (omega (arith, at, past, long, low, within))) (λ e. cc)) i || is.none k (omega (arith, past, long)) i);
        }

    pub counts_fewer : (count : ℕ) → Counts count counts r → Counts (count - m) (with_fewer counts (first / 512) m) p
    counts_fewer count is =
        let long = length-set counts (first / 512) (slice_index counts (first / 512) - m) in
        let all : count - m ≡ count_below p (512 * length counts) = omega (arith, is.all, all_more (length counts) low) in
        record {
          all = all ∙ ap (λ n. count_below p (512 * n)) (sym long);
          each = each_fewer is.each;
          none = λ k past. or_none (in_run first m k) (p k) (sym (adds.each k) ∙ is.none k (omega (arith, past, long)));
        }

    pub count_room : (count : ℕ) → Counts count counts p → count + m ≤ 512 * length counts
    count_room count is = omega (arith, is.all, all_more (length counts) low, count_most r (512 * length counts))

    pub count_has : (count : ℕ) → Counts count counts r → m ≤ count
    count_has count is = omega (arith, is.all, all_more (length counts) low)

pub one_run : (frame k : ℕ) → in_run frame 1 k ≡ nat_eq k frame
one_run frame k = grind (arith, nat_tests)

-- the counts after one frame passes or no longer does
module _ (counts : List ℕ) (p q : ℕ → Bool) (frame : ℕ) (low : frame / 512 < length counts) (put_each : CountsEach counts p) where
  adds_one : (a b : ℕ → Bool) → a frame ≡ false → ((k : ℕ) → b k ≡ (nat_eq k frame || a k)) → Adds a b frame 1
  adds_one a b fails each = record {
    none = λ k e. ap a (eqb-true k frame (sym (one_run frame k) ∙ e)) ∙ fails;
    each = λ k. each k ∙ ap (λ c. c || a k) (sym (one_run frame k));
  }

  then_true : (e x : Bool) → (if e then true else x) ≡ (e || x)
  then_true true x = refl
  then_true false x = refl

  back : (e x : Bool) → (e ≡ true → x ≡ true) → x ≡ (e || (if e then false else x))
  back true x is = is refl
  back false x is = refl

  kept : (e x b : Bool) → (e ≡ true → x ≡ b) → x ≡ (if e then b else x)
  kept true x b is = is refl
  kept false x b is = refl

  same : (b : Bool) → p frame ≡ b → ((n : ℕ) → q n ≡ (if nat_eq n frame then b else p n)) → CountsEach counts q
  same b at put block h =
      put_each block h ∙ ap Some (count_from_same p q (512 * block) 512 (λ k l m. kept (nat_eq k frame) (p k) b (λ e. ap p (eqb-true k frame e) ∙ at) ∙ sym (put k)))

  pub recount : (was now : Bool) → p frame ≡ was → ((n : ℕ) → q n ≡ (if nat_eq n frame then now else p n)) → CountsEach (recounted was now counts (frame / 512)) q
  recount false true at put = each_more p q frame 1 (omega arith) (adds_one p q at (λ k. put k ∙ then_true (nat_eq k frame) (p k))) counts low put_each
  recount true false at put = each_fewer q p frame 1 (omega arith)
      (adds_one q p (put frame ∙ ap (λ e. if e then false else p frame) (eq-eqb frame frame refl))
      (λ k. back (nat_eq k frame) (p k) (λ e. ap p (eqb-true k frame e) ∙ at) ∙ ap (λ b. nat_eq k frame || b) (sym (put k)))) counts low put_each
  recount true true at put = same true at put
  recount false false at put = same false at put

pub length_recounted : (was now : Bool) (counts : List ℕ) (block : ℕ) → length (recounted was now counts block) ≡ length counts
length_recounted false true counts block = length-set counts block (slice_index counts block + 1)
length_recounted true false counts block = length-set counts block (slice_index counts block - 1)
length_recounted true true counts block = refl
length_recounted false false counts block = refl
