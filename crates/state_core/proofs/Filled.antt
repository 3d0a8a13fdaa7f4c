-- The whole pageblocks and the free aligned runs of a packed zone.
use Rattle.std.proofs.Common.{◌≡◌, ℕ, zero, suc, ◌+◌, ◌-◌, ◌*◌, ◌/◌, ◌%◌, ◌^◌, ◌<◌, ◌≤◌, Bool, true, false, not, refl, sym, ap, ◌∙◌, arith}
use Rattle.std.specs.Prelude.{nat_eq, ◌&&◌}
use Rattle.std.specs.FinSet as set
use Rattle.std.proofs.Math.Nat.{mul_comm, mul-le-mul_left}
use Rattle.std.proofs.lemmas.Nat.{div-add-mod', div-mul-add, le-div, mod_below, pow-add}
use Rattle.std.proofs.lemmas.Bool.{not-true}
use Rattle.frame_core.proofs.Searches.{count_same, count_from_same}
use Rattle.frame_core.specs.Below.{one_if, count_below, count_from}
use Rattle.state_core.specs.Packed.{IsPacked, is_unmarked, unmarked_free, whole_runs, free_runs, unmarked_whole, marked_whole}
use Rattle.state_core.specs.Pairs.{is_marked, is_free_unmarked}
use Rattle.state_core.specs.ZoneState.{ZoneState, frame_count, is_free, is_whole}
use Rattle.state_core.proofs.Runs.{count_from_none, filled_runs, quotient, runs_most}

positive : (a b : ℕ) → a * b ≡ 512 → 0 < a
positive zero b e = absurd (omega arith)
positive (suc a) b e = omega arith

-- runs of a size that divides a pageblock
module _ (size rest : ℕ) (whole : size * rest ≡ 512) where
  size_some : 0 < size
  size_some = positive size rest whole

  rest_some : 0 < rest
  rest_some = positive rest size (mul_comm rest size ∙ whole)

  -- a frame of a run is in the pageblock of the run's first frame
  pub block_of_run : (i k : ℕ) → k < size → (size * i + k) / 512 ≡ i / rest
  block_of_run i k h =
      let split : i / rest * rest + i % rest ≡ i = div-add-mod' i rest in
      let below : i % rest < rest = mod_below i rest rest_some in
      let top : size * (i % rest + 1) ≤ size * rest = mul-le-mul_left size (omega arith) in
      let spread : size * i ≡ i / rest * (size * rest) + size * (i % rest) = ap (λ (j : ℕ). size * j) (sym split) ∙ omega arith in
      let blocks : i / rest * (size * rest) ≡ i / rest * 512 = ap (λ (m : ℕ). i / rest * m) whole in
      let at : size * i + k ≡ i / rest * 512 + (size * (i % rest) + k) = omega arith in
      ap (λ (m : ℕ). m / 512) at ∙ div-mul-add (i / rest) 512 (size * (i % rest) + k) (omega arith)

  frames_in_runs : (blocks : ℕ) → (512 * blocks) / size ≡ rest * blocks
  frames_in_runs blocks =
      let all : size * rest * blocks ≡ 512 * blocks = ap (λ (m : ℕ). m * blocks) whole in
      let some = size_some in
      quotient (512 * blocks) size (rest * blocks) (omega arith) (omega arith)

  runs_fill : (blocks : ℕ) → size * ((512 * blocks) / size) ≡ 512 * blocks
  runs_fill blocks =
      let all : size * rest * blocks ≡ 512 * blocks = ap (λ (m : ℕ). m * blocks) whole in
      ap (λ (n : ℕ). size * n) (frames_in_runs blocks) ∙ omega arith

  -- there are at most as many whole runs as their size fits into the count of the numbers that pass
  pub runs_bounded : (p : ℕ → Bool) (blocks : ℕ) → whole_runs p size ((512 * blocks) / size) ≤ count_below p (512 * blocks) / size
  runs_bounded p blocks =
      let most = runs_most p size ((512 * blocks) / size) in
      let same = ap (count_below p) (runs_fill blocks) in
      le-div (whole_runs p size ((512 * blocks) / size)) (count_below p (512 * blocks)) size size_some (omega arith)

  pub packed_runs : (v : ZoneState) → IsPacked v → free_runs v size ≡ unmarked_free v / size
  packed_runs v packed =
      filled_runs (is_unmarked v) (is_free v) size (frame_count v / size) (unmarked_free v) size_some
      (λ k h counted. packed.each k (omega (arith, runs_fill v.blocks)) (not-true (is_marked v k) counted))
      (λ i k h. ap (λ (block : ℕ). not (set.contains v.marked block)) (block_of_run i k h ∙ sym (first_of_run i)))
      (ap (count_below (is_free_unmarked v)) (runs_fill v.blocks)) where
        first_of_run : (i : ℕ) → (size * i) / 512 ≡ i / rest
        first_of_run i = let plain : size * i ≡ size * i + 0 = omega arith in ap (λ (m : ℕ). m / 512) plain ∙ block_of_run i 0 size_some

order_whole : (order : ℕ) → order ≤ 9 → 2 ^ order * 2 ^ (9 - order) ≡ 512
order_whole order h = let sum : order + (9 - order) ≡ 9 = omega arith in sym (pow-add 2 order (9 - order)) ∙ ap (λ (k : ℕ). 2 ^ k) sum

pub packed_order : (v : ZoneState) (order : ℕ) → IsPacked v → order ≤ 9 → free_runs v (2 ^ order) ≡ unmarked_free v / 2 ^ order
packed_order v order packed h = packed_runs (2 ^ order) (2 ^ (9 - order)) (order_whole order h) v packed

pub order_bounded : (p : ℕ → Bool) (blocks order : ℕ) → order ≤ 9 → whole_runs p (2 ^ order) ((512 * blocks) / 2 ^ order) ≤ count_below p (512 * blocks) / 2 ^ order
order_bounded p blocks order h = runs_bounded (2 ^ order) (2 ^ (9 - order)) (order_whole order h) p blocks

-- whole pageblocks

test_same : (a b : ℕ) → a ≡ b → nat_eq a 512 ≡ nat_eq b 512
test_same a b e = ap (λ (n : ℕ). nat_eq n 512) e

and_same : (m b c : Bool) → (m ≡ true → c ≡ false) → (m ≡ false → c ≡ b) → (not m && b) ≡ c
and_same m b c shut free = grind (arith, shut, free)

-- the numbers that pass are those that also pass a second test and those that don't
split : (m w : Bool) → one_if w ≡ one_if (not m && w) + one_if (m && w)
split m w = grind arith

count_split_by : (m w : ℕ → Bool) (n : ℕ) → count_below w n ≡ count_below (λ k. not (m k) && w k) n + count_below (λ k. m k && w k) n
count_split_by m w zero = refl
count_split_by m w (suc n) = omega (arith, split (m n) (w n), count_split_by m w n)

module _ (v : ZoneState) where
  pub marked_at : (block k : ℕ) → k < 512 → is_marked v (512 * block + k) ≡ set.contains v.marked block
  marked_at block k h = let at : (512 * block + k) / 512 ≡ block = omega arith in ap (set.contains v.marked) at

  -- a pageblock is unmarked and has only frames that pass, exactly where its frames are a run of unmarked frames that pass
  block_is_run : (free : ℕ → Bool) (block : ℕ) → (not (set.contains v.marked block) && nat_eq (count_from free (512 * block) 512) 512) ≡ nat_eq (count_from (λ frame. is_unmarked v frame && free frame) (512 * block) 512) 512
  block_is_run free block = and_same (set.contains v.marked block) (nat_eq (count_from free (512 * block) 512) 512) _
      (λ marked.
      let none : count_from (λ frame. is_unmarked v frame && free frame) (512 * block) 512 ≡ 0 =
      count_from_none (λ frame. is_unmarked v frame && free frame) (512 * block) 512 (λ k h. ap (λ (m : Bool). not m && free (512 * block + k)) (marked_at block k h ∙ marked)) in
      test_same _ 0 none)
      (λ unmarked. test_same _ _ (count_from_same (λ frame. is_unmarked v frame && free frame) free (512 * block) 512
      (λ k low high.
      let at : 512 * block + (k - 512 * block) ≡ k = omega arith in
      let here : is_marked v k ≡ false = sym (ap (is_marked v) at) ∙ marked_at block (k - 512 * block) (omega arith) ∙ unmarked in
      ap (λ (m : Bool). not m && free k) here)))

  -- the pageblocks whose frames all pass: the unmarked ones are runs of unmarked frames, and the marked ones are counted besides
  pub whole_by_marks : (free : ℕ → Bool) → whole_runs free 512 v.blocks ≡ whole_runs (λ frame. is_unmarked v frame && free frame) 512 v.blocks + count_below (λ block. set.contains v.marked block && nat_eq (count_from free (512 * block) 512) 512) v.blocks
  whole_by_marks free = omega (
    arith,
    count_split_by (set.contains v.marked) (λ block. nat_eq (count_from free (512 * block) 512) 512) v.blocks,
    count_same _ _ v.blocks (λ block h. block_is_run free block),
  )

  pub whole_is_runs : unmarked_whole v ≡ free_runs v 512
  whole_is_runs =
      let blocks : v.blocks ≡ frame_count v / 512 = omega arith in
      count_same _ _ v.blocks (λ block h. block_is_run (is_free v) block) ∙ ap (whole_runs (is_free_unmarked v) 512) blocks

  pub packed_whole : IsPacked v → unmarked_whole v ≡ unmarked_free v / 512
  packed_whole packed = whole_is_runs ∙ packed_runs 512 1 (omega arith) v packed

-- the number of whole pageblocks of a packed zone, marked or not
pub all_whole : (v : ZoneState) → IsPacked v → count_below (is_whole v) v.blocks ≡ unmarked_free v / 512 + marked_whole v
all_whole v packed = omega (arith, count_split_by (set.contains v.marked) (is_whole v) v.blocks, packed_whole v packed)
