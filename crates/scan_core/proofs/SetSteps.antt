-- The counts of a set of frames stay right through each change.
use Rattle.std.proofs.Common.{refl, ◌≡◌, ℕ, ◌+◌, ◌-◌, ◌*◌, ◌/◌, ◌%◌, ◌<◌, ◌≤◌, List, length, length-set, get_or-set_other, get_or-set_same, sym, ap, ◌∙◌, subst, slice_index, arith}
use Rattle.std.specs.Prelude.{slice_set}
use Rattle.std.specs.FinSet as set
use Rattle.number_set.specs.Numbers.{Numbers}
use Rattle.frame_core.specs.FixedVec.{FixedVec}
use Rattle.scan_core.specs.BlockGroups.{IsGrouped, IsRegrouped}
use Rattle.scan_core.specs.FrameCounts.{with_fewer, with_more}
use Rattle.scan_core.specs.FrameSet.{Counts}
use Rattle.scan_core.specs.FrameSetInside.{IsCounted}
use Rattle.scan_core.specs.WholeRuns.{HasWholeRuns, IsOpen}
use Rattle.scan_core.specs.declared.block_groups.BlockGroups.{BlockGroups}
use Rattle.scan_core.specs.declared.frame_set.FrameSet.TheInside.{Inside}
use Rattle.scan_core.specs.declared.whole_runs.WholeRuns.{WholeRuns}
use Rattle.scan_core.proofs.Grouping.{regrouped}
use Rattle.scan_core.proofs.RunCounts.{Adds, count_has, count_room, counts_fewer, counts_more, room_fewer, room_more}

-- the groups that a pageblock's count of free frames makes, after this count changed
pub record IsCountGrouped (before after : BlockGroups) (counts : List ℕ) (block free : ℕ) : Type 0 where
  pub count : free ≡ slice_index counts block
  pub unmovable : after.unmovable ≡ before.unmovable
  pub regrouped : IsRegrouped before after block (slice_index before.unmovable.items block) free

groups_after : (before after : BlockGroups) (counts now : List ℕ) (at item block free : ℕ) → IsGrouped before counts → now ≡ slice_set counts at item → block ≡ at → IsCountGrouped before after now block free → IsGrouped after now
groups_after before after counts now at item block free grouped are same step =
    regrouped before after counts now block (slice_index before.unmovable.items block) grouped
    (subst (λ (n : ℕ). IsRegrouped before after block (slice_index before.unmovable.items block) n) step.count step.regrouped)
    (ap length are ∙ length-set counts at item)
    (ap (λ (v : FixedVec ℕ). slice_index v.items block) step.unmovable)
    (λ n away. ap (λ (xs : List ℕ). slice_index xs n) are ∙ get_or-set_other counts at n item 0 (λ e. away (e ∙ sym same)))
    (λ n away. ap (λ (v : FixedVec ℕ). slice_index v.items n) step.unmovable)

module _ (s : Inside) (sound : IsCounted s) (numbers : Numbers) (first number m : ℕ) (low : first < 512 * length s.blocks) (within : first % 512 + m ≤ 512) (at : number ≡ first) where
  block_low : first / 512 < length s.blocks
  block_low = omega (arith, low)

  module _ (adds : Adds (set.contains s.numbers.members) (set.contains numbers.members) first m) where
    pub more_fits : s.count + m ≤ 16777216
    more_fits = omega (arith, count_room _ _ first m within adds s.blocks block_low s.count sound.counts, sound.few)

    pub more_room : slice_index s.blocks (number / 512) + m ≤ 512
    more_room = omega (arith, room_more _ _ first m within adds s.blocks block_low sound.counts.each, ap (λ n. slice_index s.blocks (n / 512)) at)

    pub set_more : (blocks : List ℕ) → numbers.bound ≡ s.numbers.bound → blocks ≡ with_more s.blocks (number / 512) m → (runs : WholeRuns) → IsOpen runs → runs.blocks ≡ s.runs.blocks → HasWholeRuns runs (set.contains numbers.members) → (groups : BlockGroups) (block before : ℕ) → block ≡ first / 512 → before ≡ slice_index s.blocks block → groups.unmovable ≡ s.groups.unmovable → IsRegrouped s.groups groups block (slice_index s.groups.unmovable.items block) (before + m) → IsCounted (record s { numbers = numbers; count = s.count + m; blocks = blocks; runs = runs; groups = groups })
    set_more blocks same are runs runs_open as_many whole groups block before here was kept step =
        let now : blocks ≡ with_more s.blocks (first / 512) m = are ∙ ap (λ n. with_more s.blocks (n / 512) m) at in
        let count : before + m ≡ slice_index blocks block = omega (arith, was, ap (slice_index s.blocks) here, ap (λ (xs : List ℕ). slice_index xs block) now, ap (slice_index (with_more s.blocks (first / 512) m)) here, get_or-set_same s.blocks (first / 512) (slice_index s.blocks (first / 512) + m) 0 block_low) in
        let long : length blocks ≡ length s.blocks = ap length now ∙ length-set s.blocks (first / 512) (slice_index s.blocks (first / 512) + m) in
        record {
          counts = subst (λ (bs : List ℕ). Counts (s.count + m) bs (set.contains numbers.members)) (sym now) (counts_more _ _ first m within adds s.blocks block_low s.count sound.counts);
          room = omega (arith, long, same, sound.room);
          few = omega (arith, long, sound.few);
          runs_open = runs_open;
          runs_blocks = as_many ∙ sound.runs_blocks ∙ sym long;
          runs = whole;
          groups = groups_after s.groups groups s.blocks blocks (first / 512) _ block (before + m) sound.groups now here (record { count = count; unmovable = kept; regrouped = step });
        }

  module _ (adds : Adds (set.contains numbers.members) (set.contains s.numbers.members) first m) where
    pub fewer_has : m ≤ s.count
    fewer_has = count_has _ _ first m within adds s.blocks block_low s.count sound.counts

    pub fewer_room : m ≤ slice_index s.blocks (number / 512)
    fewer_room = omega (arith, room_fewer _ _ first m within adds s.blocks block_low sound.counts.each, ap (λ n. slice_index s.blocks (n / 512)) at)

    pub set_fewer : (blocks : List ℕ) → numbers.bound ≡ s.numbers.bound → blocks ≡ with_fewer s.blocks (number / 512) m → (runs : WholeRuns) → IsOpen runs → runs.blocks ≡ s.runs.blocks → HasWholeRuns runs (set.contains numbers.members) → (groups : BlockGroups) (block before : ℕ) → block ≡ first / 512 → before ≡ slice_index s.blocks block → groups.unmovable ≡ s.groups.unmovable → IsRegrouped s.groups groups block (slice_index s.groups.unmovable.items block) (before - m) → IsCounted (record s { numbers = numbers; count = s.count - m; blocks = blocks; runs = runs; groups = groups })
    set_fewer blocks same are runs runs_open as_many whole groups block before here was kept step =
        let now : blocks ≡ with_fewer s.blocks (first / 512) m = are ∙ ap (λ n. with_fewer s.blocks (n / 512) m) at in
        let count : before - m ≡ slice_index blocks block = omega (arith, was, ap (slice_index s.blocks) here, ap (λ (xs : List ℕ). slice_index xs block) now, ap (slice_index (with_fewer s.blocks (first / 512) m)) here, get_or-set_same s.blocks (first / 512) (slice_index s.blocks (first / 512) - m) 0 block_low) in
        let long : length blocks ≡ length s.blocks = ap length now ∙ length-set s.blocks (first / 512) (slice_index s.blocks (first / 512) - m) in
        record {
          counts = subst (λ (bs : List ℕ). Counts (s.count - m) bs (set.contains numbers.members)) (sym now) (counts_fewer _ _ first m within adds s.blocks block_low s.count sound.counts);
          room = omega (arith, long, same, sound.room);
          few = omega (arith, long, sound.few);
          runs_open = runs_open;
          runs_blocks = as_many ∙ sound.runs_blocks ∙ sym long;
          runs = whole;
          groups = groups_after s.groups groups s.blocks blocks (first / 512) _ block (before - m) sound.groups now here (record { count = count; unmovable = kept; regrouped = step });
        }

-- the set after the number of unmovable pages of a pageblock changed
pub set_paged : (s : Inside) → IsCounted s → (groups : BlockGroups) (block unmovable free : ℕ) → block < length s.blocks → free ≡ slice_index s.blocks block → groups.unmovable.items ≡ slice_set s.groups.unmovable.items block unmovable → IsRegrouped s.groups groups block unmovable free → IsCounted (record s { groups = groups })
set_paged s sound groups block unmovable free low count are step =
    let within : block < length s.groups.unmovable.items = omega (arith, low, sound.groups.room.unmovable) in
    record {
      counts = sound.counts;
      room = sound.room;
      few = sound.few;
      runs_open = sound.runs_open;
      runs_blocks = sound.runs_blocks;
      runs = sound.runs;
      groups = regrouped s.groups groups s.blocks s.blocks block unmovable sound.groups (subst (λ (n : ℕ). IsRegrouped s.groups groups block unmovable n) count step) refl
          (ap (λ (xs : List ℕ). slice_index xs block) are ∙ get_or-set_same s.groups.unmovable.items block unmovable 0 within) (λ n away. refl)
          (λ n away. ap (λ (xs : List ℕ). slice_index xs n) are ∙ get_or-set_other s.groups.unmovable.items block n unmovable 0 away);
    }
