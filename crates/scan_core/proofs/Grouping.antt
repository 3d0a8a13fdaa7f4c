-- The groups of pageblocks, as they are opened and after a change of one pageblock.
use Rattle.std.proofs.Common.{◌≡◌, ◌≢◌, ℕ, ◌<◌, ◌≤◌, Bool, true, false, List, length, inl, inr, refl, sym, ap, ◌∙◌, eq-eqb, replicate, slice_index, arith}
use Rattle.std.specs.Prelude.{◌&&◌, nat_eq, nat_lt, if◌then◌else◌}
use Rattle.std.specs.FinSet as set
use Rattle.std.specs.Ordering.{nat_cmp}
use Rattle.std.proofs.Math.Bool.{and-false}
use Rattle.std.proofs.lemmas.Bool.{ne_eqb}
use Rattle.std.proofs.lemmas.Bool.Decides.{eqb_tells, leb_tells}
use Rattle.std.proofs.lemmas.List.{get_or_past, length-replicate}
use Rattle.scan_core.specs.BlockGroups.{IsGrouped, IsRegrouped, takes_another, takes_unmovable}
use Rattle.scan_core.specs.declared.block_groups.BlockGroups.{BlockGroups}
use Rattle.scan_core.proofs.FrameSets.{keep_if}
use Rattle.scan_core.proofs.Masking.{clash}
use Rattle.scan_core.proofs.Seeing.{skipped, taken}
use Rattle.scan_core.proofs.Spanning.{both}
use Rattle.scan_core.proofs.Tallying.{item_of}

-- an item of a list of equal numbers is 0 or that number
item_or_none : (item blocks block : ℕ) (p : ℕ → Bool) → p item ≡ false → p 0 ≡ false → p (slice_index (replicate blocks item) block) ≡ false
item_or_none item blocks block p fails fails_none = elim (leb_tells (length (replicate {A = ℕ} blocks item)) block) [
  | inl past ↦ (ap p (get_or_past (replicate {A = ℕ} blocks item) block 0 past.1) ∙ fails_none)
  | inr under ↦ (ap p (item_of (replicate {A = ℕ} blocks item) blocks item block refl under.1) ∙ fails)
]

none_unmovable : (blocks block : ℕ) → slice_index (replicate {A = ℕ} blocks 0) block ≡ 0
none_unmovable blocks block = elim (leb_tells (length (replicate {A = ℕ} blocks 0)) block) [
  | inl past ↦ get_or_past (replicate {A = ℕ} blocks 0) block 0 past.1
  | inr under ↦ item_of (replicate {A = ℕ} blocks 0) blocks 0 block refl under.1
]

-- where all pageblocks are whole, there is nothing in the groups
pub grouped_whole : (groups : BlockGroups) (blocks : ℕ) → groups.unmovable.items ≡ replicate blocks 0 → groups.with_unmovable.members ≡ set.empty → groups.without_unmovable.members ≡ set.empty → blocks ≤ groups.with_unmovable.bound → blocks ≤ groups.without_unmovable.bound → IsGrouped groups (replicate blocks 512)
grouped_whole groups blocks none with_none without_none with_room without_room =
    let long : length (replicate {A = ℕ} blocks 512) ≡ blocks = length-replicate blocks 512 in
    let as_many : length groups.unmovable.items ≡ blocks = ap length none ∙ length-replicate blocks 0 in
    let unmovable = λ (block : ℕ). ap (λ (xs : List ℕ). slice_index xs block) none ∙ none_unmovable blocks block in
    record {
      room = record { unmovable = as_many ∙ sym long; with_unmovable = omega (arith, long, with_room); without_unmovable = omega (arith, long, without_room) };
      with_unmovable = λ block. ap (λ s. set.contains s block) with_none ∙ set.contains-empty nat_cmp block
          ∙ sym (ap (λ u. takes_unmovable u (slice_index (replicate blocks 512) block)) (unmovable block));
      without_unmovable = λ block. ap (λ s. set.contains s block) without_none ∙ set.contains-empty nat_cmp block
          ∙ sym (ap (λ u. takes_another u (slice_index (replicate blocks 512) block)) (unmovable block) ∙ item_or_none 512 blocks block (takes_another 0) refl refl);
    }

-- a group after one pageblock changed
member : (takes : ℕ → ℕ → Bool) (c d : ℕ → Bool) (u v f g : ℕ → ℕ) (block unmovable : ℕ) → v block ≡ unmovable → ((n : ℕ) → c n ≡ takes (u n) (f n)) → ((n : ℕ) → d n ≡ (if nat_eq n block then takes unmovable (g block) else c n))
    → ((n : ℕ) → n ≢ block → v n ≡ u n) → ((n : ℕ) → n ≢ block → g n ≡ f n) → (n : ℕ) → d n ≡ takes (v n) (g n)
member takes c d u v f g block unmovable is before after same_u same_f n = after n ∙ elim (eqb_tells n block) [
  | inl at ↦ (taken (nat_eq n block) (takes unmovable (g block)) (c n) (eq-eqb n block at.1) ∙ ap (λ k. takes k (g block)) (sym is) ∙ ap (λ k. takes (v k) (g k)) (sym at.1))
  | inr away ↦ (skipped (nat_eq n block) (takes unmovable (g block)) (c n) (ne_eqb n block away.1) ∙ before n ∙ (λ i. takes (sym (same_u n away.1) i) (sym (same_f n away.1) i)))
]

-- the groups stay those that the numbers make through a change of one pageblock
pub regrouped : (before after : BlockGroups) (free now : List ℕ) (block unmovable : ℕ) → IsGrouped before free → IsRegrouped before after block unmovable (slice_index now block) → length now ≡ length free → slice_index after.unmovable.items block ≡ unmovable
    → ((n : ℕ) → n ≢ block → slice_index now n ≡ slice_index free n) → ((n : ℕ) → n ≢ block → slice_index after.unmovable.items n ≡ slice_index before.unmovable.items n) → IsGrouped after now
regrouped before after free now block unmovable grouped step long is same_free same_unmovable =
    let room = step.room (length free) grouped.room in
    record {
      room = record { unmovable = room.unmovable ∙ sym long; with_unmovable = omega (arith, long, room.with_unmovable); without_unmovable = omega (arith, long, room.without_unmovable) };
      with_unmovable = member takes_unmovable (set.contains before.with_unmovable.members) (set.contains after.with_unmovable.members) (slice_index before.unmovable.items) (slice_index after.unmovable.items) (slice_index free) (slice_index now) block unmovable is
          grouped.with_unmovable step.with_unmovable same_unmovable same_free;
      without_unmovable = member takes_another (set.contains before.without_unmovable.members) (set.contains after.without_unmovable.members) (slice_index before.unmovable.items) (slice_index after.unmovable.items) (slice_index free) (slice_index now) block unmovable is
          grouped.without_unmovable step.without_unmovable same_unmovable same_free;
    }

-- a pageblock with no free frame is in no group, and none past the last one is
none_free : (takes : ℕ → ℕ → Bool) (unmovable : ℕ) (free : List ℕ) (block : ℕ) → takes unmovable 0 ≡ false → takes unmovable (slice_index free block) ≡ true → block < length free
none_free takes unmovable free block fails e = elim (leb_tells (length free) block) [
  | inl past ↦ absurd (clash _ e (ap (takes unmovable) (get_or_past free block 0 past.1) ∙ fails))
  | inr under ↦ under.1
]

no_free : (unmovable : ℕ) → (takes_unmovable unmovable 0 ≡ false) × (takes_another unmovable 0 ≡ false)
no_free unmovable = (and-false (nat_lt 0 unmovable), and-false (nat_eq unmovable 0))

pub member_low : (groups : BlockGroups) (free : List ℕ) → IsGrouped groups free → (block : ℕ) → (set.contains groups.with_unmovable.members block ≡ true → block < length free) × (set.contains groups.without_unmovable.members block ≡ true → block < length free)
member_low groups free grouped block =
    let unmovable = slice_index groups.unmovable.items block in (
      λ e. none_free takes_unmovable unmovable free block (no_free unmovable).0 (sym (grouped.with_unmovable block) ∙ e),
      λ e. none_free takes_another unmovable free block (no_free unmovable).1 (sym (grouped.without_unmovable block) ∙ e),
    )

-- a pageblock that is neither full nor whole before and after a change stays in its groups
partly_alike : (unmovable before free : ℕ) → (nat_lt 0 before && nat_lt before 512) ≡ true → (nat_lt 0 free && nat_lt free 512) ≡ true → (takes_unmovable unmovable before ≡ takes_unmovable unmovable free) × (takes_another unmovable before ≡ takes_another unmovable free)
partly_alike unmovable before free was is = (ap (λ b. nat_lt 0 unmovable && b) ((both (nat_lt 0 before) (nat_lt before 512) was).0 ∙ sym (both (nat_lt 0 free) (nat_lt free 512) is).0), ap (λ b. nat_eq unmovable 0 && b) (was ∙ sym is))

pub still_grouped : (groups : BlockGroups) (block before free : ℕ) → (nat_lt 0 before && nat_lt before 512) ≡ true → (nat_lt 0 free && nat_lt free 512) ≡ true → set.contains groups.with_unmovable.members block ≡ takes_unmovable (slice_index groups.unmovable.items block) before
    → set.contains groups.without_unmovable.members block ≡ takes_another (slice_index groups.unmovable.items block) before → IsRegrouped groups groups block (slice_index groups.unmovable.items block) free
still_grouped groups block before free was is with_one without_one =
    let alike = partly_alike (slice_index groups.unmovable.items block) before free was is in
    record {
      room = λ blocks room. room;
      with_unmovable = λ n. keep_if n block (set.contains groups.with_unmovable.members) _ (with_one ∙ alike.0);
      without_unmovable = λ n. keep_if n block (set.contains groups.without_unmovable.members) _ (without_one ∙ alike.1);
    }
