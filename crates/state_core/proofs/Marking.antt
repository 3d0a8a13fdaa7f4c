-- A pageblock is marked, or its mark is taken off: the zone stays valid.
use Rattle.std.proofs.Common.{◌≡◌, ℕ, ◌<◌, true, false, ◌∷◌, length, refl}
use Rattle.std.specs.FinSet as set
use Rattle.frame_core.specs.declared.record.Record.TheVariants.{Mark, Unmark}
use Rattle.frame_core.specs.Blocks.{is_marked_by}
use Rattle.frame_core.specs.Moves.{out}
use Rattle.state_core.specs.Valid.{IsValidZone}
use Rattle.state_core.specs.Marking.{block_marked, block_unmarked}
use Rattle.state_core.specs.ZoneState.{ZoneState}
use Rattle.state_core.proofs.Entries.{written_at, contains_insert_same, contains_insert_other, contains_remove_same, contains_remove_other}
use Rattle.state_core.proofs.Noted.{journal_noted}
use Rattle.state_core.proofs.Quiet.{fingers_ended}

module _ (v : ZoneState) (law : IsValidZone v) (spare : length (out v.records) < v.room) (block : ℕ) where
  marks_more : (b : ℕ) → set.contains (set.insert v.marked block) b ≡ is_marked_by (Mark block ∷ v.records) b
  marks_more = written_at _ (set.contains v.marked) (is_marked_by v.records) block true (contains_insert_same v.marked block) (contains_insert_other v.marked block) law.agrees.marks

  marks_fewer : (b : ℕ) → set.contains (set.remove v.marked block) b ≡ is_marked_by (Unmark block ∷ v.records) b
  marks_fewer = written_at _ (set.contains v.marked) (is_marked_by v.records) block false (contains_remove_same v.marked block) (contains_remove_other v.marked block) law.agrees.marks

  pub valid_marked : IsValidZone (block_marked v block)
  valid_marked = record {
    size = law.size;
    addresses = law.addresses;
    journal = journal_noted (Mark block) law.journal spare law.journal.truthful law.journal.well_ended refl;
    agrees = record { named = law.agrees.named; in_use = law.agrees.in_use; under_way = law.agrees.under_way; handed = law.agrees.handed; marks = marks_more };
    pages = law.pages;
    blocks = law.blocks;
    loans = record { used = law.loans.used; pinned = law.loans.pinned; lendable = law.loans.lendable };
    fingers = fingers_ended v (block_marked v block) (Mark block) law law.fingers.ordered refl refl refl;
    sum = law.sum;
  }

  pub valid_unmarked : IsValidZone (block_unmarked v block)
  valid_unmarked = record {
    size = law.size;
    addresses = law.addresses;
    journal = journal_noted (Unmark block) law.journal spare law.journal.truthful law.journal.well_ended refl;
    agrees = record { named = law.agrees.named; in_use = law.agrees.in_use; under_way = law.agrees.under_way; handed = law.agrees.handed; marks = marks_fewer };
    pages = law.pages;
    blocks = law.blocks;
    loans = record { used = law.loans.used; pinned = law.loans.pinned; lendable = law.loans.lendable };
    fingers = fingers_ended v (block_unmarked v block) (Unmark block) law law.fingers.ordered refl refl refl;
    sum = law.sum;
  }
