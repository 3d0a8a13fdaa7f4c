-- One more record leaves a zone valid where each page stays in its place.
use Rattle.std.proofs.Common.{◌≡◌, ℕ, true, ◌<◌, ◌≤◌, ◌-◌, List, ◌∷◌, length, arith, ap, Some, IsSome, sym, ◌∙◌}
use Rattle.std.specs.Prelude.{◌↔◌}
use Rattle.std.specs.FinMap as map
use Rattle.std.specs.FinSet as set
use Rattle.frame_core.specs.Address.{InTable}
use Rattle.frame_core.specs.declared.place.Address.{Address}
use Rattle.frame_core.specs.declared.record.Record.{Record}
use Rattle.frame_core.specs.Blocks.{handed_out_by, is_marked_by}
use Rattle.frame_core.specs.History.{page_at, maps, pins}
use Rattle.frame_core.specs.Moves.{out, IsWellEnded}
use Rattle.frame_core.specs.Truth.{IsTruthful}
use Rattle.state_core.specs.declared.placement.Placement.TheVariants.{At}
use Rattle.state_core.specs.Valid.{IsValidZone, HasValidJournal}
use Rattle.state_core.specs.Swept.{SweptIfQuiet}
use Rattle.state_core.specs.ZoneState.{ZoneState, noted}
use Rattle.state_core.proofs.Places.{IsOutWith}
use Rattle.state_core.proofs.Quiet.{begun_more}

-- what a record has to fulfil so that the zone stays valid, where each page stays in its place
pub record IsNoted (v : ZoneState) (entry : Record) : Type 0 where
  pub truthful : IsTruthful (entry ∷ v.records)
  pub well_ended : IsWellEnded (entry ∷ v.records)
  pub named : (address : Address) (page : ℕ) → page_at (entry ∷ v.records) address ≡ Some page → InTable v.spaces v.vpages address × IsSome (map.get v.placement page)
  pub in_use : (page : ℕ) → IsSome (map.get v.placement page) → (0 < maps (entry ∷ v.records) page) × (maps (entry ∷ v.records) page ≤ 4) × (pins (entry ∷ v.records) page ≤ 255)
  pub out : out (entry ∷ v.records) ≡ out v.records
  pub ways : (page serial : ℕ) → IsOutWith v.records page serial ↔ IsOutWith (entry ∷ v.records) page serial
  pub handed : (first : ℕ) → handed_out_by (entry ∷ v.records) first ≡ handed_out_by v.records first
  pub marks : (block : ℕ) → is_marked_by (entry ∷ v.records) block ≡ is_marked_by v.records block
  pub pinned : (page frame : ℕ) → set.contains v.lent_pages page ≡ true → map.get v.placement page ≡ Some (At frame) → 0 < pins (entry ∷ v.records) page
  pub swept : SweptIfQuiet (noted v entry)

-- a record that neither isolates a page nor ends its move leaves the journal valid, where it has a place for it
pub journal_noted : {records : List Record} {room : ℕ} (entry : Record) → HasValidJournal records room → length (out records) < room → IsTruthful (entry ∷ records) → IsWellEnded (entry ∷ records) → out (entry ∷ records) ≡ out records → HasValidJournal (entry ∷ records) (room - 1)
journal_noted entry journal spare truthful well_ended out =
    record { places = (let before = journal.places in omega arith); truthful = truthful; well_ended = well_ended; room_left = omega (arith, ap (λ (list : List ℕ). length list) out) }

pub valid_noted : (v : ZoneState) → IsValidZone v → (entry : Record) → length (out v.records) < v.room → IsNoted v entry → IsValidZone (noted v entry)
valid_noted v law entry spare told = record {
  size = law.size;
  addresses = law.addresses;
  journal = journal_noted entry law.journal spare told.truthful told.well_ended told.out;
  agrees = record {
    named = told.named;
    in_use = told.in_use;
    under_way = λ page serial. (λ under. (told.ways page serial).0 ((law.agrees.under_way page serial).0 under), λ way. (law.agrees.under_way page serial).1 ((told.ways page serial).1 way));
    handed = λ first. law.agrees.handed first ∙ sym (told.handed first);
    marks = λ block. law.agrees.marks block ∙ sym (told.marks block);
  };
  pages = law.pages;
  blocks = law.blocks;
  loans = record { used = law.loans.used; pinned = told.pinned; lendable = law.loans.lendable };
  fingers = record { ordered = law.fingers.ordered; begun = λ start e. begun_more v.records entry v.round law.fingers.begun start e; swept = told.swept };
  sum = omega (arith, law.sum, ap (λ (list : List ℕ). length list) told.out);
}
