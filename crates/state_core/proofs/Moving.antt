-- A page in use takes up other frames; its names, values and pins stay.
use Rattle.std.proofs.Common.{◌≡◌, ◌≢◌, ℕ, ◌+◌, ◌-◌, ◌<◌, ◌≤◌, false, ◌∷◌, List, length, inl, inr, refl, sym, ap, ◌∙◌, arith, Some, IsTrue, is_some, ◌↔◌}
use Rattle.std.specs.FinMap as map
use Rattle.std.specs.FinSet as set
use Rattle.frame_core.specs.declared.place.Address.{Address}
use Rattle.frame_core.specs.declared.record.Cause.{Cause}
use Rattle.frame_core.specs.declared.record.Record.{Record}
use Rattle.frame_core.specs.declared.record.Record.TheVariants.{Isolate, Moved, Back}
use Rattle.frame_core.specs.Blocks.{handed_out_by, is_marked_by}
use Rattle.frame_core.specs.History.{page_at, last, dirty, pins, maps}
use Rattle.frame_core.specs.Moves.{out, IsWellEnded}
use Rattle.frame_core.specs.Truth.{IsTruthful}
use Rattle.state_core.specs.declared.placement.Placement.{Placement}
use Rattle.state_core.specs.Valid.{IsValidZone, is_under}
use Rattle.state_core.specs.Carrying.{relocated}
use Rattle.state_core.specs.Swept.{SweptIfQuiet}
use Rattle.state_core.specs.ZoneState.{ZoneState, frame_count}
use Rattle.state_core.proofs.Places.{CanChangePlace, IsOutWith, ways_of, where_is, valid_told}

-- what has to hold so that a page in use can get another placement
abbrev pub CanSettle : ZoneState → ℕ → Placement → Placement → Type 0
CanSettle v page old new = CanChangePlace v page (Some old) (Some new)

-- a record that leaves names, values, pins, blocks and marks as they are
pub record IsStill (records : List Record) (entry : Record) : Type 0 where
  pub names : (address : Address) → page_at (entry ∷ records) address ≡ page_at records address
  pub last : (page word : ℕ) → last (entry ∷ records) page word ≡ last records page word
  pub dirty : (page : ℕ) → dirty (entry ∷ records) page ≡ dirty records page
  pub pins : (page : ℕ) → pins (entry ∷ records) page ≡ pins records page
  pub maps : (page : ℕ) → maps (entry ∷ records) page ≡ maps records page
  pub handed : (first : ℕ) → handed_out_by (entry ∷ records) first ≡ handed_out_by records first
  pub marks : (block : ℕ) → is_marked_by (entry ∷ records) block ≡ is_marked_by records block

pub isolate_still : (records : List Record) (serial page : ℕ) → IsStill records (Isolate page serial)
isolate_still records serial page = record { names = λ a. refl; last = λ p w. refl; dirty = λ p. refl; pins = λ p. refl; maps = λ p. refl; handed = λ f. refl; marks = λ b. refl }

pub moved_still : (records : List Record) (serial : ℕ) → IsStill records (Moved serial)
moved_still records serial = record { names = λ a. refl; last = λ p w. refl; dirty = λ p. refl; pins = λ p. refl; maps = λ p. refl; handed = λ f. refl; marks = λ b. refl }

pub back_still : (records : List Record) (serial : ℕ) (cause : Cause) → IsStill records (Back cause serial)
back_still records serial cause = record { names = λ a. refl; last = λ p w. refl; dirty = λ p. refl; pins = λ p. refl; maps = λ p. refl; handed = λ f. refl; marks = λ b. refl }

-- what the record of a move has to fulfil so that the zone stays valid
pub record IsRecorded (v : ZoneState) (entry : Record) (page : ℕ) (new : Placement) : Type 0 where
  pub still : IsStill v.records entry
  pub truthful : IsTruthful (entry ∷ v.records)
  pub well_ended : IsWellEnded (entry ∷ v.records)
  pub spare : 0 < v.room
  pub room_left : length (out (entry ∷ v.records)) ≤ v.room - 1
  pub here : set.contains v.lent_pages page ≡ false
  pub own_way : (serial : ℕ) → IsTrue (is_under (Some new) serial) ↔ IsOutWith (entry ∷ v.records) page serial
  pub other_ways : (q serial : ℕ) → q ≢ page → IsOutWith v.records q serial ↔ IsOutWith (entry ∷ v.records) q serial
  pub ways : length (out (entry ∷ v.records)) + ways_of (map.get v.placement page) ≡ length (out v.records) + ways_of (Some new)

module _ {v : ZoneState} {page : ℕ} {old new : Placement} (can : CanSettle v page old new) where
  pub some_same : (q : ℕ) → is_some (map.get (map.insert v.placement page new) q) ≡ is_some (map.get v.placement q)
  some_same q = elim (where_is can q) [ inl here ↦ ap is_some here.2 ∙ sym (ap is_some here.1) | inr there ↦ ap is_some there.1 ]

  pub valid_settled : (entry : Record) → IsRecorded v entry page new → (migrate free : ℕ) → (migrate ≤ free) × (free ≤ frame_count v) → SweptIfQuiet (record (relocated v entry page new) { migrate = migrate; free = free }) → IsValidZone (record (relocated v entry page new) { migrate = migrate; free = free })
  valid_settled entry recorded =
      let law = can.valid in
      let still = recorded.still in
      valid_told can entry v.unmovable (record {
        truthful = recorded.truthful;
        well_ended = recorded.well_ended;
        spare = recorded.spare;
        room_left = recorded.room_left;
        named = λ a q is. (let before = law.agrees.named a q (sym (still.names a) ∙ is) in (before.0, some_same q ∙ before.1));
        in_use = λ q used.
            let before = law.agrees.in_use q (sym (some_same q) ∙ used) in
            let m = still.maps q in
            let p = still.pins q in
            (omega (arith, before.0, m), omega (arith, before.1, m), omega (arith, before.2, p));
        own_way = recorded.own_way;
        other_ways = recorded.other_ways;
        ways = recorded.ways;
        handed = still.handed;
        marks = still.marks;
        here = recorded.here;
        pins_kept = λ q lent. still.pins q;
        stay = λ q e. some_same q ∙ law.pages.unmovable q e;
      })
