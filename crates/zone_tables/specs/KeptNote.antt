-- What the sixteen bytes say that keep a note of a page. The tag beside its frame is its marks, of which each says four things.
use Rattle.std.specs.Prelude.{ℕ, ◌/◌, ◌%◌, nat_eq, if◌then◌else◌, Option, Some, None}
use Rattle.state_core.specs.declared.placement.Placement.{Placement}
use Rattle.state_core.specs.declared.placement.Placement.TheVariants.{At, Moving}
use Rattle.frame_core.specs.Tagged.{Tagged}
use Rattle.zone_tables.specs.declared.note.PageNote.{PageNote}

-- where a page is: nowhere, in a frame, or moving from it to a target
abbrev pub placement_of_kind : (kind serial frame target : ℕ) → Option Placement
placement_of_kind kind serial frame target =
    if nat_eq kind 0 then None else if nat_eq kind 1 then Some (At frame) else Some (Moving serial frame target)

-- the note: marks are addresses + 16 unmovable + 32 dirty + 64 kind, and the pins stand beside the target
abbrev pub note_kept : (serial : ℕ) (frame target : Tagged) → PageNote
note_kept serial frame target = record {
  placement = placement_of_kind (frame.tag / 64) serial frame.number target.number;
  unmovable = nat_eq (frame.tag / 16 % 2) 1;
  dirty = nat_eq (frame.tag / 32 % 2) 1;
  pins = target.tag;
  maps = frame.tag % 16;
}
