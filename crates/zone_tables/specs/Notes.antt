-- What a zone notes of its pages.
use Rattle.std.specs.Prelude.{ℕ, Bool, false, not, nat_eq, ◌&&◌, List, slice_get, slice_set, Option, Some, None, is_some}
use Rattle.std.specs.Option.{option_and_then}
use Rattle.zone_tables.specs.declared.note.PageNote.{PageNote}
use Rattle.state_core.specs.declared.placement.Placement.{Placement}
use Rattle.state_core.specs.declared.placement.Placement.TheVariants.{At}

-- the note of a number that isn't in use
abbrev pub unused_note : PageNote
unused_note = record { placement = None; unmovable = false; dirty = false; pins = 0; maps = 0 }

-- where a page is by its note, if it is in use
abbrev pub placement_of : List PageNote → ℕ → Option Placement
placement_of notes page = option_and_then (λ (note : PageNote). note.placement) (slice_get notes page)

-- whether a page number is in use
abbrev pub is_in_use : List PageNote → ℕ → Bool
is_in_use notes page = is_some (placement_of notes page)

-- whether a note that may be none says that a page is in use and unmovable
abbrev pub says_unmovable : Option PageNote → Bool
says_unmovable None = false
says_unmovable (Some note) = is_some note.placement && note.unmovable

-- whether the note of a page number says that the page is in use and unmovable
abbrev pub is_unmovable_of : List PageNote → ℕ → Bool
is_unmovable_of notes page = says_unmovable (slice_get notes page)

-- whether a page with this note may be taken from its frame: it has no pin, and wasn't mapped as unmovable
abbrev pub can_move_by : PageNote → Bool
can_move_by note = nat_eq note.pins 0 && not note.unmovable

-- the movable flags of frames, where the frame of a page with this placement got this one; a moving page changes none
abbrev pub movable_at : List Bool → Option Placement → Bool → List Bool
movable_at movable (Some (At frame)) can = slice_set movable frame can
movable_at movable _ can = movable
