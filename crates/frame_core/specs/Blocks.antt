-- What the records of a journal say of blocks. The newest record stands first.
use Rattle.std.specs.Prelude.{ℕ, Bool, true, false, List, [], ◌∷◌, nat_eq, if◌then◌else◌, Option, Some, None}
use Rattle.frame_core.specs.declared.record.Record.{Record}
use Rattle.frame_core.specs.declared.record.Record.TheVariants.{TakeHuge, GiveHuge, Mark, Unmark}

-- the order of the block that is handed out from this first frame on, and none where no such block is
abbrev pub handed_out_by : List Record → ℕ → Option ℕ
handed_out_by [] first = None
handed_out_by (TakeHuge frame order ∷ older) first = if nat_eq frame first then Some order else handed_out_by older first
handed_out_by (GiveHuge frame order ∷ older) first = if nat_eq frame first then None else handed_out_by older first
handed_out_by (_ ∷ older) first = handed_out_by older first

-- whether a pageblock is marked: the scanners pass over it
abbrev pub is_marked_by : List Record → ℕ → Bool
is_marked_by [] block = false
is_marked_by (Mark marked ∷ older) block = if nat_eq marked block then true else is_marked_by older block
is_marked_by (Unmark unmarked ∷ older) block = if nat_eq unmarked block then false else is_marked_by older block
is_marked_by (_ ∷ older) block = is_marked_by older block
