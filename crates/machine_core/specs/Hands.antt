-- What a hand of a world holds.
use Rattle.std.specs.Prelude.{ℕ, ◌-◌, Bool, true, false, List, slice_get, unwrap_or, Option, Some, None}
use Rattle.machine_core.specs.declared.hands.Held.{Held}
use Rattle.machine_core.specs.declared.hands.Held.TheVariants.{Nothing, Page, Copy}

-- what hand k, 1 to 4, holds
abbrev pub held_at : {P C : Type 0} → List (Held P C) → ℕ → Held P C
held_at hands k = unwrap_or (slice_get hands (k - 1)) Nothing

-- whether a hand holds nothing
abbrev pub is_nothing : {P C : Type 0} → Held P C → Bool
is_nothing Nothing = true
is_nothing _ = false

-- the page that a hand holds, if it holds one
abbrev pub page_held : {P C : Type 0} → Held P C → Option P
page_held (Page p) = Some p
page_held _ = None

-- the copy that a hand holds, if it holds one
abbrev pub copy_held : {P C : Type 0} → Held P C → Option C
copy_held (Copy p) = Some p
copy_held _ = None

-- the serial of the page or copy that a hand holds, if it holds one
abbrev pub serial_in : Held ℕ ℕ → Option ℕ
serial_in Nothing = None
serial_in (Page serial) = Some serial
serial_in (Copy serial) = Some serial
