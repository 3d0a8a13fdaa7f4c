-- The state of a frame, as a kind of state with the number of a page.
use Rattle.std.specs.Prelude.{◌≡◌, ℕ, nat_eq, if◌then◌else◌}
use Rattle.frame_core.specs.declared.state.FrameState.{FrameState}
use Rattle.frame_core.specs.declared.state.FrameState.TheVariants.{Free, Holds, Source, Target, Huge}

-- the state of this kind: 0 is free, 1 holds the page, 2 and 3 are the source and the target of its move, and 4 is handed out
abbrev pub state_by : ℕ → ℕ → FrameState ℕ
state_by kind page =
    if nat_eq kind 0 then Free else if nat_eq kind 1 then Holds page else if nat_eq kind 2 then Source page
    else if nat_eq kind 3 then Target page else Huge

-- the kind of a state
abbrev pub kind_of : FrameState ℕ → ℕ
kind_of Free = 0
kind_of (Holds page) = 1
kind_of (Source page) = 2
kind_of (Target page) = 3
kind_of Huge = 4

-- the number of the page of a state, or 0 where it has none
abbrev pub page_of : FrameState ℕ → ℕ
page_of Free = 0
page_of (Holds page) = page
page_of (Source page) = page
page_of (Target page) = page
page_of Huge = 0

-- there is a state of this kind with this page, or with page 0 if it has none
abbrev pub IsState : (kind page : ℕ) → Type 0
IsState kind page = (kind_of (state_by kind page) ≡ kind) × (page_of (state_by kind page) ≡ page)
