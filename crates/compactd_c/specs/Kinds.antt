-- The two kinds of zones that a pool may have.
use Rattle.std.specs.Prelude.{ℕ, IsTrue, ◌||◌, nat_eq}
use Rattle.state_core.specs.ZoneState.{ZoneState}
use Rattle.compactd_c.specs.declared.zone.Kind.{Kind}
use Rattle.compactd_c.specs.declared.zone.Kind.TheVariants.{Small, Large}

-- the state of a zone of either kind
abbrev pub state_in : Kind → ZoneState
state_in (Small z) = z
state_in (Large z) = z

-- pages may have so many words: 8, which are 64 bytes, or 512, which are 4 KiB
abbrev pub IsPageSize : ℕ → Type 0
IsPageSize words = IsTrue (nat_eq words 8 || nat_eq words 512)
