-- What a pool owns.
use Rattle.std.specs.Prelude.{Option, Some, None}
use Rattle.std.specs.Coded.{coded_option}
use base.Fml.{Fml, feq}
use base.Stored.{Coded}
use denote.RawPtr.{Ptr, null_ptr}
use Rattle.std.specs.Box.Ownership.{box_owns}
use Rattle.std_heap.specs.contracts.GlobalAllocator.TheImpl.{ghosts}
use Rattle.std_heap.specs.declared.Global.{Global}
use mir.Syntax.{Ty}
use Rattle.state_core.specs.ZoneCode.{coded_zone}
use Rattle.state_core.specs.ZoneState.{ZoneState}
use Rattle.compactd_c.specs.contracts.zone.Zone.{the_row}

-- the heap, of which there is one
abbrev pub heap : Global
heap = record { memory = record { seal = tt } }

-- the right to free a block of the heap
abbrev pub heap_token : Ty → Ptr → Fml
heap_token type p = ghosts.dealloc_token heap type p

-- nothing where it is closed, whose pointer is null; else the zone at its pointer, with the right to free its memory
abbrev pub pool_owns : Ptr → Option ZoneState → Fml
pool_owns p None = feq Ptr p null_ptr
pool_owns p (Some z) = box_owns heap_token the_row p z

-- how the logic stores the zone of a pool
abbrev pub pool_coded : Coded (Option ZoneState)
pool_coded = coded_option coded_zone
