-- A pool may go from one thread to another: its zone lies in memory that any thread may free.
use mir.Raw.{raw as bare}
use base.Shift.{Keyless}
use denote.Memory.{lone}
use denote.RawPtr.{Ptr}
use denote.Param.Send.{IsSend, AllSend, owning_send, struct_send, sendable}
use denote.Struct.Struct.{exits_of}
use denote.Struct.Owning.{shape, fields, to}
use Rattle.std.specs.Prelude.{Option, Some, None}
use Rattle.std_alloc.proofs.SendSync.{quiet, lies}
use Rattle.std.proofs.Crossing.{frees}
use Rattle.compactd_c.specs.contracts.zone.Zone.{the_row as Z}
use Rattle.compactd_c.proofs.zone.Zone.TheSendSync.{the_send}
use Rattle.compactd_c.specs.Owned.{heap, pool_owns}
use Rattle.compactd_c.specs.contracts.pool.Pool.{the_row, the_type}

unbound : (at : Ptr) (held : Option Z.Denot) → Keyless (pool_owns at held)
unbound at None = tt
unbound at (Some zone) = (lies Z the_send at zone, frees.frees heap (bare (lone Z.mir)) at)

pub send : IsSend the_row
send =
    let pointer : AllSend (fields the_type) = search sendable in
    owning_send the_type pointer (λ pool. unbound pool.at pool.zone) (λ k. quiet (to the_type) (exits_of k (fields the_type)) ((struct_send (shape the_type) pointer).leaving k))
