-- Words may go from one thread to another, as those of a row.
use base.Shift.{Keyless}
use denote.Array.{Array}
use denote.Builtin.{u64}
use denote.RawPtr.{Ptr}
use denote.Param.Send.{IsSend, AllSend, owning_send, struct_send, sendable}
use denote.Struct.Struct.{exits_of}
use denote.Struct.Owning.{shape, fields, to}
use Rattle.std.specs.Prelude.{ℕ, length, Option, Some, None}
use Rattle.std_alloc.proofs.SendSync.{quiet, lies}
use Rattle.row_core.specs.Held.{held_at}
use Rattle.row_core.specs.Seen.{Row}
use Rattle.row_core.specs.contracts.held_words.HeldWords.{the_row, the_type}

unbound : (at : Ptr) (n : ℕ) (held : Option Row) → Keyless (held_at at n held)
unbound at n None = tt
unbound at n (Some row) = (tt, (tt, (tt, (tt, lies (Array u64 (length row.words)) (search sendable) at row.words))))

pub send : IsSend the_row
send =
    let fields_send : AllSend (fields the_type) = search sendable in
    owning_send the_type fields_send (λ held. unbound held.at held.len held.row) (λ k. quiet (to the_type) (exits_of k (fields the_type)) ((struct_send (shape the_type) fields_send).leaving k))
