-- What rights and allocations own and lend names no thread.
use Rattle.std.proofs.Common.{ℕ, ◌+◌, Bool, true, false, List, [], ◌∷◌, length, replicate}
use base.Fraction.{full_share}
use base.Fml.{Share}
use base.Shift.{Keyless}
use denote.Builtin.{u64}
use denote.RawPtr.{block_of, count_of}
use denote.Param.Send.{IsSend, IsSync, Common, part_keyless, sendable, struct_send, struct_sync, owning_send}
use denote.Struct.Owning.{shape}
use denote.Struct.Declared as declared
use Rattle.std.specs.Vec.{with_items}
use Rattle.std_alloc.specs.contracts.vec.Vec as Vec
use Rattle.std_alloc.proofs.SendSync.{Vec-send}
use Rattle.std_heap.specs.contracts.Global as Global
use Rattle.std_heap.specs.contracts.GlobalAllocator.TheImpl.{ghosts}
use Rattle.std.proofs.Crossing.{frees}
use Rattle.row_core.specs.Owned.{share_of, words_owned, words_lent}
use Rattle.row_core.specs.contracts.allocation.Allocation as Allocation
use Rattle.row_core.specs.contracts.allocation.Allocation.TheInside as Inside
use Rattle.row_core.specs.contracts.right.Right as Right

u64-send : IsSend u64
u64-send = search sendable

u64-sync : IsSync u64
u64-sync = search sendable

words_owned-keyless : (share : Share) (words : List ℕ) (here : List Bool) (b o : ℕ) → Keyless (words_owned share words here b o)
words_owned-keyless share [] here b o = tt
words_owned-keyless share (word ∷ words) [] b o = tt
words_owned-keyless share (word ∷ words) (true ∷ here) b o = (part_keyless u64 u64-send share word b o, words_owned-keyless share words here b (o + 8))
words_owned-keyless share (word ∷ words) (false ∷ here) b o = (tt, words_owned-keyless share words here b (o + 8))

words_lent-common : (words : List ℕ) (here : List Bool) (b o : ℕ) → Common (words_lent words here b o)
words_lent-common [] here b o κ = tt
words_lent-common (word ∷ words) [] b o κ = tt
words_lent-common (word ∷ words) (true ∷ here) b o κ = (u64-sync.shared word b o κ, words_lent-common words here b (o + 8) κ)
words_lent-common (word ∷ words) (false ∷ here) b o κ = (tt, words_lent-common words here b (o + 8) κ)

pub right-send : IsSend Right.the_row
right-send = owning_send Right.the_type tt (λ d. words_owned-keyless (share_of d.halves) d.items d.here (block_of d.ptr) (count_of d.ptr)) (λ k x w. tt)

pub right-sync : IsSync Right.the_row
right-sync = record { shared = λ d b o κ. ((struct_sync (shape Right.the_type) tt).shared tt b o κ, words_lent-common d.items d.here (block_of d.ptr) (count_of d.ptr) κ) }

global-send : IsSend Global.the_row
global-send = search sendable

vec-send : IsSend (Vec.the_row u64 Global.the_row ghosts)
vec-send = Vec-send u64 Global.the_row ghosts u64-send global-send frees

pub allocation-send : IsSend Allocation.the_row
allocation-send = record {
  owned = λ e vs. (
    (λ _. tt),
    λ v. (
      tt,
      λ xs. (
        (tt, words_owned-keyless full_share xs (replicate (length xs) true) (block_of e.ptr) (count_of e.ptr)),
        (struct_send (declared.shape Inside.the_type) (vec-send, tt)).owned (with_items v.list xs, tt) vs,
      ),
    ),
  );
  leaving = λ k x w. tt;
}

pub allocation-sync : IsSync Allocation.the_row
allocation-sync = record { shared = λ e b o κ. tt }
