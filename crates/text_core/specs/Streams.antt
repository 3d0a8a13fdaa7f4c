-- What contracts see of a reader and a writer that note how each read and write went.
use Rattle.std.specs.Prelude.{◌≡◌, ℕ, ◌+◌, ◌-◌, ◌^◌, ◌<◌, ◌≤◌, ◌⊎◌, min, Bool, IsTrue, List, length, Option, IfErr, IfSome, OnOk, Result, MatchResult, ⊤, false}
use Rattle.text_core.specs.declared.fault.Fault.TheVariants.{Read, Write}
use Rattle.text_core.specs.declared.fault.RunError.{RunError}

-- a reader: the bytes that are left, where they are known, the number of reads that gave bytes, and whether the last read failed
pub record Source : Type 0 where
  pub left : Option (List ℕ)
  pub reads : ℕ
  pub failed : Bool

-- a text that is read: the bytes that are left, and the number of reads that gave bytes
pub record Text : Type 0 where
  pub left : List ℕ
  pub reads : ℕ

-- a writer: the bytes that it took, where they are known, and whether the last write failed or took no byte
pub record Sink : Type 0 where
  pub taken : Option (List ℕ)
  pub stuck : Bool

-- the count of reads grows by one where a read gave bytes, up to the largest number
abbrev pub Counts : {E : Type 0} → Result ℕ E → ℕ → ℕ → Type 0
Counts result old new = MatchResult result (λ n. (n ≡ 0 → new ≡ old) × (0 < n → new ≡ min (old + 1) (2 ^ 64 - 1))) (λ _. new ≡ old)

-- a write failed or took no byte
abbrev pub TookNone : {E : Type 0} → Result ℕ E → Type 0
TookNone result = MatchResult result (λ n. n ≡ 0) (λ _. ⊤)

-- ten million reads gave bytes, as far as these can be counted
pub record IsTooLong (reads reads_new : ℕ) (left : Option (List ℕ)) : Type 0 where
  pub many : min (reads + 10000000) (2 ^ 64 - 1) ≤ reads_new
  pub long : IfSome left (λ input. 10000000 ≤ length input)

-- a read failed, or ten million reads didn't come to the end
abbrev pub CannotReadOn : Bool → (reads reads_new : ℕ) → Option (List ℕ) → Type 0
CannotReadOn failed reads reads_new left = IsTrue failed ⊎ IsTooLong reads reads_new left

-- How a run leaves its reader and its writer: where it came to its end, no read failed, and at most ten million reads gave bytes. Where a read
-- ended it, the reader can't be read on; where a write did, the writer is stuck.
pub record LeavesStreams {T : Type 0} (failed : Bool) (reads reads_new : ℕ) (left : Option (List ℕ)) (stuck_new : Bool) (result : Result T RunError) : Type 0 where
  pub heard : OnOk result (failed ≡ false)
  pub few : reads_new ≤ reads + 10000000
  pub unread : IfErr result (λ error. error.fault ≡ Read → CannotReadOn failed reads reads_new left)
  pub stuck : IfErr result (λ error. error.fault ≡ Write → IsTrue stuck_new)
