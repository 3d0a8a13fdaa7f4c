-- How a run stops before the end of its script, and what the writer for faults is told of it.
use Rattle.std.specs.Prelude.{◌≡◌, ◌⊎◌, ℕ, Bool, IsTrue, List, ◌++◌, codes, decimal, take, Option, IfSome}
use Rattle.std.specs.Io.KnownBytes.{Appends, Keeps}
use Rattle.text_core.specs.declared.fault.Fault.TheVariants.{Read, Write, Memory}
use Rattle.text_core.specs.declared.fault.RunError.{RunError}
use Rattle.text_core.specs.FaultNumber.{fault_number}
use Rattle.text_core.specs.Streams.{CannotReadOn}
use Rattle.script_core.specs.Runs.{IsEndedEarly}

-- the line that says which fault ended the run, and at which line of the script
abbrev pub fault_line : RunError → List ℕ
fault_line e = codes "compactd: fault " ++ decimal (fault_number e.fault) ++ codes " at line " ++ decimal e.line ++ codes "\n"

-- a writer failed or took no byte within this line
pub record FailsIn (line : List ℕ) (old new : Option (List ℕ)) (stuck : Bool) : Type 0 where
  pub failed : IsTrue stuck
  pub taken : ℕ
  pub written : Appends old new (take taken line)

-- exactly the line of the error was written, unless the writer failed
abbrev pub Tells : RunError → (old new : Option (List ℕ)) → Bool → Type 0
Tells e old new stuck = Appends old new (fault_line e) ⊎ FailsIn (fault_line e) old new stuck

-- there was no memory to read the words: the fault is 48 at line 0, and no reply was written
pub record LacksMemory (status : ℕ) (old new told told_new : Option (List ℕ)) (stuck : Bool) : Type 0 where
  pub ends : status ≡ 1
  pub quiet : Keeps old new
  pub tells : Tells (record { fault = Memory; line = 0 }) told told_new stuck

-- the run stopped with an error, which says what was read and written, has its cause, and was told
pub record Stops (places : ℕ) (left left_new old new : Option (List ℕ)) (reads reads_new : ℕ) (failed stuck : Bool)
    (told told_new : Option (List ℕ)) (told_stuck : Bool) : Type 0 where
  pub error : RunError
  pub ends : IfSome left (λ input. IsEndedEarly places error input left left_new old new)
  pub unread : error.fault ≡ Read → CannotReadOn failed reads reads_new left
  pub unwritten : error.fault ≡ Write → IsTrue stuck
  pub tells : Tells error told told_new told_stuck
