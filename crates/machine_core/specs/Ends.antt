-- How a run may end.
use Rattle.std.specs.Prelude.{◌≡◌, ℕ, ◌+◌, ◌⊎◌, Bool, true, false, IsTrue, List, ◌∷◌, ◌++◌, Option, Some, None, IfSome, Result, Ok, Err}
use Rattle.std.specs.Io.KnownBytes.{Appends, Consumes}
use Rattle.text_core.specs.declared.fault.Fault.{Fault}
use Rattle.text_core.specs.declared.fault.Fault.TheVariants.{Syntax, LongLine, Read, Write, Memory}
use Rattle.text_core.specs.declared.fault.RunError.{RunError}
use Rattle.text_core.specs.declared.totals.Totals.{Totals}
use Rattle.machine_core.specs.Machine.{opens}
use Rattle.text_core.specs.Reply.{newlines}
use Rattle.text_core.specs.Script.{StopsIn, IsBeginning, IsOfEnd, Numbered, commands_of, fault_of, texts}
use Rattle.machine_core.specs.Replies.{answers_from, answers_of, output_of, world_after}

-- whether a fault is in the script itself
abbrev pub is_of_script : Fault → Bool
is_of_script Syntax = true
is_of_script LongLine = true
is_of_script Read = false
is_of_script Write = false
is_of_script Memory = false

-- whether a script was read to its end or to its first fault
abbrev pub is_over : Result Totals RunError → Bool
is_over (Ok totals) = true
is_over (Err e) = is_of_script e.fault

-- a read failed after these bytes; they have no fault, or only the one that an end there would make, and their commands were answered
pub record FailsAfter (places : ℕ) (left left_new old new : Option (List ℕ)) (line : ℕ) : Type 0 where
  pub past : List ℕ
  pub read : Consumes left left_new past
  pub clean : IfSome (fault_of past) (IsOfEnd past)
  pub written : Appends old new (output_of places past)
  pub at : line ≡ newlines past + 1

-- after these commands comes one that opens a zone, at this line
pub record IsOpening (places : ℕ) (input : List ℕ) (before : List Numbered) (line : ℕ) : Type 0 where
  pub command : Numbered
  pub later : List Numbered
  pub order : commands_of input ≡ before ++ command ∷ later
  pub opening : IsTrue (opens (world_after places None before) command.command)
  pub at : line ≡ command.line

-- there was no memory for the zone that the command at this line opens, or for the block that the line begins, and the commands before it
-- were answered
pub record LacksMemory (places : ℕ) (input : List ℕ) (old new : Option (List ℕ)) (line : ℕ) : Type 0 where
  pub before : List Numbered
  pub opening : IsOpening places input before line ⊎ IsBeginning input before line
  pub written : Appends old new (texts (answers_from places None before))

-- how a run ended that was ended by this fault
abbrev pub EndsIn : Fault → ℕ → List ℕ → RunError → (left left_new old new : Option (List ℕ)) → Type 0
EndsIn Syntax places input e left left_new old new = (fault_of input ≡ Some e) × Appends old new (output_of places input)
EndsIn LongLine places input e left left_new old new = (fault_of input ≡ Some e) × Appends old new (output_of places input)
EndsIn Read places input e left left_new old new = FailsAfter places left left_new old new e.line
EndsIn Write places input e left left_new old new = StopsIn (answers_of places input) old new e.line
EndsIn Memory places input e left left_new old new = LacksMemory places input old new e.line
