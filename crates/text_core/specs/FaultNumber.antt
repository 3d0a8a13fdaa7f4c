-- The numbers of faults.
use Rattle.std.specs.Prelude.{ℕ}
use Rattle.text_core.specs.declared.error.ScriptError.{ScriptError}
use Rattle.text_core.specs.declared.error.ScriptError.TheVariants as of_line
use Rattle.text_core.specs.declared.fault.Fault.{Fault}
use Rattle.text_core.specs.declared.fault.Fault.TheVariants.{Syntax, LongLine, Read, Write, Memory}

-- the fault that ends a run where a line is wrong
abbrev pub fault_of_line : ScriptError → Fault
fault_of_line of_line.Syntax = Syntax
fault_of_line of_line.LongLine = LongLine

-- the number of a fault that ends a run
abbrev pub fault_number : Fault → ℕ
fault_number Syntax = 41
fault_number LongLine = 42
fault_number Read = 46
fault_number Write = 47
fault_number Memory = 48
