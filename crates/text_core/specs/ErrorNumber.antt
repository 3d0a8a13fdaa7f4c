-- The numbers of faults in a line.
use Rattle.std.specs.Prelude.{ℕ}
use Rattle.text_core.specs.declared.error.ScriptError.{ScriptError}
use Rattle.text_core.specs.declared.error.ScriptError.TheVariants.{Syntax, LongLine}

-- the number of a fault in a line, 41 or 42
abbrev pub script_error_number : ScriptError → ℕ
script_error_number Syntax = 41
script_error_number LongLine = 42
