-- The exit status.
use Rattle.std.specs.Prelude.{ℕ}
use Rattle.clap.specs.declared.error.kind.ErrorKind.{ErrorKind}
use Rattle.clap.specs.declared.error.kind.ErrorKind.TheVariants.{DisplayHelp, DisplayVersion, OutOfMemory}

-- the status for an answer of clap's that isn't options
abbrev pub status_of : ErrorKind → ℕ
status_of DisplayHelp = 0
status_of DisplayVersion = 0
status_of OutOfMemory = 1
status_of _ = 2
