-- What a line says.
use Rattle.std.specs.Prelude.{ℕ, List, [], ◌∷◌, map, Bool, length, nat_eq, nat_lt, codes, Option, Some, None, Result, Ok, Err, if◌then◌else◌}
use Rattle.std.specs.List.{starts_with}
use Rattle.text_core.specs.declared.command.BlockLine.{BlockLine}
use Rattle.text_core.specs.declared.command.Command.{Command}
use Rattle.text_core.specs.declared.command.Command.TheVariants.{Profile2}
use Rattle.text_core.specs.declared.error.ScriptError.{ScriptError}
use Rattle.text_core.specs.declared.error.ScriptError.TheVariants.{Syntax, LongLine}
use Rattle.text_core.specs.declared.profile.Profile.{Profile}
use Rattle.text_core.specs.declared.profile.Profile.TheVariants.{Untold}
use Rattle.text_core.specs.Grammar.{block_line_of, command_of}
use Rattle.text_core.specs.Profile.{is_profile_2}
use Rattle.text_core.specs.Token.{lexemes, token_of}

-- whether a line whose first word this is is a comment: the word begins with `#`
abbrev pub is_comment : List ℕ → Bool
is_comment lexeme = starts_with nat_eq lexeme (codes "#")

-- the command that the words of a line are, if they are one; they may be `profile 2` where no line has decided the profile yet
abbrev pub command_in : Profile → List (List ℕ) → Option Command
command_in Untold lexemes = if is_profile_2 lexemes then Some Profile2 else command_of Untold (map token_of lexemes)
command_in profile lexemes = command_of profile (map token_of lexemes)

-- what a line says, or the fault that it says nothing
abbrev pub said_or_fault : {A : Type 0} → Option A → Result (Option A) ScriptError
said_or_fault None = Err Syntax
said_or_fault (Some said) = Ok (Some said)

-- what the words of a line say: nothing where there are none, or where the line is a comment
abbrev pub lexemes_say : Profile → List (List ℕ) → Result (Option Command) ScriptError
lexemes_say profile [] = Ok None
lexemes_say profile (first ∷ more) = if is_comment first then Ok None else said_or_fault (command_in profile (first ∷ more))

-- what a line says; a line of more than 200 bytes is a fault, whatever they are
abbrev pub line_of : Profile → List ℕ → Result (Option Command) ScriptError
line_of profile line = if nat_lt 200 (length line) then Err LongLine else lexemes_say profile (lexemes line)

-- what the words of a line say in a block for the zone with this number
abbrev pub block_lexemes_say : ℕ → List (List ℕ) → Result (Option BlockLine) ScriptError
block_lexemes_say zone [] = Ok None
block_lexemes_say zone (first ∷ more) = if is_comment first then Ok None else said_or_fault (block_line_of zone (map token_of (first ∷ more)))

-- what a line says in a block for the zone with this number
abbrev pub line_within : ℕ → List ℕ → Result (Option BlockLine) ScriptError
line_within zone line = if nat_lt 200 (length line) then Err LongLine else block_lexemes_say zone (lexemes line)
