-- The commands of a script, and its first fault.
use Rattle.std.specs.Prelude.{◌≡◌, ℕ, ◌+◌, ◌<◌, ◌⊎◌, ⊤, List, [], ◌∷◌, ◌++◌, length, flat_map, nat_eq, nat_lt, Option, Some, None, Result, Ok, Err, if◌then◌else◌}
use Rattle.std.specs.List.{slice_split}
use Rattle.std.specs.Option.{option_or}
use Rattle.std.specs.Io.KnownBytes.{Appends}
use Rattle.state_core.specs.declared.call.ZoneCall.{ZoneCall}
use Rattle.text_core.specs.declared.command.BlockLine.{BlockLine}
use Rattle.text_core.specs.declared.command.BlockLine.TheVariants.{Client, End}
use Rattle.text_core.specs.declared.command.Command.{Command}
use Rattle.text_core.specs.declared.command.Command.TheVariants.{During}
use Rattle.text_core.specs.declared.error.ScriptError.{ScriptError}
use Rattle.text_core.specs.declared.profile.Profile.{Profile}
use Rattle.text_core.specs.declared.profile.Profile.TheVariants.{Untold}
use Rattle.text_core.specs.declared.fault.Fault.{Fault}
use Rattle.text_core.specs.declared.fault.Fault.TheVariants.{Syntax, LongLine}
use Rattle.text_core.specs.declared.fault.RunError.{RunError}
use Rattle.text_core.specs.declared.reply.Reply.{Reply}
use Rattle.text_core.specs.FaultNumber.{fault_of_line}
use Rattle.text_core.specs.Line.{line_within, line_of}
use Rattle.text_core.specs.Profile.{profile_told}
use Rattle.text_core.specs.Reply.{newlines, text_of}

-- a line of a client: its number, and the call, or None where an argument is out of its range
pub record ClientLine : Type 0 where
  pub line : ℕ
  pub call : Option (ZoneCall 8)

-- a command with the number of its line, and the client lines of its block; only `during` has such lines
pub record Numbered : Type 0 where
  pub line : ℕ
  pub command : Command
  pub clients : List ClientLine

-- a block that has begun: the line of its `during`, the number of its zone, and its client lines so far
pub record Block : Type 0 where
  pub line : ℕ
  pub zone : ℕ
  pub clients : List ClientLine

-- how the next line is read: by which profile, and in which block, if it is in one
pub record Reading : Type 0 where
  pub profile : Profile
  pub block : Option Block

-- what a line makes: the command that it ends, if it ends one, and how the next line is read
pub record Came : Type 0 where
  pub ended : Option Numbered
  pub reading : Reading

-- a reply with the number of the line that it answers
pub record Answer : Type 0 where
  pub line : ℕ
  pub reply : Reply

-- the lines of an input, and after them the bytes after the last newline
abbrev pub parts_of : List ℕ → List (List ℕ)
parts_of input = slice_split (λ byte. nat_eq byte 10) input

-- the next line is read outside a block, by this profile
abbrev pub by : Profile → Reading
by profile = record { profile = profile; block = None }

-- the next line is read in this block, by this profile
abbrev pub within : Profile → Block → Reading
within profile block = record { profile = profile; block = Some block }

-- the command of one line, with its number
abbrev pub command_of_line : ℕ → Command → Numbered
command_of_line line command = record { line = line; command = command; clients = [] }

-- what a command outside a block makes: `during` begins a block, and any other command is whole
abbrev pub command_comes : Profile → ℕ → Command → Came
command_comes profile line (During zone) =
    record { ended = None; reading = within profile (record { line = line; zone = zone; clients = [] }) }
command_comes profile line command = record { ended = Some (command_of_line line command); reading = by profile }

-- what a line outside a block makes, given what the line says
abbrev pub comes_outside : Profile → ℕ → Result (Option Command) ScriptError → Result Came Fault
comes_outside profile line (Err error) = Err (fault_of_line error)
comes_outside profile line (Ok None) = Ok (record { ended = None; reading = by profile })
comes_outside profile line (Ok (Some command)) = Ok (command_comes (profile_told command profile) line command)

-- what a client line of a block makes: the block has one more, or a fault where it has 1,000
abbrev pub client_comes : Profile → Block → ClientLine → Result Came Fault
client_comes profile block client =
    if nat_lt (length block.clients) 1000
    then Ok (record { ended = None; reading = within profile (record block { clients = block.clients ++ client ∷ [] }) })
    else Err Syntax

-- the command that a block is, with the number of the line of its `during`
abbrev pub command_in_block : Block → Numbered
command_in_block block = record { line = block.line; command = During block.zone; clients = block.clients }

-- what a line in a block makes, given what the line says
abbrev pub comes_within : Profile → Block → ℕ → Result (Option BlockLine) ScriptError → Result Came Fault
comes_within profile block line (Err error) = Err (fault_of_line error)
comes_within profile block line (Ok None) = Ok (record { ended = None; reading = within profile block })
comes_within profile block line (Ok (Some (Client call))) = client_comes profile block (record { line = line; call = call })
comes_within profile block line (Ok (Some End)) = Ok (record { ended = Some (command_in_block block); reading = by profile })

-- what a line makes, in this block or outside a block
abbrev pub comes_in : Option Block → Profile → ℕ → List ℕ → Result Came Fault
comes_in None profile line text = comes_outside profile line (line_of profile text)
comes_in (Some block) profile line text = comes_within profile block line (line_within block.zone text)

-- what a line with this number makes
abbrev pub line_comes : Reading → ℕ → List ℕ → Result Came Fault
line_comes reading line text = comes_in reading.block reading.profile line text

-- how the line after one that made this is read
abbrev pub reading_after : Reading → Result Came Fault → Reading
reading_after reading (Ok came) = came.reading
reading_after reading (Err fault) = reading

-- the fault of the bytes after the last newline, if there are any
abbrev pub cut_fault : ℕ → List ℕ → Option RunError
cut_fault line [] = None
cut_fault line bytes = Some (record { fault = if nat_lt 200 (length bytes) then LongLine else Syntax; line = line })

-- the fault of a block that isn't ended, at the line of its `during`
abbrev pub open_fault : Option Block → Option RunError
open_fault None = None
open_fault (Some block) = Some (record { fault = Syntax; line = block.line })

-- the fault of a line, if what it makes is a fault
abbrev pub line_fault : ℕ → Result Came Fault → Option RunError
line_fault line (Ok came) = None
line_fault line (Err fault) = Some (record { fault = fault; line = line })

-- the first fault of these lines, where the first of them has this number and is read so
abbrev pub fault_from : Reading → ℕ → List (List ℕ) → Option RunError
fault_from reading line [] = None
fault_from reading line (cut ∷ []) = option_or (cut_fault line cut) (open_fault reading.block)
fault_from reading line (text ∷ next ∷ parts) = let came = line_comes reading line text in
    option_or (line_fault line came) (fault_from (reading_after reading came) (line + 1) (next ∷ parts))

-- a command before others, if there is one
abbrev pub onto : Option Numbered → List Numbered → List Numbered
onto None later = later
onto (Some command) later = command ∷ later

-- the command that a line ends and the commands after it; there are none after a fault
abbrev pub onto_commands : Result Came Fault → List Numbered → List Numbered
onto_commands (Ok came) later = onto came.ended later
onto_commands (Err fault) later = []

-- the commands of these lines up to the first fault, where the first of them has this number and is read so
abbrev pub commands_from : Reading → ℕ → List (List ℕ) → List Numbered
commands_from reading line [] = []
commands_from reading line (cut ∷ []) = []
commands_from reading line (text ∷ next ∷ parts) = let came = line_comes reading line text in
    onto_commands came (commands_from (reading_after reading came) (line + 1) (next ∷ parts))

-- how the bytes after the last newline are read, where the first of these lines has this number and is read so
abbrev pub reading_from : Reading → ℕ → List (List ℕ) → Reading
reading_from reading line [] = reading
reading_from reading line (cut ∷ []) = reading
reading_from reading line (text ∷ next ∷ parts) =
    reading_from (reading_after reading (line_comes reading line text)) (line + 1) (next ∷ parts)

-- the commands of an input up to its first fault
abbrev pub commands_of : List ℕ → List Numbered
commands_of input = commands_from (by Untold) 1 (parts_of input)

-- how the line after an input would be read
abbrev pub reading_of : List ℕ → Reading
reading_of input = reading_from (by Untold) 1 (parts_of input)

-- the text of the replies of some answers
abbrev pub texts : List Answer → List ℕ
texts answers = flat_map (λ a. text_of a.reply) answers

-- a writer took these answers up to a place within the text of the one to this line
pub record StopsIn (answers : List Answer) (old new : Option (List ℕ)) (line : ℕ) : Type 0 where
  pub before : List Answer
  pub answer : Answer
  pub later : List Answer
  pub order : answers ≡ before ++ answer ∷ later
  pub taken : List ℕ
  pub left : List ℕ
  pub text : text_of answer.reply ≡ taken ++ left
  pub some : 0 < length left
  pub written : Appends old new (texts before ++ taken)
  pub at : line ≡ answer.line

-- the first fault of an input, if it has one
abbrev pub fault_of : List ℕ → Option RunError
fault_of input = fault_from (by Untold) 1 (parts_of input)

-- the end of the input makes this fault: its last line is cut off, or a block that has begun isn't ended
abbrev pub IsOfEnd : List ℕ → RunError → Type 0
IsOfEnd input e = (e ≡ record { fault = Syntax; line = newlines input + 1 }) ⊎ (open_fault (reading_of input).block ≡ Some e)

-- a line begins a block, given what it says
abbrev pub BeginsBlock : Result (Option Command) ScriptError → Type 0
BeginsBlock (Ok (Some (During zone))) = ⊤
BeginsBlock _ = ⊥

-- after lines that have exactly these commands, the line with this number begins a block
pub record IsBeginning (input : List ℕ) (before : List Numbered) (line : ℕ) : Type 0 where
  pub past : List ℕ
  pub text : List ℕ
  pub rest : List ℕ
  pub order : input ≡ past ++ (text ++ 10 ∷ rest)
  pub clean : fault_of past ≡ None
  pub commands : commands_of past ≡ before
  pub one_line : newlines text ≡ 0
  pub during : BeginsBlock (line_of (reading_of past).profile text)
  pub at : line ≡ newlines past + 1
