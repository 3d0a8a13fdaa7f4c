-- The arguments of the commands of a script are in their ranges.
use Rattle.std.proofs.Common.{ℕ, ◌+◌, Bool, true, false, List, [], ◌∷◌, ◌++◌, length, Option, Some, None, Result, Ok, Err}
use Rattle.std.specs.Prelude.{IfSome, ⊤, nat_lt, if◌then◌else◌}
use Rattle.std.specs.List.{AllByRecursion}
use Rattle.text_core.specs.declared.command.BlockLine.{BlockLine}
use Rattle.text_core.specs.declared.command.BlockLine.TheVariants.{Client, End}
use Rattle.text_core.specs.declared.command.Command.{Command}
use Rattle.text_core.specs.declared.command.Command.TheVariants.{During}
use Rattle.text_core.specs.declared.error.ScriptError.{ScriptError}
use Rattle.text_core.specs.declared.profile.Profile.{Profile}
use Rattle.text_core.specs.Line.{line_within, line_of}
use Rattle.text_core.specs.Profile.{profile_told}
use Rattle.text_core.proofs.Ranges.{IsInRange, SaysInRange, line_ranged}
use Rattle.text_core.specs.declared.fault.Fault.{Fault}
use Rattle.text_core.specs.declared.fault.Fault.TheVariants.{Syntax}
use Rattle.text_core.specs.Script.{Block, Came, ClientLine, Numbered, Reading, client_comes, command_comes, comes_in, comes_outside, comes_within, commands_from, line_comes, onto, onto_commands, reading_after, within}

abbrev pub AreInRange : List Numbered → Type 0
AreInRange commands = AllByRecursion (λ c. IsInRange c.command) commands

onto_one_ranged : (o : Option Numbered) (behind : List Numbered) → IfSome o (λ c. IsInRange c.command) → AreInRange behind → AreInRange (onto o behind)
onto_one_ranged (Some c) behind r s = (r, s)
onto_one_ranged None behind r s = s

abbrev ComesInRange : Result Came Fault → Type 0
ComesInRange (Ok came) = IfSome came.ended (λ c. IsInRange c.command)
ComesInRange (Err fault) = ⊤

onto_ranged : (came : Result Came Fault) (behind : List Numbered) → ComesInRange came → AreInRange behind → AreInRange (onto_commands came behind)
onto_ranged (Ok came) behind r s = onto_one_ranged came.ended behind r s
onto_ranged (Err fault) behind r s = tt

command_ranged : (profile : Profile) (line : ℕ) (c : Command) → IsInRange c → IfSome (command_comes profile line c).ended (λ d. IsInRange d.command)
command_ranged profile line (During zone) r = tt
command_ranged profile line _ r = r

outside_ranged : (profile : Profile) (line : ℕ) (says : Result (Option Command) ScriptError) → SaysInRange says → ComesInRange (comes_outside profile line says)
outside_ranged profile line (Ok (Some command)) r = command_ranged (profile_told command profile) line command r
outside_ranged profile line (Ok None) r = tt
outside_ranged profile line (Err error) r = tt

client_ranged : (profile : Profile) (block : Block) (client : ClientLine) → ComesInRange (client_comes profile block client)
client_ranged profile block client = by_test (nat_lt (length block.clients) 1000) where
  by_test : (b : Bool) → ComesInRange (if b then Ok (record { ended = None; reading = within profile (record block { clients = block.clients ++ client ∷ [] }) }) else Err Syntax)
  by_test true = tt
  by_test false = tt

within_ranged : (profile : Profile) (block : Block) (line : ℕ) (says : Result (Option BlockLine) ScriptError) → ComesInRange (comes_within profile block line says)
within_ranged profile block line (Ok (Some (Client call))) = client_ranged profile block (record { line = line; call = call })
within_ranged profile block line (Ok (Some End)) = tt
within_ranged profile block line (Ok None) = tt
within_ranged profile block line (Err error) = tt

line_comes_ranged : (reading : Reading) (line : ℕ) (text : List ℕ) → ComesInRange (line_comes reading line text)
line_comes_ranged reading line text = in_block reading.block where
  in_block : (o : Option Block) → ComesInRange (comes_in o reading.profile line text)
  in_block None = outside_ranged reading.profile line (line_of reading.profile text) (line_ranged reading.profile text)
  in_block (Some block) = within_ranged reading.profile block line (line_within block.zone text)

pub commands_ranged : (reading : Reading) (line : ℕ) (parts : List (List ℕ)) → AreInRange (commands_from reading line parts)
commands_ranged reading line [] = tt
commands_ranged reading line (cut ∷ []) = tt
commands_ranged reading line (text ∷ next ∷ parts) =
    onto_ranged (line_comes reading line text) _ (line_comes_ranged reading line text) (commands_ranged (reading_after reading (line_comes reading line text)) (line + 1) (next ∷ parts))
