-- What the words of a command line mean: clap's own account of a parse, at the options of this program.
use Rattle.std.specs.Prelude.{◌≡◌, ℕ, Bool, true, false, List, [], map, Option, Some, Result, IfOk, IfSome, pos, codes, option_map, unwrap_or}
use Rattle.std.specs.List.{list_all, list_any}
use Rattle.std.specs.String.{string_bytes}
use Rattle.std.specs.Vec.Iter.{into_iter_items}
use Rattle.std.specs.declared.string.String.{String}
use Rattle.std.specs.declared.vec.IntoIter.{IntoIter}
use Rattle.std.specs.Str.Parse.{digits_value, without_leading_plus}
use Rattle.clap.specs.Words.{App, IsPlain, IsSignedIn, Rule, Text, app_of, fault_of, matches_of, new_app, new_rule, one_of, one_text, with_rule, without_minus}
use Rattle.clap.specs.Kinds.{Kinds}
use Rattle.clap.specs.declared.builder.command.Command.{Command}
use Rattle.clap.specs.declared.builder.command.Command.TheViews.{out-Command as fields_of}
use Rattle.clap.specs.declared.builder.value_parser.ValueParser.TheVariants.{Signed}
use Rattle.clap.specs.declared.error.kind.ErrorKind.{ErrorKind}
use Rattle.clap.specs.declared.error.kind.ErrorKind.TheVariants.{DisplayHelp, DisplayVersion}
use Rattle.clap.specs.declared.parser.matches.Found.{Found}
use Rattle.machine_core.specs.declared.options.Options.{Options}

-- the words of the process, as text
abbrev pub texts_of : {X Y : Type 0} → IntoIter (String X) Y → List Text
texts_of words = map string_bytes (into_iter_items words)

-- an option `--NAME N`, with N from 1 to most
abbrev pub number_rule : Text → ℕ → Rule
number_rule name most =
    record (new_rule name) { long = Some name; value_names = 1; parser = Some (Signed (pos 1) (pos most)) }

-- the command line with the option `--version`
abbrev pub with_version : App → App
with_version app = record app { top = record app.top { has_version = true } }

-- the command line with the three options of the program
unfoldable pub options_line : App
options_line =
    with_rule (with_rule (with_rule (with_version (new_app (codes "compactd")))
    (number_rule (codes "copiers") 4)) (number_rule (codes "capacity") 64)) (number_rule (codes "journal") 65536)

-- the kinds of clap's answer where the words give no options, and none where they give them. It is a list since the answer has one of
-- these kinds, and which one isn't said.
unfoldable pub refusal_of : List Text → Kinds
refusal_of words = fault_of options_line words

-- whether clap answers with its help or its version, which isn't a refusal
abbrev pub is_help : ErrorKind → Bool
is_help DisplayHelp = true
is_help DisplayVersion = true
is_help _ = false

-- whether the words ask for the help or the version
abbrev pub asks_help : List Text → Bool
asks_help words = list_any is_help (refusal_of words)

-- whether clap answers, if it does, only with its help or its version
abbrev pub asks_only_help : List Text → Bool
asks_only_help words = list_all is_help (refusal_of words)

-- the number that decimal digits stand for
abbrev pub number_told : Text → ℕ
number_told text = digits_value 10 (without_leading_plus text)

-- the number that a parse found for an option, and `own` where it found none
abbrev pub number_in : Found → Text → ℕ → ℕ
number_in found name own = unwrap_or (option_map number_told (one_text found name)) own

-- the number that the words give for an option, and `own` where they give none
unfoldable pub number_of : List Text → Text → ℕ → ℕ
number_of words name own = unwrap_or (option_map number_told (one_of name (matches_of options_line words))) own

-- the number of places that the words give to the journal
abbrev pub journal_of : List Text → ℕ
journal_of words = number_of words (codes "journal") 65536

-- where the words give options and the status is 0, this holds of the number of places that they give to the journal, and of the script
abbrev pub IfDone : {X Y E : Type 0} → Result (IntoIter (String X) Y) E → ℕ → Option (List ℕ) → (ℕ → List ℕ → Type 0) → Type 0
IfDone words status script P = IfOk words (λ args. refusal_of (texts_of args) ≡ [] → status ≡ 0 → IfSome script (P (journal_of (texts_of args))))

-- these are the options that the words give
pub record IsGiven (words : List Text) (options : Options) : Type 0 where
  pub copiers : options.copiers ≡ number_of words (codes "copiers") 2
  pub capacity : options.capacity ≡ number_of words (codes "capacity") 8
  pub journal : options.journal ≡ journal_of words

-- what a parse found for an option, if anything, is a number from 1 to most
abbrev pub FindsUpTo : Found → Text → ℕ → Type 0
FindsUpTo found name most =
    (text : Text) → one_text found name ≡ Some text → (given : Text) × (text ≡ without_minus given) × IsSignedIn (pos 1) (pos most) given

-- a command that stands for this command line
pub record IsLine (line : App) (command : Command) : Type 0 where
  pub app : app_of command ≡ line
  pub plain : IsPlain command
  pub local : (fields_of command).has_globals ≡ false

-- a command with one more option `--NAME N`
pub record AddsNumber (old : Command) (name : Text) (most : ℕ) (new : Command) : Type 0 where
  pub app : app_of new ≡ with_rule (app_of old) (number_rule name most)
  pub plain : IsPlain old → IsPlain new
  pub local : (fields_of old).has_globals ≡ false → (fields_of new).has_globals ≡ false
