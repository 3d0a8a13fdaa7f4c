-- How the run of a script ends, whatever machine answers its commands.
use Rattle.std.specs.Prelude.{◌≡◌, ℕ, ◌+◌, ◌⊎◌, List, [], ◌∷◌, ◌++◌, length, Option, Some, None, IfErr, IfOk, IfSome, OnOk, Result}
use Rattle.std.specs.Io.KnownBytes.{Appends, Consumes}
use Rattle.text_core.specs.declared.command.Command.{Command}
use Rattle.text_core.specs.Reply.{newlines}
use Rattle.text_core.specs.declared.fault.Fault.{Fault}
use Rattle.text_core.specs.declared.fault.Fault.TheVariants.{Syntax, LongLine, Read, Write, Memory}
use Rattle.text_core.specs.declared.fault.RunError.{RunError}
use Rattle.text_core.specs.declared.totals.Totals.{Totals}
use Rattle.text_core.specs.Script.{StopsIn, Answer, IsBeginning, IsOfEnd, Numbered, commands_of, fault_of, texts}

-- a rule: which replies a machine may give to a command and to the client lines of its block, in their order, and what
-- the machine is afterwards
abbrev pub Rule : Type 0 → Type 1
Rule S = S → Numbered → List Answer → S → Type 0

-- for which commands a machine may find no memory
abbrev pub Asking : Type 0 → Type 1
Asking S = S → Command → Type 0

-- These are the replies to these commands, those to one command after those to the one before. The machine may give the replies to each
-- command as it was left by the commands before.
abbrev pub Replied : {S : Type 0} → Rule S → S → List Numbered → List Answer → S → Type 0
Replied may old [] answers new = (answers ≡ []) × (new ≡ old)
Replied {S} may old (c ∷ commands) answers new =
    (next : S) × (here : List Answer) × (later : List Answer) × (answers ≡ here ++ later) × may old c here next × Replied may next commands later new

-- replies to the first commands of an input, and the machine after them
pub record Begins {S : Type 0} (may : Rule S) (start : S) (before : List Numbered) : Type 0 where
  pub answers : List Answer
  pub after : S
  pub replied : Replied may start before answers after

-- the commands of an input were answered, and their replies were written
pub record IsAnswered {S : Type 0} (may : Rule S) (start : S) (input : List ℕ) (old new : Option (List ℕ)) : Type 0 where
  pub begins : Begins may start (commands_of input)
  pub written : Appends old new (texts begins.answers)

-- the commands of an input were answered, their replies were written, and the totals are the numbers of its lines and replies
pub record IsTotal {S : Type 0} (may : Rule S) (start : S) (input : List ℕ) (old new : Option (List ℕ)) (totals : Totals) : Type 0 where
  pub answered : IsAnswered may start input old new
  pub totals_are : totals ≡ record { lines = newlines input; replies = length answered.begins.answers }

-- a writer took the replies to the first commands of an input up to a place within the text of the reply to this line
pub record IsStopped {S : Type 0} (may : Rule S) (start : S) (input : List ℕ) (old new : Option (List ℕ)) (line : ℕ) : Type 0 where
  pub before : List Numbered
  pub later : List Numbered
  pub order : commands_of input ≡ before ++ later
  pub begins : Begins may start before
  pub stops : StopsIn begins.answers old new line

-- a read failed after these bytes; they have no fault, or only the one that an end there would make, and their commands were answered
pub record IsUnread {S : Type 0} (may : Rule S) (start : S) (left left_new old new : Option (List ℕ)) (line : ℕ) : Type 0 where
  pub past : List ℕ
  pub read : Consumes left left_new past
  pub clean : IfSome (fault_of past) (IsOfEnd past)
  pub answered : IsAnswered may start past old new
  pub at : line ≡ newlines past + 1

-- after these commands, which leave this machine, comes one that needs memory, at this line
pub record IsAsking {S : Type 0} (asks : Asking S) (input : List ℕ) (before : List Numbered) (after : S) (line : ℕ) : Type 0 where
  pub command : Numbered
  pub later : List Numbered
  pub order : commands_of input ≡ before ++ command ∷ later
  pub asking : asks after command.command
  pub at : line ≡ command.line

-- there was no memory for the command at this line, or for the block that the line begins, and the commands before it were answered
pub record IsLacking {S : Type 0} (may : Rule S) (asks : Asking S) (start : S) (input : List ℕ) (old new : Option (List ℕ)) (line : ℕ) : Type 0 where
  pub before : List Numbered
  pub begins : Begins may start before
  pub asking : IsAsking asks input before begins.after line ⊎ IsBeginning input before line
  pub written : Appends old new (texts begins.answers)

-- how a run ended that was ended by this fault
abbrev pub IsEnded : {S : Type 0} → Rule S → Asking S → S → Fault → List ℕ → RunError → (left left_new old new : Option (List ℕ)) → Type 0
IsEnded may asks start Syntax input e left left_new old new = (fault_of input ≡ Some e) × IsAnswered may start input old new
IsEnded may asks start LongLine input e left left_new old new = (fault_of input ≡ Some e) × IsAnswered may start input old new
IsEnded may asks start Read input e left left_new old new = IsUnread may start left left_new old new e.line
IsEnded may asks start Write input e left left_new old new = IsStopped may start input old new e.line
IsEnded may asks start Memory input e left left_new old new = IsLacking may asks start input old new e.line

-- How a run ended whose reader tells its bytes: the script has no fault, all of its commands were answered and their replies written; or something
-- else ended it, and the replies to the commands before are written, unless it is that they can't be.
pub record IsPlayed {S : Type 0} (may : Rule S) (asks : Asking S) (start : S) (left left_new old new : Option (List ℕ)) (result : Result Totals RunError) : Type 0 where
  pub ok : OnOk result (IfSome left (λ input. fault_of input ≡ None))
  pub answered : IfOk result (λ totals. IfSome left (λ input. IsTotal may start input old new totals))
  pub err : IfErr result (λ error. IfSome left (λ input. IsEnded may asks start error.fault input error left left_new old new))
