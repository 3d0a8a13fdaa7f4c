-- What contracts see of a script that is being read.
use Rattle.std.specs.Prelude.{◌≡◌, ◌≢◌, ℕ, ◌+◌, ◌^◌, ◌<◌, ◌≤◌, ◌⊎◌, List, [], ◌∷◌, ◌++◌, length, MatchResult, Option, Some, None, Result, Ok}
use Rattle.state_core.specs.declared.call.ZoneCall.{ZoneCall}
use Rattle.text_core.specs.declared.profile.Profile.TheVariants.{Untold}
use Rattle.text_core.specs.Reply.{newlines}
use Rattle.text_core.specs.declared.fault.Fault.{Fault}
use Rattle.text_core.specs.declared.fault.Fault.TheVariants.{Syntax, LongLine, Read, Write, Memory}
use Rattle.text_core.specs.declared.fault.RunError.{RunError}
use Rattle.text_core.specs.ReplyBuffer.{ReplyBuffer, Owes, empty}
use Rattle.text_core.specs.Runs.{Rule, Asking, Begins, IsAsking, IsEnded, IsStopped, Replied}
use Rattle.text_core.specs.Script.{Answer, Block, IsBeginning, Numbered, Reading, by, commands_from, commands_of, fault_from, fault_of, line_comes, parts_of, reading_from, reading_of, within}

-- a script that is being read: how the next line is read, the machine, the line that has begun, its number, the number of replies
-- so far, and the replies that wait
pub record ScriptRunner (S : Type 0) : Type 0 where
  pub reading : Reading
  pub machine : S
  pub held : List ℕ
  pub line : ℕ
  pub replies : ℕ
  pub box : ReplyBuffer

-- a script at its first byte
abbrev pub begun : {S : Type 0} → S → ScriptRunner S
begun machine = record { reading = by Untold; machine = machine; held = []; line = 1; replies = 0; box = empty }

-- the script, where its next line is read in this block
abbrev pub in_block : {S : Type 0} → Block → ScriptRunner S → ScriptRunner S
in_block block s = record s { reading = within s.reading.profile block }

-- the script after its line began a block for the zone with this number
abbrev pub block_begun : {S : Type 0} → ℕ → ScriptRunner S → ScriptRunner S
block_begun zone s = record (in_block (record { line = s.line; zone = zone; clients = [] }) s) { line = s.line + 1 }

-- the script after its line was one more client line of a block
abbrev pub noted : {S : Type 0} → Block → Option (ZoneCall 8) → ScriptRunner S → ScriptRunner S
noted block call s =
    record (in_block (record block { clients = block.clients ++ record { line = s.line; call = call } ∷ [] }) s) { line = s.line + 1 }

-- a line begins that isn't read in a block, and so few lines were read that the number of their replies fits 64 bits
pub record BeginsLine {S : Type 0} (s : ScriptRunner S) : Type 0 where
  pub begins : s.held ≡ []
  pub outside : s.reading.block ≡ None
  pub room : s.line + 1 < 2 ^ 53

-- these bytes were read without a fault, and the replies to their lines were written or wait
pub record HasRead {S : Type 0} (may : Rule S) (start : S) (s : ScriptRunner S) (past : List ℕ) (first now : Option (List ℕ)) : Type 0 where
  pub whole : List ℕ
  pub split : past ≡ whole ++ s.held
  pub unbroken : newlines s.held ≡ 0
  pub short : length s.held ≤ 200
  pub line : s.line ≡ newlines whole + 1
  pub before : List Numbered
  pub commands : (rest : List ℕ) → commands_of (whole ++ rest) ≡ before ++ commands_from s.reading s.line (parts_of rest)
  pub fault : (rest : List ℕ) → fault_of (whole ++ rest) ≡ fault_from s.reading s.line (parts_of rest)
  pub reading : (rest : List ℕ) → reading_of (whole ++ rest) ≡ reading_from s.reading s.line (parts_of rest)
  pub answers : List Answer
  pub replied : Replied may start before answers s.machine
  pub replies : s.replies ≡ length answers
  pub owes : Owes s.box answers first now

-- the first fault is within these bytes, and the replies before it were written or wait
pub record HasFault {S : Type 0} (may : Rule S) (start : S) (s : ScriptRunner S) (past : List ℕ) (e : RunError) (first now : Option (List ℕ)) : Type 0 where
  pub before : List Numbered
  pub commands : (rest : List ℕ) → commands_of (past ++ rest) ≡ before
  pub fault : (rest : List ℕ) → fault_of (past ++ rest) ≡ Some e
  pub begins : Begins may start before
  pub owes : Owes s.box begins.answers first now

-- there was no memory for the command or the block of a line within these bytes, and the replies before it were written or wait
pub record HasNoMemory {S : Type 0} (may : Rule S) (asks : Asking S) (start : S) (s : ScriptRunner S) (past : List ℕ) (line : ℕ) (first now : Option (List ℕ)) : Type 0 where
  pub before : List Numbered
  pub begins : Begins may start before
  pub asking : (rest : List ℕ) → IsAsking asks (past ++ rest) before begins.after line ⊎ IsBeginning (past ++ rest) before line
  pub owes : Owes s.box begins.answers first now

-- what an error with this fault says about these bytes
abbrev pub EndsBy : {S : Type 0} → Rule S → Asking S → S → Fault → ScriptRunner S → List ℕ → RunError → (first now : Option (List ℕ)) → Type 0
EndsBy may asks start Syntax s past e first now = HasFault may start s past e first now
EndsBy may asks start LongLine s past e first now = HasFault may start s past e first now
EndsBy may asks start Read s past e first now = ⊥
EndsBy may asks start Write s past e first now = (rest : List ℕ) → IsStopped may start (past ++ rest) first now e.line
EndsBy may asks start Memory s past e first now = HasNoMemory may asks start s past e.line first now

-- the reading of these bytes ended with this error
abbrev pub HasEnded : {S : Type 0} → Rule S → Asking S → S → ScriptRunner S → List ℕ → RunError → (first now : Option (List ℕ)) → Type 0
HasEnded may asks start s past e first now = EndsBy may asks start e.fault s past e first now

-- these bytes were read, or the reading of them ended with this error
abbrev pub ReadsTo : {S T : Type 0} → Rule S → Asking S → S → ScriptRunner S → List ℕ → Result T RunError → (first now : Option (List ℕ)) → Type 0
ReadsTo may asks start s past result first now = MatchResult result (λ _. HasRead may start s past first now) (λ e. HasEnded may asks start s past e first now)

-- what a part of a run did with these further bytes: whatever was read before, they were read too, or the run ended with this error
abbrev pub ReadsOn : {S T : Type 0} → Rule S → Asking S → (s s_new : ScriptRunner S) → List ℕ → (now after : Option (List ℕ)) → Result T RunError → Type 0
ReadsOn {S} may asks s s_new bytes now after result =
    (start : S) (past : List ℕ) (first : Option (List ℕ)) → HasRead may start s past first now → ReadsTo may asks start s_new (past ++ bytes) result first after

-- what it did with a whole line: this text and the newline that ends it
abbrev pub ReadsLine : {S T : Type 0} → Rule S → Asking S → (s s_new : ScriptRunner S) → List ℕ → (now after : Option (List ℕ)) → Result T RunError → Type 0
ReadsLine may asks s s_new text now after result = newlines text ≡ 0 → ReadsOn may asks s s_new (text ++ 10 ∷ []) now after result

-- what it did with any line that ends this command, and after which the next line is read as this script says
abbrev pub ReadsCommand : {S T : Type 0} → Rule S → Asking S → Numbered → (s s_new : ScriptRunner S) → (now after : Option (List ℕ)) → Result T RunError → Type 0
ReadsCommand may asks command s s_new now after result = (reading : Reading) (text : List ℕ)
    → line_comes reading s.line text ≡ Ok (record { ended = Some command; reading = s.reading }) → ReadsLine may asks (record s { reading = reading }) s_new text now after result

-- the first fault of the input is this one, or there is none, and the replies were written or wait
pub record Finishes {S : Type 0} (may : Rule S) (start : S) (s : ScriptRunner S) (input : List ℕ) (found : Option RunError) (first now : Option (List ℕ)) : Type 0 where
  pub fault : fault_of input ≡ found
  pub begins : Begins may start (commands_of input)
  pub owes : Owes s.box begins.answers first now

-- whatever follows these bytes, the run ended with this error, which isn't that of a read, and the replies were written
pub record HasClosed {S : Type 0} (may : Rule S) (asks : Asking S) (start : S) (past : List ℕ) (e : RunError) (first now : Option (List ℕ)) : Type 0 where
  pub heard : e.fault ≢ Read
  pub ends : (rest : List ℕ) (left left_new : Option (List ℕ)) → IsEnded may asks start e.fault (past ++ rest) e left left_new first now

-- what a part of a run did that read these further bytes, and wrote the replies to all that was read or ended the run
abbrev pub PlaysOn : {S T : Type 0} → Rule S → Asking S → (s s_new : ScriptRunner S) → List ℕ → (now after : Option (List ℕ)) → Result T RunError → Type 0
PlaysOn {S} may asks s s_new bytes now after result = (start : S) (past : List ℕ) (first : Option (List ℕ)) → HasRead may start s past first now
    → MatchResult result (λ _. HasRead may start s_new (past ++ bytes) first after) (λ e. HasClosed may asks start (past ++ bytes) e first after)
