-- A script that is read line by line.
use Rattle.std.proofs.Common.{◌≡◌, ℕ, ◌+◌, ◌<◌, ◌≤◌, List, [], ◌∷◌, ◌++◌, length, length-append, refl, sym, ap, subst, ◌∙◌, append_assoc, append-nil, inl, inr, arith, ◌⊎◌, Option, Some, None, Result, Ok, Err}
use Rattle.text_core.specs.declared.fault.RunError.{RunError}
use Rattle.text_core.specs.declared.fault.Fault.{Fault}
use Rattle.text_core.specs.declared.fault.Fault.TheVariants.{Syntax, LongLine, Read, Write, Memory}
use Rattle.text_core.specs.declared.error.ScriptError.{ScriptError}
use Rattle.text_core.specs.declared.error.ScriptError.TheVariants as of_line
use Rattle.text_core.specs.Script.{StopsIn, Answer, BeginsBlock, Came, IsBeginning, Numbered, Reading, commands_from, commands_of, fault_of, line_comes, open_fault, parts_of, reading_of}
use Rattle.text_core.specs.Runs.{Rule, Asking, Begins, IsAsking, IsStopped, Replied}
use Rattle.text_core.specs.FaultNumber.{fault_of_line}
use Rattle.text_core.specs.Line.{line_of}
use Rattle.text_core.specs.ReplyBuffer.{ReplyBuffer, Owes}
use Rattle.text_core.specs.Reply.{newlines}
use Rattle.text_core.specs.ScriptRunner.{ScriptRunner, EndsBy, HasEnded, HasRead, HasFault, ReadsCommand, ReadsLine, ReadsOn, ReadsTo}
use Rattle.text_core.proofs.Lines.{commands_by, fault_by, reading_by, commands-line, commands-long, fault-line, fault-long, reading-line}
use Rattle.text_core.proofs.Newlines.{newlines-append}

-- one more command, and its replies
pub replied_more : {S : Type 0} (may : Rule S) (old mid new : S) (commands : List Numbered) (answers : List Answer) (c : Numbered) (here : List Answer) → Replied may old commands answers mid → may mid c here new → Replied may old (commands ++ c ∷ []) (answers ++ here) new
replied_more {S} may old mid new [] answers c here told says =
    let M : S → Type 0 = λ s. may s c here new in
    (new, here, [], ap (λ (r : List Answer). r ++ here) told.0 ∙ sym (append-nil here), subst M told.1 says, (refl, refl))
replied_more may old mid new (d ∷ commands) answers c here told says =
    (told.0, told.1, told.2 ++ here, ap (λ (r : List Answer). r ++ here) told.3 ∙ append_assoc told.1 told.2 here, told.4, replied_more may told.0 mid new commands told.2 c here told.5 says)

-- the commands of what was read were answered
abbrev pub begins_of : {S : Type 0} (may : Rule S) (start : S) (s : ScriptRunner S) (past : List ℕ) (first now : Option (List ℕ)) → (r : HasRead may start s past first now) → Begins may start r.before
begins_of may start s past first now r = record { answers = r.answers; after = s.machine; replied = r.replied }

-- where no line has begun, what was read is whole lines
pub whole_is : {S : Type 0} (may : Rule S) (start : S) (s : ScriptRunner S) (past : List ℕ) (first now : Option (List ℕ)) → (r : HasRead may start s past first now) → s.held ≡ [] → r.whole ≡ past
whole_is may start s past first now r e = sym (append-nil r.whole) ∙ ap (λ (h : List ℕ). r.whole ++ h) (sym e) ∙ sym r.split

pub joined : (past text rest : List ℕ) → (past ++ (text ++ 10 ∷ [])) ++ rest ≡ past ++ (text ++ 10 ∷ rest)
joined past text rest = append_assoc past (text ++ 10 ∷ []) rest ∙ ap (λ (r : List ℕ). past ++ r) (append_assoc text (10 ∷ []) rest)

line_next : {S : Type 0} (may : Rule S) (start : S) (s : ScriptRunner S) (past text : List ℕ) (first now : Option (List ℕ)) → (r : HasRead may start s past first now) → s.held ≡ [] → newlines text ≡ 0 → s.line + 1 ≡ newlines (past ++ (text ++ 10 ∷ [])) + 1
line_next may start s past text first now r e none =
    omega (arith, r.line, ap newlines (whole_is may start s past first now r e), newlines-append past (text ++ 10 ∷ []), newlines-append text (10 ∷ []), none)

ended_wrong : {S : Type 0} (may : Rule S) (asks : Asking S) (start : S) (s : ScriptRunner S) (past : List ℕ) (error : ScriptError) (fault : Fault) (line : ℕ) (first now : Option (List ℕ)) → fault ≡ fault_of_line error → HasFault may start s past (record { fault = fault_of_line error; line = line }) first now → HasEnded may asks start s past (record { fault = fault; line = line }) first now
ended_wrong may asks start s past of_line.Syntax fault line first now is h = let E : Fault → Type 0 = λ f. HasEnded may asks start s past (record { fault = f; line = line }) first now in subst E (sym is) h
ended_wrong may asks start s past of_line.LongLine fault line first now is h = let E : Fault → Type 0 = λ f. HasEnded may asks start s past (record { fault = f; line = line }) first now in subst E (sym is) h

-- all went well
abbrev pub well : Result (Unit {0}) RunError
well = Ok tt

-- the run ended with this error
abbrev pub ended : RunError → Result (Unit {0}) RunError
ended e = Err e

module _ {S : Type 0} (may : Rule S) (asks : Asking S) (s : ScriptRunner S) (text : List ℕ) (now : Option (List ℕ)) (begins : s.held ≡ []) where
  abbrev here : Result Came Fault
  here = line_comes s.reading s.line text

  module _ (none : newlines text ≡ 0) (start : S) (past : List ℕ) (first : Option (List ℕ)) (r : HasRead may start s past first now) where
    line_at : (rest : List ℕ) → (past ++ (text ++ 10 ∷ [])) ++ rest ≡ r.whole ++ (text ++ 10 ∷ rest)
    line_at rest = joined past text rest ∙ ap (λ (w : List ℕ). w ++ (text ++ 10 ∷ rest)) (sym (whole_is may start s past first now r begins))

    commands_line : (rest : List ℕ) → commands_of ((past ++ (text ++ 10 ∷ [])) ++ rest) ≡ r.before ++ commands_by s.reading s.line here (parts_of rest)
    commands_line rest =
        ap commands_of (line_at rest) ∙ r.commands (text ++ 10 ∷ rest) ∙ ap (λ (cs : List Numbered). r.before ++ cs) (commands-line s.reading s.line text rest none)

    fault_line : (rest : List ℕ) → fault_of ((past ++ (text ++ 10 ∷ [])) ++ rest) ≡ fault_by s.reading s.line here (parts_of rest)
    fault_line rest = ap fault_of (line_at rest) ∙ r.fault (text ++ 10 ∷ rest) ∙ fault-line s.reading s.line text rest none

    reading_line : (rest : List ℕ) → reading_of ((past ++ (text ++ 10 ∷ [])) ++ rest) ≡ reading_by s.reading s.line here (parts_of rest)
    reading_line rest = ap reading_of (line_at rest) ∙ r.reading (text ++ 10 ∷ rest) ∙ reading-line s.reading s.line text rest none

  -- a line that ends no command: it is skipped, or begins a block, or is a client line
  pub read_on : (reading : Reading) → here ≡ Ok (record { ended = None; reading = reading }) → ReadsLine may asks s (record s { reading = reading; line = s.line + 1 }) text now now well
  read_on reading is none start past first r = record {
    whole = past ++ (text ++ 10 ∷ []);
    split = sym (append-nil _) ∙ ap (λ (h : List ℕ). (past ++ (text ++ 10 ∷ [])) ++ h) (sym begins);
    unbroken = r.unbroken;
    short = r.short;
    line = line_next may start s past text first now r begins none;
    before = r.before;
    commands = λ rest. commands_line none start past first r rest ∙ ap (λ l. r.before ++ commands_by s.reading s.line l (parts_of rest)) is;
    fault = λ rest. fault_line none start past first r rest ∙ ap (λ l. fault_by s.reading s.line l (parts_of rest)) is;
    reading = λ rest. reading_line none start past first r rest ∙ ap (λ l. reading_by s.reading s.line l (parts_of rest)) is;
    answers = r.answers;
    replied = r.replied;
    replies = r.replies;
    owes = r.owes;
  }

  -- a line that is wrong
  pub read_wrong : (t : ScriptRunner S) (error : ScriptError) (fault : Fault) → t.box ≡ s.box → fault ≡ fault_of_line error → here ≡ Err (fault_of_line error) → ReadsLine may asks s t text now now (ended (record { fault = fault; line = s.line }))
  read_wrong t error fault box of is none start past first r = ended_wrong may asks start t (past ++ (text ++ 10 ∷ [])) error fault s.line first now of (record {
    before = r.before;
    commands = λ rest. commands_line none start past first r rest ∙ ap (λ l. r.before ++ commands_by s.reading s.line l (parts_of rest)) is ∙ append-nil r.before;
    fault = λ rest. fault_line none start past first r rest ∙ ap (λ l. fault_by s.reading s.line l (parts_of rest)) is;
    begins = begins_of may start s past first now r;
    owes = (let O : ReplyBuffer → Type 0 = λ b. Owes b r.answers first now in subst O (sym box) r.owes);
  })

  -- a line that begins a block for which there is no memory
  pub read_unbegun : (t : ScriptRunner S) → t.box ≡ s.box → s.reading.block ≡ None → BeginsBlock (line_of s.reading.profile text) → ReadsLine may asks s t text now now (ended (record { fault = Memory; line = s.line }))
  read_unbegun t box outside during none start past first r =
      let at_end : past ≡ r.whole ++ [] = sym (append-nil r.whole ∙ whole_is may start s past first now r begins) in
      let read : reading_of past ≡ s.reading = ap reading_of at_end ∙ r.reading [] in
      let D : Reading → Type 0 = λ q. BeginsBlock (line_of q.profile text) in
      let O : ReplyBuffer → Type 0 = λ b. Owes b r.answers first now in
      record {
        before = r.before;
        begins = begins_of may start s past first now r;
        asking = λ rest. inr (record {
          past = past;
          text = text;
          rest = rest;
          order = joined past text rest;
          clean = ap fault_of at_end ∙ r.fault [] ∙ ap open_fault outside;
          commands = ap commands_of at_end ∙ r.commands [] ∙ append-nil r.before;
          one_line = none;
          during = subst D (sym read) during;
          at = (let n : s.line ≡ newlines past + 1 = omega (arith, r.line, ap newlines (whole_is may start s past first now r begins)) in n);
        });
        owes = subst O (sym box) r.owes;
      }

-- a line that ends a command
module _ {S : Type 0} (may : Rule S) (asks : Asking S) (command : Numbered) (s : ScriptRunner S) (now : Option (List ℕ)) (begins : s.held ≡ []) where
  abbrev at : Reading → ScriptRunner S
  at reading = record s { reading = reading }

  module _ (reading : Reading) (text : List ℕ) (is : line_comes reading s.line text ≡ Ok (record { ended = Some command; reading = s.reading })) (none : newlines text ≡ 0)
      (start : S) (past : List ℕ) (first : Option (List ℕ)) (r : HasRead may start (at reading) past first now) where
    commands_ended : (rest : List ℕ) → commands_of ((past ++ (text ++ 10 ∷ [])) ++ rest) ≡ r.before ++ command ∷ commands_from s.reading (s.line + 1) (parts_of rest)
    commands_ended rest = commands_line may asks (at reading) text now begins none start past first r rest ∙ ap (λ l. r.before ++ commands_by reading s.line l (parts_of rest)) is

  -- it is answered
  pub read_answered : (answers : List Answer) (machine : S) (t : ScriptRunner S) (after : Option (List ℕ)) → may s.machine command answers machine
      → t ≡ record s { machine = machine; line = s.line + 1; replies = t.replies; box = t.box } → t.replies ≡ s.replies + length answers
      → ((before : List Answer) (first : Option (List ℕ)) → Owes s.box before first now → Owes t.box (before ++ answers) first after)
      → ReadsCommand may asks command s t now after well
  read_answered answers machine t after told so counted posts reading text is none start past first r =
      let R : ScriptRunner S → Type 0 = λ t. HasRead may start t (past ++ (text ++ 10 ∷ [])) first after in
      subst R (sym so) (record {
        whole = past ++ (text ++ 10 ∷ []);
        split = sym (append-nil _) ∙ ap (λ (h : List ℕ). (past ++ (text ++ 10 ∷ [])) ++ h) (sym begins);
        unbroken = r.unbroken;
        short = r.short;
        line = line_next may start (at reading) past text first now r begins none;
        before = r.before ++ command ∷ [];
        commands = λ rest. commands_ended reading text is none start past first r rest ∙ sym (append_assoc r.before (command ∷ []) _);
        fault = λ rest. fault_line may asks (at reading) text now begins none start past first r rest ∙ ap (λ l. fault_by reading s.line l (parts_of rest)) is;
        reading = λ rest. reading_line may asks (at reading) text now begins none start past first r rest ∙ ap (λ l. reading_by reading s.line l (parts_of rest)) is;
        answers = r.answers ++ answers;
        replied = replied_more may start s.machine machine r.before r.answers command answers r.replied told;
        replies = omega (arith, r.replies, counted, length-append r.answers answers);
        owes = posts r.answers first r.owes;
      })

  -- there is no memory for it
  pub read_lacking : (t : ScriptRunner S) (line : ℕ) → line ≡ command.line → t.box ≡ s.box → asks s.machine command.command → ReadsCommand may asks command s t now now (ended (record { fault = Memory; line = line }))
  read_lacking t line at box asking reading text is none start past first r = record {
    before = r.before;
    begins = record { answers = r.answers; after = s.machine; replied = r.replied };
    asking = λ rest. inl (record {
      command = command;
      later = commands_from s.reading (s.line + 1) (parts_of rest);
      order = commands_ended reading text is none start past first r rest;
      asking = asking;
      at = at;
    });
    owes = (let O : ReplyBuffer → Type 0 = λ b. Owes b r.answers first now in subst O (sym box) r.owes);
  }

  -- a writer stopped in its answers, or in those before
  pub read_stopped : (answers : List Answer) (machine : S) (t : ScriptRunner S) (after : Option (List ℕ)) (line : ℕ) → may s.machine command answers machine
      → ((before : List Answer) (first : Option (List ℕ)) → Owes s.box before first now → StopsIn (before ++ answers) first after line)
      → ReadsCommand may asks command s t now after (ended (record { fault = Write; line = line }))
  read_stopped answers machine t after line told stops reading text is none start past first r rest = record {
    before = r.before ++ command ∷ [];
    later = commands_from s.reading (s.line + 1) (parts_of rest);
    order = commands_ended reading text is none start past first r rest ∙ sym (append_assoc r.before (command ∷ []) _);
    begins = record { answers = r.answers ++ answers; after = machine; replied = replied_more may start s.machine machine r.before r.answers command answers r.replied told };
    stops = stops r.answers first r.owes;
  }

-- what was read, where another beginning of a line is held, and other replies wait
pub read_with : {S : Type 0} (may : Rule S) (start : S) (s : ScriptRunner S) (past held : List ℕ) (box : ReplyBuffer) (first now after : Option (List ℕ)) → (r : HasRead may start s past first now) → newlines held ≡ 0 → length held ≤ 200 → Owes box r.answers first after
    → HasRead may start (record s { held = held; box = box }) (r.whole ++ held) first after
read_with may start s past held box first now after r unbroken short owes = record {
  whole = r.whole;
  split = refl;
  unbroken = unbroken;
  short = short;
  line = r.line;
  before = r.before;
  commands = r.commands;
  fault = r.fault;
  reading = r.reading;
  answers = r.answers;
  replied = r.replied;
  replies = r.replies;
  owes = owes;
}

-- what was read, up to the end of the line that has begun
pub past_line : {S : Type 0} (may : Rule S) (start : S) (s : ScriptRunner S) (past text : List ℕ) (first now : Option (List ℕ)) → (r : HasRead may start s past first now) → r.whole ++ ((s.held ++ text) ++ 10 ∷ []) ≡ past ++ (text ++ 10 ∷ [])
past_line may start s past text first now r =
    ap (λ (t : List ℕ). r.whole ++ t) (append_assoc s.held text (10 ∷ [])) ∙ sym (append_assoc r.whole s.held (text ++ 10 ∷ []))
    ∙ ap (λ (p : List ℕ). p ++ (text ++ 10 ∷ [])) (sym r.split)

-- a line that has begun is too long
pub read_long : {S : Type 0} (may : Rule S) (asks : Asking S) (s : ScriptRunner S) (text : List ℕ) (now : Option (List ℕ)) → newlines text ≡ 0 → 200 < length (s.held ++ text) → ReadsOn may asks s s text now now (ended (record { fault = LongLine; line = s.line }))
read_long may asks s text now none long start past first r =
    let unbroken : newlines (s.held ++ text) ≡ 0 = omega (arith, newlines-append s.held text, r.unbroken, none) in
    let at : (rest : List ℕ) → (past ++ text) ++ rest ≡ r.whole ++ ((s.held ++ text) ++ rest) = λ rest.
    append_assoc past text rest ∙ ap (λ (p : List ℕ). p ++ (text ++ rest)) r.split ∙ append_assoc r.whole s.held (text ++ rest)
    ∙ ap (λ (t : List ℕ). r.whole ++ t) (sym (append_assoc s.held text rest)) in
    record {
      before = r.before;
      commands = λ rest. ap commands_of (at rest) ∙ r.commands ((s.held ++ text) ++ rest)
          ∙ ap (λ (cs : List Numbered). r.before ++ cs) (commands-long s.reading s.line (s.held ++ text) rest unbroken long) ∙ append-nil r.before;
      fault = λ rest. ap fault_of (at rest) ∙ r.fault ((s.held ++ text) ++ rest) ∙ fault-long s.reading s.line (s.held ++ text) rest unbroken long;
      begins = begins_of may start s past first now r;
      owes = r.owes;
    }

fault_more : {S : Type 0} (may : Rule S) (start : S) (s : ScriptRunner S) (past more : List ℕ) (e : RunError) (first now : Option (List ℕ)) → HasFault may start s past e first now → HasFault may start s (past ++ more) e first now
fault_more may start s past more e first now h = record {
  before = h.before;
  commands = λ rest. ap commands_of (append_assoc past more rest) ∙ h.commands (more ++ rest);
  fault = λ rest. ap fault_of (append_assoc past more rest) ∙ h.fault (more ++ rest);
  begins = h.begins;
  owes = h.owes;
}

ends_more : {S : Type 0} (may : Rule S) (asks : Asking S) (start : S) (f : Fault) (s : ScriptRunner S) (past more : List ℕ) (e : RunError) (first now : Option (List ℕ)) → EndsBy may asks start f s past e first now → EndsBy may asks start f s (past ++ more) e first now
ends_more may asks start Syntax s past more e first now h = fault_more may start s past more e first now h
ends_more may asks start LongLine s past more e first now h = fault_more may start s past more e first now h
ends_more may asks start Read s past more e first now h = absurd h
ends_more may asks start Write s past more e first now h = λ rest. let W : List ℕ → Type 0 = λ input. IsStopped may start input first now e.line in subst W (sym (append_assoc past more rest)) (h (more ++ rest))
ends_more may asks start Memory s past more e first now h = record {
  before = h.before;
  begins = h.begins;
  asking = (λ rest. let O : List ℕ → Type 0 = λ input. IsAsking asks input h.before h.begins.after e.line ⊎ IsBeginning input h.before e.line in subst O (sym (append_assoc past more rest)) (h.asking (more ++ rest)));
  owes = h.owes;
}

-- no more bytes
pub reads_none : {S : Type 0} (may : Rule S) (asks : Asking S) (s : ScriptRunner S) (now : Option (List ℕ)) → ReadsOn may asks s s [] now now well
reads_none may asks s now start past first r = let R : List ℕ → Type 0 = λ p. HasRead may start s p first now in subst R (sym (append-nil past)) r

-- some bytes, and then others
pub reads_then : {S T : Type 0} (may : Rule S) (asks : Asking S) (s mid t : ScriptRunner S) (bytes more : List ℕ) (now between after : Option (List ℕ)) (result : Result T RunError)
    → ReadsOn may asks s mid bytes now between well → ReadsOn may asks mid t more between after result → ReadsOn may asks s t (bytes ++ more) now after result
reads_then may asks s mid t bytes more now between after result reads then start past first r =
    let R : List ℕ → Type 0 = λ p. ReadsTo may asks start t p result first after in
    subst R (append_assoc past bytes more) (then start (past ++ bytes) first (reads start past first r))

-- what ended the reading of some bytes ended it whatever follows them
pub reads_more : {S : Type 0} (may : Rule S) (asks : Asking S) (s t : ScriptRunner S) (bytes more : List ℕ) (now after : Option (List ℕ)) (e : RunError)
    → ReadsOn may asks s t bytes now after (ended e) → ReadsOn may asks s t (bytes ++ more) now after (ended e)
reads_more may asks s t bytes more now after e reads start past first r =
    let E : List ℕ → Type 0 = λ p. HasEnded may asks start t p e first after in
    subst E (append_assoc past bytes more) (ends_more may asks start e.fault t (past ++ bytes) more e first after (reads start past first r))

-- a line whose first part was held is read as a whole
pub taken_line : {S T : Type 0} (may : Rule S) (asks : Asking S) (s t : ScriptRunner S) (text none_held line : List ℕ) (now after : Option (List ℕ)) (result : Result T RunError) → newlines text ≡ 0 → none_held ≡ [] → line ≡ s.held ++ text
    → ReadsLine may asks (record s { held = none_held }) t line now after result → ReadsOn may asks s t (text ++ 10 ∷ []) now after result
taken_line may asks s t text none_held line now after result none empty is takes start past first r =
    let H : List ℕ → Type 0 = λ p. HasRead may start (record s { held = none_held }) p first now in
    let unbroken : newlines line ≡ 0 = omega (arith, ap newlines is, newlines-append s.held text, r.unbroken, none) in
    let R : List ℕ → Type 0 = λ p. ReadsTo may asks start t p result first after in
    let taken : H r.whole = subst H (ap (λ (h : List ℕ). r.whole ++ h) empty ∙ append-nil r.whole) (read_with may start s past none_held s.box first now now r (ap newlines empty) (omega (arith, ap length empty)) r.owes) in
    subst R (ap (λ (t : List ℕ). r.whole ++ (t ++ 10 ∷ [])) is ∙ past_line may start s past text first now r) (takes unbroken start r.whole first taken)
