-- The end of a run: the replies that wait are written.
use Rattle.std.proofs.Common.{◌≡◌, ◌≢◌, ℕ, ◌+◌, List, [], ◌∷◌, ◌++◌, refl, sym, ap, subst, ◌∙◌, append_assoc, append-nil, inl, inr, ◌⊎◌, arith, Option, Some}
use Rattle.std.specs.Io.KnownBytes.{Appends, Consumes}
use Rattle.std.proofs.KnownBytes.{Appends-nil}
use Rattle.text_core.specs.declared.fault.RunError.{RunError}
use Rattle.text_core.specs.declared.fault.Fault.{Fault}
use Rattle.text_core.specs.declared.fault.Fault.TheVariants.{Syntax, LongLine, Read, Write, Memory}
use Rattle.text_core.specs.Script.{StopsIn, Answer, IsBeginning, Numbered, commands_from, commands_of, fault_of, parts_of, texts}
use Rattle.text_core.specs.Runs.{Rule, Asking, IsAnswered, IsAsking, IsEnded, IsStopped}
use Rattle.text_core.specs.ReplyBuffer.{ReplyBuffer, Owes, empty}
use Rattle.text_core.specs.Reply.{newlines}
use Rattle.text_core.specs.ScriptRunner.{ScriptRunner, EndsBy, Finishes, HasClosed, HasEnded, HasFault, HasRead, PlaysOn, ReadsOn, begun}
use Rattle.text_core.proofs.Waiting.{owes_empty, owes_none}
use Rattle.text_core.proofs.Newlines.{newlines-append}
use Rattle.text_core.proofs.Beginnings.{commands_begin}
use Rattle.text_core.proofs.Reading.{begins_of, ended, read_with, well}
use Rattle.text_core.proofs.Inputs.{begins_end, begins_same, read_clean}

pub begun_read : {S : Type 0} (may : Rule S) (start : S) (s : ScriptRunner S) (first : Option (List ℕ)) → s ≡ begun start → HasRead may start s [] first first
begun_read {S} may start s first is =
    let R : ScriptRunner S → Type 0 = λ s. HasRead may start s [] first first in
    subst R (sym is) (record {
      whole = [];
      split = refl;
      unbroken = refl;
      short = omega arith;
      line = refl;
      before = [];
      commands = λ rest. refl;
      fault = λ rest. refl;
      reading = λ rest. refl;
      answers = [];
      replied = (refl, refl);
      replies = refl;
      owes = owes_empty [] first first (Appends-nil first);
    })

-- what a flush does that wrote all
abbrev pub Flushes : {S : Type 0} → ScriptRunner S → Option (List ℕ) → Option (List ℕ) → Type 0
Flushes s mid after = (answers : List Answer) (first : Option (List ℕ)) → Owes s.box answers first mid → Appends first after (texts answers)

-- what a flush does that stopped
abbrev pub FlushStops : {S : Type 0} → ScriptRunner S → Option (List ℕ) → Option (List ℕ) → ℕ → Type 0
FlushStops s mid after at = (answers : List Answer) (first : Option (List ℕ)) → Owes s.box answers first mid → StopsIn answers first after at

-- a fault after which the replies that wait were written
fault_written : {S : Type 0} (may : Rule S) (start : S) (s : ScriptRunner S) (past : List ℕ) (e : RunError) (first mid after : Option (List ℕ)) → HasFault may start s past e first mid → Flushes s mid after → (rest : List ℕ) → (fault_of (past ++ rest) ≡ Some e) × IsAnswered may start (past ++ rest) first after
fault_written may start s past e first mid after h flushes rest =
    (h.fault rest, record { begins = begins_same may start h.before (commands_of (past ++ rest)) (sym (h.commands rest)) h.begins; written = flushes h.begins.answers first h.owes })

fault_stopped : {S : Type 0} (may : Rule S) (start : S) (s : ScriptRunner S) (past : List ℕ) (e : RunError) (first mid after : Option (List ℕ)) (at : ℕ) → HasFault may start s past e first mid → FlushStops s mid after at → (rest : List ℕ) → IsStopped may start (past ++ rest) first after at
fault_stopped may start s past e first mid after at h stops rest = record {
  before = h.before;
  later = [];
  order = h.commands rest ∙ sym (append-nil h.before);
  begins = h.begins;
  stops = stops h.begins.answers first h.owes;
}

-- a flush stopped after another fault
ended_stops : {S : Type 0} (may : Rule S) (asks : Asking S) (start : S) (f : Fault) (s : ScriptRunner S) (past : List ℕ) (e : RunError) (first mid after : Option (List ℕ)) (at : ℕ) → f ≢ Write → EndsBy may asks start f s past e first mid → FlushStops s mid after at → (rest : List ℕ) → IsStopped may start (past ++ rest) first after at
ended_stops may asks start Syntax s past e first mid after at other h stops rest = fault_stopped may start s past e first mid after at h stops rest
ended_stops may asks start LongLine s past e first mid after at other h stops rest = fault_stopped may start s past e first mid after at h stops rest
ended_stops may asks start Read s past e first mid after at other h stops rest = absurd h
ended_stops may asks start Write s past e first mid after at other h stops rest = absurd (other refl)
ended_stops may asks start Memory s past e first mid after at other h stops rest = by_asking (h.asking rest) where
  stopped : (later : List Numbered) → commands_of (past ++ rest) ≡ h.before ++ later → IsStopped may start (past ++ rest) first after at
  stopped later order = record { before = h.before; later = later; order = order; begins = h.begins; stops = stops h.begins.answers first h.owes }

  by_asking : IsAsking asks (past ++ rest) h.before h.begins.after e.line ⊎ IsBeginning (past ++ rest) h.before e.line → IsStopped may start (past ++ rest) first after at
  by_asking (inl a) = stopped (a.command ∷ a.later) a.order
  by_asking (inr b) =
      let more = commands_begin b.past (b.text ++ 10 ∷ b.rest) in
      stopped more.0 (ap commands_of b.order ∙ more.1 ∙ ap (λ (list : List Numbered). list ++ more.0) b.commands)

-- where nothing waits, all is written
pub written_out : {S : Type 0} (s : ScriptRunner S) (now : Option (List ℕ)) → s.box ≡ empty → Flushes s now now
written_out s now none = λ answers first owes.
    let O : ReplyBuffer → Type 0 = λ box. Owes box answers first now in
    owes_none empty answers first now now (subst O none owes) (Appends-nil now)

module _ {S : Type 0} (may : Rule S) (asks : Asking S) (start : S) (s : ScriptRunner S) (past : List ℕ) (first mid after : Option (List ℕ)) where
  -- reading a piece never ends with the fault of a read
  no_read : (f : Fault) (e : RunError) → EndsBy may asks start f s past e first mid → f ≢ Read
  no_read f e h is = let E : Fault → Type 0 = λ g. EndsBy may asks start g s past e first mid in subst E is h

  closed_by : (f : Fault) (e : RunError) → f ≢ Write → EndsBy may asks start f s past e first mid → Flushes s mid after
      → (rest : List ℕ) (left left_new : Option (List ℕ)) → IsEnded may asks start f (past ++ rest) e left left_new first after
  closed_by Syntax e other h flushes rest left left_new = fault_written may start s past e first mid after h flushes rest
  closed_by LongLine e other h flushes rest left left_new = fault_written may start s past e first mid after h flushes rest
  closed_by Read e other h flushes rest left left_new = absurd h
  closed_by Write e other h flushes rest left left_new = absurd (other refl)
  closed_by Memory e other h flushes rest left left_new = record { before = h.before; begins = h.begins; asking = h.asking rest; written = flushes h.begins.answers first h.owes }

  -- a fault ended the run, and all replies before it were written
  closed : (e : RunError) → e.fault ≢ Write → HasEnded may asks start s past e first mid → Flushes s mid after → HasClosed may asks start past e first after
  closed e other h flushes = record { heard = no_read e.fault e h; ends = closed_by e.fault e other h flushes }

-- a reply wasn't taken whole
closed_in : {S : Type 0} (may : Rule S) (asks : Asking S) (start : S) (past : List ℕ) (e : RunError) (first now : Option (List ℕ)) → e.fault ≡ Write → ((rest : List ℕ) → IsStopped may start (past ++ rest) first now e.line) → HasClosed may asks start past e first now
closed_in may asks start past e first now is stops = record {
  heard = λ read. let bad : Read ≡ Write = sym read ∙ is in cc;
  ends = λ rest left left_new. let E : Fault → Type 0 = λ f. IsEnded may asks start f (past ++ rest) e left left_new first now in subst E (sym is) (stops rest);
}

-- some bytes were read, up to the replies that wait
module _ {S : Type 0} (may : Rule S) (asks : Asking S) (s mid : ScriptRunner S) (bytes : List ℕ) (now between after : Option (List ℕ)) where
  -- the replies were written
  pub plays_flushed : ReadsOn may asks s mid bytes now between well → Flushes mid between after → PlaysOn may asks s (record mid { box = empty }) bytes now after well
  plays_flushed reads flushes start past first before =
      let r = reads start past first before in
      let R : List ℕ → Type 0 = λ p. HasRead may start (record mid { box = empty }) p first after in
      subst R (sym r.split) (read_with may start mid (past ++ bytes) mid.held empty first between after r r.unbroken r.short (owes_empty r.answers first after (flushes r.answers first r.owes)))

  module _ (t : ScriptRunner S) (e : RunError) where
    -- a reply wasn't taken whole
    pub plays_stopped : e.fault ≡ Write → ReadsOn may asks s mid bytes now between well → FlushStops mid between after e.line → PlaysOn may asks s t bytes now after (ended e)
    plays_stopped is reads stops start past first before =
        let r = reads start past first before in
        closed_in may asks start (past ++ bytes) e first after is (λ rest. record {
          before = r.before;
          later = commands_from mid.reading mid.line (parts_of (mid.held ++ rest));
          order = ap (λ (p : List ℕ). commands_of (p ++ rest)) r.split ∙ ap commands_of (append_assoc r.whole mid.held rest) ∙ r.commands (mid.held ++ rest);
          begins = begins_of may start mid (past ++ bytes) first between r;
          stops = stops r.answers first r.owes;
        })

    -- it wasn't while these bytes were read
    pub plays_cut : e.fault ≡ Write → ReadsOn may asks s mid bytes now after (ended e) → PlaysOn may asks s t bytes now after (ended e)
    plays_cut is reads start past first before =
        let E : Fault → Type 0 = λ f. EndsBy may asks start f mid (past ++ bytes) e first after in
        closed_in may asks start (past ++ bytes) e first after is (subst E is (reads start past first before))

    -- another fault ended the run, and the replies were written, or one of them wasn't taken whole
    module _ (other : e.fault ≢ Write) (reads : ReadsOn may asks s mid bytes now between (ended e)) where
      pub plays_closed : Flushes mid between after → PlaysOn may asks s t bytes now after (ended e)
      plays_closed flushes start past first before = closed may asks start mid (past ++ bytes) first between after e other (reads start past first before) flushes

      pub plays_late : (late : RunError) → late.fault ≡ Write → FlushStops mid between after late.line → PlaysOn may asks s t bytes now after (ended late)
      plays_late late is stops start past first before =
          closed_in may asks start (past ++ bytes) late first after is (ended_stops may asks start e.fault mid (past ++ bytes) e first between after late.line other (reads start past first before) stops)

-- a read failed, or too many didn't come to the end, and no reply waits
pub breaks_off_written : {S : Type 0} (may : Rule S) (asks : Asking S) (start : S) (s : ScriptRunner S) (past input : List ℕ) (e : RunError) (left left_new first now : Option (List ℕ)) → s.box ≡ empty → e ≡ record { fault = Read; line = s.line } → Consumes left left_new past → HasRead may start s past first now → IsEnded may asks start e.fault input e left left_new first now
breaks_off_written may asks start s past input e left left_new first now none is took r =
    let E : RunError → Type 0 = λ e. IsEnded may asks start e.fault input e left left_new first now in
    subst E (sym is) (record {
      past = past;
      read = took;
      clean = read_clean may start s past first now r;
      answered = record { begins = begins_end may start s past first now r; written = written_out s now none r.answers first r.owes };
      at = (let n : s.line ≡ newlines past + 1 = omega (arith, r.line, ap newlines r.split, newlines-append r.whole s.held, r.unbroken) in n);
    })

-- the end of the input cuts a line off, and no reply waits
pub cut_written : {S : Type 0} (may : Rule S) (asks : Asking S) (start : S) (s : ScriptRunner S) (input : List ℕ) (e : RunError) (left left_new first now : Option (List ℕ)) → s.box ≡ empty → e.fault ≡ Syntax → Finishes may start s input (Some e) first now → IsEnded may asks start e.fault input e left left_new first now
cut_written may asks start s input e left left_new first now none is h =
    let E : Fault → Type 0 = λ f. IsEnded may asks start f input e left left_new first now in
    subst E (sym is) (h.fault, record { begins = h.begins; written = written_out s now none h.begins.answers first h.owes })
