-- What the run of a machine on one thread says: its replies are those of the machine's steps.
use Rattle.std.proofs.Common.{◌≡◌, ◌⊎◌, ℕ, IsTrue, List, [], ◌∷◌, ◌++◌, length, refl, sym, ap, subst, inl, inr, ◌∙◌, Option, None}
use Rattle.std.specs.Prelude.{IfErr, IfOk, IfSome, OnOk, Result}
use Rattle.std.specs.Io.KnownBytes.{Appends}
use Rattle.std.proofs.lemmas.Result.{MatchResult-weaker}
use Rattle.machine_core.specs.World.{WorldState}
use Rattle.text_core.specs.Reply.{newlines}
use Rattle.text_core.specs.declared.fault.Fault.{Fault}
use Rattle.text_core.specs.declared.fault.Fault.TheVariants.{Syntax, LongLine, Read, Write, Memory}
use Rattle.text_core.specs.declared.fault.RunError.{RunError}
use Rattle.text_core.specs.declared.totals.Totals.{Totals}
use Rattle.machine_core.specs.Ends.{EndsIn, IsOpening}
use Rattle.text_core.specs.Script.{StopsIn, Answer, IsBeginning, Numbered, commands_of, texts}
use Rattle.machine_core.specs.Machine.{Step, opens, step}
use Rattle.text_core.specs.Runs.{Begins, IsAnswered, IsAsking, IsEnded, IsStopped, IsTotal, Replied}
use Rattle.machine_core.specs.Replies.{answers_from, answers_of, output_of, totals_of, world_after}
use Rattle.machine_core.specs.OneThread.{IsSingleStep, Opens, OneThread, single_at_first}
use Rattle.text_core.proofs.Waiting.{stops_more}
use Rattle.text_core.proofs.Variants.{known_weaker}

-- the replies to commands and to more commands after them
answers_from-append : (places : ℕ) (w : Option WorldState) (xs ys : List Numbered) → answers_from places w (xs ++ ys) ≡ answers_from places w xs ++ answers_from places (world_after places w xs) ys
answers_from-append places w [] ys = refl
answers_from-append places w (c ∷ xs) ys = ap (λ (r : List Answer). record { line = c.line; reply = (step places w c.command).reply } ∷ r) (answers_from-append places (step places w c.command).world xs ys)

-- these are the machine's replies to commands, and this is its world after them
record AreSteps (places : ℕ) (w : Option WorldState) (commands : List Numbered) (answers : List Answer) (new : OneThread) : Type 0 where
  pub answers_are : answers ≡ answers_from places w commands
  pub world_is : new.world ≡ world_after places w commands

-- replies that a machine on one thread may give are those of its steps
single_steps : (places : ℕ) (w : Option WorldState) (old new : OneThread) (commands : List Numbered) (answers : List Answer) → old.places ≡ places → old.world ≡ w → Replied IsSingleStep old commands answers new → AreSteps places w commands answers new
single_steps places w old new [] answers same_places same_world told = record { answers_are = told.0; world_is = ap (λ (m : OneThread). m.world) told.1 ∙ same_world }
single_steps places w old new (c ∷ commands) answers same_places same_world told =
    let next = told.0 in
    let one = told.4 in
    let here : record { reply = one.reply; world = next.world } ≡ step places w c.command =
    one.step.step_is ∙ ap (λ (n : ℕ). step n old.world c.command) same_places ∙ ap (λ w. step places w c.command) same_world in
    let rest = single_steps places (step places w c.command).world next new commands told.2 (one.step.places_are ∙ same_places) (ap (λ (s : Step). s.world) here) told.5 in
    record {
      answers_are = told.3 ∙ ap (λ (list : List Answer). list ++ told.2) one.one
          ∙ ap (λ (s : Step). record { line = c.line; reply = s.reply } ∷ told.2) here
          ∙ ap (λ (list : List Answer). record { line = c.line; reply = (step places w c.command).reply } ∷ list) rest.answers_are;
      world_is = rest.world_is;
    }

module _ (places : ℕ) where
  single_begins : (commands : List Numbered) → (b : Begins IsSingleStep (single_at_first places) commands) → AreSteps places None commands b.answers b.after
  single_begins commands b = single_steps places None (single_at_first places) b.after commands b.answers refl refl b.replied

  pub single_output : (input : List ℕ) (old new : Option (List ℕ)) → IsAnswered IsSingleStep (single_at_first places) input old new → Appends old new (output_of places input)
  single_output input old new h =
      let A : List Answer → Type 0 = λ list. Appends old new (texts list) in
      subst A (single_begins (commands_of input) h.begins).answers_are h.written

  pub single_totals : (input : List ℕ) (old new : Option (List ℕ)) (totals : Totals) → IsTotal IsSingleStep (single_at_first places) input old new totals → totals ≡ totals_of places input
  single_totals input old new totals h =
      h.totals_are ∙ ap (λ (list : List Answer). record { lines = newlines input; replies = length list }) (single_begins (commands_of input) h.answered.begins).answers_are

  -- a writer that stopped within the answers to the first commands stopped within those to all
  single_stops : (input : List ℕ) (old new : Option (List ℕ)) (line : ℕ) → IsStopped IsSingleStep (single_at_first places) input old new line → StopsIn (answers_of places input) old new line
  single_stops input old new line h =
      let S : List Answer → Type 0 = λ a. StopsIn a old new line in
      let all : answers_of places input ≡ answers_from places None h.before ++ answers_from places (world_after places None h.before) h.later =
      ap (answers_from places None) h.order ∙ answers_from-append places None h.before h.later in
      subst S (sym all) (stops_more _ _ old new line (subst S (single_begins h.before h.begins).answers_are h.stops))

  single_opening : (input : List ℕ) (before : List Numbered) (after : OneThread) (line : ℕ) → after.world ≡ world_after places None before
      → IsAsking Opens input before after line ⊎ IsBeginning input before line → IsOpening places input before line ⊎ IsBeginning input before line
  single_opening input before after line is (inl a) =
      let O : Option WorldState → Type 0 = λ w. IsTrue (opens w a.command.command) in
      inl (record { command = a.command; later = a.later; order = a.order; opening = subst O is a.asking; at = a.at })
  single_opening input before after line is (inr b) = inr b

  pub single_ends : (f : Fault) (input : List ℕ) (e : RunError) (left left_new old new : Option (List ℕ)) → IsEnded IsSingleStep Opens (single_at_first places) f input e left left_new old new → EndsIn f places input e left left_new old new
  single_ends Syntax input e left left_new old new h = (h.0, single_output input old new h.1)
  single_ends LongLine input e left left_new old new h = (h.0, single_output input old new h.1)
  single_ends Read input e left left_new old new h = record { past = h.past; read = h.read; clean = h.clean; written = single_output h.past old new h.answered; at = h.at }
  single_ends Write input e left left_new old new h = single_stops input old new e.line h
  single_ends Memory input e left left_new old new h =
      let steps = single_begins h.before h.begins in
      let A : List Answer → Type 0 = λ list. Appends old new (texts list) in
      record {
        before = h.before;
        opening = single_opening input h.before h.begins.after e.line steps.world_is h.asking;
        written = subst A steps.answers_are h.written;
      }

-- a run of a machine that starts as one on one thread does, which says what a run on one thread says
module _ (places : ℕ) (left left_new old new : Option (List ℕ)) (start : OneThread) (first : start ≡ single_at_first places) where
  pub totals_by_single : (r : Result Totals RunError) → IfOk r (λ totals. IfSome left (λ input. IsTotal IsSingleStep start input old new totals))
      → IfOk r (λ totals. IfSome left (λ input. totals ≡ totals_of places input))
  totals_by_single r h = MatchResult-weaker r h (λ totals said. known_weaker left (λ input. IsTotal IsSingleStep start input old new totals) (λ input. totals ≡ totals_of places input)
      (λ input known total. let T : OneThread → Type 0 = λ s. IsTotal IsSingleStep s input old new totals in single_totals places input old new totals (subst T first total)) said) (λ _ u. u)

  pub written_by_single : (r : Result Totals RunError) → IfOk r (λ totals. IfSome left (λ input. IsTotal IsSingleStep start input old new totals))
      → OnOk r (IfSome left (λ input. Appends old new (output_of places input)))
  written_by_single r h = MatchResult-weaker r h (λ totals said. known_weaker left (λ input. IsTotal IsSingleStep start input old new totals) (λ input. Appends old new (output_of places input))
      (λ input known total. let A : OneThread → Type 0 = λ s. IsAnswered IsSingleStep s input old new in single_output places input old new (subst A first total.answered)) said) (λ _ u. u)

  pub ended_by_single : (r : Result Totals RunError) → IfErr r (λ e. IfSome left (λ input. IsEnded IsSingleStep Opens start e.fault input e left left_new old new))
      → IfErr r (λ e. IfSome left (λ input. EndsIn e.fault places input e left left_new old new))
  ended_by_single r h = MatchResult-weaker r h (λ _ u. u) (λ e said. known_weaker left (λ input. IsEnded IsSingleStep Opens start e.fault input e left left_new old new) (λ input. EndsIn e.fault places input e left left_new old new)
      (λ input known end. let E : OneThread → Type 0 = λ s. IsEnded IsSingleStep Opens s e.fault input e left left_new old new in single_ends places e.fault input e left left_new old new (subst E first end)) said)
