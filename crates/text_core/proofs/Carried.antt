-- What a run says of the machine that its own machine stands for.
use Rattle.std.proofs.Common.{◌≡◌, ◌⊎◌, ℕ, List, [], ◌∷◌, ap, subst, inl, inr, Option}
use Rattle.std.specs.Prelude.{IfErr, IfOk, IfSome, Result}
use Rattle.std.proofs.lemmas.Result.{MatchResult-weaker}
use Rattle.text_core.specs.declared.command.Command.{Command}
use Rattle.text_core.specs.declared.fault.Fault.{Fault}
use Rattle.text_core.specs.declared.fault.Fault.TheVariants.{Syntax, LongLine, Read, Write, Memory}
use Rattle.text_core.specs.declared.fault.RunError.{RunError}
use Rattle.text_core.specs.declared.totals.Totals.{Totals}
use Rattle.text_core.specs.Runs.{Asking, Begins, IsAnswered, IsAsking, IsEnded, IsTotal, Replied, Rule}
use Rattle.text_core.specs.Script.{Answer, IsBeginning, Numbered, commands_of}
use Rattle.text_core.proofs.Variants.{known_weaker}

module _ {S T : Type 0} (may : Rule S) (rule : Rule T) (seen : S → T)
    (steps : (old : S) (c : Numbered) (answers : List Answer) (new : S) → may old c answers new → rule (seen old) c answers (seen new)) where
  carried_replied : (old new : S) (commands : List Numbered) (answers : List Answer) → Replied may old commands answers new → Replied rule (seen old) commands answers (seen new)
  carried_replied old new [] answers told = (told.0, ap seen told.1)
  carried_replied old new (c ∷ commands) answers told =
      (seen told.0, told.1, told.2, told.3, steps old c told.1 told.0 told.4, carried_replied told.0 new commands told.2 told.5)

  abbrev carried_begins : (start : S) (before : List Numbered) → Begins may start before → Begins rule (seen start) before
  carried_begins start before b = record { answers = b.answers; after = seen b.after; replied = carried_replied start b.after before b.answers b.replied }

  abbrev carried_answered : (start : S) (input : List ℕ) (old new : Option (List ℕ)) → IsAnswered may start input old new → IsAnswered rule (seen start) input old new
  carried_answered start input old new h = record { begins = carried_begins start (commands_of input) h.begins; written = h.written }

  carried_total : (start : S) (input : List ℕ) (old new : Option (List ℕ)) (totals : Totals) → IsTotal may start input old new totals → IsTotal rule (seen start) input old new totals
  carried_total start input old new totals h = record { answered = carried_answered start input old new h.answered; totals_are = h.totals_are }

  module _ (asks : Asking S) (asks_by : Asking T) (asking : (old : S) (c : Command) → asks old c → asks_by (seen old) c) where
    carried_asking : (after : S) (input : List ℕ) (before : List Numbered) (line : ℕ) → IsAsking asks input before after line ⊎ IsBeginning input before line
        → IsAsking asks_by input before (seen after) line ⊎ IsBeginning input before line
    carried_asking after input before line (inl a) = inl (record {
      command = a.command;
      later = a.later;
      order = a.order;
      asking = asking after a.command.command a.asking;
      at = a.at;
    })
    carried_asking after input before line (inr b) = inr b

    carried_end : (start : S) (f : Fault) (input : List ℕ) (e : RunError) (left left_new old new : Option (List ℕ)) → IsEnded may asks start f input e left left_new old new
        → IsEnded rule asks_by (seen start) f input e left left_new old new
    carried_end start Syntax input e left left_new old new h = (h.0, carried_answered start input old new h.1)
    carried_end start LongLine input e left left_new old new h = (h.0, carried_answered start input old new h.1)
    carried_end start Read input e left left_new old new h = record { past = h.past; read = h.read; clean = h.clean; answered = carried_answered start h.past old new h.answered; at = h.at }
    carried_end start Write input e left left_new old new h = record { before = h.before; later = h.later; order = h.order; begins = carried_begins start h.before h.begins; stops = h.stops }
    carried_end start Memory input e left left_new old new h = record {
      before = h.before;
      begins = carried_begins start h.before h.begins;
      asking = carried_asking h.begins.after input h.before e.line h.asking;
      written = h.written;
    }

    -- a run of a machine that stands for one with this state
    module _ (start : S) (first : T) (is : seen start ≡ first) (left left_new old new : Option (List ℕ)) (r : Result Totals RunError) where
      pub totals_carried : IfOk r (λ totals. IfSome left (λ input. IsTotal may start input old new totals)) → IfOk r (λ totals. IfSome left (λ input. IsTotal rule first input old new totals))
      totals_carried h = MatchResult-weaker r h
          (λ totals said. known_weaker left (λ input. IsTotal may start input old new totals) (λ input. IsTotal rule first input old new totals)
          (λ input known total. let R : T → Type 0 = λ t. IsTotal rule t input old new totals in subst R is (carried_total start input old new totals total)) said)
          (λ _ u. u)

      pub ends_carried : IfErr r (λ e. IfSome left (λ input. IsEnded may asks start e.fault input e left left_new old new))
          → IfErr r (λ e. IfSome left (λ input. IsEnded rule asks_by first e.fault input e left left_new old new))
      ends_carried h = MatchResult-weaker r h (λ _ u. u)
          (λ e said. known_weaker left (λ input. IsEnded may asks start e.fault input e left left_new old new) (λ input. IsEnded rule asks_by first e.fault input e left left_new old new)
          (λ input known end. let R : T → Type 0 = λ t. IsEnded rule asks_by t e.fault input e left left_new old new in subst R is (carried_end start e.fault input e left left_new old new end)) said)
