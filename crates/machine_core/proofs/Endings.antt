-- What the end of a run says, fault by fault.
use Rattle.std.proofs.Common.{◌≡◌, ℕ, IsTrue, List, Option, Some, Result, Ok, Err, subst}
use Rattle.std.specs.Prelude.{IfErr, IfOk, IfSome}
use Rattle.std.specs.Io.KnownBytes.{Appends}
use Rattle.std.proofs.lemmas.Result.{MatchResult-weaker}
use Rattle.text_core.specs.declared.fault.Fault.{Fault}
use Rattle.text_core.specs.declared.fault.Fault.TheVariants.{Syntax, LongLine, Read, Write, Memory}
use Rattle.text_core.specs.declared.fault.RunError.{RunError}
use Rattle.text_core.specs.declared.totals.Totals.{Totals}
use Rattle.machine_core.specs.Ends.{EndsIn, is_of_script, is_over}
use Rattle.text_core.specs.Script.{fault_of}
use Rattle.machine_core.specs.Replies.{output_of}
use Rattle.text_core.proofs.Variants.{known_weaker}

module _ (places : ℕ) (left left_new old new : Option (List ℕ)) where
  fault_says : (f : Fault) (input : List ℕ) (e : RunError) → IsTrue (is_of_script f) → EndsIn f places input e left left_new old new → (fault_of input ≡ Some e) × Appends old new (output_of places input)
  fault_says Syntax input e is h = h
  fault_says LongLine input e is h = h
  fault_says Read input e is h = cc
  fault_says Write input e is h = cc
  fault_says Memory input e is h = cc

  pub fault_first : (r : Result Totals RunError) → IfErr r (λ e. IfSome left (λ input. EndsIn e.fault places input e left left_new old new))
      → IfErr r (λ e. IsTrue (is_of_script e.fault) → IfSome left (λ input. fault_of input ≡ Some e))
  fault_first r h = MatchResult-weaker r h (λ _ u. u) (λ e ends is. known_weaker left (λ input. EndsIn e.fault places input e left left_new old new) (λ input. fault_of input ≡ Some e) (λ input known end. (fault_says e.fault input e is end).0) ends)

  pub over_written : (r : Result Totals RunError) → IfOk r (λ totals. IfSome left (λ input. Appends old new (output_of places input))) → IfErr r (λ e. IfSome left (λ input. EndsIn e.fault places input e left left_new old new))
      → IsTrue (is_over r) → IfSome left (λ input. Appends old new (output_of places input))
  over_written (Ok totals) ok err is = ok
  over_written (Err e) ok err is = known_weaker left (λ input. EndsIn e.fault places input e left left_new old new) (λ input. Appends old new (output_of places input)) (λ input known end. (fault_says e.fault input e is end).1) err

  -- what is said of a fault holds of the fault that ended the run
  pub at_fault : (f : Fault) (P : List ℕ → RunError → Type 0) → ((input : List ℕ) (e : RunError) → EndsIn f places input e left left_new old new → P input e) → (r : Result Totals RunError)
      → IfErr r (λ e. IfSome left (λ input. EndsIn e.fault places input e left left_new old new)) → IfErr r (λ e. e.fault ≡ f → IfSome left (λ input. P input e))
  at_fault f P says r h = MatchResult-weaker r h (λ _ u. u) (λ e ends is. known_weaker left (λ input. EndsIn e.fault places input e left left_new old new) (λ input. P input e)
      (λ input known end. says input e (let E : Fault → Type 0 = λ f. EndsIn f places input e left left_new old new in subst E is end)) ends)
