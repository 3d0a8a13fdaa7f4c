-- Whole runs of scripts on threads, by what was read and written.
use Rattle.std.specs.Prelude.{◌≡◌, ℕ, List, Option, None, Result, IfErr, IfOk, IfSome, OnOk}
use Rattle.std.specs.Io.KnownBytes.{Appends}
use Rattle.text_core.specs.declared.fault.RunError.{RunError}
use Rattle.text_core.specs.declared.totals.Totals.{Totals}
use Rattle.text_core.specs.Runs.{IsAnswered, IsEnded, IsPlayed}
use Rattle.text_core.specs.Script.{fault_of}
use Rattle.machine_core.specs.Ends.{EndsIn}
use Rattle.machine_core.specs.Replies.{output_of, totals_of}
use Rattle.script_core.specs.ByHand.{IsAloneScript, IsByHandStep, OpensByHand, To}
use Rattle.script_core.specs.WithThreads.{AsksMemory, IsThreadedStep, IsUnthreadedScript, threaded_at_first}

-- a whole script was answered on threads
pub record IsAnsweredWhole (places : ℕ) (input : List ℕ) (old new : Option (List ℕ)) : Type 0 where
  pub whole : fault_of input ≡ None
  pub answered : IsAnswered IsThreadedStep (threaded_at_first places) input old new
  -- one without rounds, pools and blocks was answered as on one thread
  pub replies : IsUnthreadedScript input → Appends old new (output_of places input)
  -- one without blocks was answered as by the machine that makes its rounds by hand, up to the first round that failed and the first
  -- pool that was refused a round
  pub by_hand : IsAloneScript input → IsAnswered (IsByHandStep places) (To None) input old new

-- an error ended the run of a script on threads, and of one without blocks as it may end a run by hand
pub record IsEndedEarly (places : ℕ) (error : RunError) (input : List ℕ) (left left_new old new : Option (List ℕ)) : Type 0 where
  pub ends : IsEnded IsThreadedStep AsksMemory (threaded_at_first places) error.fault input error left left_new old new
  pub alone : IsUnthreadedScript input → EndsIn error.fault places input error left left_new old new
  pub by_hand : IsAloneScript input → IsEnded (IsByHandStep places) OpensByHand (To None) error.fault input error left left_new old new

-- a run of a script on threads whose reader tells its bytes
pub record IsRunOnThreads (places : ℕ) (left left_new old new : Option (List ℕ)) (result : Result Totals RunError) : Type 0 where
  pub played : IsPlayed IsThreadedStep AsksMemory (threaded_at_first places) left left_new old new result
  pub whole : OnOk result (IfSome left (λ input. IsAnsweredWhole places input old new))
  pub early : IfErr result (λ error. IfSome left (λ input. IsEndedEarly places error input left left_new old new))
  -- the totals of a script without rounds, pools and blocks are those on one thread
  pub totals : IfOk result (λ totals. IfSome left (λ input. IsUnthreadedScript input → totals ≡ totals_of places input))
