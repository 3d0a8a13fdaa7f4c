-- What the run of a machine with threads says of a script without rounds, pools and blocks, as a run on one thread says it, and of a script
-- without blocks, as a run by hand says it.
use Rattle.std.proofs.Common.{◌≡◌, ℕ, ◌<◌, ◌≤◌, List, refl, sym, subst, inl, inr, Option, Some, None, Result, Ok, Err}
use Rattle.std.specs.Prelude.{IfSome}
use Rattle.std.specs.List.{AllByRecursion}
use Rattle.text_core.specs.declared.command.Command.{Command}
use Rattle.text_core.specs.declared.command.Command.TheVariants.{Compact, Pool, During}
use Rattle.machine_core.specs.World.{WorldState}
use Rattle.text_core.specs.declared.profile.Profile.TheVariants.{Untold}
use Rattle.text_core.specs.declared.reply.Reply.{Reply}
use Rattle.text_core.specs.declared.fault.Fault.{Fault}
use Rattle.text_core.specs.declared.fault.RunError.{RunError}
use Rattle.text_core.specs.declared.totals.Totals.{Totals}
use Rattle.text_core.specs.Runs.{IsAnswered, IsEnded, IsPlayed, IsTotal}
use Rattle.text_core.specs.Script.{Answer, Numbered, by, commands_of, fault_of, parts_of}
use Rattle.machine_core.specs.Replies.{totals_of}
use Rattle.machine_core.specs.OneThread.{IsSingleStep, OneThread, IsStep, Opens, single_at_first}
use Rattle.script_core.specs.WithThreads.{AsksMemory, IsBlockFor, IsUnthreaded, IsStepAt, IsThreadedStep, IsUnthreadedScript, WithThreads, threaded_at_first}
use Rattle.script_core.specs.Runs.{IsAnsweredWhole, IsEndedEarly, IsRunOnThreads}
use Rattle.script_core.specs.ByHand.{IsAloneScript, IsByHandStep, OpensByHand, To}
use Rattle.script_core.proofs.Following.{Follows, IsFollowable, all_followable, asks_follows, first_follows, step_follows}
use Rattle.script_core.proofs.RunsAs.{Goes, answered_as, ends_as, total_as}
use Rattle.script_core.proofs.CommandsInRange.{commands_ranged}
use Rattle.machine_core.proofs.SingleRuns.{single_ends, single_output, single_totals}
use Rattle.text_core.proofs.Variants.{known_weaker}

-- a command is answered as on one thread
abbrev IsAlone : WithThreads → Numbered → List Answer → WithThreads → Type 0
IsAlone old c answers new = IsSingleStep old.single c answers new.single × (new.broken ≡ None)

abbrev IsAloneReply : WithThreads → Command → Reply → WithThreads → Type 0
IsAloneReply old c answer new = IsStep old.single c answer new.single × (new.broken ≡ None)

alone_step : (old : WithThreads) (c : Command) (answer : Reply) (new : WithThreads) → IsUnthreaded c → IsStepAt None old c answer new → IsAloneReply old c answer new
alone_step old (Compact zone) answer new none step = absurd none
alone_step old (Pool zone count blocks) answer new none step = absurd none
alone_step old (During zone) answer new none step = absurd none
alone_step old _ answer new none step = (step.0, step.1)

-- a command that isn't a round, a pool or a block doesn't run a block
no_block : (c : Command) (world : Option WorldState) → IsUnthreaded c → IsBlockFor c world → ⊥
no_block (During zone) world none block = none
no_block _ world none block = block

unbroken_step : (old : WithThreads) (c : Numbered) (answers : List Answer) (new : WithThreads) → old.broken ≡ None → IsUnthreaded c.command → IsThreadedStep old c answers new → IsAlone old c answers new
unbroken_step old c answers new unbroken none (inl one) =
    let S : Option ℕ → Type 0 = λ o. IsStepAt o old c.command one.reply new in
    let alone = alone_step old c.command one.reply new none (subst S unbroken one.step) in
    (record { reply = one.reply; one = one.one; step = alone.0 }, alone.1)
unbroken_step old c answers new unbroken none (inr block) = absurd (no_block c.command old.single.world none block.block)

-- the other machine, which has one thread, is this one without the client
abbrev IsAloneWith : WithThreads → OneThread → Type 0
IsAloneWith old single = (single ≡ old.single) × (old.broken ≡ None)

alone_goes : (old : WithThreads) (single : OneThread) (c : Numbered) (answers : List Answer) (new : WithThreads) → IsUnthreaded c.command → IsAloneWith old single → IsThreadedStep old c answers new
    → Goes IsSingleStep IsAloneWith single c answers new
alone_goes old single c answers new none with step =
    let here = unbroken_step old c answers new with.1 none step in
    let S : OneThread → Type 0 = λ s. IsSingleStep s c answers new.single in
    record { beside = new.single; step = subst S (sym with.0) here.0; related = (refl, here.1) }

alone_opens : (old : WithThreads) (c : Command) → IsUnthreaded c → AsksMemory old c → Opens old.single c
alone_opens old (During zone) none asks = absurd none
alone_opens old c none (whole, inl opens) = opens
alone_opens old c none (whole, inr block) = absurd (no_block c old.single.world none block)

alone_asks : (old : WithThreads) (single : OneThread) (c : Numbered) → IsUnthreaded c.command → IsAloneWith old single → AsksMemory old c.command → Opens single c.command
alone_asks old single c none with asks =
    let O : OneThread → Type 0 = λ s. Opens s c.command in
    subst O (sym with.0) (alone_opens old c.command none asks)

module _ (places : ℕ) where
  abbrev alone_answered : (input : List ℕ) (old new : Option (List ℕ)) → IsUnthreadedScript input → IsAnswered IsThreadedStep (threaded_at_first places) input old new → IsAnswered IsSingleStep (single_at_first places) input old new
  alone_answered = answered_as IsThreadedStep AsksMemory (threaded_at_first places) IsSingleStep Opens (single_at_first places) (λ c. IsUnthreaded c.command) IsAloneWith (refl, refl) alone_goes alone_asks

  alone_total : (input : List ℕ) (old new : Option (List ℕ)) (totals : Totals) → IsUnthreadedScript input → IsTotal IsThreadedStep (threaded_at_first places) input old new totals → IsTotal IsSingleStep (single_at_first places) input old new totals
  alone_total = total_as IsThreadedStep AsksMemory (threaded_at_first places) IsSingleStep Opens (single_at_first places) (λ c. IsUnthreaded c.command) IsAloneWith (refl, refl) alone_goes alone_asks

  alone_ends : (f : Fault) (input : List ℕ) (e : RunError) (left left_new old new : Option (List ℕ)) → left ≡ Some input → IsUnthreadedScript input
      → IsEnded IsThreadedStep AsksMemory (threaded_at_first places) f input e left left_new old new → IsEnded IsSingleStep Opens (single_at_first places) f input e left left_new old new
  alone_ends = ends_as IsThreadedStep AsksMemory (threaded_at_first places) IsSingleStep Opens (single_at_first places) (λ c. IsUnthreaded c.command) IsAloneWith (refl, refl) alone_goes alone_asks

  -- a script without blocks
  abbrev ranged : (input : List ℕ) → IsAloneScript input → AllByRecursion IsFollowable (commands_of input)
  ranged input alone = all_followable (commands_of input) alone (commands_ranged (by Untold) 1 (parts_of input))

  module _ (range : (0 < places) × (places ≤ 65536)) where
    abbrev answered_by_hand : (input : List ℕ) (old new : Option (List ℕ)) → IsAloneScript input → IsAnswered IsThreadedStep (threaded_at_first places) input old new → IsAnswered (IsByHandStep places) (To None) input old new
    answered_by_hand input old new alone =
        answered_as IsThreadedStep AsksMemory (threaded_at_first places) (IsByHandStep places) OpensByHand (To None) IsFollowable (Follows places) (first_follows places) (step_follows places range) (asks_follows places)
        input old new (ranged input alone)

    ends_by_hand : (f : Fault) (input : List ℕ) (e : RunError) (left left_new old new : Option (List ℕ)) → left ≡ Some input → IsAloneScript input
        → IsEnded IsThreadedStep AsksMemory (threaded_at_first places) f input e left left_new old new → IsEnded (IsByHandStep places) OpensByHand (To None) f input e left left_new old new
    ends_by_hand f input e left left_new old new known alone =
        ends_as IsThreadedStep AsksMemory (threaded_at_first places) (IsByHandStep places) OpensByHand (To None) IsFollowable (Follows places) (first_follows places) (step_follows places range) (asks_follows places)
        f input e left left_new old new known (ranged input alone)

-- a run on threads, by the replies that its machine may give
module _ (places : ℕ) (range : (0 < places) × (places ≤ 65536)) (left left_new old new : Option (List ℕ)) where
  pub threaded_run : (r : Result Totals RunError) → IsPlayed IsThreadedStep AsksMemory (threaded_at_first places) left left_new old new r → IsRunOnThreads places left left_new old new r
  threaded_run (Ok totals) played =
      let T : List ℕ → Type 0 = λ input. IsTotal IsThreadedStep (threaded_at_first places) input old new totals in
      record {
        played = played;
        whole = known_weaker left T (λ input. IsAnsweredWhole places input old new) (λ input known total. record {
          whole = subst (λ (l : Option (List ℕ)). IfSome l (λ i. fault_of i ≡ None)) known played.ok;
          answered = total.answered;
          replies = λ none. single_output places input old new (alone_answered places input old new none total.answered);
          by_hand = λ alone. answered_by_hand places range input old new alone total.answered;
        }) played.answered;
        early = tt;
        totals = known_weaker left T (λ input. IsUnthreadedScript input → totals ≡ totals_of places input)
            (λ input known total none. single_totals places input old new totals (alone_total places input old new totals none total)) played.answered;
      }
  threaded_run (Err e) played =
      let E : List ℕ → Type 0 = λ input. IsEnded IsThreadedStep AsksMemory (threaded_at_first places) e.fault input e left left_new old new in
      record {
        played = played;
        whole = tt;
        early = known_weaker left E (λ input. IsEndedEarly places e input left left_new old new) (λ input known end. record {
          ends = end;
          alone = λ none. single_ends places e.fault input e left left_new old new (alone_ends places e.fault input e left left_new old new known none end);
          by_hand = λ alone. ends_by_hand places range e.fault input e left left_new old new known alone end;
        }) played.err;
        totals = tt;
      }
