-- The counts of a valid zone add up, and so do those of each reply.
use Rattle.std.proofs.Common.{◌≡◌, ℕ, ◌*◌, ◌<◌, ◌≤◌, Bool, true, false, List, [], ◌∷◌, refl, sym, ap, subst, ◌∙◌, Option, Some, None}
use Rattle.std.specs.List.{AllByRecursion}
use Rattle.std.specs.Option.{option_or}
use Rattle.machine_core.specs.World.{IsOrderly, WorldState, world_opened}
use Rattle.text_core.specs.declared.command.Call.{Call}
use Rattle.text_core.specs.declared.command.Call.TheVariants.{Info, InfoWithHeld}
use Rattle.text_core.specs.declared.command.Calls.{Calls}
use Rattle.text_core.specs.declared.command.Calls.TheVariants.{Zone, One, Series as SeriesOf}
use Rattle.text_core.specs.declared.command.Command.{Command}
use Rattle.text_core.specs.declared.command.Command.TheVariants.{Open, Compact, Pool, During}
use Rattle.text_core.specs.declared.reply.Reply.{Reply}
use Rattle.text_core.specs.declared.reply.Reply.TheVariants as reply
use Rattle.text_core.proofs.Ranges.{IsInRange}
use Rattle.machine_core.specs.Machine.{Step, call_step, calls_step, step, during_on}
use Rattle.text_core.specs.Script.{Numbered, commands_of, parts_of, by}
use Rattle.script_core.specs.Counts.{AddsUpTo, CountsAddUp, frames_in, frames_of}
use Rattle.text_core.specs.Grammar.{zone_of}
use Rattle.script_core.proofs.CommandsInRange.{AreInRange, commands_ranged}
use Rattle.script_core.proofs.Machines.{Goes, IsMachine, answers_by, answers_to, by_other, is_of_rounds, runs_rounds}
use Rattle.script_core.proofs.Replies.{has_counts, plain_call, plain_make, plain_series}
use Rattle.script_core.proofs.Runs.{goes_by, opened_orderly}
use Rattle.text_core.specs.declared.profile.Profile.TheVariants.{Untold}

adds_plain : (frames : Option ℕ) (r : Reply) → has_counts r ≡ false → AddsUpTo frames r
adds_plain frames (reply.Info i) h = cc
adds_plain frames (reply.InfoWithHeld i) h = cc
adds_plain frames _ h = tt

adds_call : (w : WorldState) → IsOrderly w → (c : Call) → AddsUpTo (Some (512 * w.zone.blocks)) (call_step w c).reply
adds_call w o Info = ap Some (sym o.valid.sum)
adds_call w o InfoWithHeld = ap Some (sym o.valid.sum)
adds_call w o c = adds_plain (Some (512 * w.zone.blocks)) _ (plain_call w c refl).0

adds_calls : (w : WorldState) → IsOrderly w → (c : Calls) → AddsUpTo (Some (512 * w.zone.blocks)) (calls_step w c).reply
adds_calls w o (Zone c) = adds_plain (Some (512 * w.zone.blocks)) _ (plain_make w c)
adds_calls w o (One c) = adds_call w o c
adds_calls w o (SeriesOf s) = adds_plain (Some (512 * w.zone.blocks)) _ (plain_series s.call s.space s.first s.step 0 s.count w)

adds_of_rounds : (frames : Option ℕ) (r : Reply) → is_of_rounds r ≡ true → AddsUpTo frames r
adds_of_rounds frames (reply.Info i) h = cc
adds_of_rounds frames (reply.InfoWithHeld i) h = cc
adds_of_rounds frames _ h = tt

adds_other : (places : ℕ) (w : WorldState) → IsOrderly w → (c : Command) → runs_rounds c ≡ false → AddsUpTo (Some (512 * w.zone.blocks)) (step places (Some w) c).reply
adds_other places w o = by_other places (λ c s. AddsUpTo (Some (512 * w.zone.blocks)) s.reply) w (λ c number. tt) tt (λ zone calls. adds_calls w o calls)

-- in any machine
module _ (places : ℕ) (steps : Option WorldState → Command → Step) (m : IsMachine places steps) where
  adds_step : (w : WorldState) → IsOrderly w → (c : Command) → AddsUpTo (Some (512 * w.zone.blocks)) (steps (Some w) c).reply
  adds_step w o c = by_kind (runs_rounds c) refl where
    by_kind : (b : Bool) → runs_rounds c ≡ b → AddsUpTo (Some (512 * w.zone.blocks)) (steps (Some w) c).reply
    by_kind true e = adds_of_rounds (Some (512 * w.zone.blocks)) (steps (Some w) c).reply (m.replies (Some w) c e)
    by_kind false e = subst (λ (s : Step). AddsUpTo (Some (512 * w.zone.blocks)) s.reply) (sym (m.other (Some w) c e)) (adds_other places w o c e)

  -- the counts of each reply add up from a world on
  abbrev AddOn : Option ℕ → List Numbered → Option WorldState → Type 0
  AddOn frames commands w = AllByRecursion (λ a. AddsUpTo frames a.reply) (answers_by steps w commands)

  -- and so they do from a step on
  abbrev AddFrom : Option ℕ → List Numbered → Step → Type 0
  AddFrom frames commands s = AddsUpTo frames s.reply × AddOn frames commands s.world

  -- where a zone is open
  open_adds : (frames : Option ℕ) (commands : List Numbered) → AreInRange commands → (w : WorldState) → IsOrderly w → frames ≡ Some (512 * w.zone.blocks) → AddOn frames commands (Some w)
  open_adds frames [] ranged w o is = tt
  open_adds frames (c ∷ commands) ranged w o is =
      let on : Goes w (steps (Some w) c.command) = goes_by places steps m w o c.command ranged.0 in (
        subst (λ (f : Option ℕ). AddsUpTo f (steps (Some w) c.command).reply) (sym is) (adds_step w o c.command),
        subst (AddOn frames commands) (sym on.world)
            (open_adds frames commands ranged.1 on.after on.keeps.orderly (is ∙ ap (λ n. Some (512 * n)) (sym on.keeps.blocks))),
      )

  -- where none is open
  other_adds : (frames : Option ℕ) (commands : List Numbered) (c : Command) → runs_rounds c ≡ false → AddFrom frames commands (step places None c) → AddFrom frames commands (steps None c)
  other_adds frames commands c h adds = subst (AddFrom frames commands) (sym (m.other None c h)) adds

  rounds_add : (frames : Option ℕ) (commands : List Numbered) (c : Command) → runs_rounds c ≡ true → AddOn frames commands None → AddFrom frames commands (steps None c)
  rounds_add frames commands c h rest = (adds_of_rounds frames (steps None c).reply (m.replies None c h), subst (AddOn frames commands) (sym (m.closed c h)) rest)

  adds_first : (0 < places) × (places ≤ 65536) → (c : Command) (commands : List Numbered) → IsInRange c → AreInRange commands → CountsAddUp commands (answers_by steps None commands)
      → AddFrom (option_or (frames_in c) (frames_of commands)) commands (steps None c)
  adds_first range (Pool zone count blocks) commands r ranged rest = rounds_add (frames_of commands) commands (Pool zone count blocks) refl rest
  adds_first range (Compact zone) commands r ranged rest = rounds_add (frames_of commands) commands (Compact zone) refl rest
  adds_first range (During number) commands r ranged rest = other_adds (frames_of commands) commands (During number) refl (by_zone (zone_of number)) where
    by_zone : (z : Option ℕ) → AddFrom (frames_of commands) commands (during_on z None)
    by_zone None = (tt, rest)
    by_zone (Some zone) = (tt, rest)
  adds_first range (Open zone blocks) commands r ranged rest =
      other_adds (Some (512 * blocks)) commands (Open zone blocks) refl (tt, open_adds (Some (512 * blocks)) commands ranged (world_opened zone blocks places) (opened_orderly zone blocks places r range) refl)
  adds_first range c commands r ranged rest = other_adds (frames_of commands) commands c refl (tt, rest)

  adds : (0 < places) × (places ≤ 65536) → (commands : List Numbered) → AreInRange commands → CountsAddUp commands (answers_by steps None commands)
  adds range [] ranged = tt
  adds range (c ∷ commands) ranged = adds_first range c.command commands ranged.0 ranged.1 (adds range commands ranged.1)

  pub counts_added_by : (0 < places) × (places ≤ 65536) → (input : List ℕ) → CountsAddUp (commands_of input) (answers_to steps input)
  counts_added_by range input = adds range (commands_of input) (commands_ranged (by Untold) 1 (parts_of input))
