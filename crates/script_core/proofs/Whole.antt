-- Where no round was refused, the machine by hand is followed to the end.
use Rattle.std.proofs.Common.{◌≡◌, ℕ, ◌≤◌, true, ◌&&◌, List, [], ◌∷◌, ◌++◌, sym, ap, subst, ◌∙◌, inl, inr, Option}
use Rattle.std.specs.Prelude.{nat_le}
use Rattle.std.proofs.lemmas.Bool.{le-leb, true≢false}
use Rattle.machine_core.specs.World.{WorldState}
use Rattle.text_core.specs.declared.command.Command.{Command}
use Rattle.text_core.specs.declared.command.Command.TheVariants.{Compact, Pool}
use Rattle.text_core.specs.declared.pool.PoolStopped.TheVariants as pool_stopped
use Rattle.text_core.specs.declared.reply.Reply.{Reply}
use Rattle.text_core.specs.declared.reply.Reply.TheVariants as reply
use Rattle.text_core.specs.Runs.{Replied}
use Rattle.text_core.specs.Script.{Answer, Numbered}
use Rattle.script_core.specs.MachineByHand.{answers_by_hand_from, step_by_hand}
use Rattle.script_core.specs.ByHand.{Followed, To, IsByHandStep, IsUnbegun, HasFailed, NoneRefused, tells_refusal}

-- a round that wasn't begun tells its refusal
unbegun_tells : (c : Command) (r : Reply) → IsUnbegun c r → tells_refusal r ≡ true
unbegun_tells (Compact zone) r (inl is) = ap tells_refusal is
unbegun_tells (Compact zone) r (inr is) = ap tells_refusal is
unbegun_tells c r is = absurd is

between : (low high n : ℕ) → low ≤ n → n ≤ high → (nat_le low n && nat_le n high) ≡ true
between low high n least most = λ i. le-leb low n least i && le-leb n high most i

-- and so does one that failed
failed_tells : (c : Command) (r : Reply) → HasFailed c r → tells_refusal r ≡ true
failed_tells (Compact zone) r (inl is) = ap tells_refusal is
failed_tells (Compact zone) r (inr is) = ap tells_refusal is
failed_tells (Pool zone count blocks) (reply.Pool told got rounds (pool_stopped.Refused number)) is = between 31 34 number is.0 is.1
failed_tells c r is = absurd is

module _ (places : ℕ) where
  whole_from : (world : Option WorldState) (c : Numbered) (commands : List Numbered) (answers rest : List Answer) (r : Reply) → answers ≡ record { line = c.line; reply = r } ∷ rest
      → r ≡ (step_by_hand places world c.command).reply → rest ≡ answers_by_hand_from places (step_by_hand places world c.command).world commands → answers ≡ answers_by_hand_from places world (c ∷ commands)
  whole_from world c commands answers rest r is told more = is ∙ (λ i. record { line = c.line; reply = told i } ∷ more i)

  pub whole_by_hand : (world : Option WorldState) (commands : List Numbered) (answers : List Answer) (after : Followed) → Replied (IsByHandStep places) (To world) commands answers after → NoneRefused answers → answers ≡ answers_by_hand_from places world commands
  whole_by_hand world [] answers after told none = told.0
  whole_by_hand world (c ∷ commands) answers after told none =
      let one = told.4 in
      let is : answers ≡ record { line = c.line; reply = one.reply } ∷ told.2 = told.3 ∙ ap (λ (here : List Answer). here ++ told.2) one.one in
      let quiet = subst NoneRefused is none in
      elim one.step [
        | inl same ↦ whole_from world c commands answers told.2 one.reply is same.0
            (whole_by_hand (step_by_hand places world c.command).world commands told.2 after (subst (λ (f : Followed). Replied (IsByHandStep places) f commands told.2 after) same.1 told.5) quiet.1)
        | inr other ↦ elim other [
          | inl unbegun ↦ absurd (true≢false (sym (unbegun_tells c.command one.reply unbegun.0) ∙ quiet.0))
          | inr failed ↦ absurd (true≢false (sym (failed_tells c.command one.reply failed.0) ∙ quiet.0))
        ]
      ]
