-- What holds of a refusal, and of the answer where there is none, holds of an answer that may be either.
use Rattle.std.proofs.Common.{◌≡◌, ℕ, refl, Option, Some, None}
use Rattle.state_core.specs.declared.error.ZoneError.{ZoneError}
use Rattle.state_core.specs.declared.information.Look.{Look}
use Rattle.state_core.specs.ErrorNumber.{number_of}
use Rattle.machine_core.specs.World.{WorldState}
use Rattle.text_core.specs.declared.reply.Reply.{Reply}
use Rattle.text_core.specs.declared.reply.Reply.TheVariants as reply
use Rattle.machine_core.specs.Machine.{Answered, by_hand, copied, looked, refused, says, unless}

module _ (P : Answered → Type 0) (w : WorldState) (refusal : (number : ℕ) → P (refused number w)) where
  pub unless_by : (o : Option ZoneError) (a : Answered) → (o ≡ None → P a) → P (unless o w a)
  unless_by None a accepted = accepted refl
  unless_by (Some error) a accepted = refusal (number_of error)

  pub hand_by : {A : Type 0} (told : A → Reply) (o : Option (A × WorldState)) → ((x : A) (after : WorldState) → o ≡ Some (x, after) → P (says (told x) after)) → P (by_hand told w o)
  hand_by told None held = refusal 45
  hand_by told (Some (x, after)) held = held x after refl

  pub copied_by : (o : Option WorldState) → ((after : WorldState) → o ≡ Some after → P (says reply.Done after)) → P (copied w o)
  copied_by None held = refusal 45
  copied_by (Some after) held = held after refl

  pub looked_by : (o : Option Look) → ((known : Look) → P (says (reply.Looked known) w)) → P (looked w o)
  looked_by None known = refusal 3
  looked_by (Some page) known = known page
