-- A block that is ready is taken.
use Rattle.std.proofs.Common.{◌≡◌, ℕ, ◌+◌, ◌^◌, true, not, List, ◌++◌, Some, None, refl, sym, ap, subst, ◌∙◌}
use Rattle.std.specs.Prelude.{drop, if◌then◌else◌, nat_eq, slice_index, take}
use Rattle.std.specs.FinMap as map
use Rattle.std.specs.List.{position}
use Rattle.std.proofs.lemmas.Bool.{and_parts}
use Rattle.fewest_core.specs.Claims.{claimed_frames, claimed_taken, take_claimed_refusal}
use Rattle.keeper_core.specs.Keeping.{Keeper, is_ready, next_ready, refusal_of_take, take_refusal, IsTaken, IsTakenFrom}
use Rattle.keeper_core.proofs.Searches.{at_place}
use Rattle.state_core.specs.HandingOut.{has_block}
use Rattle.state_core.specs.ZoneState.{ZoneState, has_room}
use Rattle.state_core.specs.declared.error.ZoneError.TheVariants.{JournalFull, NoBlock, Range}

-- the first claim that is ready is at this place
module _ (k : Keeper) (z : ZoneState) (place first : ℕ) (at : position (is_ready z k.order) k.claims ≡ Some place) (named : first ≡ slice_index k.claims place) where
  next : next_ready k z ≡ Some first
  next = (at_place (is_ready z k.order) k.claims place at).2 ∙ ap Some (sym named)

  ready : (has_block z k.order first ≡ true) × (nat_eq (claimed_frames first (2 ^ k.order) z) (2 ^ k.order) ≡ true)
  ready = and_parts (has_block z k.order first) _ (ap (is_ready z k.order) named ∙ (at_place (is_ready z k.order) k.claims place at).1)

  pub refused : take_claimed_refusal z first k.order ≡ take_refusal k z
  refused =
      (λ i. if not (ready.0 i) then Some Range else if not (has_room z) then Some JournalFull else if not (ready.1 i) then Some NoBlock else None)
      ∙ sym (ap (λ o. refusal_of_take o z k.order) next)

  pub taken : (claims : List ℕ) (z_new : ZoneState) → claims ≡ take place k.claims ++ drop (place + 1) k.claims → z_new ≡ claimed_taken z first k.order → map.get z_new.handed_out first ≡ Some k.order
      → IsTaken k z (record { first = first; pages = 0 }) (record k { claims = claims }) z_new
  taken claims z_new without zone handed = record {
    from = subst (λ o. IsTakenFrom o k z (record { first = first; pages = 0 }) (record k { claims = claims }) z_new) (sym next) (
      refl,
      refl,
      ap (λ (l : List ℕ). record k { claims = l }) (without ∙ sym (ap (λ n. take n k.claims ++ drop (n + 1) k.claims) (at_place (is_ready z k.order) k.claims place at).3)),
      zone,
    );
    handed_out = handed;
  }
