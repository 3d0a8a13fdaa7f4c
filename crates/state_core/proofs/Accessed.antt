-- A load and a store leave a zone valid.
use Rattle.std.proofs.Common.{◌≡◌, ℕ, ◌+◌, ◌<◌, ◌≤◌, List, [], ◌∷◌, length, refl, sym, subst, arith, Option, Some, IsSomeAnd}
use Rattle.std.specs.Prelude.{unwrap_or}
use Rattle.frame_core.specs.declared.place.Address.{Address}
use Rattle.frame_core.specs.declared.record.Record.TheVariants.{Load, Store}
use Rattle.frame_core.specs.History.{last}
use Rattle.frame_core.specs.Moves.{out}
use Rattle.state_core.specs.declared.placement.Placement.TheVariants.{At}
use Rattle.state_core.specs.Valid.{IsValidZone}
use Rattle.state_core.specs.Access.{value_at, loaded, stored}
use Rattle.state_core.specs.Bulk.{stored_all}
use Rattle.state_core.specs.ZoneState.{ZoneState, placement_at}
use Rattle.state_core.proofs.Quiet.{quiet_before}
use Rattle.state_core.proofs.Facts.{page_named}
use Rattle.state_core.proofs.Noted.{valid_noted}
use Rattle.state_core.proofs.Sweeping.{swept_loaded, swept_stored}

-- a record of a load or a store leaves the state valid
module _ (v : ZoneState) (law : IsValidZone v) (spare : length (out v.records) < v.room) (client : ℕ) (address : Address) where
  pub valid_loaded : (frame word : ℕ) → placement_at v address ≡ Some (At frame) → IsValidZone (loaded v client address word)
  valid_loaded frame word at =
      let page = page_named v address (At frame) at in
      let T : Option ℕ → Type 0 = λ o. IsSomeAnd o (λ p. last v.records (unwrap_or o 0) word ≡ last v.records p word) in
      valid_noted v law (Load client address word (value_at v address word)) spare (record {
        truthful = (subst T (sym page.1) refl, law.journal.truthful);
        well_ended = law.journal.well_ended;
        named = law.agrees.named;
        in_use = law.agrees.in_use;
        out = refl;
        ways = λ p serial. (λ way. way, λ way. way);
        handed = λ first. refl;
        marks = λ block. refl;
        pinned = law.loans.pinned;
        swept = λ quiet. swept_loaded v client address word (law.fingers.swept (quiet_before v (Load client address word (value_at v address word)) law refl quiet));
      })

  pub valid_stored : (word value : ℕ) → IsValidZone (stored v client address word value)
  valid_stored word value = valid_noted v law (Store client address word value) spare (record {
    truthful = law.journal.truthful;
    well_ended = law.journal.well_ended;
    named = law.agrees.named;
    in_use = law.agrees.in_use;
    out = refl;
    ways = λ p serial. (λ way. way, λ way. way);
    handed = λ first. refl;
    marks = λ block. refl;
    pinned = law.loans.pinned;
    swept = λ quiet. swept_stored v client address word value (law.fingers.swept (quiet_before v (Store client address word value) law refl quiet));
  })

-- so do stores of several words
pub valid_stored_all : (v : ZoneState) → IsValidZone v → (client : ℕ) (address : Address) (from : ℕ) (values : List ℕ) → length (out v.records) + length values ≤ v.room → IsValidZone (stored_all v client address from values)
valid_stored_all v law client address from [] room = law
valid_stored_all v law client address from (value ∷ values) room =
    valid_stored_all (stored v client address from value) (valid_stored v law (omega (arith, room)) client address from value) client address (from + 1) values (omega (arith, room))
