-- The calls of clients, as the journal tells them, and what a round beside a client adds to the journal.
use Rattle.std.specs.Prelude.{◌≡◌, ℕ, Bool, true, false, ◌||◌, List, ◌∷◌, ◌++◌, nat_eq}
use Rattle.std.specs.List.{AllByRecursion}
use Rattle.frame_core.specs.declared.record.Record.{Record}
use Rattle.frame_core.specs.declared.record.Record.TheVariants.{Map, Share, Unmap, Store, Load, Pin, Unpin, Isolate, Moved, Back}
use Rattle.state_core.specs.ZoneState.{ZoneState}

-- whether a record is of a call of the client with this number
abbrev pub is_of : ℕ → Record → Bool
is_of number (Map client address page) = nat_eq client number
is_of number (Share client address alias) = nat_eq client number
is_of number (Unmap client address) = nat_eq client number
is_of number (Store client address word value) = nat_eq client number
is_of number (Load client address word value) = nat_eq client number
is_of number (Pin client address) = nat_eq client number
is_of number (Unpin client address) = nat_eq client number
is_of number _ = false

-- the client with this number made a call that the zone accepted: the journal has one record more, and it is of the client
pub record IsCall (number : ℕ) (z z_new : ZoneState) : Type 0 where
  pub entry : Record
  pub own : is_of number entry ≡ true
  pub more : z_new.records ≡ entry ∷ z.records

-- whether a record is of a step of a round: a page was isolated, moved or put back
abbrev pub is_of_round : Record → Bool
is_of_round (Isolate page serial) = true
is_of_round (Moved serial) = true
is_of_round (Back cause serial) = true
is_of_round _ = false

-- a journal has all its records of before, in their places, and each newer one is of a step of a round or of a call of the client with this number
pub record IsAddedBeside (number : ℕ) (before after : List Record) : Type 0 where
  pub added : List Record
  pub is : after ≡ added ++ before
  pub each : AllByRecursion (λ entry. (is_of_round entry || is_of number entry) ≡ true) added
