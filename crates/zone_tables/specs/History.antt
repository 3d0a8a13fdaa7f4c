-- The records of a zone, and how its latest round began.
use Rattle.std.specs.Prelude.{ℕ, ◌+◌, ◌-◌, List, [], ◌∷◌, Option}
use Rattle.frame_core.specs.declared.place.Address.{Address}
use Rattle.frame_core.specs.declared.record.Record.{Record}
use Rattle.frame_core.specs.declared.record.Record.TheVariants.{Load, Store}
use Rattle.state_core.specs.declared.round.RoundStart.{RoundStart}

-- the journal of a zone, and its latest round
pub record History : Type 0 where
  -- the records, the newest first
  pub records : List Record
  -- the number of places that are left
  pub room : ℕ
  pub round : Option RoundStart

-- a history with one more record
abbrev pub told : History → Record → History
told h entry = record h { records = entry ∷ h.records; room = h.room - 1 }

-- a history with a record of each of these values, in the words from one on
abbrev pub told_each : (ℕ → ℕ → Record) → History → ℕ → List ℕ → History
told_each of h word [] = h
told_each of h word (value ∷ values) = told_each of (told h (of word value)) (word + 1) values

-- a history with a load of each of these values, in the words from one on
abbrev pub told_loads : History → ℕ → Address → ℕ → List ℕ → History
told_loads h client address from values = told_each (Load client address) h from values

-- a history with a store of each of these values, in the words from one on
abbrev pub told_stores : History → ℕ → Address → ℕ → List ℕ → History
told_stores h client address from values = told_each (Store client address) h from values
