-- The rule of the two halves of a list.
use Rattle.std.specs.Prelude.{◌≡◌, ℕ, ◌+◌, ◌<◌, List, [], ◌∷◌, ◌++◌}
use mathlib.Core.Option.{Option, none, some}
use lib.ListN.{get_elem?}
use Rattle.atomic_table.specs.Table.{State, Step, Me}
use Rattle.atomic_table.specs.Seated.{TableId}
use Rattle.frame_core.specs.declared.record.Record.{Record}
use Rattle.hand_core.specs.declared.rule.Part.{Part}
use Rattle.hand_core.specs.Queue.{total}

-- what is known with both shares, with one, and with none
abbrev pub whole_part : List Record → Part
whole_part records = record { shares = 2; records = records; others = records }

abbrev pub half_part : List Record → Part
half_part records = record { shares = 1; records = records; others = records }

abbrev pub no_part : Part
no_part = record { shares = 0; records = []; others = [] }

-- one half takes in another
abbrev pub both_parts : Part → Part → Part
both_parts v w = record { shares = v.shares + w.shares; records = v.records; others = w.records }

-- the shares of all, added up
abbrev pub shares_of : List Part → ℕ
shares_of views = total (λ v. v.shares) views

-- there are two shares, and whoever has one knows the one list
pub record HaveOneList (s : State Record Part) : Type 0 where
  pub shares : shares_of s.views ≡ 2
  pub list : List Record
  pub each : (id : ℕ) (v : Part) → get_elem? s.views id ≡ some v → 0 < v.shares → (v.records ≡ list) × (v.others ≡ list)

-- the list with what a step announces
abbrev pub with_said : Option Record → List Record → List Record
with_said none records = records
with_said (some entry) records = records ++ entry ∷ []

-- both lists were the same, and what the step announces was written at their end
abbrev pub IsWritten : Step Record → Me Record Part → ℕ → Me Record Part → Type 0
IsWritten step me found me_new =
    (me.0.others ≡ me.0.records) × (me_new ≡ (whole_part (with_said step.said me.0.records), me.1))

-- both lists are the same
abbrev pub AreSame : Step Record → Me Record Part → ℕ → Me Record Part → Type 0
AreSame step me found me_new = (me.0.others ≡ me.0.records) × (me_new ≡ me)

-- a seat has one share and holds no slot
abbrev pub IsHalf : Me Record Part → Type 0
IsHalf me = (me.0.shares ≡ 1) × (me.1 ≡ [])

-- the same, at a table with one word and no slot
abbrev pub IsStub : TableId → TableId → Me Record Part → Type 0
IsStub table seat me = (seat ≡ table) × (table.words ≡ 1) × (table.slots ≡ 0) × IsHalf me
