-- The name of a queue, and what holds of each of its ends.
use Rattle.std.specs.Prelude.{◌≡◌, ℕ, ◌+◌, List, [], ◌∷◌}
use mathlib.Core.Option.{some}
use lib.ListN.{get_elem?}
use Rattle.atomic_table.specs.Seated.{TableId}
use Rattle.atomic_table.specs.declared.badge.Badge.{Badge}
use Rattle.crossbeam_channel.specs.declared.flavors.array.Rows.{Rows}
use Rattle.crossbeam_channel.specs.declared.flavors.array.Key.{Key}
use Rattle.crossbeam_channel.specs.declared.flavors.array.Doing.{Doing}

-- the name of a queue of such messages
abbrev pub QueueName : Type 0 → Type 0
QueueName T = TableId × Badge (Key T)

-- the name of the queue that goes through a channel
abbrev pub name_of : {T V Q M L A : Type 0} → Rows (Badge (Key T)) (Doing T V) Q M (Key T) L A → QueueName T
name_of channel = (channel.stamps.shared.table_id, channel.stamps.shared.key)

-- a fact holds of each end, under the number of the end
abbrev pub Each : {V : Type 0} → List V → (ℕ → V → Type 0) → Type 0
Each {V} ends holds = (number : ℕ) (v : V) → get_elem? ends number ≡ some v → holds number v

-- the sum of a number that each end has
abbrev pub total : {V : Type 0} → (V → ℕ) → List V → ℕ
total number [] = 0
total number (v ∷ ends) = number v + total number ends
