-- What has become of the one zone of a script.
use Rattle.std.specs.Prelude.{⊤, Option, Some, None}
use Rattle.machine_core.specs.declared.machine.Unopened.{Unopened}
use Rattle.machine_core.specs.declared.machine.Stage.{Stage}
use Rattle.machine_core.specs.declared.machine.Stage.TheVariants.{Closed, Open, Gone}

-- the world of the zone, where it is open
abbrev pub world_in : {W : Type 0} → Stage W → Option W
world_in (Open world) = Some world
world_in (Closed opening) = None
world_in Gone = None

-- P holds of what it takes to open the zone, where it wasn't opened yet
abbrev pub IfClosed : {W : Type 0} → Stage W → (Unopened → Type 0) → Type 0
IfClosed (Closed opening) P = P opening
IfClosed (Open world) P = ⊤
IfClosed Gone P = ⊤
