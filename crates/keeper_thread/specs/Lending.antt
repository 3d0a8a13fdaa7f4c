-- The zone that a room lends.
use Rattle.std.specs.Borrow.{Lends, MutBor, Fml, RattleType}
use Rattle.keeper_thread.specs.Working.{Room}
use Rattle.keeper_thread.specs.contracts.room.Room.{the_row}
use Rattle.keeper_thread.specs.declared.identity.KeeperIdentity.{Ghosts}
use Rattle.state_core.specs.ZoneState.{ZoneState}
use Rattle.zone_core.specs.contracts.bare.BareZone.{the_row as zone_row}

-- once r ends, the room has the last zone that r had, and is else as it was
abbrev pub LendsZone : (K W : RattleType) (identity : Ghosts K.Denot) → MutBor Room → MutBor ZoneState → Fml
LendsZone K W identity s r = Lends (the_row K W identity) (zone_row W) s r (λ z. record s.now { zone = z })
