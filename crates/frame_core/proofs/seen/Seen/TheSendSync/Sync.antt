-- It owns nothing, so every thread may see it.
use denote.RattleType.{RattleType}
use denote.Param.Send.{IsSync, part_keyless}
use Rattle.frame_core.specs.contracts.seen.Seen.{the_row}
use Rattle.frame_core.proofs.seen.Seen.TheSendSync.Send.{send}

pub sync : (T : RattleType) → IsSync (the_row T)
sync T = record { shared = λ d b o κ q. part_keyless (the_row T) (send T) q d b o }
