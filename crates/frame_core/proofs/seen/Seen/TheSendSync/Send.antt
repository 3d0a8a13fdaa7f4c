-- It owns nothing, so it may go to every thread.
use denote.RattleType.{RattleType}
use denote.Param.Send.{IsSend, owning_send, sendable}
use Rattle.frame_core.specs.contracts.seen.Seen.{the_row, the_type}

pub send : (T : RattleType) → IsSend (the_row T)
send T = owning_send (the_type T) (search sendable, tt) (λ d. tt) (λ k x w. tt)
