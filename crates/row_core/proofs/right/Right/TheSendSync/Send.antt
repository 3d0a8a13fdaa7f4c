use denote.Param.Send.{IsSend}
use Rattle.row_core.proofs.Crosses.{right-send}
use Rattle.row_core.specs.contracts.right.Right as C

pub send : IsSend C.the_row
send = right-send
