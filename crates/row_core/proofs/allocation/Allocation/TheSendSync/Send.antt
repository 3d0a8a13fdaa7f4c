use denote.Param.Send.{IsSend}
use Rattle.row_core.proofs.Crosses.{allocation-send}
use Rattle.row_core.specs.contracts.allocation.Allocation as C

pub send : IsSend C.the_row
send = allocation-send
