use denote.Param.Send.{IsSync}
use Rattle.row_core.proofs.Crosses.{allocation-sync}
use Rattle.row_core.specs.contracts.allocation.Allocation as C

pub sync : IsSync C.the_row
sync = allocation-sync
