use denote.Param.Send.{IsSync}
use Rattle.row_core.proofs.Crosses.{right-sync}
use Rattle.row_core.specs.contracts.right.Right as C

pub sync : IsSync C.the_row
sync = right-sync
