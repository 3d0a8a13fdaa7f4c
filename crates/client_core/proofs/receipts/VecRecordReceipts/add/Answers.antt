use Rattle.std.proofs.Common.{rules}
use Rattle.client_core.proofs.receipts.VecRecordReceipts.add.Goals as goal

pub returns : goal.returns
returns c = search rules
