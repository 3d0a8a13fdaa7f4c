use Rattle.hand_core.proofs.CopyRoom.{keeps_to_room}
use Rattle.hand_core.proofs.law.copies_keep_to_their_room.Goals as goal

pub returns : goal.returns
returns c = keeps_to_room
