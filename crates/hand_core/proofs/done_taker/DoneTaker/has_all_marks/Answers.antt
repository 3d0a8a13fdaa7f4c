use Rattle.std.proofs.Common.{◌∙◌, Bool, List, ap, take}
use Rattle.std.specs.List.{list_all}
use Rattle.crossbeam_channel.specs.Claims.{view}
use Rattle.hand_core.specs.CopyEnds.{has_ended}
use Rattle.hand_core.proofs.Messages.{marks_of_first}
use Rattle.hand_core.proofs.done_taker.DoneTaker.has_all_marks.Goals as goal

pub returns : goal.returns
returns c =
    let t = c.self.inside in
    let k = c.self.invariant in
    c.are_all.ensures ∙ ap (λ (l : List Bool). list_all (λ (m : Bool). m) (take t.senders l)) k.noted ∙ marks_of_first (view t.pass).came t.senders k.few ∙ ap has_ended c.self.view_is
