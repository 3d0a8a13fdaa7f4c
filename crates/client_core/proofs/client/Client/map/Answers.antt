use Rattle.std.proofs.Common.{rules}
use Rattle.frame_core.specs.PageFlags.{is_unmovable}
use Rattle.client_core.proofs.Made.{map_went}
use Rattle.client_core.proofs.client.Client.map.Goals as goal

pub returns-in_err-frame-clause-refused : goal.returns-in_err-frame-clause-refused
returns-in_err-frame-clause-refused g c =
    let is = rw c.of_client-call.ensures at c.make.ensures.refused in
    search (rules, is)

pub returns-clause-ok : goal.returns-clause-ok
returns-clause-ok g c =
    let made = rw (c.of_client-call.ensures, c.is_unmovable-unmovable.ensures) at c.in_ok-frame.ensures.ok in
    map_went c.args.self.now c.make.new.self c.in_ok-frame.field-0 c.args.address (is_unmovable c.args.flags) c.in-Mapped.page c.in-Mapped.frame c.in-Mapped.is made
