use Rattle.std.proofs.Common.{rules}
use Rattle.frame_core.specs.PageFlags.{is_unmovable}
use Rattle.client_core.proofs.Made.{map_at_went}
use Rattle.client_core.proofs.client.Client.map_at.Goals as goal

pub returns-in_err-make-clause-refused : goal.returns-in_err-make-clause-refused
returns-in_err-make-clause-refused g c =
    let is = rw c.of_client.ensures at c.make.ensures.refused in
    search (rules, is)

pub returns-clause-ok : goal.returns-clause-ok
returns-clause-ok g c =
    let made = rw (c.of_client.ensures, c.is_unmovable.ensures) at c.in_ok-make.ensures.ok in
    map_at_went c.args.self.now c.make.new.self c.in_ok-make.field-0 c.args.address (is_unmovable c.args.flags) c.args.frame made
