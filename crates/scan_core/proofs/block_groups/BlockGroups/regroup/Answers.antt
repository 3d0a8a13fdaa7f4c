use Rattle.std.proofs.Common.{◌∙◌, sym}
use Rattle.scan_core.proofs.Grouping.{still_grouped}
use Rattle.scan_core.proofs.block_groups.BlockGroups.regroup.Goals as goal

pub returns-then-is_partly_free-2-clause-regrouped : goal.returns-then-is_partly_free-2-clause-regrouped
returns-then-is_partly_free-2-clause-regrouped c =
    still_grouped c.args.self.now c.args.block c.args.before c.args.free (sym c.is_partly_free.ensures ∙ c.if-is_partly_free.true) (sym c.is_partly_free-then-is_partly_free.ensures ∙ c.if-is_partly_free-2.true) c.requires.with_unmovable c.requires.without_unmovable
