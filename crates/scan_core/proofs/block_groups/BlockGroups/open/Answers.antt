use Rattle.scan_core.proofs.Grouping.{grouped_whole}
use Rattle.scan_core.proofs.block_groups.BlockGroups.open.Goals as goal

pub returns-clause-grouped : goal.returns-clause-grouped
returns-clause-grouped c = grouped_whole _ c.args.blocks c.in_ok-unmovable.ensures.items c.in_ok-with_unmovable.ensures.empty c.in_ok-without_unmovable.ensures.empty c.in_ok-with_unmovable.ensures.enough c.in_ok-without_unmovable.ensures.enough
