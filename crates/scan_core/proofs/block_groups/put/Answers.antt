use Rattle.std.proofs.Common.{◌∙◌, ap}
use Rattle.std.specs.Prelude.{nat_eq}
use Rattle.std.specs.FinSet as set
use Rattle.number_set.specs.Numbers.{Numbers}
use Rattle.scan_core.proofs.FrameSets.{insert_if, remove_if}
use Rattle.scan_core.proofs.Numbering.{member_insert, member_remove}
use Rattle.scan_core.proofs.block_groups.put.Goals as goal

pub returns-then-is_member-clause-members : goal.returns-then-is_member-clause-members
returns-then-is_member-clause-members c = λ n. ap (λ (s : Numbers). set.contains s.members n) c.insert.ensures ∙ member_insert c.args.numbers.now.members c.args.number n ∙ insert_if (nat_eq n c.args.number) (set.contains c.args.numbers.now.members n) c.args.is_member c.if-is_member.true

pub returns-else-is_member-clause-members : goal.returns-else-is_member-clause-members
returns-else-is_member-clause-members c = λ n. ap (λ (s : Numbers). set.contains s.members n) c.remove.ensures ∙ member_remove c.args.numbers.now.members c.args.number n ∙ remove_if (nat_eq n c.args.number) (set.contains c.args.numbers.now.members n) c.args.is_member c.if-is_member.false
