use Rattle.std.proofs.Common.{◌∙◌, ap}
use Rattle.std.specs.Prelude.{nat_eq, not, ◌&&◌, ◌||◌}
use Rattle.std.specs.FinSet as set
use Rattle.number_set.specs.Numbers.{Numbers}
use Rattle.scan_core.proofs.FrameSets.{insert_if, remove_if}
use Rattle.scan_core.proofs.Numbering.{member_insert, member_remove}
use Rattle.scan_core.proofs.candidates.Candidates.turn.Goals as goal

pub returns-then-movable-clause-sources : goal.returns-then-movable-clause-sources
returns-then-movable-clause-sources c = λ n. ap (λ (s : Numbers). set.contains s.members n) c.insert.ensures ∙ member_insert c.args.self.now.sources.members c.get-then-movable.result n ∙ ap (λ k. nat_eq n k || set.contains c.args.self.now.sources.members n) c.get-then-movable.ensures.value ∙ insert_if (nat_eq n c.args.frame) (set.contains c.args.self.now.sources.members n) c.args.movable c.if-movable.true

pub returns-else-movable-clause-sources : goal.returns-else-movable-clause-sources
returns-else-movable-clause-sources c = λ n. ap (λ (s : Numbers). set.contains s.members n) c.remove.ensures ∙ member_remove c.args.self.now.sources.members c.get-else-movable.result n ∙ ap (λ k. not (nat_eq n k) && set.contains c.args.self.now.sources.members n) c.get-else-movable.ensures.value ∙ remove_if (nat_eq n c.args.frame) (set.contains c.args.self.now.sources.members n) c.args.movable c.if-movable.false
