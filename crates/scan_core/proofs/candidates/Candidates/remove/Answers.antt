use Rattle.std.proofs.Common.{◌∙◌, ap, refl}
use Rattle.std.specs.Prelude.{nat_eq, not, false, ◌&&◌}
use Rattle.std.specs.FinSet as set
use Rattle.number_set.specs.Numbers.{Numbers}
use Rattle.scan_core.proofs.FrameSets.{remove_if}
use Rattle.scan_core.proofs.Numbering.{member_remove}
use Rattle.scan_core.proofs.candidates.Candidates.remove.Goals as goal

pub returns-then-movable-clause-sources : goal.returns-then-movable-clause-sources
returns-then-movable-clause-sources c = λ n. ap (λ (s : Numbers). set.contains s.members n) c.remove.ensures ∙ member_remove c.args.self.now.sources.members c.get.result n ∙ ap (λ k. not (nat_eq n k) && set.contains c.args.self.now.sources.members n) c.get.ensures.value ∙ remove_if (nat_eq n c.args.frame) (set.contains c.args.self.now.sources.members n) false refl
