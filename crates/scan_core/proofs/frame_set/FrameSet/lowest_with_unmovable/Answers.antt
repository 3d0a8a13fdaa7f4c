use Rattle.std.proofs.Common.{◌≡◌, ◌<◌, ◌*◌, length, subst}
use Rattle.std.specs.Prelude.{MatchOption}
use Rattle.std.specs.FinSet as set
use Rattle.number_set.specs.Finds.{IsFrom, NoneFrom}
use Rattle.scan_core.specs.Apart.{frame_with_unmovable}
use Rattle.scan_core.specs.FrameSet.{FrameNumbers}
use Rattle.scan_core.proofs.Choosing.{with_unmovable_first, with_unmovable_none}
use Rattle.scan_core.proofs.Grouping.{member_low}
use Rattle.scan_core.proofs.frame_set.FrameSet.lowest_with_unmovable.Goals as goal

pub returns-in-Some-clause-lowest : goal.returns-in-Some-clause-lowest
returns-in-Some-clause-lowest c =
    let low : c.in-Some.block < length c.self.inside.blocks = (member_low c.self.inside.groups c.self.inside.blocks c.self.invariant.groups c.in-Some.block).0 c.in-Some.ensures.first.passes in
    subst (λ (s : FrameNumbers). MatchOption c.lowest_from.result (NoneFrom (set.contains s.members) (512 * c.in-Some.block)) (IsFrom (set.contains s.members) (512 * c.in-Some.block)) → c.lowest_from.result ≡ frame_with_unmovable (set.contains s.members) s.unmovable s.bound) c.self.view_is
    (with_unmovable_first (set.contains c.self.inside.numbers.members) c.self.inside.count c.self.inside.blocks c.self.invariant.counts c.self.inside.groups c.self.invariant.groups c.in-Some.block c.lowest_from.result low c.in-Some.ensures.first) c.lowest_from.ensures

pub returns-in-None-clause-lowest : goal.returns-in-None-clause-lowest
returns-in-None-clause-lowest c =
    subst (λ (s : FrameNumbers). MatchOption c.lowest_from-in-None.result (NoneFrom (set.contains s.members) (512 * c.fullest.result)) (IsFrom (set.contains s.members) (512 * c.fullest.result)) → c.lowest_from-in-None.result ≡ frame_with_unmovable (set.contains s.members) s.unmovable s.bound) c.self.view_is
    (with_unmovable_none (set.contains c.self.inside.numbers.members) c.self.inside.count c.self.inside.blocks c.self.invariant.counts c.self.inside.groups c.self.invariant.groups c.fullest.result c.lowest_from-in-None.result c.in-None.ensures.first c.fullest.ensures) c.lowest_from-in-None.ensures
