use Rattle.std.proofs.Common.{◌<◌, ◌*◌, ◌∙◌, length, sym, ap, arith}
use Rattle.std.specs.FinSet as set
use Rattle.scan_core.specs.FrameSet.{FrameNumbers}
use Rattle.frame_core.specs.Below.{lowest}
use Rattle.frame_core.proofs.Searches.{lowest_is, lowest_none}
use Rattle.scan_core.proofs.Found.{some_is}
use Rattle.scan_core.proofs.FrameSets.{below_bound}
use Rattle.scan_core.proofs.frame_set.FrameSet.lowest.Goals as goal

pub returns-in_err-first-clause-lowest : goal.returns-in_err-first-clause-lowest
returns-in_err-first-clause-lowest c =
    c.from_residual.ensures
    ∙ sym (lowest_none (set.contains c.self.inside.numbers.members) (512 * length c.self.inside.blocks) (λ k h. c.in_err-first.ensures.first k))
    ∙ ap (λ (s : FrameNumbers). lowest (set.contains s.members) s.bound) c.self.view_is

pub returns-clause-lowest : goal.returns-clause-lowest
returns-clause-lowest c =
    let found = c.in_ok-first.field-0 in
    let within : found < 512 * length c.self.inside.blocks = below_bound (set.contains c.self.inside.numbers.members) c.self.inside.count c.self.inside.blocks c.self.invariant.counts found c.in_ok-first.ensures.first.passes in
    some_is _ found (c.in_any_zone.ensures.valid.1 (omega (arith, within, c.self.invariant.few))) c.in_any_zone.ensures.value
    ∙ sym (lowest_is (set.contains c.self.inside.numbers.members) (512 * length c.self.inside.blocks) found within c.in_ok-first.ensures.first.passes c.in_ok-first.ensures.first.before)
    ∙ ap (λ (s : FrameNumbers). lowest (set.contains s.members) s.bound) c.self.view_is
