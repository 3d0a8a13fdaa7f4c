use Rattle.std.proofs.Common.{◌≡◌, ◌*◌, ◌<◌, ◌∙◌, length, sym, ap, arith}
use Rattle.std.specs.FinSet as set
use Rattle.frame_core.specs.Below.{lowest}
use Rattle.frame_core.proofs.Searches.{lowest_some}
use Rattle.scan_core.specs.FrameSet.{FrameNumbers, is_run_of}
use Rattle.scan_core.proofs.Found.{some_is}
use Rattle.scan_core.proofs.frame_set.FrameSet.first_run.Goals as goal

pub returns-in_err-first : goal.returns-in_err-first
returns-in_err-first c =
    let p = set.contains c.self.inside.numbers.members in
    let frames : 512 * c.self.inside.runs.blocks ≡ 512 * length c.self.inside.blocks = omega (arith, c.self.invariant.runs_blocks) in
    c.from_residual.ensures ∙ c.in_err-first.ensures p c.self.invariant.runs ∙ ap (lowest (is_run_of p c.args.order)) frames
    ∙ ap (λ (s : FrameNumbers). lowest (is_run_of (set.contains s.members) c.args.order) s.bound) c.self.view_is

pub returns : goal.returns
returns c =
    let p = set.contains c.self.inside.numbers.members in
    let found = c.in_ok-first.field-0 in
    let frames : 512 * c.self.inside.runs.blocks ≡ 512 * length c.self.inside.blocks = omega (arith, c.self.invariant.runs_blocks) in
    let is = c.in_ok-first.ensures p c.self.invariant.runs in
    let within : found < 512 * c.self.inside.runs.blocks = (lowest_some (is_run_of p c.args.order) (512 * c.self.inside.runs.blocks) found (sym is)).0 in
    some_is _ found (c.in_any_zone.ensures.valid.1 (omega (arith, within, c.self.invariant.runs_open.few))) c.in_any_zone.ensures.value
    ∙ is ∙ ap (lowest (is_run_of p c.args.order)) frames
    ∙ ap (λ (s : FrameNumbers). lowest (is_run_of (set.contains s.members) c.args.order) s.bound) c.self.view_is
