use Rattle.std.proofs.Common.{◌≡◌, ◌*◌, true, false, inl, inr, length, ap, ◌∙◌, subst, arith}
use Rattle.std.specs.Prelude.{IsSome}
use Rattle.std.specs.FinSet as set
use Rattle.std.proofs.lemmas.Bool.Decides.{leb_tells}
use Rattle.frame_core.specs.Below.{count_below}
use Rattle.scan_core.specs.FrameSet.{FrameNumbers, is_run_of}
use Rattle.scan_core.proofs.CountedRuns.{begun_counted}
use Rattle.scan_core.proofs.frame_set.FrameSet.count_runs.Goals as goal

pub returns-in-Some : goal.returns-in-Some
returns-in-Some c =
    let members = set.contains c.self.inside.numbers.members in
    let frames : 512 * c.self.inside.runs.blocks ≡ 512 * length c.self.inside.blocks = omega (arith, c.self.invariant.runs_blocks) in
    c.count.ensures members c.self.invariant.runs ∙ (λ i. count_below (is_run_of members (c.in-Some.ensures.value i)) (frames i))
    ∙ ap (λ (s : FrameNumbers). count_below (is_run_of (set.contains s.members) c.args.order) s.bound) c.self.view_is

pub count_runs-requires : goal.count_runs-requires
count_runs-requires c = elim (leb_tells 3 c.args.order) [
  | inl high ↦ (let no : false ≡ true = subst IsSome c.in-None.is (c.new.ensures.valid.1 (high.1, c.requires)) in cc)
  | inr low ↦ omega (arith, low.1)
]

pub returns-in-None : goal.returns-in-None
returns-in-None c =
    c.count_runs.ensures
    ∙ begun_counted (set.contains c.self.inside.numbers.members) c.args.order (512 * length c.self.inside.blocks) c.self.invariant.counts.none c.self.inside.numbers.bound c.self.invariant.room
    ∙ ap (λ (s : FrameNumbers). count_below (is_run_of (set.contains s.members) c.args.order) s.bound) c.self.view_is
