use Rattle.std.proofs.Common.{◌≡◌, ◌∙◌, ℕ, ◌<◌, ◌*◌, ap, length, subst, sym}
use Rattle.std.specs.Prelude.{Option, MatchOption}
use Rattle.std.specs.FinSet as set
use Rattle.std.specs.Option.{option_or}
use Rattle.number_set.specs.Finds.{IsFrom, NoneAtAll, NoneFrom}
use Rattle.frame_core.specs.Below.{lowest}
use Rattle.scan_core.specs.Apart.{frame_without_unmovable}
use Rattle.scan_core.specs.FrameSet.{FrameNumbers, is_run_of}
use Rattle.scan_core.specs.FrameSetInside.{IsCounted, frames_in}
use Rattle.scan_core.specs.declared.frame_set.FrameSet.TheInside.{Inside}
use Rattle.scan_core.proofs.Choosing.{run_passes, without_unmovable_first, without_unmovable_none}
use Rattle.scan_core.proofs.Grouping.{member_low}
use Rattle.scan_core.proofs.frame_set.FrameSet.lowest_without_unmovable.Goals as goal

pub returns-in-Some-clause-lowest : goal.returns-in-Some-clause-lowest
returns-in-Some-clause-lowest c =
    let low : c.in-Some.block < length c.self.inside.blocks = (member_low c.self.inside.groups c.self.inside.blocks c.self.invariant.groups c.in-Some.block).1 c.in-Some.ensures.first.passes in
    subst (λ (s : FrameNumbers). MatchOption c.lowest_from.result (NoneFrom (set.contains s.members) (512 * c.in-Some.block)) (IsFrom (set.contains s.members) (512 * c.in-Some.block)) → c.lowest_from.result ≡ frame_without_unmovable (set.contains s.members) s.unmovable s.bound) c.self.view_is
    (without_unmovable_first (set.contains c.self.inside.numbers.members) c.self.inside.count c.self.inside.blocks c.self.invariant.counts c.self.inside.groups c.self.invariant.groups c.in-Some.block c.lowest_from.result low c.in-Some.ensures.first) c.lowest_from.ensures

-- the first of the runs of a pageblock's frames
run_is : (now : FrameNumbers) (order : ℕ) (found run : Option ℕ) → found ≡ lowest (is_run_of (set.contains now.members) order) now.bound → order ≡ 9 → found ≡ run
    → lowest (is_run_of (set.contains now.members) 9) now.bound ≡ run
run_is now order found run first pageblock is = ap (λ n. lowest (is_run_of (set.contains now.members) n) now.bound) (sym pageblock) ∙ sym first ∙ is

chosen : (z : Inside) (now : FrameNumbers) → frames_in z ≡ now → IsCounted z → NoneAtAll (set.contains z.groups.without_unmovable.members) → (run : Option ℕ) → lowest (is_run_of (set.contains now.members) 9) now.bound ≡ run
    → option_or run (lowest (set.contains now.members) now.bound) ≡ frame_without_unmovable (set.contains now.members) now.unmovable now.bound
chosen z now view counted none run =
    subst (λ (s : FrameNumbers). lowest (is_run_of (set.contains s.members) 9) s.bound ≡ run → option_or run (lowest (set.contains s.members) s.bound) ≡ frame_without_unmovable (set.contains s.members) s.unmovable s.bound) view
    (without_unmovable_none (set.contains z.numbers.members) z.count z.blocks counted.counts z.groups counted.groups none run)

pub returns-in-Some-first_run-clause-lowest : goal.returns-in-Some-first_run-clause-lowest
returns-in-Some-first_run-clause-lowest c =
    chosen c.self.inside c.args.self.now c.self.view_is c.self.invariant c.in_default.ensures.first _ (run_is c.args.self.now c.of_pageblock.result c.first_run.result _ c.first_run.ensures c.of_pageblock.ensures c.in-Some-first_run.is)

pub returns-in-Some-first_run-clause-member : goal.returns-in-Some-first_run-clause-member
returns-in-Some-first_run-clause-member c =
    run_passes (set.contains c.args.self.now.members) c.args.self.now.bound _ (run_is c.args.self.now c.of_pageblock.result c.first_run.result _ c.first_run.ensures c.of_pageblock.ensures c.in-Some-first_run.is)

pub returns-in-None-clause-lowest : goal.returns-in-None-clause-lowest
returns-in-None-clause-lowest c =
    c.lowest.ensures.lowest
    ∙ chosen c.self.inside c.args.self.now c.self.view_is c.self.invariant c.in_default.ensures.first _ (run_is c.args.self.now c.of_pageblock.result c.first_run.result _ c.first_run.ensures c.of_pageblock.ensures c.in-None.is)
