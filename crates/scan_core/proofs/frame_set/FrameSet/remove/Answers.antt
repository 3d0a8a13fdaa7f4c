use Rattle.std.proofs.Common.{◌≡◌, ◌/◌, ◌<◌, ◌*◌, length, ap, sym, ◌∙◌, arith}
use Rattle.std.specs.Prelude.{slice_index, not, nat_eq, ◌&&◌}
use Rattle.std.specs.FinSet as set
use Rattle.number_set.specs.Numbers.{Numbers}
use Rattle.scan_core.specs.FrameSet.{FrameNumbers}
use Rattle.scan_core.proofs.FrameSets.{removes_one}
use Rattle.scan_core.proofs.Numbering.{member_remove}
use Rattle.scan_core.proofs.SetSteps.{fewer_has, fewer_room, set_fewer}
use Rattle.scan_core.proofs.frame_set.FrameSet.remove.Goals as goal

pub overflow_sub-self : goal.overflow_sub-self
overflow_sub-self c =
    let low : c.args.frame < 512 * length c.self.inside.blocks = omega (arith, ap (λ (s : FrameNumbers). s.bound) c.self.view_is, c.requires.within) in
    let adds = removes_one c.self.inside.numbers.members c.remove.new.self.members c.args.frame c.get-2.result c.get-2.ensures.value (ap (λ (s : FrameNumbers). set.contains s.members c.args.frame) c.self.view_is ∙ c.requires.member) (ap (λ (s : Numbers). s.members) c.remove.ensures) in
    fewer_has c.self.inside c.self.invariant c.remove.new.self c.args.frame c.get-2.result 1 low (omega arith) c.get-2.ensures.value adds

pub fewer-requires-clause-counted : goal.fewer-requires-clause-counted
fewer-requires-clause-counted c =
    let low : c.args.frame < 512 * length c.self.inside.blocks = omega (arith, ap (λ (s : FrameNumbers). s.bound) c.self.view_is, c.requires.within) in
    let adds = removes_one c.self.inside.numbers.members c.remove.new.self.members c.args.frame c.get-2.result c.get-2.ensures.value (ap (λ (s : FrameNumbers). set.contains s.members c.args.frame) c.self.view_is ∙ c.requires.member) (ap (λ (s : Numbers). s.members) c.remove.ensures) in
    fewer_room c.self.inside c.self.invariant c.remove.new.self c.args.frame c.get-3.result 1 low (omega arith) c.get-3.ensures.value adds

pub overflow_sub-before : goal.overflow_sub-before
overflow_sub-before c =
    let low : c.args.frame < 512 * length c.self.inside.blocks = omega (arith, ap (λ (s : FrameNumbers). s.bound) c.self.view_is, c.requires.within) in
    let adds = removes_one c.self.inside.numbers.members c.remove.new.self.members c.args.frame c.get-2.result c.get-2.ensures.value (ap (λ (s : FrameNumbers). set.contains s.members c.args.frame) c.self.view_is ∙ c.requires.member) (ap (λ (s : Numbers). s.members) c.remove.ensures) in
    let room = fewer_room c.self.inside c.self.invariant c.remove.new.self c.args.frame c.get-3.result 1 low (omega arith) c.get-3.ensures.value adds in
    let at : c.get-before.result ≡ slice_index c.self.inside.blocks (c.get-3.result / 512) = c.get-before.ensures.count ∙ ap (λ n. slice_index c.self.inside.blocks (n / 512)) (c.get-block.ensures.value ∙ sym c.get-3.ensures.value) in
    omega (arith, room, at)

pub remove_frame-requires : goal.remove_frame-requires
remove_frame-requires c =
    record {
      «open» = c.self.invariant.runs_open;
      within = omega (arith, c.get.ensures.value, c.requires.within, ap (λ (s : FrameNumbers). s.bound) c.self.view_is, c.self.invariant.runs_blocks);
      room = omega (arith, c.self.invariant.room, c.self.invariant.runs_blocks);
    }

pub invariant_of-self : goal.invariant_of-self
invariant_of-self c =
    let low : c.args.frame < 512 * length c.self.inside.blocks = omega (arith, ap (λ (s : FrameNumbers). s.bound) c.self.view_is, c.requires.within) in
    let adds = removes_one c.self.inside.numbers.members c.remove.new.self.members c.args.frame c.get-2.result c.get-2.ensures.value (ap (λ (s : FrameNumbers). set.contains s.members c.args.frame) c.self.view_is ∙ c.requires.member) (ap (λ (s : Numbers). s.members) c.remove.ensures) in
    set_fewer c.self.inside c.self.invariant c.remove.new.self c.args.frame c.get-3.result 1 low (omega arith) c.get-3.ensures.value adds c.fewer.new.self (ap (λ (s : Numbers). s.bound) c.remove.ensures) c.fewer.ensures c.remove_frame.new.self c.remove_frame.ensures.open c.remove_frame.ensures.blocks
    (c.remove_frame.ensures.whole (set.contains c.remove.new.self.members) c.self.invariant.runs (λ k. ap (λ (s : Numbers). set.contains s.members k) c.remove.ensures ∙ member_remove c.self.inside.numbers.members c.get-2.result k
    ∙ ap (λ n. not (nat_eq k n) && set.contains c.self.inside.numbers.members k) (c.get-2.ensures.value ∙ sym c.get.ensures.value)))
    c.regroup.new.self (c.get-block.result / 512) c.get-before.result (ap (λ n. n / 512) c.get-block.ensures.value) c.get-before.ensures.count c.regroup.ensures.unmovable c.regroup.ensures.regrouped
