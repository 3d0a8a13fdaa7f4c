use Rattle.std.proofs.Common.{◌/◌, ◌<◌, ◌*◌, length, ap, sym, ◌∙◌, arith}
use Rattle.std.specs.Prelude.{nat_eq, ◌||◌}
use Rattle.std.specs.FinSet as set
use Rattle.number_set.specs.Numbers.{Numbers}
use Rattle.scan_core.specs.FrameSet.{FrameNumbers}
use Rattle.scan_core.proofs.FrameSets.{inserts_one}
use Rattle.scan_core.proofs.Numbering.{member_insert}
use Rattle.scan_core.proofs.SetSteps.{more_fits, more_room, set_more}
use Rattle.scan_core.proofs.frame_set.FrameSet.insert.Goals as goal

pub overflow_add-self : goal.overflow_add-self
overflow_add-self c =
    let low : c.args.frame < 512 * length c.self.inside.blocks = omega (arith, ap (λ (s : FrameNumbers). s.bound) c.self.view_is, c.requires.within) in
    let adds = inserts_one c.self.inside.numbers.members c.insert.new.self.members c.args.frame c.get.result c.get.ensures.value (ap (λ (s : FrameNumbers). set.contains s.members c.args.frame) c.self.view_is ∙ c.requires.none) (ap (λ (s : Numbers). s.members) c.insert.ensures) in
    omega (arith, more_fits c.self.inside c.self.invariant c.insert.new.self c.args.frame c.get.result 1 low (omega arith) c.get.ensures.value adds)

pub more-requires-clause-most : goal.more-requires-clause-most
more-requires-clause-most c =
    let low : c.args.frame < 512 * length c.self.inside.blocks = omega (arith, ap (λ (s : FrameNumbers). s.bound) c.self.view_is, c.requires.within) in
    let adds = inserts_one c.self.inside.numbers.members c.insert.new.self.members c.args.frame c.get.result c.get.ensures.value (ap (λ (s : FrameNumbers). set.contains s.members c.args.frame) c.self.view_is ∙ c.requires.none) (ap (λ (s : Numbers). s.members) c.insert.ensures) in
    more_room c.self.inside c.self.invariant c.insert.new.self c.args.frame c.get-2.result 1 low (omega arith) c.get-2.ensures.value adds

pub insert_frame-requires : goal.insert_frame-requires
insert_frame-requires c =
    record {
      «open» = c.self.invariant.runs_open;
      within = omega (arith, c.get-3.ensures.value, c.requires.within, ap (λ (s : FrameNumbers). s.bound) c.self.view_is, c.self.invariant.runs_blocks);
      room = omega (arith, ap (λ (s : Numbers). s.bound) c.insert.ensures, c.self.invariant.room, c.self.invariant.runs_blocks);
    }

pub invariant_of-self : goal.invariant_of-self
invariant_of-self c =
    let low : c.args.frame < 512 * length c.self.inside.blocks = omega (arith, ap (λ (s : FrameNumbers). s.bound) c.self.view_is, c.requires.within) in
    let adds = inserts_one c.self.inside.numbers.members c.insert.new.self.members c.args.frame c.get.result c.get.ensures.value (ap (λ (s : FrameNumbers). set.contains s.members c.args.frame) c.self.view_is ∙ c.requires.none) (ap (λ (s : Numbers). s.members) c.insert.ensures) in
    set_more c.self.inside c.self.invariant c.insert.new.self c.args.frame c.get-2.result 1 low (omega arith) c.get-2.ensures.value adds c.more.new.self (ap (λ (s : Numbers). s.bound) c.insert.ensures) c.more.ensures c.insert_frame.new.self c.insert_frame.ensures.open c.insert_frame.ensures.blocks
    (c.insert_frame.ensures.whole (set.contains c.self.inside.numbers.members) c.self.invariant.runs (λ k. ap (λ (s : Numbers). set.contains s.members k) c.insert.ensures ∙ member_insert c.self.inside.numbers.members c.get.result k
    ∙ ap (λ n. nat_eq k n || set.contains c.self.inside.numbers.members k) (c.get.ensures.value ∙ sym c.get-3.ensures.value)))
    c.regroup.new.self (c.get-block.result / 512) c.get-before.result (ap (λ n. n / 512) c.get-block.ensures.value) c.get-before.ensures.count c.regroup.ensures.unmovable c.regroup.ensures.regrouped
