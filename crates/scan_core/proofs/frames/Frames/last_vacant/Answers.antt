use Rattle.std.proofs.Common.{◌∙◌, ap, arith}
use Rattle.frame_core.specs.Below.{highest}
use Rattle.scan_core.specs.Frames.{Frames}
use Rattle.scan_core.specs.Pairs.{is_target}
use Rattle.scan_core.proofs.Sounding.{frames_kept, vacant_found_in}
use Rattle.scan_core.proofs.frames.Frames.last_vacant.Goals as goal

pub highest_target-requires : goal.highest_target-requires
highest_target-requires c =
    let same = frames_kept c.self.inside c.self.invariant c.self.view_is in
    record {
      few = omega (arith, c.requires.end, same, c.self.invariant.few);
      room = omega (arith, c.requires.end, same, c.self.invariant.free_room, c.numbers.ensures.bound);
      marks = omega (arith, c.requires.end, c.requires.marks);
    }

pub returns : goal.returns
returns c =
    c.highest_target.ensures
    ∙ vacant_found_in c.self.inside c.self.invariant c.numbers.result.now.members c.numbers.ensures.members c.args.marks.now c.args.end
    ∙ ap (λ (frames : Frames). highest (is_target frames.states c.args.marks.now) c.args.end) c.self.view_is
