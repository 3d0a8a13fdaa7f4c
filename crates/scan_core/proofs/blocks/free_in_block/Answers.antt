use Rattle.std.proofs.Common.{◌≡◌, ◌∙◌, ◌+◌, ◌*◌, ap, arith}
use Rattle.frame_core.specs.Below.{count_below, count_from}
use Rattle.scan_core.specs.Frames.{free_at}
use Rattle.scan_core.proofs.blocks.free_in_block.Goals as goal

pub returns : goal.returns
unfolding count_from
returns c =
    let all : c.loop-k.k ≡ 512 = omega arith in
    record { count = c.loop-k.invariant.so_far ∙ ap (count_below (λ k. free_at c.args.frames.now (512 * c.args.block + k))) all }
