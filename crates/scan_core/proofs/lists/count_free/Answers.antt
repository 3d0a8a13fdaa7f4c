use Rattle.std.proofs.Common.{◌≡◌, ◌∙◌, ◌+◌, ap, arith}
use Rattle.frame_core.specs.Below.{count_below, count_from}
use Rattle.scan_core.specs.Frames.{free_at}
use Rattle.scan_core.proofs.lists.count_free.Goals as goal

pub returns : goal.returns
unfolding count_from
returns c =
    let all : c.loop-k.k ≡ c.args.count = omega arith in
    c.loop-k.invariant.so_far ∙ ap (count_below (λ k. free_at c.args.frames.now (c.args.first + k))) all
