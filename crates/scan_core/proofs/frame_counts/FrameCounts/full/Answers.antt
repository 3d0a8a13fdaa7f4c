use Rattle.std.proofs.Common.{refl, arith}
use Rattle.std.specs.Prelude.{nat_eq, nat_lt}
use Rattle.scan_core.proofs.Tallying.{all_pass, few_long, most_each}
use Rattle.scan_core.proofs.frame_counts.FrameCounts.full.Goals as goal

pub invariant_of-result : goal.invariant_of-result
invariant_of-result c = record {
  some = all_pass (nat_lt 0) c.in_ok-counts.counts.items c.args.blocks 512 c.in_ok-counts.ensures.items refl;
  whole = all_pass (λ n. nat_eq n 512) c.in_ok-counts.counts.items c.args.blocks 512 c.in_ok-counts.ensures.items refl;
  most = most_each c.in_ok-counts.counts.items c.args.blocks 512 c.in_ok-counts.ensures.items (omega arith);
  few = few_long c.in_ok-counts.counts.items c.args.blocks 512 c.in_ok-counts.ensures.items c.requires;
}
