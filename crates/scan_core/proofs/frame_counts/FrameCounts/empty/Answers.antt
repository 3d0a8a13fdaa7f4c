use Rattle.std.proofs.Common.{refl, arith}
use Rattle.std.specs.Prelude.{nat_eq, nat_lt}
use Rattle.scan_core.proofs.Tallying.{few_long, most_each, none_pass}
use Rattle.scan_core.proofs.frame_counts.FrameCounts.empty.Goals as goal

pub invariant_of-result : goal.invariant_of-result
invariant_of-result c = record {
  some = none_pass (nat_lt 0) c.in_ok-counts.counts.items c.args.blocks 0 c.in_ok-counts.ensures.items refl;
  whole = none_pass (λ n. nat_eq n 512) c.in_ok-counts.counts.items c.args.blocks 0 c.in_ok-counts.ensures.items refl;
  most = most_each c.in_ok-counts.counts.items c.args.blocks 0 c.in_ok-counts.ensures.items (omega arith);
  few = few_long c.in_ok-counts.counts.items c.args.blocks 0 c.in_ok-counts.ensures.items c.requires;
}
