use Rattle.std.proofs.Common.{subst, List, ◌≡◌, ℕ, ◌*◌, refl, sym, ap, ◌∙◌, length, arith}
use Rattle.std.specs.Prelude.{nat_lt}
use Rattle.std.specs.FinSet as set
use Rattle.std.proofs.lemmas.List.{length-replicate}
use Rattle.scan_core.specs.BlockGroups.{IsGrouped}
use Rattle.scan_core.proofs.FrameSets.{full_counts}
use Rattle.scan_core.proofs.WholeRuns.{same_wholes}
use Rattle.scan_core.proofs.frame_set.FrameSet.full.Goals as goal

pub invariant_of-result : goal.invariant_of-result
invariant_of-result c =
    let long : length c.in_ok-blocks.blocks ≡ c.args.blocks = ap length c.in_ok-blocks.ensures ∙ length-replicate c.args.blocks 512 in
    record {
      counts = full_counts (set.contains c.in_ok-numbers.numbers.members) c.args.blocks _ c.in_ok-blocks.blocks c.in_ok-numbers.ensures.all refl c.in_ok-blocks.ensures;
      room = omega (arith, long, c.in_ok-numbers.ensures.enough);
      few = omega (arith, long, c.requires.room);
      runs_open = c.in_ok-runs.ensures.open;
      runs_blocks = c.in_ok-runs.ensures.blocks ∙ sym long;
      runs = same_wholes c.in_ok-runs.runs.blocks (λ (frame : ℕ). nat_lt frame (512 * c.args.blocks)) (set.contains c.in_ok-numbers.numbers.members) (set.contains c.in_ok-runs.runs.numbers.members) (λ k. sym (c.in_ok-numbers.ensures.all k)) c.in_ok-runs.ensures.whole;
      groups = subst (λ (xs : List ℕ). IsGrouped c.in_ok-groups.groups xs) (sym c.in_ok-blocks.ensures) c.in_ok-groups.ensures.grouped;
    }
