use Rattle.std.proofs.Common.{arith, rules, ◌≡◌, ◌^◌, ℕ, Some, None, if◌then◌else◌}
use Rattle.fewest_core.specs.Claims.{claimed_frames}
use Rattle.frame_core.proofs.Searches.{count_from_most}
use Rattle.state_core.specs.Claiming.{is_claimed}
use Rattle.state_core.specs.HandingOut.{has_block}
use Rattle.state_core.specs.ZoneState.{ZoneState}
use Rattle.compactd_c.proofs.zone.empty_some.Goals as goal

-- where a run may have a block, as many frames are answered as it has claimed ones
claimed_in_run : (z : ZoneState) (first order claimed : ℕ) → Some claimed ≡ (if has_block z order first then Some (claimed_frames first (2 ^ order) z) else None) → claimed ≡ claimed_frames first (2 ^ order) z
claimed_in_run z first order claimed answered = grind arith

pub overflow_sub-result : goal.overflow_sub-result
overflow_sub-result g c =
    omega (arith, claimed_in_run c.empty_some.new.self c.args.first c.args.order c.in-Some.claimed c.in-Some.ensures, c.frames.ensures.value, count_from_most (is_claimed c.empty_some.new.self) c.args.first (2 ^ c.args.order))

pub returns-clause-emptied : goal.returns-clause-emptied
returns-clause-emptied g c = record {
  moved = search rules;
  limit = search rules;
  unclaimed = omega (arith, claimed_in_run c.empty_some.new.self c.args.first c.args.order c.in-Some.claimed c.in-Some.ensures, c.frames.ensures.value, count_from_most (is_claimed c.empty_some.new.self) c.args.first (2 ^ c.args.order));
  shut = search rules;
  claims = search rules;
  carried = search rules;
}
