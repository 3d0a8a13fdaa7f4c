use Rattle.std.proofs.Common.{◌≡◌, ◌+◌, ◌++◌, ◌≤◌, List, true, All, vec_len}
use Rattle.std.specs.List.Sorted.{IsPermutation}
use Rattle.crossbeam_channel.specs.Claims.{view, IsSeatAt}
use Rattle.crossbeam_channel.specs.Ends.{sends_on}
use Rattle.hand_core.specs.PageEnds.{Taker, off, taken_by}
use Rattle.hand_core.specs.Queue.{name_of}
use Rattle.frame_core.specs.Serials.{IsRising}
use Rattle.hand_core.proofs.settling.take_back.Given as goal

-- the takers that the loop has passed, whose lists the giver knows now
abbrev pub invariant-loop-taker : goal.invariant-loop-taker
invariant-loop-taker l = record {
  seat : IsSeatAt (sends_on l.to) l.pass;
  channel : name_of (sends_on l.to) ≡ l.fn.giver.hand_over;
  gives : (view l.pass).gives ≡ true;
  given : (view l.pass).given ≡ l.fn.giver.given;
  shares : (view l.pass).shares + vec_len l.takers ≡ 1024;
  few : vec_len l.takers ≤ 4;
  marks : (view l.pass).marks ≡ l.fn.giver.marks;
  ended : (view l.pass).ended + vec_len l.takers ≡ l.fn.giver.takers;
  left : All (λ t. (t.hand_over ≡ l.fn.giver.hand_over) × (t.ended ≡ true)) l.takers.items;
  back : (back : List Taker) × (l.fn.takers.items ≡ l.takers.items ++ back) × IsPermutation (view l.pass).off (taken_by back) × All (λ (t : Taker). IsRising t.taken) back × All (λ (t : Taker). off t ≡ t.taken) back;
  count : (l.base ≡ l.fn.giver.base) × (l.next ≡ l.initial.next);
}

abbrev pub decreases-loop-taker : goal.decreases-loop-taker
decreases-loop-taker l = goal.left-loop-taker l
