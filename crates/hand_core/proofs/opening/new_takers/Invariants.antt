use Rattle.std.proofs.Common.{◌≡◌, ◌+◌, ◌≤◌, false, [], All, vec_len, vec_capacity}
use Rattle.crossbeam_channel.specs.Claims.{view, IsSeatAt}
use Rattle.crossbeam_channel.specs.Ends.{sends_on}
use Rattle.hand_core.specs.Queue.{name_of}
use Rattle.hand_core.specs.PageQueue.{giver_knows}
use Rattle.hand_core.proofs.opening.new_takers.Given as goal

abbrev pub invariant-loop-taker : goal.invariant-loop-taker
invariant-loop-taker l = record {
  seat : IsSeatAt (sends_on l.to) l.pass;
  shares : (view l.pass).shares + l._taker ≡ 1024;
  knows : view l.pass ≡ record giver_knows { shares = (view l.pass).shares };
  made : vec_len l.all ≡ l._taker;
  room : l.takers ≤ vec_capacity l.all;
  fresh : All (λ t. t ≡ record { hand_over = name_of (sends_on l.to); taken = []; in_hand = []; ended = false }) l.all.items;
}
