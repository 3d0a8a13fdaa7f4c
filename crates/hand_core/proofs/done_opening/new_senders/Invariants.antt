use Rattle.std.proofs.Common.{◌≡◌, ℕ, ◌≤◌, ◌<◌, false, [], Some, vec_len, vec_capacity}
use Rattle.std.specs.Prelude.{slice_get}
use Rattle.crossbeam_channel.specs.Claims.{view, IsSeatAt}
use Rattle.crossbeam_channel.specs.Ends.{sends_on}
use Rattle.hand_core.specs.Queue.{name_of}
use Rattle.hand_core.specs.CopyQueue.{taker_account}
use Rattle.hand_core.proofs.done_opening.new_senders.Given as goal

abbrev pub invariant-loop-number : goal.invariant-loop-number
invariant-loop-number l = record {
  seat : IsSeatAt (sends_on l.to) l.pass;
  knows : view l.pass ≡ record taker_account { made = l.number };
  count : vec_len l.all ≡ l.number;
  room : l.senders ≤ vec_capacity l.all;
  fresh : (k : ℕ) → k < l.number → slice_get l.all.items k ≡ Some (record { queue = name_of (sends_on l.to); most = l.most; number = k; sent = []; marked = false; closed = false });
}
