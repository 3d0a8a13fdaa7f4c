use Rattle.std.proofs.Common.{◌≡◌, ◌∙◌, ◌^◌, ℕ, suc, ap, subst, sym, arith, refl, inr, ◌<◌, length, true, List, None}
use Rattle.std.specs.Prelude.{IfOk, OnOk, Ok, Result, drop, slice_index_or}
use Rattle.std.specs.Result.{result_err}
use Rattle.fewest_core.specs.Sending.{next_move_from, next_sent, send_refusal}
use Rattle.state_core.specs.LentMoves.{LentMove, lend_move_refusal}
use Rattle.state_core.specs.ZoneState.{frame_count}
use Rattle.state_core.specs.declared.error.ZoneError.{ZoneError}
use Rattle.state_core.specs.declared.moves.Next.{Next}
use Rattle.state_core.specs.HandingOut.{is_block_start}
use Rattle.worker_threads.specs.Work.{still_left}
use Rattle.worker_threads.proofs.Steps.{in_block, next_left, with_first}
use Rattle.worker_threads.proofs.runs.Runs.lend_next.Goals as goal
use Rattle.zone_core.specs.LentMoves.{SendsNext}

pub loop-first-preserved : goal.loop-first-preserved
loop-first-preserved g c =
    let inv = c.loop-first.invariant in
    let z = c.loop-first.zone in
    let old = c.args.zone.now in
    let order = c.args.self.now.order in
    let first = c.in-Some.first.now in
    let firsts = c.loop-first.self-inside.left.items in
    let found = c.in_ok-lent.was ∙ ap Ok c.in_default-2.is in
    let none : next_move_from first (2 ^ c.loop-first.self-inside.order) z ≡ None = subst (λ (r : Result (Next LentMove) ZoneError). IfOk r (SendsNext first (2 ^ c.loop-first.self-inside.order) z c.lend_move_from.new.self)) found c.lend_move_from.ensures.lent in
    let step : c.lend_move_from.new.self ≡ z = subst (λ (r : Result (Next LentMove) ZoneError). OnOk r (c.lend_move_from.new.self ≡ next_sent z (next_move_from first (2 ^ c.loop-first.self-inside.order) z))) found c.lend_move_from.ensures.ok ∙ ap (next_sent z) none in
    let none_there : next_move_from first (2 ^ order) old ≡ None = (λ i. next_move_from first (2 ^ sym inv.order i) (sym inv.zone i)) ∙ none in
    let are = with_first firsts first (omega (arith, c.loop-first.self-inside.left.ok, c.in-Some.ensures.variant.0 refl)) c.in-Some.ensures.lookup in
    let starts = subst (λ (l : List ℕ). (k d : ℕ) → k < length l → is_block_start (frame_count old) order (slice_index_or l k d) ≡ true) are inv.starts in
    let refused : None ≡ send_refusal z first c.loop-first.self-inside.order = sym (ap result_err found) ∙ c.lend_move_from.ensures.refused in record {
      zone = step ∙ inv.zone;
      order = inv.order;
      left = ap (still_left (2 ^ order) old) c.pop_front.ensures.rest ∙ sym (next_left (2 ^ order) old first (drop 1 firsts) none_there) ∙ ap (still_left (2 ^ order) old) (sym are) ∙ inv.left;
      starts = subst (λ (l : List ℕ). (k d : ℕ) → k < length l → is_block_start (frame_count old) order (slice_index_or l k d) ≡ true) (sym c.pop_front.ensures.rest) (λ k d less. starts (suc k) d (omega (arith, less)));
      refused = inr (in_block (is_block_start (frame_count old) order first) (lend_move_refusal old) (starts 0 first (omega arith)) (refused ∙ (λ i. send_refusal (inv.zone i) first (inv.order i))));
    }
