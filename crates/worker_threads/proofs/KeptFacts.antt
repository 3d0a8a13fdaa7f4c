-- What more is kept of a zone is so after each call under the lock.
use Rattle.std.proofs.Common.{◌≡◌, ℕ, ◌+◌, true, false, List, sym, ap, subst, ◌∙◌, Option, Some, None}
use Rattle.std.specs.Prelude.{Result, Ok, Err}
use Rattle.frame_core.specs.Moves.{isolated}
use Rattle.state_core.specs.declared.call.ZoneCall.{ZoneCall}
use Rattle.state_core.specs.declared.error.ZoneError.{ZoneError}
use Rattle.state_core.specs.declared.moves.Ended.{Ended}
use Rattle.fewest_core.specs.FewestMoves.{Move}
use Rattle.state_core.specs.Calls.{after, refusal_of}
use Rattle.state_core.specs.ZoneState.{ZoneState}
use Rattle.worker_threads.specs.Kept.{Keeps}
use Rattle.worker_threads.specs.Rooms.{Room, counted, fresh_round, one_begun}
use Rattle.worker_threads.specs.Work.{page_ended, page_sent, work_begun, work_left}
use Rattle.worker_threads.specs.declared.room.KeptHalf.{KeptHalf}
use Rattle.worker_threads.specs.declared.round.Round.{Round}
use Rattle.worker_threads.specs.declared.round.Stop.{Stop}
use Rattle.worker_threads.specs.declared.work.Work.{Work}
use Rattle.worker_threads.proofs.Called.{shape_called}
use Rattle.worker_threads.proofs.Rooms.{stopped_same}
use Rattle.worker_threads.proofs.Steps.{isolated_sent, shape_ended}
use Rattle.zone_core.specs.Made.{IsMade}

module _ {keeps : Work → ℕ → ZoneState → Type 0} {stops_at : Work → ℕ → ℕ → Stop → Type 0} (r : Room) (is : Keeps keeps stops_at r) where
  pub keeps_made : {W : ℕ} {A : Type 0} (call : ZoneCall W) (client : ℕ) (next : ZoneState) (result : Result A ZoneError) → (refusal_of call r.zone ≡ None → keeps r.work r.rounds r.zone → keeps r.work r.rounds (after call client r.zone)) → IsMade call client r.zone next result → Keeps keeps stops_at (record r { zone = next })
  keeps_made call client next (Err error) stays made = subst (λ (z : ZoneState). Keeps keeps stops_at (record r { zone = z })) (sym made.err) is
  keeps_made call client next (Ok answer) stays made = subst (λ (z : ZoneState). Keeps keeps stops_at (record r { zone = z })) (sym made.ok) (record {
    fact = stays (sym made.refused) is.fact;
    stops = λ reason noted. subst (λ (n : ℕ). stops_at r.work r.rounds n reason) (sym (shape_called call client r.zone).isolated) (is.stops reason noted);
  })

  -- work begins
  pub keeps_begun : (work : Work) (next : ZoneState) (rounds : ℕ) → next ≡ work_begun work r.zone → rounds ≡ one_begun r.rounds → (keeps r.work r.rounds r.zone → keeps work (one_begun r.rounds) (work_begun work r.zone)) → Keeps keeps stops_at (record r { zone = next; work = work; rounds = rounds; is_under_way = true; round = fresh_round })
  keeps_begun work next rounds step number begins = record {
    fact = subst (λ (n : ℕ). keeps work n next) (sym number) (subst (keeps work (one_begun r.rounds)) (sym step) (begins is.fact));
    stops = λ reason noted. cc;
  }

  pub keeps_over : Keeps keeps stops_at (record r { is_under_way = false })
  keeps_over = record { fact = is.fact; stops = is.stops }

  -- a worker finds no page
  pub keeps_stopped : (work : Work) (reason : Stop) → (keeps r.work r.rounds r.zone → keeps work r.rounds r.zone) → (keeps r.work r.rounds r.zone → stops_at work r.rounds (isolated r.zone.records) reason) → Keeps keeps stops_at (record r { work = work; round = record r.round { stopped = Some reason } })
  keeps_stopped work reason finds_none stops = record {
    fact = finds_none is.fact;
    stops = λ other noted. subst (stops_at work r.rounds (isolated r.zone.records)) (let same : Some reason ≡ Some other = noted in cc) (stops is.fact);
  }

  -- a worker gets a page
  pub keeps_got : (next : ZoneState) (m : Move) (kept : List (Option KeptHalf)) (work : Work) (round : Round) → next ≡ page_sent r.work r.zone m → work ≡ work_left r.work r.zone → round ≡ record r.round { isolated = r.round.isolated + 1 } → (keeps r.work r.rounds r.zone → keeps (work_left r.work r.zone) r.rounds (page_sent r.work r.zone m))
      → ((reason : Stop) → stops_at r.work r.rounds (isolated r.zone.records) reason → stops_at (work_left r.work r.zone) r.rounds (isolated r.zone.records + 1) reason) → Keeps keeps stops_at (record r { zone = next; kept = kept; work = work; round = round })
  keeps_got next m kept work round step left count takes goes_on = subst (λ (w : Work). Keeps keeps stops_at (record r { zone = next; kept = kept; work = w; round = round })) (sym left) (subst (λ (z : ZoneState). Keeps keeps stops_at (record r { zone = z; kept = kept; work = work_left r.work r.zone; round = round })) (sym step) (record {
    fact = takes is.fact;
    stops = λ reason noted. subst (λ (n : ℕ). stops_at (work_left r.work r.zone) r.rounds n reason) (sym (isolated_sent r.work r.zone m)) (goes_on reason (is.stops reason (sym (ap (λ (w : Round). w.stopped) count) ∙ noted)));
  }))

  -- a worker gives its page back
  pub keeps_committed : (next : ZoneState) (serial page source : ℕ) (kept : List (Option KeptHalf)) (round : Round) (end : Ended) → next ≡ page_ended r.work r.zone serial page source → round ≡ counted r.round end → (keeps r.work r.rounds r.zone → keeps r.work r.rounds (page_ended r.work r.zone serial page source)) → Keeps keeps stops_at (record r { zone = next; kept = kept; round = round })
  keeps_committed next serial page source kept round end step count commits = subst (λ (z : ZoneState). Keeps keeps stops_at (record r { zone = z; kept = kept; round = round })) (sym step) (record {
    fact = commits is.fact;
    stops = λ reason noted. subst (λ (n : ℕ). stops_at r.work r.rounds n reason) (sym (shape_ended r.work r.zone serial page source).isolated) (is.stops reason (sym (stopped_same r.round round end count) ∙ noted));
  })
