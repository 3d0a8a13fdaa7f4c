use Rattle.std.proofs.Common.{◌≡◌, ◌<◌, ◌∙◌, ap, arith, subst, sym, true, Some}
use Rattle.std.specs.Prelude.{IfOk, OnOk, Ok, Result, slice_get, slice_set}
use Rattle.std.specs.Result.{result_err}
use Rattle.std.proofs.lemmas.Option.{slice_get_within}
use Rattle.fewest_core.specs.FewestMoves.{Move}
use Rattle.state_core.specs.LentMoves.{LentMove}
use Rattle.state_core.specs.declared.error.ZoneError.{ZoneError}
use Rattle.state_core.specs.declared.moves.Next.{Next}
use Rattle.worker_threads.specs.Hands.{PageInHand}
use Rattle.state_core.specs.ZoneState.{ZoneState}
use Rattle.worker_threads.specs.Kept.{IsRoom, Keeps}
use Rattle.worker_threads.specs.Rooms.{Gets, Room, noted}
use Rattle.worker_threads.specs.Work.{Lends, next_move, next_sent, none_found, work_left, work_refusal}
use Rattle.worker_threads.specs.declared.room.KeptHalf.{KeptHalf}
use Rattle.worker_threads.specs.declared.round.Round.{Round}
use Rattle.worker_threads.specs.declared.round.Stop.{Stop}
use Rattle.worker_threads.specs.declared.work.Work.{Work}
use Rattle.worker_threads.proofs.KeptFacts.{keeps_got, keeps_stopped}
use Rattle.worker_threads.proofs.Rooms.{counts_few, page_got, room_gets, room_stopped}
use Rattle.worker_threads.proofs.Steps.{met_if_none, none_found_left, not_refused, runs_left}
use Rattle.worker_threads.proofs.room.Room.take_page.Goals as goal
use Rattle.zone_core.specs.LentMoves.{HaveWords}

pub note-requires : goal.note-requires
note-requires g c = counts_few _ _ _ _ _ c.self.invariant.0

pub index_mut-requires : goal.index_mut-requires
index_mut-requires g c = (let within = slice_get_within c.self.inside.kept.items c.args.place _ (ap (λ (r : Room). slice_get r.kept c.args.place) c.self.view_is ∙ c.requires.free) in omega (arith, within, c.self.inside.kept.ok))

pub invariant_of-self-2 : goal.invariant_of-self-2
invariant_of-self-2 g c =
    let z = c.self.inside.zone in
    let work = c.self.inside.work in
    let lent = c.in-Page.lent in
    let next = c.lend_next-next.new.zone in
    let found = c.in_ok-lent.was ∙ ap Ok c.in-Page.is in
    let first = c.halve-half.ensures.first in
    let rows = c.into_parts-way.ensures.rows in
    let half : KeptHalf = record { way = c.way-way.result; half = c.halve-half.result.0 } in
    let kept = slice_set c.self.inside.kept.items c.args.place (Some half) in
    let free = ap (λ (r : Room). slice_get r.kept c.args.place) c.self.view_is ∙ c.requires.free in
    let lends = subst (λ (r : Result (Next LentMove) ZoneError). IfOk r (Lends (next_move work z) z next)) found c.lend_next-next.ensures.lent in
    let step = subst (λ (r : Result (Next LentMove) ZoneError). OnOk r (next ≡ next_sent work z (next_move work z))) found c.lend_next-next.ensures.ok in
    let left = subst (λ (r : Result (Next LentMove) ZoneError). OnOk r (c.lend_next-next.new.self ≡ work_left work z)) found c.lend_next-next.ensures.left in
    let count = c.note.ensures ∙ ap (noted c.self.inside.round c.none_found.result) found in
    let long = (subst (λ (r : Result (Next LentMove) ZoneError). IfOk r (HaveWords _)) found c.lend_next-next.ensures.count).0 in
    let way_is = c.way-way.ensures ∙ ap (λ (p : PageInHand). p.way) c.new-page.ensures ∙ c.into_parts-way.ensures.way in
    let half_is : half.half ≡ record { at = lent.from.at; words = lent.from.words; is_first = true } = λ i. record { at = (first.0 ∙ ap (λ r. r.at) rows.0) i; words = (first.1 ∙ ap (λ r. r.words) rows.0) i; is_first = first.2 i } in
    let begun = subst (λ (r : Room). 0 < r.rounds) (sym c.self.view_is) c.requires.begun in
    let accepted = not_refused work z _ lends.0 (sym (subst (λ (r : Result (Next LentMove) ZoneError). result_err r ≡ work_refusal work z) found c.lend_next-next.ensures.refused)) in
    let is = c.self.invariant in (
      room_gets _ _ _ _ _ is.0 next c.args.place free lent lends step half way_is half_is long (c.lend_next-next.ensures.valid is.0.valid) c.lend_next-next.ensures.identity c.lend_next-next.new.self left c.note.new.self count,
      keeps_got _ is.1 next (record { page = lent.page; source = lent.source; target = lent.target }) kept c.lend_next-next.new.self c.note.new.self (step ∙ ap (next_sent work z) lends.0) left count
          (g.K.Keeping.takes work c.self.inside.rounds z _ begun is.0.valid accepted lends.0)
          (λ reason. g.K.Keeping.goes_on work c.self.inside.rounds z _ reason begun is.0.valid accepted lends.0 is.1.fact),
    )

pub returns-clause-ok : goal.returns-clause-ok
returns-clause-ok g c =
    let z = c.self.inside.zone in
    let work = c.self.inside.work in
    let lent = c.in-Page.lent in
    let next = c.lend_next-next.new.zone in
    let found = c.in_ok-lent.was ∙ ap Ok c.in-Page.is in
    let first = c.halve-half.ensures.first in
    let rows = c.into_parts-way.ensures.rows in
    let half : KeptHalf = record { way = c.way-way.result; half = c.halve-half.result.0 } in
    let kept = slice_set c.self.inside.kept.items c.args.place (Some half) in
    let free = ap (λ (r : Room). slice_get r.kept c.args.place) c.self.view_is ∙ c.requires.free in
    let lends = subst (λ (r : Result (Next LentMove) ZoneError). IfOk r (Lends (next_move work z) z next)) found c.lend_next-next.ensures.lent in
    let step = subst (λ (r : Result (Next LentMove) ZoneError). OnOk r (next ≡ next_sent work z (next_move work z))) found c.lend_next-next.ensures.ok in
    let left = subst (λ (r : Result (Next LentMove) ZoneError). OnOk r (c.lend_next-next.new.self ≡ work_left work z)) found c.lend_next-next.ensures.left in
    let count = c.note.ensures ∙ ap (noted c.self.inside.round c.none_found.result) found in
    let long = (subst (λ (r : Result (Next LentMove) ZoneError). IfOk r (HaveWords _)) found c.lend_next-next.ensures.count).0 in
    let way_is = c.way-way.ensures ∙ ap (λ (p : PageInHand). p.way) c.new-page.ensures ∙ c.into_parts-way.ensures.way in
    let half_is : half.half ≡ record { at = lent.from.at; words = lent.from.words; is_first = true } = λ i. record { at = (first.0 ∙ ap (λ r. r.at) rows.0) i; words = (first.1 ∙ ap (λ r. r.words) rows.0) i; is_first = first.2 i } in
    subst (λ (old : Room). (x : Move) × (next_move old.work old.zone ≡ Some x) × Gets c.args.place old (record { zone = next; kept = kept; work = c.lend_next-next.new.self; rounds = c.self.inside.rounds; is_under_way = c.self.inside.is_under_way; round = c.note.new.self }) x c.new-page.result) c.self.view_is
    (page_got _ _ _ _ _ c.self.invariant.0 next c.args.place free lent lends step half way_is half_is long
    c.new-page.result (λ i. record { place = ap (λ (p : PageInHand). p.place) c.new-page.ensures i; way = sym c.way-way.ensures i; from = (ap (λ (p : PageInHand). p.from) c.new-page.ensures ∙ c.halve-half.ensures.second.1 ∙ ap (λ r. r.words) rows.0) i; to = c.new-page.result.to }) _
    (λ i. record { zone = next; kept = kept; work = left i; rounds = c.self.inside.rounds; is_under_way = c.self.inside.is_under_way; round = count i }))

-- no page is found
pub invariant_of-self-in_default : goal.invariant_of-self-in_default
invariant_of-self-in_default g c =
    let z = c.self.inside.zone in
    let work = c.self.inside.work in
    let next = c.lend_next-next.new.zone in
    let is = c.self.invariant in
    let found = c.in_ok-lent.was ∙ ap Ok c.in_default.is in
    let none = subst (λ (r : Result (Next LentMove) ZoneError). IfOk r (Lends (next_move work z) z next)) found c.lend_next-next.ensures.lent in
    let step = subst (λ (r : Result (Next LentMove) ZoneError). OnOk r (next ≡ next_sent work z (next_move work z))) found c.lend_next-next.ensures.ok in
    let left = subst (λ (r : Result (Next LentMove) ZoneError). OnOk r (c.lend_next-next.new.self ≡ work_left work z)) found c.lend_next-next.ensures.left in
    let accepted = sym (subst (λ (r : Result (Next LentMove) ZoneError). result_err r ≡ work_refusal work z) found c.lend_next-next.ensures.refused) in
    let why = c.none_found.ensures ∙ ap none_found left ∙ none_found_left work z in
    let count = c.note.ensures ∙ ap (noted c.self.inside.round c.none_found.result) found ∙ ap (λ (reason : Stop). record c.self.inside.round { stopped = Some reason }) why in
    let begun = subst (λ (r : Room). 0 < r.rounds) (sym c.self.view_is) c.requires.begun in
    let same = step ∙ ap (next_sent work z) none in
    let both : (w : ZoneState) (v : Work) (round : Round) → Type 0 = λ w v round.
    (let room : Room = record { zone = w; kept = c.self.inside.kept.items; work = v; rounds = c.self.inside.rounds; is_under_way = c.self.inside.is_under_way; round = round } in
    IsRoom g.K.MemoryIdentity.number g.K.MemoryIdentity.blocks g.K.MemoryIdentity.memory g.row.W room × Keeps g.K.Keeping.keeps g.K.Keeping.stops_at room) in
    subst (λ (w : ZoneState). both w c.lend_next-next.new.self c.note.new.self) (sym same) (subst (λ (v : Work). both z v c.note.new.self) (sym left) (subst (both z (work_left work z)) (sym count) (
      room_stopped _ _ _ _ _ is.0 (work_left work z) (none_found work) (runs_left work z _ is.0.runs) (met_if_none work z is.0.valid none),
      keeps_stopped _ is.1 (work_left work z) (none_found work) (g.K.Keeping.finds_none work c.self.inside.rounds z begun is.0.valid accepted none) (g.K.Keeping.stops work c.self.inside.rounds z is.0.valid accepted none),
    )))
