-- What a step of the work leaves of a zone, whether it is a round or the emptying of runs.
use Rattle.std.proofs.Common.{◌≡◌, ◌≢◌, ℕ, suc, arith, length, not, ◌<◌, ◌+◌, ◌^◌, Bool, true, false, List, [], ◌∷◌, refl, sym, ap, subst, ◌∙◌, Option, Some, None, is_some, if◌then◌else◌, nat_eq}
use Rattle.std.specs.Prelude.{All, drop, slice_index_or}
use Rattle.std.proofs.lemmas.Bool.{both_ways}
use Rattle.std.specs.FinMap as map
use Rattle.std.specs.Option.{option_map}
use Rattle.frame_core.specs.declared.record.Cause.TheVariants.{Pinned}
use Rattle.frame_core.specs.History.{pins}
use Rattle.frame_core.specs.Moves.{isolated}
use Rattle.fewest_core.specs.FewestMoves.{Move}
use Rattle.fewest_core.specs.Claims.{highest_vacant, next_to_go}
use Rattle.fewest_core.specs.Sending.{claimed_if_moved, move_between, next_move_from, sent, sent_committed}
use Rattle.state_core.specs.declared.error.ZoneError.{ZoneError}
use Rattle.state_core.specs.declared.error.ZoneError.TheVariants.{Range}
use Rattle.state_core.specs.declared.moves.Ended.{Ended}
use Rattle.state_core.specs.declared.moves.Ended.TheVariants.{Moved, Back}
use Rattle.state_core.specs.declared.placement.Placement.TheVariants.{At, Moving}
use Rattle.state_core.specs.Carrying.{words_now}
use Rattle.state_core.specs.Claiming.{claimed_at, run_claimed}
use Rattle.state_core.specs.Ending.{committed, ended_as, moved_to_target, put_back_to_source}
use Rattle.state_core.specs.Isolating.{isolate_refusal}
use Rattle.state_core.specs.LentMoves.{IsLentMove, LentMove, move_lent, move_returned}
use Rattle.state_core.specs.Pairs.{HaveMet, holder, next_pair}
use Rattle.state_core.specs.Valid.{IsValidZone}
use Rattle.state_core.specs.ZoneState.{ZoneState, is_quiet}
use Rattle.state_core.proofs.Holding.{holder_found}
use Rattle.state_core.proofs.LentMoves.{lent_after_lent_commit, lent_begun, lent_beside, lent_kept}
use Rattle.state_core.proofs.Pairing.{no_pair, pair_found}
use Rattle.state_core.specs.HandingOut.{is_block_start}
use Rattle.worker_threads.specs.AloneLaws.{none_there, pair_is}
use Rattle.worker_threads.specs.Work.{AreRuns, first_move, move_out, next_move, none_found, page_ended, page_sent, pair_of, run_refusal, runs_claimed, still_left, work_begun, work_left, work_refusal}
use Rattle.worker_threads.specs.declared.round.Stop.TheVariants as stop
use Rattle.worker_threads.specs.declared.work.Work.{Work}
use Rattle.worker_threads.specs.declared.work.Work.TheVariants.{Compact, Empty}
use Rattle.worker_threads.proofs.Called.{IsShaped}
use Rattle.worker_threads.proofs.Meeting.{loud_back, quiet_committed, quiet_isolated}

-- the page of the next move rests in its source
held_between : (z : ZoneState) (source target : Option ℕ) (m : Move) → move_between z source target ≡ Some m → map.get z.placement m.page ≡ Some (At m.source)
held_between z None target m found = cc
held_between z (Some source) None m found = cc
held_between z (Some source) (Some target) m found = by_page (holder z source) refl where
  by_page : (o : Option ℕ) → holder z source ≡ o → map.get z.placement m.page ≡ Some (At m.source)
  by_page None none = (let no : None ≡ Some m = ap (option_map (λ page. record { page = page; source = source; target = target })) (sym none) ∙ found in cc)
  by_page (Some page) holds =
      let both : Some (record { page = page; source = source; target = target }) ≡ Some m = ap (option_map (λ page. record { page = page; source = source; target = target })) (sym holds) ∙ found in
      let same : record { page = page; source = source; target = target } ≡ m = cc in
      subst (λ (n : Move). map.get z.placement n.page ≡ Some (At n.source)) same (holder_found z page source holds)

-- and so does that of the first run that a page can leave
held_first : (size : ℕ) (z : ZoneState) (first : ℕ) (firsts : List ℕ) (o : Option Move) (m : Move) → next_move_from first size z ≡ o → (move_out size z firsts ≡ Some m → map.get z.placement m.page ≡ Some (At m.source))
    → first_move size z (if is_some o then first ∷ firsts else still_left size z firsts) ≡ Some m → map.get z.placement m.page ≡ Some (At m.source)
held_first size z first firsts None m is later found = later found
held_first size z first firsts (Some next) m is later found = held_between z (next_to_go first size z) (highest_vacant z) m found

held_out : (size : ℕ) (z : ZoneState) (firsts : List ℕ) (m : Move) → move_out size z firsts ≡ Some m → map.get z.placement m.page ≡ Some (At m.source)
held_out size z [] m found = cc
held_out size z (first ∷ firsts) m found = held_first size z first firsts (next_move_from first size z) m refl (held_out size z firsts m) found

pub page_here : (work : Work) (z : ZoneState) → IsValidZone z → (m : Move) → next_move work z ≡ Some m → map.get z.placement m.page ≡ Some (At m.source)
page_here Compact z law m found = (pair_found z law (pair_of m) (pair_is (next_pair z) m found)).from.here
page_here (Empty runs) z law m found = held_out (2 ^ runs.order) z runs.left m found

-- where there is a next page that isn't refused, an isolation isn't either
pub not_refused : (work : Work) (z : ZoneState) (m : Move) → next_move work z ≡ Some m → work_refusal work z ≡ None → isolate_refusal z ≡ None
not_refused Compact z m found accepted = accepted
not_refused (Empty runs) z m found accepted = by_runs runs.left found accepted where
  by_runs : (left : List ℕ) → move_out (2 ^ runs.order) z left ≡ Some m → run_refusal left (isolate_refusal z) ≡ None → isolate_refusal z ≡ None
  by_runs [] found accepted = cc
  by_runs (first ∷ firsts) found accepted = accepted

-- a page is sent

pub lent_sent : (work : Work) (z : ZoneState) (l : LentMove) (m : Move) → map.get z.placement m.page ≡ Some (At m.source) → IsLentMove z l → IsLentMove (page_sent work z m) l
lent_sent Compact z l m here its = lent_beside z l its (pair_of m) m.source here
lent_sent (Empty runs) z l m here its = lent_kept (move_lent z (pair_of m)) (sent z m) l refl refl refl refl (λ w. refl) (lent_beside z l its (pair_of m) m.source here)

pub memory_sent : (work : Work) (z : ZoneState) (m : Move) → (page_sent work z m).memory ≡ z.memory
memory_sent Compact z m = refl
memory_sent (Empty runs) z m = refl

pub isolated_sent : (work : Work) (z : ZoneState) (m : Move) → isolated (page_sent work z m).records ≡ isolated z.records + 1
isolated_sent Compact z m = refl
isolated_sent (Empty runs) z m = refl

pub words_sent : (work : Work) (z : ZoneState) (m : Move) (page : ℕ) → words_now (page_sent work z m) page ≡ words_now z page
words_sent Compact z m page = refl
words_sent (Empty runs) z m page = refl

-- only in a round the zone is quiet then, and it was before
pub quiet_sent : (work : Work) (z : ZoneState) → IsValidZone z → (m : Move) → is_quiet (page_sent work z m) ≡ true → (work ≡ Compact) × (is_quiet z ≡ true)
quiet_sent Compact z law m quiet = (refl, quiet_isolated z law (pair_of m) quiet)
quiet_sent (Empty runs) z law m quiet = cc

pub not_met : (work : Work) (z : ZoneState) → IsValidZone z → (m : Move) → next_move work z ≡ Some m → work ≡ Compact → HaveMet z → ⊥
not_met Compact z law m found is met = met m.page m.source m.target (pair_found z law (pair_of m) (pair_is (next_pair z) m found))
not_met (Empty runs) z law m found is met = cc

-- a block can begin at each run that is left
all_if : (P : ℕ → Type 0) (b : Bool) (all some : List ℕ) → All P all → All P some → All P (if b then all else some)
all_if P true all some each few = each
all_if P false all some each few = few

blocks_left : (size frames order : ℕ) (z : ZoneState) (firsts : List ℕ) → All (λ first. is_block_start frames order first ≡ true) firsts → All (λ first. is_block_start frames order first ≡ true) (still_left size z firsts)
blocks_left size frames order z [] all = all
blocks_left size frames order z (first ∷ firsts) all = all_if (λ first. is_block_start frames order first ≡ true) (is_some (next_move_from first size z)) (first ∷ firsts) (still_left size z firsts) all (blocks_left size frames order z firsts (λ k d less. all (suc k) d (omega (arith, less))))

pub runs_left : (work : Work) (z : ZoneState) (frames : ℕ) → AreRuns frames work → AreRuns frames (work_left work z)
runs_left Compact z frames runs = tt
runs_left (Empty runs) z frames are = blocks_left (2 ^ runs.order) frames runs.order z runs.left are

-- work begins

lent_claimed : (size : ℕ) (firsts : List ℕ) (z : ZoneState) (l : LentMove) → IsLentMove z l → IsLentMove (runs_claimed size firsts z) l
lent_claimed size [] z l its = its
lent_claimed size (first ∷ firsts) z l its = lent_claimed size firsts (run_claimed first size z) l (lent_kept z (run_claimed first size z) l refl refl refl refl (λ w. refl) its)

pub lent_work_begun : (work : Work) (z : ZoneState) (l : LentMove) → IsLentMove z l → IsLentMove (work_begun work z) l
lent_work_begun Compact z l its = lent_begun z l its
lent_work_begun (Empty runs) z l its = lent_claimed (2 ^ runs.order) runs.left z l its

memory_claimed : (size : ℕ) (firsts : List ℕ) (z : ZoneState) → (runs_claimed size firsts z).memory ≡ z.memory
memory_claimed size [] z = refl
memory_claimed size (first ∷ firsts) z = memory_claimed size firsts (run_claimed first size z)

pub memory_begun : (work : Work) (z : ZoneState) → (work_begun work z).memory ≡ z.memory
memory_begun Compact z = refl
memory_begun (Empty runs) z = memory_claimed (2 ^ runs.order) runs.left z

-- the move of a page ends

shape_committed : (z : ZoneState) (serial page : ℕ) → IsShaped z (move_returned (committed z serial page) page)
shape_committed z serial page = by (nat_eq (pins z.records page) 0) where
  by : (b : Bool) → IsShaped z (move_returned (if b then moved_to_target z serial page else put_back_to_source z serial page Pinned) page)
  by true = record { memory = refl; page_size = refl; isolated = refl }
  by false = record { memory = refl; page_size = refl; isolated = refl }

shape_claimed : (end : Ended) (z next : ZoneState) (source : ℕ) → IsShaped z next → IsShaped z (claimed_if_moved end next source)
shape_claimed Moved z next source shape = record { memory = shape.memory; page_size = shape.page_size; isolated = shape.isolated }
shape_claimed Back z next source shape = shape

pub shape_ended : (work : Work) (z : ZoneState) (serial page source : ℕ) → IsShaped z (page_ended work z serial page source)
shape_ended Compact z serial page source = shape_committed z serial page
shape_ended (Empty runs) z serial page source = shape_claimed (ended_as z page) z (move_returned (committed z serial page) page) source (shape_committed z serial page)

lent_if_claimed : (end : Ended) (z : ZoneState) (source : ℕ) (l : LentMove) → IsLentMove z l → IsLentMove (claimed_if_moved end z source) l
lent_if_claimed Moved z source l its = lent_kept z (claimed_at z source) l refl refl refl refl (λ w. refl) its
lent_if_claimed Back z source l its = its

pub lent_after_end : (work : Work) (z : ZoneState) (l : LentMove) → IsLentMove z l → (page serial source target : ℕ) → map.get z.placement page ≡ Some (Moving serial source target) → serial ≢ l.serial → IsLentMove (page_ended work z serial page source) l
lent_after_end Compact z l its page serial source target at ne = lent_after_lent_commit z l its page serial source target at ne
lent_after_end (Empty runs) z l its page serial source target at ne = lent_if_claimed (ended_as z page) (move_returned (committed z serial page) page) source l (lent_after_lent_commit z l its page serial source target at ne)

quiet_claimed : (end : Ended) (z : ZoneState) (source : ℕ) → is_quiet (claimed_if_moved end z source) ≡ true → is_quiet z ≡ true
quiet_claimed Moved z source quiet = cc
quiet_claimed Back z source quiet = quiet

pub quiet_ended_page : (work : Work) (z : ZoneState) → IsValidZone z → (serial page source : ℕ) → is_quiet (page_ended work z serial page source) ≡ true → is_quiet z ≡ true
quiet_ended_page Compact z law serial page source quiet = quiet_committed z law serial page quiet
quiet_ended_page (Empty runs) z law serial page source quiet = quiet_committed z law serial page (quiet_claimed (ended_as z page) (move_returned (committed z serial page) page) source quiet)

-- after a page of a run ended its move no round is quiet
pub loud_ended : (z : ZoneState) → IsValidZone z → (l : LentMove) → is_quiet (sent_committed z l) ≡ true → ⊥
loud_ended z law l = by (nat_eq (pins z.records l.page) 0) where
  by : (b : Bool) → is_quiet (claimed_if_moved (if b then Moved else Back) (move_returned (if b then moved_to_target z l.serial l.page else put_back_to_source z l.serial l.page Pinned) l.page) l.source) ≡ true → ⊥
  by true quiet = cc
  by false quiet = both_ways _ (loud_back z law l.serial l.page Pinned) quiet

-- a run that no page can leave is done with
pub next_left : (size : ℕ) (z : ZoneState) (first : ℕ) (firsts : List ℕ) → next_move_from first size z ≡ None → still_left size z (first ∷ firsts) ≡ still_left size z firsts
next_left size z first firsts none = ap (λ (o : Option Move). if is_some o then first ∷ firsts else still_left size z firsts) none

-- runs with their first one
pub with_first : (firsts : List ℕ) (first : ℕ) → 0 < length firsts → first ≡ slice_index_or firsts 0 first → firsts ≡ first ∷ drop 1 firsts
with_first [] first some is = absurd (omega (arith, some))
with_first (x ∷ xs) first some is = ap (λ (y : ℕ). y ∷ xs) (sym is)

-- a page isn't refused because of its block where that can begin there
pub in_block : (b : Bool) (r : Option ZoneError) → b ≡ true → None ≡ (if not b then Some Range else r) → r ≡ None
in_block true r is accepted = sym accepted
in_block false r is accepted = cc

-- why no page is found stays the same
pub none_found_left : (work : Work) (z : ZoneState) → none_found (work_left work z) ≡ none_found work
none_found_left Compact z = refl
none_found_left (Empty runs) z = refl

-- the scanners have met where that is why
pub met_if_none : (work : Work) (z : ZoneState) → IsValidZone z → next_move work z ≡ None → none_found work ≡ stop.Met → HaveMet z
met_if_none Compact z law none why = no_pair z law (none_there (next_pair z) none)
met_if_none (Empty runs) z law none why = cc
