-- What workers do: a round, or the emptying of runs of frames. Which page is next, and what each step leaves.
use Rattle.std.specs.Prelude.{◌≡◌, ⊤, ℕ, ◌^◌, List, [], ◌∷◌, if◌then◌else◌, Option, Some, None, is_some}
use Rattle.std.specs.Option.{option_map}
use Rattle.frame_core.specs.Moves.{isolated}
use Rattle.state_core.specs.declared.error.ZoneError.{ZoneError}
use Rattle.state_core.specs.declared.moves.Next.{Next}
use Rattle.state_core.specs.declared.moves.Next.TheVariants as next
use Rattle.state_core.specs.declared.round.Pair.{Pair}
use Rattle.state_core.specs.Claiming.{run_claimed}
use Rattle.state_core.specs.Ending.{committed, ended_as}
use Rattle.state_core.specs.Isolating.{isolate_refusal}
use Rattle.state_core.specs.LentMoves.{IsLentMove, LentMove, move_lent, move_returned}
use Rattle.state_core.specs.Pairs.{next_pair}
use Rattle.state_core.specs.Rounds.{round_begun}
use Rattle.state_core.specs.ZoneState.{ZoneState}
use Rattle.fewest_core.specs.FewestMoves.{Move, move_of}
use Rattle.fewest_core.specs.Sending.{claimed_if_moved, next_move_from, sent}
use Rattle.worker_threads.specs.Runs.{AreBlocks}
use Rattle.worker_threads.specs.declared.round.Stop.{Stop}
use Rattle.worker_threads.specs.declared.round.Stop.TheVariants as stop
use Rattle.worker_threads.specs.declared.work.Work.{Work}
use Rattle.worker_threads.specs.declared.work.Work.TheVariants.{Compact, Empty}

-- those of these runs that are left, of which the first one has a page that may go, and a frame that it goes to
abbrev pub still_left : ℕ → ZoneState → List ℕ → List ℕ
still_left size z [] = []
still_left size z (first ∷ firsts) = if is_some (next_move_from first size z) then first ∷ firsts else still_left size z firsts

-- the move of the page that goes next out of the first of these runs, if there is one
abbrev pub first_move : ℕ → ZoneState → List ℕ → Option Move
first_move size z [] = None
first_move size z (first ∷ firsts) = next_move_from first size z

-- the move of the page that goes next out of these runs, if there is one
abbrev pub move_out : ℕ → ZoneState → List ℕ → Option Move
move_out size z firsts = first_move size z (still_left size z firsts)

-- the zone after the free frames of these runs were claimed
abbrev pub runs_claimed : ℕ → List ℕ → ZoneState → ZoneState
runs_claimed size [] z = z
runs_claimed size (first ∷ firsts) z = runs_claimed size firsts (run_claimed first size z)

-- the pair of a move
abbrev pub pair_of : Move → Pair
pair_of m = record { page = m.page; source = m.source; target = m.target }

-- a block of their order can begin at each run of the work, if it has runs, in a zone of so many frames
abbrev pub AreRuns : ℕ → Work → Type 0
AreRuns frames Compact = ⊤
AreRuns frames (Empty runs) = AreBlocks frames runs

-- the zone where work begins: a round, or the runs are claimed
abbrev pub work_begun : Work → ZoneState → ZoneState
work_begun Compact z = round_begun z
work_begun (Empty runs) z = runs_claimed (2 ^ runs.order) runs.left z

-- the move of the page that is next
abbrev pub next_move : Work → ZoneState → Option Move
next_move Compact z = option_map move_of (next_pair z)
next_move (Empty runs) z = move_out (2 ^ runs.order) z runs.left

-- what is left of the work once it was looked for
abbrev pub work_left : Work → ZoneState → Work
work_left Compact z = Compact
work_left (Empty runs) z = Empty (record runs { left = still_left (2 ^ runs.order) z runs.left })

-- why a page isn't isolated, if it is refused: where no run is left there is none to isolate
abbrev pub run_refusal : List ℕ → Option ZoneError → Option ZoneError
run_refusal [] refusal = None
run_refusal (first ∷ firsts) refusal = refusal

abbrev pub work_refusal : Work → ZoneState → Option ZoneError
work_refusal Compact z = isolate_refusal z
work_refusal (Empty runs) z = run_refusal runs.left (isolate_refusal z)

-- why no more pages are isolated: as the isolation is refused, or since there is no page to isolate
abbrev pub none_found : Work → Stop
none_found Compact = stop.Met
none_found (Empty runs) = stop.NoneLeft

abbrev pub stop_for : Work → Option ZoneError → Stop
stop_for work None = none_found work
stop_for work (Some error) = stop.JournalFull

-- the zone while the page of a move is in the hands of a worker
abbrev pub page_sent : Work → ZoneState → Move → ZoneState
page_sent Compact z m = move_lent z (pair_of m)
page_sent (Empty runs) z m = sent z m

-- the zone after the next page was looked for, and sent if there is one
abbrev pub next_sent : Work → ZoneState → Option Move → ZoneState
next_sent work z None = z
next_sent work z (Some m) = page_sent work z m

-- what is lent: the page of this move, under the next serial; or there is no such move
abbrev pub Lends : Option Move → ZoneState → ZoneState → Next LentMove → Type 0
Lends found old new next.Met = found ≡ None
Lends found old new (next.Page m) = (found ≡ Some (record { page = m.page; source = m.source; target = m.target })) × (m.serial ≡ isolated old.records) × IsLentMove new m

-- the zone after the move of a page ended whose words were lent: of a run that is emptied, the frame that the page left is claimed
abbrev pub page_ended : Work → ZoneState → ℕ → ℕ → ℕ → ZoneState
page_ended Compact z serial page source = move_returned (committed z serial page) page
page_ended (Empty runs) z serial page source = claimed_if_moved (ended_as z page) (move_returned (committed z serial page) page) source
