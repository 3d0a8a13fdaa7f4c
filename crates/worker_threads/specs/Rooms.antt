-- What is under the lock of a zone that workers compact, and what the calls under the lock leave of it.
use Rattle.std.specs.Prelude.{◌≡◌, ℕ, ◌+◌, ◌-◌, ◌^◌, min, Bool, true, List, [], ◌∷◌, Option, Some, None, Result, Ok, Err, slice_get, slice_set}
use Rattle.std.specs.Option.{option_map, option_and_then}
use Rattle.frame_core.specs.Moves.{isolated}
use Rattle.state_core.specs.Carrying.{words_now}
use Rattle.state_core.specs.Ending.{ended_as}
use Rattle.state_core.specs.LentMoves.{LentMove}
use Rattle.state_core.specs.ZoneState.{ZoneState}
use Rattle.state_core.specs.declared.error.ZoneError.{ZoneError}
use Rattle.state_core.specs.declared.moves.Ended.{Ended}
use Rattle.state_core.specs.declared.moves.Ended.TheVariants as ended
use Rattle.state_core.specs.declared.moves.Next.{Next}
use Rattle.state_core.specs.declared.moves.Next.TheVariants as next
use Rattle.fewest_core.specs.FewestMoves.{Move}
use Rattle.worker_threads.specs.Hands.{PageInHand}
use Rattle.worker_threads.specs.Work.{next_move, none_found, page_ended, page_sent, work_begun, work_left}
use Rattle.worker_threads.specs.declared.room.KeptHalf.{KeptHalf}
use Rattle.worker_threads.specs.declared.round.Round.{Round}
use Rattle.worker_threads.specs.declared.round.Stop.{Stop}
use Rattle.worker_threads.specs.declared.round.Stop.TheVariants as stop
use Rattle.worker_threads.specs.declared.work.Work.{Work}
use Rattle.zone_tables.specs.declared.ending.Move.{Move as Way}

-- the zone, what it keeps of each page that a worker has, by its place, the work that was begun last and what is left of it, how often work
-- was begun, whether the latest is under way, and what it did so far
pub record Room : Type 0 where
  pub zone : ZoneState
  pub kept : List (Option KeptHalf)
  pub work : Work
  pub rounds : ℕ
  pub is_under_way : Bool
  pub round : Round

-- how many rounds were begun with one more, of which 2^64 - 1 are counted at most
abbrev pub one_begun : ℕ → ℕ
one_begun rounds = min (rounds + 1) (2 ^ 64 - 1)

-- how many pages workers have
abbrev pub in_hand : List (Option KeptHalf) → ℕ
in_hand [] = 0
in_hand (None ∷ kept) = in_hand kept
in_hand (Some half ∷ kept) = in_hand kept + 1

-- the move of the page at a place, if there is one
abbrev pub way_at : List (Option KeptHalf) → ℕ → Option Way
way_at kept place = option_map (λ (k : KeptHalf). k.way) (option_and_then (λ (o : Option KeptHalf). o) (slice_get kept place))

-- a move under the next serial
abbrev pub way_of : ZoneState → Move → Way
way_of z m = record { page = m.page; serial = isolated z.records; source = m.source; target = m.target }

-- a worker got the page of a move: the zone keeps half of the right to its words
pub record Gets (place : ℕ) (old new : Room) (m : Move) (p : PageInHand) : Type 0 where
  pub half : KeptHalf
  pub way : half.way ≡ way_of old.zone m
  pub room : new ≡ record old { zone = page_sent old.work old.zone m; kept = slice_set old.kept place (Some half); work = work_left old.work old.zone; round = record old.round { isolated = old.round.isolated + 1 } }
  pub place_is : p.place ≡ place
  pub page : p.way ≡ way_of old.zone m
  pub from : p.from ≡ words_now old.zone m.page

-- a room whose round notes why no more pages are isolated
abbrev pub stopped : Room → Stop → Room
stopped r reason = record r { round = record r.round { stopped = Some reason } }

-- a room that was asked for a page, where there is none
abbrev pub none_taken : Room → Room
none_taken r = record (stopped r (none_found r.work)) { work = work_left r.work r.zone }

-- it is the page that is next, or Met where there is none
abbrev pub GetsNext : ℕ → Room → Room → Next PageInHand → Type 0
GetsNext place old new next.Met = (next_move old.work old.zone ≡ None) × (new ≡ none_taken old)
GetsNext place old new (next.Page p) = (m : Move) × (next_move old.work old.zone ≡ Some m) × Gets place old new m p

-- a round that counts an isolation, or notes why there is none: for this reason where there is no page to isolate
abbrev pub noted : Round → Stop → Result (Next LentMove) ZoneError → Round
noted round none (Ok (next.Page m)) = record round { isolated = round.isolated + 1 }
noted round none (Ok next.Met) = record round { stopped = Some none }
noted round none (Err error) = record round { stopped = Some stop.JournalFull }

-- a round that counts the end of a move
abbrev pub counted : Round → Ended → Round
counted round ended.Moved = record round { moved = round.moved + 1 }
counted round ended.Back = record round { back = round.back + 1 }

-- the room after a worker gave the copy of its page back, which is moved, or put back where it has a pin
abbrev pub page_committed : Room → ℕ → Way → Room
page_committed r place way = record r {
  zone = page_ended r.work r.zone way.serial way.page way.source;
  kept = slice_set r.kept place None;
  round = counted r.round (ended_as r.zone way.page);
}

-- a round that has done nothing
abbrev pub fresh_round : Round
fresh_round = record { isolated = 0; moved = 0; back = 0; stopped = None }

-- the room where work begins
abbrev pub work_opened : Room → Work → Room
work_opened r work = record r { zone = work_begun work r.zone; work = work; rounds = one_begun r.rounds; is_under_way = true; round = fresh_round }
