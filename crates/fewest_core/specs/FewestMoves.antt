-- What it costs to make aligned runs of a zone free by moves alone, and which moves may be made. `Example.antt` has a small zone
-- on which these words are worked out.
use Rattle.std.specs.Prelude.{◌≡◌, ℕ, zero, suc, ◌*◌, ◌/◌, ◌<◌, Bool, true, false, not, ◌&&◌, ◌||◌, if◌then◌else◌, List, [], ◌∷◌, nat_eq, nat_le, take, ⊤, Option, Some, None}
use Rattle.std.specs.List.{sum}
use Rattle.std.specs.FinMap as map
use Rattle.frame_core.specs.Below.{count_from, some_below, sum_below}
use Rattle.frame_core.specs.Moves.{isolated}
use Rattle.frame_core.specs.declared.record.Record.TheVariants.{Isolate, Moved}
use Rattle.state_core.specs.Carrying.{relocated}
use Rattle.state_core.specs.Packed.{places_now, IsPlacement}
use Rattle.state_core.specs.Pairs.{is_marked, can_move, is_free_unmarked}
use Rattle.state_core.specs.ZoneState.{ZoneState, frame_count, takes_up, is_used, is_held}
use Rattle.state_core.specs.declared.placement.Placement.{Placement}
use Rattle.state_core.specs.declared.placement.Placement.TheVariants.{At, Moving}
use Rattle.state_core.specs.declared.round.Pair.{Pair}

-- how many aligned runs of `size` frames a zone has: run 0 begins at frame 0, run 1 at frame `size`, and so on
abbrev pub run_count : ZoneState → ℕ → ℕ
run_count z size = frame_count z / size

-- whether a page with this placement is moving
abbrev pub is_moving : Option Placement → Bool
is_moving None = false
is_moving (Some (At frame)) = false
is_moving (Some (Moving serial source target)) = true

-- whether a page has to stay: it is moving, has a pin, or was mapped as unmovable
abbrev pub has_to_stay : ZoneState → ℕ → Bool
has_to_stay z page = is_moving (map.get z.placement page) || not (can_move z page)

-- whether a frame is immovable: a page that has to stay takes it up
abbrev pub is_immovable : ZoneState → ℕ → Bool
is_immovable z frame = some_below (λ page. has_to_stay z page && takes_up (map.get z.placement page) frame) (frame_count z)

-- whether a frame is shut: it is in a marked pageblock, handed out, or immovable
abbrev pub is_shut : ZoneState → ℕ → Bool
is_shut z frame = is_marked z frame || (is_held z frame || is_immovable z frame)

-- whether a run is open: no frame of it is shut
abbrev pub is_open : ZoneState → ℕ → ℕ → Bool
is_open z size run = nat_eq (count_from (is_shut z) (size * run) size) 0

-- what a run costs: how many of its frames are taken up by a page
abbrev pub cost : ZoneState → ℕ → ℕ → ℕ
cost z size run = count_from (is_used z) (size * run) size

-- a list in order, the least first, with one more number at its place
abbrev pub inserted : ℕ → List ℕ → List ℕ
inserted x [] = x ∷ []
inserted x (y ∷ ys) = if nat_le x y then x ∷ y ∷ ys else y ∷ inserted x ys

-- the costs of those runs that pass, of the first n, in order
abbrev pub costs_below : (ℕ → Bool) → (ℕ → ℕ) → ℕ → List ℕ
costs_below passes cost_at zero = []
costs_below passes cost_at (suc n) = if passes n then inserted (cost_at n) (costs_below passes cost_at n) else costs_below passes cost_at n

-- the costs of the open runs of a zone, in order
abbrev pub costs : ZoneState → ℕ → List ℕ
costs z size = costs_below (is_open z size) (cost z size) (run_count z size)

-- the least that n open runs cost together: the sum of the n least costs
abbrev pub least : ℕ → ZoneState → ℕ → ℕ
least n z size = sum (take n (costs z size))

-- what those of the first n runs cost together that are chosen
abbrev pub cost_below : (ℕ → Bool) → (ℕ → ℕ) → ℕ → ℕ
cost_below chosen cost_at n = sum_below (λ run. if chosen run then cost_at run else 0) n

-- what the chosen runs of a zone cost together
abbrev pub cost_of : (ℕ → Bool) → ZoneState → ℕ → ℕ
cost_of chosen z size = cost_below chosen (cost z size) (run_count z size)

-- a move: a page, the frame that it leaves, and the frame that it comes to
pub record Move : Type 0 where
  pub page : ℕ
  pub source : ℕ
  pub target : ℕ

-- the move of a pair, as a round takes it
abbrev pub move_of : Pair → Move
move_of pair = record { page = pair.page; source = pair.source; target = pair.target }

-- a move may be made: the page is in its source and may be taken from it, and the target is a free frame of an unmarked pageblock
pub record IsMove (z : ZoneState) (m : Move) : Type 0 where
  pub known : m.page < frame_count z
  pub here : map.get z.placement m.page ≡ Some (At m.source)
  pub movable : can_move z m.page ≡ true
  pub within : m.target < frame_count z
  pub vacant : is_free_unmarked z m.target ≡ true

-- the zone while the page of a move is moving: it was isolated under the next serial
abbrev pub under_way : ZoneState → Move → ZoneState
under_way z m = relocated z (Isolate m.page (isolated z.records)) m.page (Moving (isolated z.records) m.source m.target)

-- the zone after a move: the page was isolated, and was moved to its target
abbrev pub after_move : ZoneState → Move → ZoneState
after_move z m = relocated (under_way z m) (Moved (isolated z.records)) m.page (At m.target)

-- the zone after these moves, the first one first
abbrev pub after_moves : ZoneState → List Move → ZoneState
after_moves z [] = z
after_moves z (m ∷ moves) = after_moves (after_move z m) moves

-- each of these moves may be made, after those before it
abbrev pub AreMoves : ZoneState → List Move → Type 0
AreMoves z [] = ⊤
AreMoves z (m ∷ moves) = IsMove z m × AreMoves (after_move z m) moves

-- whether both frames are there, and they are two
abbrev pub is_apart : Option ℕ → Option ℕ → Bool
is_apart (Some a) (Some b) = not (nat_eq a b)
is_apart _ _ = false

-- whether a page is in a frame now, and would be in another one if the pages had this placement
abbrev pub is_elsewhere : ZoneState → (ℕ → Option ℕ) → ℕ → Bool
is_elsewhere z place page = is_apart (places_now z page) (place page)

-- a placement of the pages in which each page that has to stay keeps its frame; while a page is moving there is none
pub record IsRearranged (z : ZoneState) (place : ℕ → Option ℕ) : Type 0 where
  pub placed : IsPlacement z place
  pub stay : (page : ℕ) → has_to_stay z page ≡ true → place page ≡ places_now z page
