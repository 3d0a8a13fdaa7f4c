-- What a move does to a zone: it frees one frame at most, and shuts and opens none.
use Rattle.std.proofs.Common.{◌≡◌, ◌≢◌, ℕ, ◌+◌, ◌*◌, ◌/◌, ◌<◌, ◌≤◌, Bool, true, false, not, ◌&&◌, ◌||◌, eqb, List, [], ◌∷◌, length, inl, inr, refl, sym, ap, ◌∙◌, arith}
use Rattle.std.specs.Prelude.{Option, Some}
use Rattle.std.specs.FinMap as map
use Rattle.std.proofs.lemmas.Bool.{and_parts, or_from, not-true, eq-eqb, eqb-true, both_ways, and_right, and_from, cases_Bool}
use Rattle.std.proofs.lemmas.Bool.Decides.{eqb_tells}
use Rattle.frame_core.proofs.Searches.{some_at, some_one, some_none, none_some, some_same}
use Rattle.frame_core.specs.Below.{count_below, count_from}
use Rattle.frame_core.specs.Moves.{isolated, moved}
use Rattle.state_core.proofs.Entries.{get_insert_same, get_insert_other}
use Rattle.state_core.proofs.Packing.{count_mono}
use Rattle.state_core.proofs.Runs.{is_run, runs_most}
use Rattle.state_core.specs.Packed.{free_runs, unmarked_free}
use Rattle.state_core.specs.Pairs.{is_marked, can_move, is_free_unmarked}
use Rattle.state_core.specs.ZoneState.{ZoneState, frame_count, takes_up, is_used, is_held, is_free}
use Rattle.state_core.specs.declared.placement.Placement.{Placement}
use Rattle.state_core.specs.declared.placement.Placement.TheVariants.{At, Moving}
use Rattle.fewest_core.specs.FewestMoves.{run_count, cost, costs, cost_below, is_moving, has_to_stay, is_immovable, is_shut, is_open, least, Move, IsMove, under_way, after_move, after_moves, AreMoves}
use Rattle.fewest_core.proofs.Costs.{cheapest, enough_open}
use Rattle.fewest_core.proofs.Counts.{one_less, none_beside, none_chosen, count_swapped}

-- the page of a move is in its target
pub page_there : (z : ZoneState) (m : Move) → map.get (after_move z m).placement m.page ≡ Some (At m.target)
page_there z m = get_insert_same (under_way z m).placement m.page m.page (At m.target) refl

-- the other pages are where they were
pub others_same : (z : ZoneState) (m : Move) (q : ℕ) → q ≢ m.page → map.get (after_move z m).placement q ≡ map.get z.placement q
others_same z m q ne = get_insert_other (under_way z m).placement m.page q (At m.target) ne ∙ get_insert_other z.placement m.page q (Moving (isolated z.records) m.source m.target) ne

-- a used frame other than the source stays used
pub stays_used : (z : ZoneState) (m : Move) → IsMove z m → (frame : ℕ) → frame ≢ m.source → is_used z frame ≡ true → is_used (after_move z m) frame ≡ true
stays_used z m is frame ne used = by_page (some_one (λ page. takes_up (map.get z.placement page) frame) (frame_count z) used) where
  by_page : (q : ℕ) × (q < frame_count z) × (takes_up (map.get z.placement q) frame ≡ true) → is_used (after_move z m) frame ≡ true
  by_page w = elim (eqb_tells w.0 m.page) [
    | inl same ↦
        (let there : takes_up (map.get z.placement m.page) frame ≡ true = ap (λ (q : ℕ). takes_up (map.get z.placement q) frame) (sym same.1) ∙ w.2 in
        let at : eqb frame m.source ≡ true = ap (λ (o : Option Placement). takes_up o frame) (sym is.here) ∙ there in
        absurd (ne (eqb-true frame m.source at)))
    | inr other ↦ some_at (λ page. takes_up (map.get (after_move z m).placement page) frame) (frame_count z) w.0 w.1 (ap (λ (o : Option Placement). takes_up o frame) (others_same z m w.0 other.1) ∙ w.2)
  ]

-- whether a page has to stay and takes a frame up, by its placement and whether it may be taken
abbrev keeps : Option Placement → Bool → ℕ → Bool
keeps o can frame = (is_moving o || not can) && takes_up o frame

keeps_same : (z : ZoneState) (m : Move) → IsMove z m → (frame q : ℕ) → keeps (map.get z.placement q) (can_move z q) frame ≡ keeps (map.get (after_move z m).placement q) (can_move z q) frame
keeps_same z m is frame q = elim (eqb_tells q m.page) [
  | inl same ↦
      (let can : can_move z q ≡ true = ap (can_move z) same.1 ∙ is.movable in
      let was : map.get z.placement q ≡ Some (At m.source) = ap (map.get z.placement) same.1 ∙ is.here in
      let now : map.get (after_move z m).placement q ≡ Some (At m.target) = get_insert_same (under_way z m).placement m.page q (At m.target) same.1 in
      let before : keeps (map.get z.placement q) (can_move z q) frame ≡ false = λ i. keeps (was i) (can i) frame in
      let later : keeps (map.get (after_move z m).placement q) (can_move z q) frame ≡ false = λ i. keeps (now i) (can i) frame in
      before ∙ sym later)
  | inr other ↦ ap (λ (o : Option Placement). keeps o (can_move z q) frame) (sym (others_same z m q other.1))
]

pub shut_once : (z : ZoneState) (m : Move) → IsMove z m → (frame : ℕ) → is_shut (after_move z m) frame ≡ is_shut z frame
shut_once z m is frame = ap (λ (s : Bool). is_marked z frame || (is_held z frame || s))
    (some_same (λ q. keeps (map.get z.placement q) (can_move z q) frame) (λ q. keeps (map.get (after_move z m).placement q) (can_move z q) frame) (frame_count z) (λ q h. keeps_same z m is frame q))

shut_same : (z : ZoneState) (moves : List Move) → AreMoves z moves → (frame : ℕ) → is_shut (after_moves z moves) frame ≡ is_shut z frame
shut_same z [] are frame = refl
shut_same z (m ∷ moves) are frame = shut_same (after_move z m) moves are.1 frame ∙ shut_once z m are.0 frame

frames_same : (z : ZoneState) (moves : List Move) → frame_count (after_moves z moves) ≡ frame_count z
frames_same z [] = refl
frames_same z (m ∷ moves) = frames_same (after_move z m) moves

pub free_unused : (z : ZoneState) (frame : ℕ) → is_free_unmarked z frame ≡ true → is_used z frame ≡ false
free_unused z frame free = not-true _ (and_parts (not (is_used z frame)) (not (is_held z frame)) (and_parts (not (is_marked z frame)) (is_free z frame) free).1).0

-- a frame that no page takes up isn't immovable
pub unused_movable : (z : ZoneState) (frame : ℕ) → is_used z frame ≡ false → is_immovable z frame ≡ false
unused_movable z frame unused = none_some (λ page. has_to_stay z page && takes_up (map.get z.placement page) frame) (frame_count z) (λ page h. and_right (has_to_stay z page) (takes_up (map.get z.placement page) frame)
    (some_none (λ q. takes_up (map.get z.placement q) frame) (frame_count z) unused page h))

free_open : (z : ZoneState) (frame : ℕ) → is_free_unmarked z frame ≡ true → is_shut z frame ≡ false
free_open z frame free =
    let parts = and_parts (not (is_marked z frame)) (is_free z frame) free in
    let inner = and_parts (not (is_used z frame)) (not (is_held z frame)) parts.1 in
    or_from (is_marked z frame) _ (not-true _ parts.0) (or_from (is_held z frame) _ (not-true _ inner.1) (unused_movable z frame (free_unused z frame free)))

-- whether all frames of a run are free frames of unmarked pageblocks
abbrev pub is_empty : ZoneState → ℕ → ℕ → Bool
is_empty z = is_run (is_free_unmarked z)

all_free : (z : ZoneState) (size run : ℕ) → is_empty z size run ≡ true → count_from (is_free_unmarked z) (size * run) size ≡ size
all_free z size run is = eqb-true _ size is

moves_pay : (size runs : ℕ) (z : ZoneState) (moves : List Move) (chosen : ℕ → Bool) → AreMoves z moves → ((run : ℕ) → chosen run ≡ true → is_empty (after_moves z moves) size run ≡ true) → cost_below chosen (cost z size) runs ≤ length moves
moves_pay size runs z [] chosen are empty = omega (arith, none_chosen (is_used z) chosen size runs (λ run is. none_beside (is_used z) (is_free_unmarked z) (size * run) size (free_unused z) (all_free z size run (empty run is))))
moves_pay size runs z (m ∷ moves) chosen are empty = omega (
  arith,
  one_less chosen (is_used z) (is_used (after_move z m)) m.source size (λ run frame is low high. stays_used z m are.0 frame) runs,
  moves_pay size runs (after_move z m) moves chosen are.1 empty,
)

opened_before : (z : ZoneState) (moves : List Move) → AreMoves z moves → (size run : ℕ) → is_empty (after_moves z moves) size run ≡ true → is_open z size run ≡ true
opened_before z moves are size run is = eq-eqb _ 0 (none_beside (is_shut z) (is_free_unmarked (after_moves z moves)) (size * run) size
    (λ frame free. sym (shut_same z moves are frame) ∙ free_open (after_moves z moves) frame free) (all_free (after_moves z moves) size run is))

free_runs_are : (size : ℕ) (z : ZoneState) (moves : List Move) → free_runs (after_moves z moves) size ≡ count_below (is_empty (after_moves z moves) size) (run_count z size)
free_runs_are size z moves = ap (λ (frames : ℕ). count_below (is_empty (after_moves z moves) size) (frames / size)) (frames_same z moves)

pub fewest : (size n : ℕ) (z : ZoneState) (moves : List Move) → AreMoves z moves → n ≤ free_runs (after_moves z moves) size → least n z size ≤ length moves
fewest size n z moves are enough =
    let chosen = is_empty (after_moves z moves) size in
    let fewer : n ≤ count_below chosen (run_count z size) = omega (arith, free_runs_are size z moves, enough) in
    omega (arith, moves_pay size (run_count z size) z moves chosen are (λ run is. is), cheapest (is_open z size) (cost z size) chosen (opened_before z moves are size) n (run_count z size) fewer)

-- as many runs as moves can make free are open
pub possible : (size : ℕ) (z : ZoneState) (moves : List Move) → AreMoves z moves → free_runs (after_moves z moves) size ≤ length (costs z size)
possible size z moves are =
    omega (arith, free_runs_are size z moves, enough_open (is_open z size) (cost z size) (is_empty (after_moves z moves) size) (opened_before z moves are size) (run_count z size))

pub stays_free : (z : ZoneState) (m : Move) → IsMove z m → (frame : ℕ) → frame ≢ m.source → is_free_unmarked (after_move z m) frame ≡ true → is_free_unmarked z frame ≡ true
stays_free z m is frame ne free =
    let parts = and_parts (not (is_marked z frame)) (is_free (after_move z m) frame) free in
    let inner = and_parts (not (is_used (after_move z m) frame)) (not (is_held z frame)) parts.1 in
    let unused : is_used z frame ≡ false = elim (cases_Bool (is_used z frame)) [
      | inl used ↦ absurd (both_ways _ (not-true _ inner.0) (stays_used z m is frame ne used))
      | inr none ↦ none
    ] in
    and_from (not (is_marked z frame)) (is_free z frame) parts.0 (and_from (not (is_used z frame)) (not (is_held z frame)) (ap not unused) inner.1)

pub used_at : (z : ZoneState) (page frame : ℕ) → page < frame_count z → map.get z.placement page ≡ Some (At frame) → is_used z frame ≡ true
used_at z page frame known at = some_at (λ q. takes_up (map.get z.placement q) frame) (frame_count z) page known (ap (λ (o : Option Placement). takes_up o frame) at ∙ eq-eqb frame frame refl)

pub used_not_free : (z : ZoneState) (frame : ℕ) → is_used z frame ≡ true → is_free_unmarked z frame ≡ false
used_not_free z frame used = elim (cases_Bool (is_free_unmarked z frame)) [
  | inl free ↦ absurd (both_ways _ (free_unused z frame free) used)
  | inr none ↦ none
]

pub target_used : (z : ZoneState) (m : Move) → IsMove z m → is_used (after_move z m) m.target ≡ true
target_used z m is = used_at (after_move z m) m.page m.target is.known (page_there z m)

pub target_not_source : (z : ZoneState) (m : Move) → IsMove z m → m.target ≢ m.source
target_not_source z m is same = both_ways _ (free_unused z m.target is.vacant) (ap (is_used z) same ∙ used_at z m.page m.source is.known is.here)

-- a move leaves no more frames free
free_once : (z : ZoneState) (m : Move) → IsMove z m → unmarked_free (after_move z m) ≤ unmarked_free z
free_once z m is = count_swapped (is_free_unmarked (after_move z m)) (is_free_unmarked z) (frame_count z) m.source m.target is.within
    (target_not_source z m is) (used_not_free (after_move z m) m.target (target_used z m is)) is.vacant (stays_free z m is)

free_after : (z : ZoneState) (moves : List Move) → AreMoves z moves → unmarked_free (after_moves z moves) ≤ unmarked_free z
free_after z [] are = omega arith
free_after z (m ∷ moves) are = omega (arith, free_after (after_move z m) moves are.1, free_once z m are.0)

-- runs that are free have no more frames than were free before the moves
pub fits : (size : ℕ) (z : ZoneState) (moves : List Move) → 0 < size → AreMoves z moves → size * free_runs (after_moves z moves) size ≤ unmarked_free z
fits size z moves some are =
    let v = after_moves z moves in
    let fit : size * run_count v size ≤ frame_count v = omega arith in
    omega (arith, runs_most (is_free_unmarked v) size (run_count v size), count_mono (is_free_unmarked v) (size * run_count v size) (frame_count v) fit, free_after z moves are)

-- the journal has a record of each move
pub recorded : (z : ZoneState) (moves : List Move) → moved (after_moves z moves).records ≡ moved z.records + length moves
recorded z [] = omega arith
recorded z (m ∷ moves) = omega (arith, recorded (after_move z m) moves)
