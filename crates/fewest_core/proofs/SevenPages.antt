-- What the words of the law say of a small zone.
use Rattle.std.proofs.Common.{◌≡◌, ◌≢◌, ℕ, zero, suc, ◌+◌, ◌*◌, ◌/◌, ◌<◌, ◌≤◌, Bool, true, false, not, ◌&&◌, ◌||◌, cond, eqb, List, [], ◌∷◌, take, sum, inl, inr, refl, sym, ap, ◌∙◌, arith}
use Rattle.std.specs.Prelude.{Option, Some, None, nat_eq, slice_index}
use Rattle.std.specs.FinMap as map
use Rattle.std.specs.FinSet as set
use Rattle.std.specs.Ordering.{nat_cmp}
use Rattle.std.proofs.lemmas.Bool.{or_from, cond-true, cond-false, and_right}
use Rattle.std.proofs.lemmas.Bool.Decides.{eqb_tells}
use Rattle.frame_core.proofs.Searches.{none_some, some_same}
use Rattle.frame_core.specs.Below.{count_from, some_below}
use Rattle.frame_core.specs.History.{pins}
use Rattle.state_core.proofs.Entries.{get_insert_same, get_insert_other}
use Rattle.state_core.specs.Packed.{free_runs, whole_runs}
use Rattle.state_core.specs.Pairs.{is_marked, can_move, is_free_unmarked}
use Rattle.state_core.specs.ZoneState.{ZoneState, frame_count, takes_up, covers, is_used, is_held}
use Rattle.state_core.specs.declared.placement.Placement.{Placement}
use Rattle.state_core.specs.declared.placement.Placement.TheVariants.{At}
use Rattle.fewest_core.specs.Example.{frame_list, placed, example, example_move}
use Rattle.fewest_core.specs.FewestMoves.{costs, costs_below, has_to_stay, is_moving, is_immovable, is_shut, is_open, cost, least, IsMove, after_move}
use Rattle.fewest_core.proofs.Moves.{page_there, others_same}

-- where no number from m on passes, it is enough to search below m
some_first : (p : ℕ → Bool) (m rest : ℕ) → ((k : ℕ) → m ≤ k → p k ≡ false) → some_below p (m + rest) ≡ some_below p m
some_first p m zero none = let same : m + 0 ≡ m = omega arith in ap (some_below p) same
some_first p m (suc rest) none =
    let same : m + suc rest ≡ suc (m + rest) = omega arith in
    let fails : p (m + rest) ≡ false = none (m + rest) (omega arith) in
    ap (some_below p) same ∙ ap (λ (b : Bool). b || some_below p (m + rest)) fails ∙ some_first p m rest none

each_of_seven : (P : ℕ → Type 0) → P 0 → P 1 → P 2 → P 3 → P 4 → P 5 → P 6 → (page : ℕ) → page < 7 → P page
each_of_seven P a b c d e f g zero h = a
each_of_seven P a b c d e f g (suc zero) h = b
each_of_seven P a b c d e f g (suc (suc zero)) h = c
each_of_seven P a b c d e f g (suc (suc (suc zero))) h = d
each_of_seven P a b c d e f g (suc (suc (suc (suc zero)))) h = e
each_of_seven P a b c d e f g (suc (suc (suc (suc (suc zero))))) h = f
each_of_seven P a b c d e f g (suc (suc (suc (suc (suc (suc zero)))))) h = g
each_of_seven P a b c d e f g (suc (suc (suc (suc (suc (suc (suc page))))))) h = absurd (omega arith)

and_true : (b : Bool) → (b && true) ≡ b
and_true true = refl
and_true false = refl

not_not : (b : Bool) → not (not b) ≡ b
not_not true = refl
not_not false = refl

module _ (frames : ℕ → ℕ) where
  placed_here : (n page : ℕ) → page < n → map.get (placed frames n) page ≡ Some (At (frames page))
  placed_here zero page h = absurd (omega arith)
  placed_here (suc n) page h = elim (eqb_tells page n) [
    | inl same ↦ get_insert_same (placed frames n) n page (At (frames n)) same.1 ∙ ap (λ (k : ℕ). Some (At (frames k))) (sym same.1)
    | inr other ↦ get_insert_other (placed frames n) n page (At (frames n)) other.1 ∙ placed_here n page (omega (arith, other.1))
  ]

  placed_past : (n page : ℕ) → n ≤ page → map.get (placed frames n) page ≡ None
  placed_past zero page h = map.get-empty nat_cmp page
  placed_past (suc n) page h = let ne : page ≢ n = omega arith in get_insert_other (placed frames n) n page (At (frames n)) ne ∙ placed_past n page (omega arith)

-- a zone of one pageblock with seven pages, each in a frame; page 3 alone may not be taken, no block is handed out, and nothing is claimed or marked
record HasSeven (z : ZoneState) (frames : ℕ → ℕ) : Type 0 where
  one : z.blocks ≡ 1
  here : (page : ℕ) → page < 7 → map.get z.placement page ≡ Some (At (frames page))
  past : (page : ℕ) → 7 ≤ page → map.get z.placement page ≡ None
  given : z.handed_out ≡ map.empty
  unclaimed : z.claimed ≡ set.empty
  marks : z.marked ≡ set.empty
  pinned : (page : ℕ) → page < 7 → can_move z page ≡ not (nat_eq page 3)

module _ (z : ZoneState) (frames : ℕ → ℕ) (seven : HasSeven z frames) where
  size_is : frame_count z ≡ 512
  size_is = ap (λ (blocks : ℕ). 512 * blocks) seven.one

  abbrev used_by_seven : ℕ → Bool
  used_by_seven frame = some_below (λ page. nat_eq frame (frames page)) 7

  used_is : (frame : ℕ) → is_used z frame ≡ used_by_seven frame
  used_is frame =
      ap (some_below (λ page. takes_up (map.get z.placement page) frame)) size_is
      ∙ some_first (λ page. takes_up (map.get z.placement page) frame) 7 505 (λ k h. ap (λ (o : Option Placement). takes_up o frame) (seven.past k h))
      ∙ some_same (λ page. nat_eq frame (frames page)) (λ page. takes_up (map.get z.placement page) frame) 7 (λ k h. sym (ap (λ (o : Option Placement). takes_up o frame) (seven.here k h)))

  held_is : (frame : ℕ) → is_held z frame ≡ false
  held_is frame = or_from _ _
      (none_some (λ first. covers (map.get z.handed_out first) first frame) (frame_count z) (λ first h. ap (λ (blocks : map.FinMap nat_cmp ℕ). covers (map.get blocks first) first frame) seven.given ∙ ap (λ (o : Option ℕ). covers o first frame) (map.get-empty nat_cmp first)))
      (ap (λ (claims : set.FinSet nat_cmp). set.contains claims frame) seven.unclaimed ∙ set.contains-empty nat_cmp frame)

  marked_is : (frame : ℕ) → is_marked z frame ≡ false
  marked_is frame = ap (λ (marks : set.FinSet nat_cmp). set.contains marks (frame / 512)) seven.marks ∙ set.contains-empty nat_cmp (frame / 512)

  free_is : (frame : ℕ) → is_free_unmarked z frame ≡ not (used_by_seven frame)
  free_is frame = (λ i. not (marked_is frame i) && (not (used_is frame i) && not (held_is frame i))) ∙ and_true (not (used_by_seven frame))

  abbrev immovable_by_seven : ℕ → Bool
  immovable_by_seven frame = some_below (λ page. nat_eq page 3 && nat_eq frame (frames page)) 7

  immovable_at : (frame page : ℕ) → page < 7 → (has_to_stay z page && takes_up (map.get z.placement page) frame) ≡ (nat_eq page 3 && nat_eq frame (frames page))
  immovable_at frame page h = (λ i. (is_moving (seven.here page h i) || not (seven.pinned page h i)) && takes_up (seven.here page h i) frame) ∙ ap (λ (b : Bool). b && nat_eq frame (frames page)) (not_not (nat_eq page 3))

  immovable_is : (frame : ℕ) → is_immovable z frame ≡ immovable_by_seven frame
  immovable_is frame =
      ap (some_below (λ page. has_to_stay z page && takes_up (map.get z.placement page) frame)) size_is
      ∙ some_first (λ page. has_to_stay z page && takes_up (map.get z.placement page) frame) 7 505 (λ k h. and_right (has_to_stay z k) _ (ap (λ (o : Option Placement). takes_up o frame) (seven.past k h)))
      ∙ some_same (λ page. nat_eq page 3 && nat_eq frame (frames page)) (λ page. has_to_stay z page && takes_up (map.get z.placement page) frame) 7 (λ k h. sym (immovable_at frame k h))

  shut_is : (frame : ℕ) → is_shut z frame ≡ immovable_by_seven frame
  shut_is frame = λ i. marked_is frame i || (held_is frame i || immovable_is frame i)

-- the pages of the example are in their frames
seven_now : HasSeven example (slice_index frame_list)
seven_now = record {
  one = refl;
  here = placed_here (slice_index frame_list) 7;
  past = placed_past (slice_index frame_list) 7;
  given = refl;
  unclaimed = refl;
  marks = refl;
  pinned = each_of_seven (λ page. can_move example page ≡ not (nat_eq page 3)) (can 0) (can 1) (can 2) (can 3) (can 4) (can 5) (can 6);
} where
  can : (page : ℕ) → can_move example page ≡ (nat_eq (pins example.records page) 0 && true)
  can page = ap (λ (b : Bool). nat_eq (pins example.records page) 0 && not b) (set.contains-empty nat_cmp page)

-- the costs of four runs of 128 frames, by what is used and what is shut
abbrev costs_by : (ℕ → Bool) → (ℕ → Bool) → List ℕ
costs_by used shut = costs_below (λ run. nat_eq (count_from shut (128 * run) 128) 0) (λ run. count_from used (128 * run) 128) 4

pub costs_are : costs example 128 ≡ 1 ∷ 2 ∷ 3 ∷ []
unfolding count_from
costs_are = λ i. costs_by (λ frame. used_is example (slice_index frame_list) seven_now frame i) (λ frame. shut_is example (slice_index frame_list) seven_now frame i)

pub pinned_shuts : (cost example 128 1 ≡ 1) × (is_open example 128 1 ≡ false)
unfolding count_from
pinned_shuts = (
  λ i. count_from (λ frame. used_is example (slice_index frame_list) seven_now frame i) 128 128,
  λ i. nat_eq (count_from (λ frame. shut_is example (slice_index frame_list) seven_now frame i) 128 128) 0,
)

pub least_are : (least 1 example 128 ≡ 1) × (least 2 example 128 ≡ 3) × (least 3 example 128 ≡ 6)
least_are = (ap (λ (xs : List ℕ). sum (take 1 xs)) costs_are, ap (λ (xs : List ℕ). sum (take 2 xs)) costs_are, ap (λ (xs : List ℕ). sum (take 3 xs)) costs_are)

pub may_move : IsMove example example_move
may_move = record {
  known = omega arith;
  here = placed_here (slice_index frame_list) 7 4 (omega arith);
  movable = seven_now.pinned 4 (omega arith);
  within = omega arith;
  vacant = free_is example (slice_index frame_list) seven_now 200;
}

-- the frames of the pages after the move
frames_after : ℕ → ℕ
frames_after page = cond (eqb page 4) 200 (slice_index frame_list page)

seven_after : HasSeven (after_move example example_move) frames_after
unfolding frames_after
seven_after = record {
  one = refl;
  here = λ page h. elim (eqb_tells page 4) [
    | inl same ↦
        ap (map.get (after_move example example_move).placement) same.1
        ∙ page_there example example_move
        ∙ ap (λ (k : ℕ). Some (At k)) (sym (cond-true (eqb page 4) 200 (slice_index frame_list page) same.0))
    | inr other ↦
        others_same example example_move page other.1
        ∙ placed_here (slice_index frame_list) 7 page h
        ∙ ap (λ (k : ℕ). Some (At k)) (sym (cond-false (eqb page 4) 200 (slice_index frame_list page) other.0))
  ];
  past = λ page h. let ne : page ≢ 4 = omega arith in others_same example example_move page ne ∙ placed_past (slice_index frame_list) 7 page h;
  given = refl;
  unclaimed = refl;
  marks = refl;
  pinned = seven_now.pinned;
}

pub runs_freed : (free_runs example 128 ≡ 0) × (free_runs (after_move example example_move) 128 ≡ 1)
unfolding count_from frames_after
runs_freed = (
  λ i. whole_runs (λ frame. free_is example (slice_index frame_list) seven_now frame i) 128 4,
  λ i. whole_runs (λ frame. free_is (after_move example example_move) frames_after seven_after frame i) 128 4,
)
