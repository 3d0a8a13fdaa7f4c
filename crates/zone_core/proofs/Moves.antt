-- A round over two zones that are the same goes alike: it begins, isolates pages, and ends their moves.
use Rattle.std.proofs.Common.{◌≡◌, ℕ, ◌+◌, ◌-◌, ◌*◌, Bool, true, false, cond, List, [], ◌∷◌, length, refl, sym, ap, subst, ◌∙◌, nat_eq, nat_lt, Option, Some, None}
use Rattle.std.specs.FinMap as map
use Rattle.frame_core.specs.declared.record.Cause.{Cause}
use Rattle.frame_core.specs.declared.record.Cause.TheVariants.{Pinned}
use Rattle.frame_core.specs.declared.record.Record.{Record}
use Rattle.frame_core.specs.declared.record.Record.TheVariants.{Isolate, Moved, Back}
use Rattle.frame_core.specs.History.{pins}
use Rattle.frame_core.specs.Moves.{isolated, out, page_of, put_back, without}
use Rattle.state_core.specs.declared.error.ZoneError.TheVariants.{JournalFull}
use Rattle.state_core.specs.declared.moves.Ended.TheVariants as ended
use Rattle.state_core.specs.declared.placement.Placement.{Placement}
use Rattle.state_core.specs.declared.placement.Placement.TheVariants.{At, Moving}
use Rattle.state_core.specs.declared.round.Pair.{Pair}
use Rattle.state_core.specs.Carrying.{relocated}
use Rattle.state_core.specs.Ending.{source_of, target_of, ended_as, moved_to_target, put_back_to_source, committed}
use Rattle.state_core.specs.Isolating.{isolate_refusal, next_state}
use Rattle.state_core.specs.Pairs.{stands_in, next_pair}
use Rattle.state_core.specs.Rounds.{round_begun}
use Rattle.state_core.specs.ZoneState.{ZoneState, takes_up}
use Rattle.zone_core.specs.Outcome.{without_ends, IsSame}
use Rattle.zone_core.proofs.Records.{isolated_same}
use Rattle.zone_core.specs.Fingers.{IsSameInRound}
use Rattle.zone_core.specs.Alone.{IsSeenAs}
use Rattle.zone_core.proofs.Same.{pins_same, noted_same, with_books, with_fingers}
use Rattle.zone_core.proofs.Scanner.{pair_same}

-- the page of a serial without the ends of moves
page_of-without_ends : (rs : List Record) (s : ℕ) → page_of (without_ends rs) s ≡ page_of rs s
page_of-without_ends [] s = refl
page_of-without_ends (Isolate page serial ∷ rs) s = ap (cond (nat_eq serial s) (Some page)) (page_of-without_ends rs s)
page_of-without_ends (_ ∷ rs) s = page_of-without_ends rs s

module _ (z w : ZoneState) (same : IsSame z w) where
  pub page_of_agrees : (serial : ℕ) → page_of z.records serial ≡ page_of w.records serial
  page_of_agrees serial = sym (page_of-without_ends z.records serial) ∙ ap (λ rs. page_of rs serial) same.records ∙ page_of-without_ends w.records serial

  -- a round that begins sets the fingers of both alike
  pub begun_agrees : IsSameInRound (round_begun z) (round_begun w)
  begun_agrees = record { same = with_fingers z w same; migrate = refl; free = ap (λ n. 512 * n) same.blocks }

  pub isolate_agrees : isolate_refusal z ≡ isolate_refusal w
  isolate_agrees = λ i. cond (nat_lt (length (same.out_is i) + 1) (same.room i)) None (Some JournalFull)

  pub ended_agrees : (page : ℕ) → ended_as z page ≡ ended_as w page
  ended_agrees page = λ i. cond (nat_eq (pins_same z w same page i) 0) ended.Moved ended.Back

  -- one more record of a move, and another placement of its page
  relocated_agrees : (entry entry' : Record) (page : ℕ) (p p' : Placement) → p ≡ p' → without_ends (entry ∷ z.records) ≡ without_ends (entry' ∷ w.records)
      → put_back (entry ∷ z.records) ≡ put_back (entry' ∷ w.records) → out (entry ∷ z.records) ≡ out (entry' ∷ w.records) → IsSame (relocated z entry page p) (relocated w entry' page p')
  relocated_agrees entry entry' page p p' placed rs back outs =
      with_books _ _ (noted_same z w same entry entry' rs back outs) (λ i. map.insert (same.placement i) page (placed i)) same.unmovable same.marked same.handed_out same.contents

  moved_agrees : (serial page : ℕ) → IsSame (moved_to_target z serial page) (moved_to_target w serial page)
  moved_agrees serial page =
      relocated_agrees (Moved serial) (Moved serial) page _ _ (λ i. At (target_of (map.get (same.placement i) page)))
      same.records same.back (ap (without serial) same.out_is)

  pub put_back_agrees : (serial page : ℕ) (cause : Cause) → IsSame (put_back_to_source z serial page cause) (put_back_to_source w serial page cause)
  put_back_agrees serial page cause =
      relocated_agrees (Back cause serial) (Back cause serial) page _ _ (λ i. At (source_of (map.get (same.placement i) page)))
      same.records (ap (λ n. n + 1) same.back) (ap (without serial) same.out_is)

  pub committed_agrees : (serial page : ℕ) → IsSame (committed z serial page) (committed w serial page)
  committed_agrees serial page = by (nat_eq (pins z.records page) 0) (nat_eq (pins w.records page) 0) (ap (λ n. nat_eq n 0) (pins_same z w same page)) where
    by : (b c : Bool) → b ≡ c → IsSame (cond b (moved_to_target z serial page) (put_back_to_source z serial page Pinned))
        (cond c (moved_to_target w serial page) (put_back_to_source w serial page Pinned))
    by true true e = moved_agrees serial page
    by false false e = put_back_agrees serial page Pinned
    by _ _ e = cc

-- a call that leaves both fingers as they are
pub record LeavesFingers (z after : ZoneState) : Type 0 where
  pub migrate : after.migrate ≡ z.migrate
  pub free : after.free ≡ z.free

pub committed_leaves : (z : ZoneState) (serial page : ℕ) → LeavesFingers z (committed z serial page)
committed_leaves z serial page = by (nat_eq (pins z.records page) 0) where
  by : (b : Bool) → LeavesFingers z (cond b (moved_to_target z serial page) (put_back_to_source z serial page Pinned))
  by true = record { migrate = refl; free = refl }
  by false = record { migrate = refl; free = refl }

-- where the fingers stand alike too
module _ (z w : ZoneState) (alike : IsSameInRound z w) where
  -- they still do after such a call
  pub stays_in_round : (z' w' : ZoneState) → IsSame z' w' → LeavesFingers z z' → LeavesFingers w w' → IsSameInRound z' w'
  stays_in_round z' w' same left right = record {
    same = same;
    migrate = left.migrate ∙ alike.migrate ∙ sym right.migrate;
    free = left.free ∙ alike.free ∙ sym right.free;
  }

  pub committed_in_round : (serial page : ℕ) → IsSameInRound (committed z serial page) (committed w serial page)
  committed_in_round serial page = stays_in_round _ _ (committed_agrees z w alike.same serial page) (committed_leaves z serial page) (committed_leaves w serial page)

  pub put_back_in_round : (serial page : ℕ) (cause : Cause) → IsSameInRound (put_back_to_source z serial page cause) (put_back_to_source w serial page cause)
  put_back_in_round serial page cause = record { same = put_back_agrees z w alike.same serial page cause; migrate = alike.migrate; free = alike.free }

  -- the scanner can't tell them apart, so the next pair is the same
  seen : IsSeenAs z w
  seen = record {
    blocks = alike.same.blocks;
    migrate = alike.migrate;
    free = alike.free;
    stands = λ page frame low high. ap (λ m. stands_in (map.get m page) frame) alike.same.placement;
    takes = λ page frame low high. ap (λ m. takes_up (map.get m page) frame) alike.same.placement;
    marked = alike.same.marked;
    claimed = alike.same.claimed;
    handed_out = alike.same.handed_out;
    unmovable = alike.same.unmovable;
    pins_are = pins_same z w alike.same;
    count = isolated_same z w alike.same;
    spare = λ i. alike.same.room i - length (alike.same.out_is i);
  }

  pub pair_agrees : next_pair z ≡ next_pair w
  pair_agrees = pair_same z w seen

  -- and its page is isolated

  pub next_agrees : (pair : Option Pair) → IsSameInRound (next_state z pair) (next_state w pair)
  next_agrees None = alike
  next_agrees (Some pair) =
      let serial = isolated_same z w alike.same in
      let there = relocated_agrees z w alike.same (Isolate pair.page (isolated z.records)) (Isolate pair.page (isolated w.records)) pair.page _ _
      (λ i. Moving (serial i) pair.source pair.target) (λ i. Isolate pair.page (serial i) ∷ alike.same.records i) alike.same.back (λ i. serial i ∷ alike.same.out_is i) in
      record { same = with_fingers _ _ there; migrate = refl; free = refl }

  pub isolated_agrees : IsSameInRound (next_state z (next_pair z)) (next_state w (next_pair w))
  isolated_agrees = subst (λ pair. IsSameInRound (next_state z (next_pair z)) (next_state w pair)) pair_agrees (next_agrees (next_pair z))
