-- A collector that has a zone alone goes on as a reservation by hand does: it takes blocks, and runs rounds that move pages.
use Rattle.std.proofs.Common.{◌≡◌, ℕ, zero, suc, ◌+◌, ◌-◌, ◌<◌, ◌≤◌, Bool, true, false, if◌then◌else◌, List, [], ◌∷◌, ◌++◌, length, refl, sym, ap, subst, ◌∙◌, arith, append_assoc, length-append, Option, Some, None, unwrap_or, zero-add}
use Rattle.std.proofs.lemmas.Bool.Decides.{nat_tests}
use Rattle.frame_core.specs.Moves.{isolated, out}
use Rattle.zone_core.specs.Alone.{IsAtRest}
use Rattle.zone_core.specs.ByHand.{by_hand}
use Rattle.zone_core.specs.Outcome.{IsSame}
use Rattle.round_core.specs.Rounds.{stop_by_hand}
use Rattle.round_core.specs.declared.round.Round.{Round}
use Rattle.state_core.specs.declared.error.ZoneError.{ZoneError}
use Rattle.state_core.specs.declared.error.ZoneError.TheVariants as zone
use Rattle.state_core.specs.HandingOut.{lowest_run, take_order_refusal, block_taken}
use Rattle.state_core.specs.Valid.{IsValidZone}
use Rattle.state_core.specs.ZoneState.{ZoneState}
use Rattle.huge_core.specs.ByHand.{Reservation, stopped, with_block, with_round, lowest_first, lowest_taken, asked, taking, moves, idle_stop, reserved_by_hand, frames_of, after, HasFilled}
use Rattle.huge_core.specs.Huge.{Huge}
use Rattle.huge_core.specs.declared.report.Stop.TheVariants.{JournalFull}
use native.Mathlib.Numerals.{unary_clauses}
use Rattle.huge_core.proofs.SameByHand.{AreSame, are_same_refl, are_same_trans, same_after, same_with_round, rest_same, rest_by_hand, where_none, reserved_is, reserved_same}

-- a block that is taken

-- the zone has no page that is moving then either
pub rest_block : (z z_new : ZoneState) (frame order : ℕ) → z_new ≡ block_taken z frame order → IsValidZone z_new
    → IsAtRest z → IsAtRest z_new
rest_block z z_new frame order taken law rest = record {
  valid = law;
  none_out = ap (λ (v : ZoneState). out v.records) taken ∙ rest.none_out;
}

frames_push : (got : List (Option Huge)) (huge : Huge) → frames_of (got ++ Some huge ∷ []) ≡ frames_of got ++ huge.frame ∷ []
frames_push [] huge = refl
frames_push (Some block ∷ got) huge = ap (λ (fs : List ℕ). block.frame ∷ fs) (frames_push got huge)
frames_push (None ∷ got) huge = frames_push got huge

after_block : (got : List (Option Huge)) (huge : Huge) (ran : ℕ) (rest : Reservation)
    → after (frames_of got) ran (with_block huge.frame rest) ≡ after (frames_of (got ++ Some huge ∷ [])) ran rest
after_block got huge ran rest =
    let frames : frames_of got ++ (huge.frame ∷ rest.frames) ≡ frames_of (got ++ Some huge ∷ []) ++ rest.frames =
    sym (append_assoc (frames_of got) (huge.frame ∷ []) rest.frames)
    ∙ ap (λ (fs : List ℕ). fs ++ rest.frames) (sym (frames_push got huge)) in
    λ i. record { frames = frames i; rounds = ran + rest.rounds; stop = rest.stop; zone = rest.zone }

module _ (order : ℕ) where
  taking_one : (left : ℕ) (z : ZoneState) (frame : ℕ) (none : ℕ → ZoneState → Reservation)
      → take_order_refusal z order ≡ None → lowest_run z order ≡ Some frame
      → taking order (suc left) z none ≡ with_block frame (taking order left (block_taken z frame order) none)
  taking_one left z frame none accepted lowest = λ i.
      let first = unwrap_or (lowest i) 0 in
      let one = with_block first (taking order left (block_taken z first order) none) in
      asked (accepted i) one (stopped JournalFull z) (none (suc left) z)

  module _ (n : ℕ) (z z_new : ZoneState) (huge : Huge) (accepted : take_order_refusal z order ≡ None)
      (lowest : lowest_run z order ≡ Some huge.frame) (taken : z_new ≡ block_taken z huge.frame order) where
    filled_one : (got : List (Option Huge)) (left : ℕ) → n - length got ≡ suc left → n - length (got ++ Some huge ∷ []) ≡ left
        → HasFilled order n z z_new got (got ++ Some huge ∷ [])
    filled_one got left before behind ran none =
        let frames = frames_of got in
        let frames_new = frames_of (got ++ Some huge ∷ []) in
        ap (λ (k : ℕ). after frames ran (taking order k z none)) before
        ∙ ap (after frames ran) (taking_one left z huge.frame none accepted lowest)
        ∙ after_block got huge ran (taking order left (block_taken z huge.frame order) none)
        ∙ (λ i. after frames_new ran (taking order (sym behind i) (sym taken i) none))

    -- the zone hands out a block that is wanted
    pub filled_more : (start : ZoneState) (had got got_new : List (Option Huge)) → length got < n → got_new ≡ got ++ Some huge ∷ []
        → HasFilled order n start z had got → HasFilled order n start z_new had got_new
    filled_more start had got got_new fewer pushed filled ran none =
        let count = length-append got (Some huge ∷ []) in
        let one = filled_one got (n - (length got + 1)) (omega arith) (omega (arith, count)) in
        filled ran none ∙ one ran none
        ∙ ap (λ (g : List (Option Huge)). after (frames_of g) ran (taking order (n - length g) z_new none)) (sym pushed)

-- what is left of a reservation by hand where a block is refused

taking_refused : (order left : ℕ) (z : ZoneState) (none : ℕ → ZoneState → Reservation) (error : ZoneError)
    → 0 < left → take_order_refusal z order ≡ Some error → (rest : Reservation)
    → ((taken : Reservation) → asked (Some error) taken (stopped JournalFull z) (none left z) ≡ rest) → taking order left z none ≡ rest
taking_refused order zero z none error some refused rest is = absurd (omega arith)
taking_refused order (suc left) z none error some refused rest is =
    let taken = with_block (lowest_first z order) (taking order left (lowest_taken z order) none) in
    ap (λ (o : Option ZoneError). asked o taken (stopped JournalFull z) (none (suc left) z)) refused ∙ is taken

module _ (order rounds left : ℕ) (z : ZoneState) (some : 0 < left) where
  -- the journal has no place for it
  pub where_full : take_order_refusal z order ≡ Some zone.JournalFull → reserved_by_hand order rounds left z ≡ stopped JournalFull z
  where_full refused =
      reserved_is order rounds left z
      ∙ taking_refused order left z (where_none order rounds) zone.JournalFull some refused (stopped JournalFull z) (λ taken. refl)

  -- no block is free
  pub where_none_free : take_order_refusal z order ≡ Some zone.NoBlock
      → reserved_by_hand order rounds left z ≡ where_none order rounds left z
  where_none_free refused =
      reserved_is order rounds left z
      ∙ taking_refused order left z (where_none order rounds) zone.NoBlock some refused (where_none order rounds left z) (λ taken. refl)

module _ (order rounds left : ℕ) (z : ZoneState) (some : 0 < left) (refused : take_order_refusal z order ≡ Some zone.NoBlock) where
  by_moves : (b : Bool) → moves z ≡ b → reserved_by_hand order (suc rounds) left z
      ≡ with_round (if b then reserved_by_hand order rounds left (by_hand z) else stopped (idle_stop (stop_by_hand z)) (by_hand z))
  by_moves b is =
      let on = reserved_by_hand order rounds left (by_hand z) in
      let idle = stopped (idle_stop (stop_by_hand z)) (by_hand z) in
      where_none_free order (suc rounds) left z some refused ∙ ap (λ (b : Bool). with_round (if b then on else idle)) is

  -- a round moves a page
  pub where_moves : moves z ≡ true
      → reserved_by_hand order (suc rounds) left z ≡ with_round (reserved_by_hand order rounds left (by_hand z))
  where_moves = by_moves true

  -- a round moves none
  pub where_idle : moves z ≡ false
      → reserved_by_hand order (suc rounds) left z ≡ with_round (stopped (idle_stop (stop_by_hand z)) (by_hand z))
  where_idle = by_moves false

pub after_round : (frames : List ℕ) (ran : ℕ) (rest : Reservation) → after frames ran (with_round rest) ≡ after frames (ran + 1) rest
after_round frames ran rest =
    let rounds : ran + (rest.rounds + 1) ≡ ran + 1 + rest.rounds = omega arith in
    λ i. record { frames = frames ++ rest.frames; rounds = rounds i; stop = rest.stop; zone = rest.zone }

-- between two rounds

-- the collector got these blocks and ran so many rounds, and the reservation by hand goes on as from the zone as it is now
pub record IsUnderWayByHand (order n : ℕ) (start : ZoneState) (got : List (Option Huge)) (ran : ℕ) (now : ZoneState) : Type 0 where
  pub rest : IsAtRest now
  pub same : (rounds : ℕ) → AreSame (reserved_by_hand order (ran + rounds) n start)
      (after (frames_of got) ran (reserved_by_hand order rounds (n - length got) now))

module _ (order n : ℕ) (start : ZoneState) where
  pub begun_by_hand : IsAtRest start → IsUnderWayByHand order n start [] 0 start
  begun_by_hand rest = record {
    rest = rest;
    same = λ rounds. simp (zero-add, unary_clauses) (are_same_refl (reserved_by_hand order rounds n start));
  }

  module _ (now next : ZoneState) (got : List (Option Huge)) (ran : ℕ) where
    -- it takes blocks
    pub filled_by_hand : (got_new : List (Option Huge)) → HasFilled order n now next got got_new → (IsAtRest now → IsAtRest next)
        → IsUnderWayByHand order n start got ran now → IsUnderWayByHand order n start got_new ran next
    filled_by_hand got_new filled rests was = record {
      rest = rests was.rest;
      same = λ rounds.
          let before = reserved_is order rounds (n - length got) now in
          let behind = reserved_is order rounds (n - length got_new) next in
          subst (AreSame (reserved_by_hand order (ran + rounds) n start))
          (ap (after (frames_of got) ran) before ∙ filled ran (where_none order rounds) ∙ ap (after (frames_of got_new) ran) (sym behind))
          (was.same rounds);
    }

    -- it runs a round that moves a page
    pub ran_by_hand : 3 ≤ order → order ≤ 9 → length got < n → take_order_refusal now order ≡ Some zone.NoBlock → moves now ≡ true
        → IsSame (by_hand now) next → IsValidZone next
        → IsUnderWayByHand order n start got ran now → IsUnderWayByHand order n start got (ran + 1) next
    ran_by_hand low high fewer refused moved same valid was =
        let hand = rest_by_hand now was.rest in
        let rests = rest_same (by_hand now) next hand valid same in
        record {
          rest = rests;
          same = λ rounds.
              let left = n - length got in
              let frames = frames_of got in
              let whole = reserved_by_hand order (ran + 1 + rounds) n start in
              let rest = reserved_by_hand order rounds left (by_hand now) in
              let rest_next = reserved_by_hand order rounds left next in
              let more : ran + suc rounds ≡ ran + 1 + rounds = omega arith in
              let behind : AreSame whole (after frames ran (with_round rest)) =
              rw (more, where_moves order rounds left now (omega arith) refused moved) at (was.same (suc rounds)) in
              let on : AreSame (after frames ran (with_round rest)) (after frames ran (with_round rest_next)) =
              same_after frames ran (with_round rest) (with_round rest_next)
              (same_with_round rest rest_next (reserved_same order low high rounds left (by_hand now) next hand rests same)) in
              subst (AreSame whole) (after_round frames ran rest_next)
              (are_same_trans whole (after frames ran (with_round rest)) (after frames ran (with_round rest_next)) behind on);
        }

-- a round that put no page back moves those that a round by hand isolates
module _ (now : ZoneState) (r : Round) (count : isolated now.records + r.count ≡ isolated (by_hand now).records) (none : r.back ≡ 0)
    (sum : r.moved + r.back ≡ r.count) where
  pub round_moves : (r.moved ≡ 0 → ⊥) → moves now ≡ true
  round_moves moved = grind (arith, nat_tests)

  pub round_idles : r.moved ≡ 0 → moves now ≡ false
  round_idles idle = grind (arith, nat_tests)
