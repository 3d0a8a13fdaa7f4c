-- Reservations by hand over zones that are the same leave the same.
use Rattle.std.proofs.Common.{◌≡◌, ℕ, zero, suc, ◌+◌, ◌-◌, ◌≤◌, Bool, true, false, cond, nat_lt, List, ◌∷◌, ◌++◌, length, refl, sym, ap, ◌∙◌, arith, Option, Some, None, unwrap_or, if◌then◌else◌, rules}
use Rattle.std.proofs.lemmas.Bool.Decides.{nat_tests}
use Rattle.frame_core.specs.Moves.{out}
use Rattle.zone_core.proofs.ByHand.{moving_isolated, moving_all, none_by_hand, outcome_all}
use Rattle.zone_core.proofs.Records.{isolated_same}
use Rattle.zone_core.specs.Alone.{IsAtRest}
use Rattle.zone_core.specs.ByHand.{all_isolated, by_hand}
use Rattle.zone_core.specs.Outcome.{Outcome, IsSame}
use Rattle.zone_core.proofs.Calls.{take_agrees, run_agrees, taken_agrees}
use Rattle.zone_core.proofs.RoundsKept.{by_hand_agrees}
use Rattle.round_core.specs.Rounds.{stop_for, stop_by_hand}
use Rattle.state_core.specs.declared.error.ZoneError.{ZoneError}
use Rattle.state_core.specs.declared.error.ZoneError.TheVariants.{JournalFull as JournalIsFull}
use Rattle.state_core.specs.HandingOut.{take_order_refusal}
use Rattle.state_core.specs.Valid.{IsValidZone}
use Rattle.state_core.specs.ZoneState.{ZoneState, frame_count}
use Rattle.state_core.proofs.Calls.{call_valid}
use Rattle.state_core.specs.declared.call.ZoneCall.TheVariants.{TakeOrder}
use Rattle.huge_core.specs.ByHand.{Reservation, stopped, with_block, with_round, lowest_first, lowest_taken, asked, taking, moves, idle_stop, reserved_by_hand, after}
use Rattle.huge_core.specs.declared.report.Stop.{Stop}
use Rattle.huge_core.specs.declared.report.Stop.TheVariants.{Enough, Rounds, JournalFull}

-- zones that are the same

pub same_refl : (z : ZoneState) → IsSame z z
same_refl z = search rules

pub same_sym : (z w : ZoneState) → IsSame z w → IsSame w z
same_sym z w same = search rules

pub same_trans : (z w v : ZoneState) → IsSame z w → IsSame w v → IsSame z v
same_trans z w v a b = search rules

pub rest_same : (z w : ZoneState) → IsAtRest z → IsValidZone w → IsSame z w → IsAtRest w
rest_same z w rest law same = record { valid = law; none_out = sym same.out_is ∙ rest.none_out }

-- reservations that leave the same

pub record AreSame (a b : Reservation) : Type 0 where
  pub frames : a.frames ≡ b.frames
  pub rounds : a.rounds ≡ b.rounds
  pub stop : a.stop ≡ b.stop
  pub zone : IsSame a.zone b.zone

pub are_same_refl : (a : Reservation) → AreSame a a
are_same_refl a = record { frames = refl; rounds = refl; stop = refl; zone = same_refl a.zone }

pub are_same_trans : (a b c : Reservation) → AreSame a b → AreSame b c → AreSame a c
are_same_trans a b c s t = record {
  frames = s.frames ∙ t.frames;
  rounds = s.rounds ∙ t.rounds;
  stop = s.stop ∙ t.stop;
  zone = same_trans a.zone b.zone c.zone s.zone t.zone;
}

pub same_after : (frames : List ℕ) (ran : ℕ) (a b : Reservation) → AreSame a b → AreSame (after frames ran a) (after frames ran b)
same_after frames ran a b s = record {
  frames = ap (λ (fs : List ℕ). frames ++ fs) s.frames;
  rounds = ap (λ (n : ℕ). ran + n) s.rounds;
  stop = s.stop;
  zone = s.zone;
}

same_with_block : (frame frame' : ℕ) (a b : Reservation) → frame ≡ frame' → AreSame a b
    → AreSame (with_block frame a) (with_block frame' b)
same_with_block frame frame' a b e s = record {
  frames = λ i. e i ∷ s.frames i;
  rounds = s.rounds;
  stop = s.stop;
  zone = s.zone;
}

pub same_with_round : (a b : Reservation) → AreSame a b → AreSame (with_round a) (with_round b)
same_with_round a b s = record { frames = s.frames; rounds = ap (λ (n : ℕ). n + 1) s.rounds; stop = s.stop; zone = s.zone }

same_stopped : (stop stop' : Stop) (z w : ZoneState) → stop ≡ stop' → IsSame z w → AreSame (stopped stop z) (stopped stop' w)
same_stopped stop stop' z w e same = record { frames = refl; rounds = refl; stop = e; zone = same }

same_cond : (b : Bool) (on idle on' idle' : Reservation) → AreSame on on' → AreSame idle idle'
    → AreSame (cond b on idle) (cond b on' idle')
same_cond true on idle on' idle' s t = s
same_cond false on idle on' idle' s t = t

same_asked : (o : Option ZoneError) (taken full none taken' full' none' : Reservation)
    → (o ≡ None → AreSame taken taken') → AreSame full full' → AreSame none none'
    → AreSame (asked o taken full none) (asked o taken' full' none')
same_asked None taken full none taken' full' none' s t u = s refl
same_asked (Some JournalIsFull) taken full none taken' full' none' s t u = t
same_asked (Some _) taken full none taken' full' none' s t u = u

-- of zones that are the same, in which no page is moving, the same comes
abbrev pub Agrees : (ZoneState → Reservation) → Type 0
Agrees f = (z w : ZoneState) → IsAtRest z → IsAtRest w → IsSame z w → AreSame (f z) (f w)

-- a round by hand

pub rest_by_hand : (z : ZoneState) → IsAtRest z → IsAtRest (by_hand z)
rest_by_hand z rest = record {
  valid = (moving_all (frame_count z) (all_isolated z) (moving_isolated z rest)).law;
  none_out = none_by_hand z rest;
}

-- the places that the journal has left once each move of a round by hand has ended
room_by_hand : (z : ZoneState) → IsAtRest z → (by_hand z).room ≡ (all_isolated z).room - length (out (all_isolated z).records)
room_by_hand z rest =
    let same : (by_hand z).room - length (out (by_hand z).records) ≡ (all_isolated z).room - length (out (all_isolated z).records) =
    ap (λ (o : Outcome). o.room) (outcome_all (frame_count z) (all_isolated z) (moving_isolated z rest)) in
    let none : length (out (by_hand z).records) ≡ 0 = ap length (none_by_hand z rest) in
    omega (arith, same, none)

two_left : (room out room' out' : ℕ) → room - out ≡ room' - out' → nat_lt (out + 1) room ≡ nat_lt (out' + 1) room'
two_left room out room' out' e = grind (arith, nat_tests)

module _ (z w : ZoneState) (rest_z : IsAtRest z) (rest_w : IsAtRest w) (same : IsSame z w) where
  pub by_hand_same : IsSame (by_hand z) (by_hand w)
  by_hand_same = by_hand_agrees z w rest_z rest_w same

  moves_same : moves z ≡ moves w
  moves_same = λ i. nat_lt (isolated_same z w same i) (isolated_same (by_hand z) (by_hand w) by_hand_same i)

  pub stop_same : stop_by_hand z ≡ stop_by_hand w
  stop_same =
      let left = sym (room_by_hand z rest_z) ∙ by_hand_same.room ∙ room_by_hand w rest_w in
      let of_z = all_isolated z in
      let of_w = all_isolated w in
      let two = two_left of_z.room (length (out of_z.records)) of_w.room (length (out of_w.records)) left in
      λ i. stop_for (if two i then None else Some JournalIsFull)

-- a block that is taken

module _ (order : ℕ) (low : 3 ≤ order) (high : order ≤ 9) where
  pub rest_taken : (z : ZoneState) → IsAtRest z → take_order_refusal z order ≡ None → IsAtRest (lowest_taken z order)
  rest_taken z rest accepted = record { valid = call_valid 8 (TakeOrder order) 0 z rest.valid (low, high) accepted; none_out = rest.none_out }

  taken_same : (z w : ZoneState) → IsSame z w → IsSame (lowest_taken z order) (lowest_taken w order)
  taken_same z w same =
      rw (← run_agrees z w same order) (taken_agrees z w same (lowest_first z order) order)

  taking_same : (none : ℕ → ZoneState → Reservation) → ((left : ℕ) → Agrees (none left)) → (n : ℕ) → Agrees (λ z. taking order n z none)
  taking_same none agrees zero z w rest_z rest_w same = same_stopped Enough Enough z w refl same
  taking_same none agrees (suc n) z w rest_z rest_w same =
      let refusal = take_agrees z w same order in
      let first : lowest_first z order ≡ lowest_first w order = ap (λ (o : Option ℕ). unwrap_or o 0) (run_agrees z w same order) in
      let on = λ (accepted : take_order_refusal z order ≡ None).
      taking_same none agrees n (lowest_taken z order) (lowest_taken w order)
      (rest_taken z rest_z accepted) (rest_taken w rest_w (sym refusal ∙ accepted)) (taken_same z w same) in
      rw (← refusal) (same_asked (take_order_refusal z order) _ _ _ _ _ _ (λ accepted. same_with_block _ _ _ _ first (on accepted))
      (same_stopped JournalFull JournalFull z w refl same) (agrees (suc n) z w rest_z rest_w same))

-- what a reservation by hand does where no block is free, by the rounds that it may run
abbrev pub where_none : (order rounds left : ℕ) → ZoneState → Reservation
where_none order zero left now = stopped Rounds now
where_none order (suc rounds) left now =
    with_round (if moves now then reserved_by_hand order rounds left (by_hand now)
    else stopped (idle_stop (stop_by_hand now)) (by_hand now))

pub reserved_is : (order rounds n : ℕ) (z : ZoneState) → reserved_by_hand order rounds n z ≡ taking order n z (where_none order rounds)
reserved_is order zero n z = refl
reserved_is order (suc rounds) n z = refl

round_same : (order rounds left : ℕ) → Agrees (reserved_by_hand order rounds left) → Agrees (where_none order (suc rounds) left)
round_same order rounds left on z w rest_z rest_w same =
    let hand = by_hand_same z w rest_z rest_w same in
    same_with_round _ _ (rw (← moves_same z w rest_z rest_w same)
    (same_cond (moves z) _ _ _ _ (on (by_hand z) (by_hand w) (rest_by_hand z rest_z) (rest_by_hand w rest_w) hand)
    (same_stopped _ _ (by_hand z) (by_hand w) (ap idle_stop (stop_same z w rest_z rest_w same)) hand)))

module _ (order : ℕ) (low : 3 ≤ order) (high : order ≤ 9) where
  pub reserved_same : (rounds n : ℕ) → Agrees (reserved_by_hand order rounds n)
  reserved_same zero n =
      taking_same order low high (where_none order zero) (λ left z w rest_z rest_w same. same_stopped Rounds Rounds z w refl same) n
  reserved_same (suc rounds) n =
      taking_same order low high (where_none order (suc rounds)) (λ left. round_same order rounds left (reserved_same rounds left)) n
