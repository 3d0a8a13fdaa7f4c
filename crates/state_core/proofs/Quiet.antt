-- How one more record changes whether the latest round is quiet.
use Rattle.std.proofs.Common.{◌≡◌, ℕ, suc, ◌-◌, ◌≤◌, true, false, List, ◌∷◌, length, take, inl, inr, refl, sym, ap, ◌∙◌, arith, Option, Some, None, ◌&&◌}
use Rattle.std.specs.List.{list_all}
use Rattle.std.proofs.Math.Bool.{and-true}
use Rattle.std.proofs.lemmas.Bool.{and_right, both_ways, cases_Bool}
use Rattle.frame_core.specs.declared.record.Record.{Record}
use Rattle.state_core.specs.declared.round.RoundStart.{RoundStart}
use Rattle.state_core.specs.Valid.{IsValidZone, HasValidFingers}
use Rattle.state_core.specs.Pairs.{is_calm}
use Rattle.state_core.specs.Rounds.{round_begun}
use Rattle.state_core.specs.Swept.{SweptIfQuiet}
use Rattle.state_core.specs.ZoneState.{ZoneState, frame_count, noted, keeps_quiet, since, is_quiet, is_quiet_since}

since_more : (n : ℕ) (entry : Record) (records : List Record) → n ≤ length records → since n (entry ∷ records) ≡ entry ∷ since n records
since_more n entry records h =
    let e : suc (length records) - n ≡ suc (length records - n) = omega arith in
    ap (λ (k : ℕ). take k (entry ∷ records)) e

module _ (records : List Record) (entry : Record) where
  pub quiet_kept : (o : Option RoundStart) → keeps_quiet entry ≡ true → ((start : RoundStart) → o ≡ Some start → start.records ≤ length records) → is_quiet_since (entry ∷ records) o ≡ is_quiet_since records o
  quiet_kept None keeps begun = refl
  quiet_kept (Some start) keeps begun =
      ap (λ (rs : List Record). start.calm && list_all keeps_quiet rs) (since_more start.records entry records (begun start refl))
      ∙ ap (λ b. start.calm && (b && list_all keeps_quiet (since start.records records))) keeps

  pub quiet_ended : (o : Option RoundStart) → keeps_quiet entry ≡ false → ((start : RoundStart) → o ≡ Some start → start.records ≤ length records) → is_quiet_since (entry ∷ records) o ≡ false
  quiet_ended None ends begun = refl
  quiet_ended (Some start) ends begun =
      ap (λ (rs : List Record). start.calm && list_all keeps_quiet rs) (since_more start.records entry records (begun start refl))
      ∙ and_right start.calm _ (ap (λ b. b && list_all keeps_quiet (since start.records records)) ends)

  pub quiet_next : (o : Option RoundStart) → ((start : RoundStart) → o ≡ Some start → start.records ≤ length records) → is_quiet_since (entry ∷ records) o ≡ (is_quiet_since records o && keeps_quiet entry)
  quiet_next o begun = elim (cases_Bool (keeps_quiet entry)) [
    | inl keeps ↦ quiet_kept o keeps begun ∙ sym (ap (λ b. is_quiet_since records o && b) keeps ∙ and-true _)
    | inr ends ↦ quiet_ended o ends begun ∙ sym (and_right (is_quiet_since records o) _ ends)
  ]

-- a round that began with no more records than there are began so after one more record too
pub begun_more : (records : List Record) (entry : Record) (o : Option RoundStart) → ((start : RoundStart) → o ≡ Some start → start.records ≤ length records) → (start : RoundStart) → o ≡ Some start → start.records ≤ length (entry ∷ records)
begun_more records entry o begun start e = omega (arith, begun start e)

-- a round since which no call was made is quiet exactly where it began calm
pub quiet_begun : (records : List Record) (start : RoundStart) → start.records ≡ length records → start.calm ≡ is_quiet_since records (Some start)
quiet_begun records start here =
    let none : length records - start.records ≡ 0 = omega arith in
    sym (ap (λ (n : ℕ). start.calm && list_all keeps_quiet (take n records)) none ∙ and-true start.calm)

-- a round that just began is quiet exactly where it is calm
pub quiet_is_calm : (v : ZoneState) → is_quiet (round_begun v) ≡ is_calm v
quiet_is_calm v = sym (quiet_begun v.records (record { records = length v.records; calm = is_calm v }) refl)

-- the records of a load, a store, an isolation and a move leave a quiet round quiet, and each other record ends that
pub quiet_noted : (v : ZoneState) → IsValidZone v → (entry : Record) → is_quiet (noted v entry) ≡ (is_quiet v && keeps_quiet entry)
quiet_noted v law entry = quiet_next v.records entry v.round law.fingers.begun

-- a call whose record ends the quiet does so whatever else it changes
module _ (v next : ZoneState) (entry : Record) (law : IsValidZone v) where
  pub quiet_stops : keeps_quiet entry ≡ false → next.records ≡ entry ∷ v.records → next.round ≡ v.round → is_quiet next ≡ false
  quiet_stops ends records round = (λ i. is_quiet_since (records i) (round i)) ∙ quiet_ended v.records entry v.round ends law.fingers.begun

  pub swept_ended : keeps_quiet entry ≡ false → next.records ≡ entry ∷ v.records → next.round ≡ v.round → SweptIfQuiet next
  swept_ended ends records round quiet = absurd (both_ways _ (quiet_stops ends records round) quiet)

  -- the fingers are valid after such a call, where it leaves them in order
  pub fingers_ended : (next.migrate ≤ next.free) × (next.free ≤ frame_count next) → keeps_quiet entry ≡ false → next.records ≡ entry ∷ v.records → next.round ≡ v.round → HasValidFingers next
  fingers_ended ordered ends records round = record {
    ordered = ordered;
    begun = λ start e. (let before = law.fingers.begun start (sym round ∙ e) in omega (arith, before, ap (λ (rs : List Record). length rs) records));
    swept = swept_ended ends records round;
  }

-- a round that is quiet after such a record was quiet before
pub quiet_before : (v : ZoneState) (entry : Record) → IsValidZone v → keeps_quiet entry ≡ true → is_quiet_since (entry ∷ v.records) v.round ≡ true → is_quiet v ≡ true
quiet_before v entry law keeps quiet = sym (quiet_kept v.records entry v.round keeps law.fingers.begun) ∙ quiet
