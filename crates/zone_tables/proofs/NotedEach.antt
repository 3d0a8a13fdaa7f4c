-- The records of an access to several words, noted at once: they are those noted one after the other, and leave a quiet round quiet.
use Rattle.std.proofs.Common.{◌≡◌, ℕ, ◌+◌, ◌-◌, ◌≤◌, true, List, [], ◌∷◌, length, refl, ap, ◌∙◌, arith}
use Rattle.std.specs.Prelude.{Option, Some}
use Rattle.frame_core.specs.declared.place.Address.{Address}
use Rattle.frame_core.specs.declared.access.Access.{Access}
use Rattle.frame_core.specs.declared.access.AccessKind.{AccessKind}
use Rattle.frame_core.specs.declared.access.AccessKind.TheVariants as kind
use Rattle.frame_core.specs.declared.record.Record.{Record}
use Rattle.frame_core.specs.Access.{access_record, with_each}
use Rattle.state_core.specs.declared.round.RoundStart.{RoundStart}
use Rattle.state_core.specs.ZoneState.{keeps_quiet, is_quiet_since}
use Rattle.state_core.proofs.Quiet.{begun_more, quiet_kept}
use Rattle.zone_tables.specs.History.{History, told, told_each}

pub each_is : (of : ℕ → ℕ → Record) (h : History) (word : ℕ) (values : List ℕ) → told_each of h word values ≡ record h { records = with_each of word values h.records; room = h.room - length values }
each_is of h word [] = let same : h.room ≡ h.room - 0 = omega arith in ap (λ (n : ℕ). record h { room = n }) same
each_is of h word (value ∷ values) =
    let same : h.room - 1 - length values ≡ h.room - length (value ∷ values) = omega arith in
    each_is of (told h (of word value)) (word + 1) values ∙ ap (λ (n : ℕ). record h { records = with_each of word (value ∷ values) h.records; room = n }) same

access_keeps : (k : AccessKind) (client : ℕ) (address : Address) (word value : ℕ) → keeps_quiet (access_record (record { kind = k; client = client; address = address }) word value) ≡ true
access_keeps kind.Load client address word value = refl
access_keeps kind.Store client address word value = refl

module _ (access : Access) (round : Option RoundStart) where
  pub each_quiet : (word : ℕ) (values : List ℕ) (records : List Record) → ((start : RoundStart) → round ≡ Some start → start.records ≤ length records) → is_quiet_since (with_each (access_record access) word values records) round ≡ is_quiet_since records round
  each_quiet word [] records begun = refl
  each_quiet word (value ∷ values) records begun =
      let entry = access_record access word value in
      each_quiet (word + 1) values (entry ∷ records) (begun_more records entry round begun)
      ∙ quiet_kept records entry round (access_keeps access.kind access.client access.address word value) begun

  pub each_begun : (word : ℕ) (values : List ℕ) (records : List Record) → ((start : RoundStart) → round ≡ Some start → start.records ≤ length records) → (start : RoundStart) → round ≡ Some start → start.records ≤ length (with_each (access_record access) word values records)
  each_begun word [] records begun = begun
  each_begun word (value ∷ values) records begun =
      each_begun (word + 1) values (access_record access word value ∷ records) (begun_more records (access_record access word value) round begun)
