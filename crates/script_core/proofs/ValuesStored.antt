-- The values that a machine answers are those of its history.
use Rattle.std.proofs.Common.{◌≡◌, ℕ, zero, suc, ◌+◌, ◌<◌, ◌≤◌, Bool, true, false, List, [], ◌∷◌, length, refl, sym, ap, subst, ◌∙◌, arith, Option, Some, None, IsSomeAnd}
use Rattle.std.specs.Prelude.{◌&&◌, nat_lt, if◌then◌else◌, unwrap_or, IsSome}
use Rattle.std.proofs.lemmas.Option.{same_Some}
use Rattle.frame_core.specs.declared.place.Address.{Address}
use Rattle.frame_core.specs.declared.record.Record.{Record}
use Rattle.frame_core.specs.declared.record.Record.TheVariants as record_of
use Rattle.frame_core.specs.History.{last, page_at}
use Rattle.state_core.specs.declared.call.ZoneCall.{ZoneCall}
use Rattle.state_core.specs.declared.call.ZoneCall.TheVariants.{Map, MapAt, Load, Store, Share, Unmap}
use Rattle.state_core.specs.Access.{value_at}
use Rattle.state_core.specs.Calls.{refusal_of, answer_of, after}
use Rattle.state_core.specs.Valid.{IsValidZone}
use Rattle.state_core.specs.Mapping.{mapped}
use Rattle.state_core.specs.Unmapping.{is_last, unmapped, without_page}
use Rattle.state_core.specs.ZoneState.{ZoneState, frame_for, lowest_free_frame, noted}
use Rattle.state_core.proofs.Accepted.{frame_left, frame_left_at}
use Rattle.state_core.proofs.Placed.{clash}
use Rattle.machine_core.specs.World.{IsOrderly, WorldState, with_zone, world_opened}
use Rattle.text_core.specs.declared.command.Call.{Call}
use Rattle.text_core.specs.declared.command.Call.TheVariants.{Info, InfoWithHeld}
use Rattle.text_core.specs.declared.command.Calls.{Calls}
use Rattle.text_core.specs.declared.command.Calls.TheVariants.{Zone, One, Series as SeriesOf}
use Rattle.text_core.specs.declared.command.Repeated.{Repeated}
use Rattle.text_core.specs.declared.command.Command.{Command}
use Rattle.text_core.specs.declared.command.Command.TheVariants.{Open, On, Compact, Pool, During}
use Rattle.text_core.specs.declared.profile.Profile.TheVariants.{Untold}
use Rattle.text_core.specs.declared.reply.Reply.{Reply}
use Rattle.text_core.specs.declared.reply.Reply.TheVariants as reply
use Rattle.text_core.specs.Grammar.{address_of, zone_of}
use Rattle.text_core.proofs.Ranges.{IsInRange}
use Rattle.machine_core.specs.Machine.{Answered, Step, call_at, call_step, calls_step, make_step, page_step, reply_for, says, series_from, step, unless_refused, during_on}
use Rattle.text_core.specs.Script.{Numbered, commands_of, parts_of, by}
use Rattle.script_core.specs.Values.{IsLastStored, ValuesAreStored, accepted, accepted_count, called, repeated, told}
use Rattle.script_core.proofs.CallsAccepted.{accessed_page, fresh_number, mapped_is}
use Rattle.script_core.proofs.CommandsInRange.{AreInRange, commands_ranged}
use Rattle.script_core.proofs.Machines.{Goes, IsMachine, answers_by, answers_to, by_other, by_rounds, is_of_rounds, runs_rounds}
use Rattle.script_core.proofs.EitherAnswer.{unless_by}
use Rattle.script_core.proofs.Replies.{has_value, plain_call}
use Rattle.script_core.proofs.Matching.{Match, match_empty, match_mapped, match_same, match_shared, match_stored, match_unmapped}
use Rattle.script_core.proofs.PagesMoved.{LeavesCells, leaves_call}
use Rattle.script_core.proofs.Runs.{goes_by, opened_orderly}
use Rattle.script_core.proofs.Steps.{keeps_page_step}

-- an answer to a call made after this history has the value of the history, and the world after it matches the history after it
record Tells (older : List Record) (c : Calls) (a : Answered) : Type 0 where
  match : Match a.world.zone.records (called older c a.reply)
  value : (zone : ℕ) → IsLastStored older (On zone c) a.reply

refused_adds : (older : List Record) (c : Calls) (number : ℕ) → called older c (reply.Refused number) ≡ older
refused_adds older (Zone c) number = refl
refused_adds older (One c) number = refl
refused_adds older (SeriesOf s) number = refl

-- a refusal, which changes no address and no value
refuses : (older : List Record) (c : Calls) (number : ℕ) (w : WorldState) → Match w.zone.records older → Tells older c (says (reply.Refused number) w)
refuses older c number w m = record { match = subst (Match w.zone.records) (sym (refused_adds older c number)) m; value = λ zone. tt }

leaves : (older : List Record) (z after : ZoneState) → LeavesCells z after → Match z.records older → Match after.records older
leaves older z after l m = match_same z.records after.records older l.names l.words m

no_value : (older : List Record) (c : Command) (r : Reply) → has_value r ≡ false → IsLastStored older c r
no_value older c (reply.Value x) h = cc
no_value older c _ h = tt

-- a call that isn't of the zone has no value in its reply
call_has_none : (w : WorldState) (c : Call) → has_value (call_step w c).reply ≡ false
call_has_none w Info = refl
call_has_none w InfoWithHeld = refl
call_has_none w c = (plain_call w c refl).1

-- a fresh page, which no address names before
maps_fresh : (older : List Record) (z : ZoneState) (a : Address) (unmovable : Bool) (frame : ℕ) → IsValidZone z → IsSome (lowest_free_frame z) → Match z.records older → Match (mapped z 0 a unmovable frame).records (record_of.Map 0 a (length older) ∷ older)
maps_fresh older z a unmovable frame law free m =
    let fresh = fresh_number z law free in
    subst (λ (next : ZoneState). Match next.records (record_of.Map 0 a (length older) ∷ older)) (sym (mapped_is z a unmovable frame fresh.0 fresh.1))
    (match_mapped z.records older a fresh.0 (λ b e. clash _ fresh.1.unused (law.agrees.named b fresh.0 e).1) m)

unmapped_records : (z : ZoneState) (a : Address) → record_of.Unmap 0 a ∷ z.records ≡ (unmapped z 0 a).records
unmapped_records z a = by_last (is_last z a) where
  by_last : (b : Bool) → record_of.Unmap 0 a ∷ z.records ≡ (if b then without_page (noted z (record_of.Unmap 0 a)) (unwrap_or (page_at z.records a) 0) else noted z (record_of.Unmap 0 a)).records
  by_last true = refl
  by_last false = refl

-- the value of a load is the last one of the page that its address names
loaded_value : (older : List Record) (z : ZoneState) (a : Address) (word page : ℕ) → page_at z.records a ≡ Some page → Match z.records older → IsSomeAnd (page_at older a) (λ p. value_at z a word ≡ last older p word)
loaded_value older z a word page named m =
    let at = m.some a page named in
    subst (λ (o : Option ℕ). IsSomeAnd o (λ p. value_at z a word ≡ last older p word)) (sym at.1)
    (ap (λ (o : Option ℕ). last z.records (unwrap_or o 0) word) named ∙ m.words a page at.0 word named at.1)

-- an accepted call of the zone
module _ (older : List Record) (w : WorldState) (o : IsOrderly w) (m : Match w.zone.records older) where
  -- one that makes no address name another page, and stores nothing
  kept : (journal : ZoneState) → ((a : Address) → page_at journal.records a ≡ page_at w.zone.records a) → ((page word : ℕ) → last journal.records page word ≡ last w.zone.records page word) → Match journal.records older
  kept journal names words = match_same w.zone.records journal.records older names words m

  tells_accepted : (c : ZoneCall 8) → refusal_of c w.zone ≡ None → Tells older (Zone c) (says (reply_for c (answer_of c w.zone)) (with_zone w (after c 0 w.zone)))
  tells_accepted (Map a unmovable) e = record { match = maps_fresh older w.zone a unmovable (unwrap_or (frame_for w.zone unmovable) 0) o.valid (frame_left w.zone a e) m; value = λ zone. tt }
  tells_accepted (MapAt a unmovable frame) e = record { match = maps_fresh older w.zone a unmovable frame o.valid (frame_left_at w.zone a frame e) m; value = λ zone. tt }
  tells_accepted (Store a word value) e = record { match = match_stored w.zone.records older a word value m; value = λ zone. tt }
  tells_accepted (Load a word) e =
      let page = accessed_page w.zone a e in
      record { match = kept (after {W = 8} (Load a word) 0 w.zone) (λ b. refl) (λ p v. refl); value = λ zone. loaded_value older w.zone a word page.0 page.1 m }
  tells_accepted (Share a alias) e = record { match = match_shared w.zone.records older a alias m; value = λ zone. tt }
  tells_accepted (Unmap a) e = record {
    match = subst (λ (records : List Record). Match records (record_of.Unmap 0 a ∷ older)) (unmapped_records w.zone a) (match_unmapped w.zone.records older a m);
    value = λ zone. tt;
  }
  tells_accepted c e = record { match = kept (after c 0 w.zone) (λ b. refl) (λ p v. refl); value = λ zone. tt }

tells_make : (older : List Record) (w : WorldState) → IsOrderly w → Match w.zone.records older → (c : ZoneCall 8) → Tells older (Zone c) (make_step w c)
tells_make older w o m c = unless_by (Tells older (Zone c)) w (λ number. refuses older (Zone c) number w m) (refusal_of c w.zone) _ (λ e. tells_accepted older w o m c e)

tells_call : (older : List Record) (w : WorldState) → Match w.zone.records older → (c : Call) → Tells older (One c) (call_step w c)
tells_call older w m c = record {
  match = leaves older w.zone (call_step w c).world.zone (leaves_call w c) m;
  value = λ zone. no_value older (On zone (One c)) (call_step w c).reply (call_has_none w c);
}

-- the calls of a series
address_is : (s v : ℕ) (a : Address) → address_of s v ≡ Some a → record { space = s; vpage = v } ≡ a
address_is s v a e = by_test (nat_lt s 8 && nat_lt v 4096) e where
  by_test : (b : Bool) → (if b then Some (record { space = s; vpage = v }) else None) ≡ Some a → record { space = s; vpage = v } ≡ a
  by_test true e = same_Some _ a e
  by_test false e = cc

tells_at : (older : List Record) (w : WorldState) → IsOrderly w → Match w.zone.records older → (c : Repeated) (s v : ℕ) (o : Option Address) → address_of s v ≡ o → Match (page_step c w o).world.zone.records (called older (Zone (call_at c (record { space = s; vpage = v }))) (page_step c w o).reply)
tells_at older w o m c s v None e = m
tells_at older w o m c s v (Some a) e =
    subst (λ (b : Address). Match (make_step w (call_at c a)).world.zone.records (called older (Zone (call_at c b)) (make_step w (call_at c a)).reply)) (sym (address_is s v a e))
    (tells_make older w o m (call_at c a)).match

-- what a part of a series does, after `done` of its calls
record SeriesTold (c : Repeated) (s v further done : ℕ) (older : List Record) (a : Answered) : Type 0 where
  more : ℕ
  count : accepted_count a.reply ≡ done + more
  match : Match a.world.zone.records (repeated c s v further more older)
  none : has_value a.reply ≡ false

told_on : (c : Repeated) (s v further done : ℕ) (older : List Record) (r : Reply) (after : WorldState) (rest : Answered) → Match after.zone.records (called older (Zone (call_at c (record { space = s; vpage = v }))) r)
    → (Match after.zone.records (accepted older (call_at c (record { space = s; vpage = v }))) → SeriesTold c s (v + further) further (done + 1) (accepted older (call_at c (record { space = s; vpage = v }))) rest)
    → SeriesTold c s v further done older (unless_refused done r after rest)
told_on c s v further done older (reply.Refused number) after rest m go = record { more = 0; count = omega arith; match = m; none = refl }
told_on c s v further done older _ after rest m go = let t = go m in record { more = suc t.more; count = omega (arith, t.count); match = t.match; none = t.none }

tells_series : (c : Repeated) (s v further done n : ℕ) (older : List Record) (w : WorldState) → IsOrderly w → Match w.zone.records older → SeriesTold c s v further done older (series_from c s v further done n w)
tells_series c s v further done zero older w o m = record { more = 0; count = omega arith; match = m; none = refl }
tells_series c s v further done (suc n) older w o m =
    let a : Answered = page_step c w (address_of s v) in
    told_on c s v further done older a.reply a.world (series_from c s (v + further) further (done + 1) n a.world)
    (tells_at older w o m c s v (address_of s v) refl)
    (λ matched. tells_series c s (v + further) further (done + 1) n (accepted older (call_at c (record { space = s; vpage = v }))) a.world (keeps_page_step w o c s v).orderly matched)

-- what a step of the open zone does, which answers a command
record StepTold (older : List Record) (c : Command) (s : Step) : Type 0 where
  match : (after : WorldState) → s.world ≡ Some after → Match after.zone.records (told older c s.reply)
  value : IsLastStored older c s.reply

refused_nothing : (older : List Record) (c : Command) (number : ℕ) → told older c (reply.Refused number) ≡ older
refused_nothing older (On zone c) number = refused_adds older c number
refused_nothing older _ number = refl

moved_to : (v after : WorldState) (history : List Record) → Some v ≡ Some after → Match v.zone.records history → Match after.zone.records history
moved_to v after history e m = subst (λ (x : WorldState). Match x.zone.records history) (same_Some v after e) m

tells_calls : (older : List Record) (w : WorldState) → IsOrderly w → Match w.zone.records older → (c : Calls) → Tells older c (calls_step w c)
tells_calls older w o m (Zone c) = tells_make older w o m c
tells_calls older w o m (One c) = tells_call older w m c
tells_calls older w o m (SeriesOf s) =
    let t = tells_series s.call s.space s.first s.step 0 s.count older w o m in
    let count : t.more ≡ accepted_count (calls_step w (SeriesOf s)).reply = omega (arith, t.count) in
    record {
      match = subst (λ n. Match (calls_step w (SeriesOf s)).world.zone.records (repeated s.call s.space s.first s.step n older)) count t.match;
      value = λ zone. no_value older (On zone (SeriesOf s)) (calls_step w (SeriesOf s)).reply t.none;
    }

tells_other : (places : ℕ) (older : List Record) (w : WorldState) → IsOrderly w → Match w.zone.records older → (c : Command) → runs_rounds c ≡ false → StepTold older c (step places (Some w) c)
tells_other places older w o m = by_other places (StepTold older) w
    (λ c number. record { match = λ after e. moved_to w after _ e (subst (Match w.zone.records) (sym (refused_nothing older c number)) m); value = tt })
    (record { match = λ after e. moved_to w after older e m; value = tt })
    (λ zone calls. let t = tells_calls older w o m calls in record { match = λ after e. moved_to (calls_step w calls).world after _ e t.match; value = t.value zone })

-- a round and a pool
value_of_rounds : (older : List Record) (c : Command) (r : Reply) → is_of_rounds r ≡ true → IsLastStored older c r
value_of_rounds older c (reply.Value x) h = cc
value_of_rounds older c _ h = tt

told_by_rounds : (older : List Record) (r : Reply) (c : Command) → runs_rounds c ≡ true → told older c r ≡ older
told_by_rounds older r c h = by_rounds (λ c. told older c r ≡ older) (λ zone. refl) (λ zone count blocks. refl) c h

-- in any machine
module _ (places : ℕ) (steps : Option WorldState → Command → Step) (m : IsMachine places steps) where
  tells_step : (older : List Record) (w : WorldState) → IsOrderly w → Match w.zone.records older → (c : Command) → IsInRange c → StepTold older c (steps (Some w) c)
  tells_step older w o matched c r = by_kind (runs_rounds c) refl where
    by_kind : (b : Bool) → runs_rounds c ≡ b → StepTold older c (steps (Some w) c)
    by_kind true e =
        let on = m.goes_on w o c r e in
        let s : Step = steps (Some w) c in
        record {
          match = λ after is. subst (Match after.zone.records) (sym (told_by_rounds older s.reply c e)) (moved_to on.goes.after after older (sym on.goes.world ∙ is) (leaves older w.zone on.goes.after.zone on.leaves matched));
          value = value_of_rounds older c s.reply (m.replies (Some w) c e);
        }
    by_kind false e = subst (StepTold older c) (sym (m.other (Some w) c e)) (tells_other places older w o matched c e)

  -- the values of the replies from a step on, which answers a command
  abbrev StoredFrom : List Record → Command → List Numbered → Step → Type 0
  StoredFrom older c commands s = IsLastStored older c s.reply × ValuesAreStored (told older c s.reply) commands (answers_by steps s.world commands)

  -- the values of a script whose zone is open
  open_values : (commands : List Numbered) → AreInRange commands → (older : List Record) (w : WorldState) → IsOrderly w → Match w.zone.records older → ValuesAreStored older commands (answers_by steps (Some w) commands)
  open_values [] ranged older w o matched = tt
  open_values (c ∷ commands) ranged older w o matched =
      let on : Goes w (steps (Some w) c.command) = goes_by places steps m w o c.command ranged.0 in
      let t : StepTold older c.command (steps (Some w) c.command) = tells_step older w o matched c.command ranged.0 in
      let next : List Record = told older c.command (steps (Some w) c.command).reply in (
        t.value,
        subst (λ (v : Option WorldState). ValuesAreStored next commands (answers_by steps v commands)) (sym on.world)
            (open_values commands ranged.1 next on.after on.keeps.orderly (t.match on.after on.world)),
      )

  -- and where none is open
  other_values : (commands : List Numbered) (c : Command) → runs_rounds c ≡ false → StoredFrom [] c commands (step places None c) → StoredFrom [] c commands (steps None c)
  other_values commands c h stored = subst (StoredFrom [] c commands) (sym (m.other None c h)) stored

  rounds_values : (commands : List Numbered) (c : Command) → runs_rounds c ≡ true → ValuesAreStored [] commands (answers_by steps None commands) → StoredFrom [] c commands (steps None c)
  rounds_values commands c h rest =
      let s : Step = steps None c in (
        value_of_rounds [] c s.reply (m.replies None c h),
        subst (λ (history : List Record). ValuesAreStored history commands (answers_by steps s.world commands)) (sym (told_by_rounds [] s.reply c h))
            (subst (λ (v : Option WorldState). ValuesAreStored [] commands (answers_by steps v commands)) (sym (m.closed c h)) rest),
      )

  first_values : (0 < places) × (places ≤ 65536) → (c : Command) (commands : List Numbered) → IsInRange c → AreInRange commands → ValuesAreStored [] commands (answers_by steps None commands) → StoredFrom [] c commands (steps None c)
  first_values range (Pool zone count blocks) commands r ranged rest = rounds_values commands (Pool zone count blocks) refl rest
  first_values range (Compact zone) commands r ranged rest = rounds_values commands (Compact zone) refl rest
  first_values range (During number) commands r ranged rest = other_values commands (During number) refl (by_zone (zone_of number)) where
    by_zone : (z : Option ℕ) → StoredFrom [] (During number) commands (during_on z None)
    by_zone None = (tt, rest)
    by_zone (Some zone) = (tt, rest)
  first_values range (On zone calls) commands r ranged rest = other_values commands (On zone calls) refl (
    no_value [] (On zone calls) (reply.Refused 43) refl,
    subst (λ (history : List Record). ValuesAreStored history commands (answers_by steps None commands)) (sym (refused_nothing [] (On zone calls) 43)) rest,
  )
  first_values range (Open zone blocks) commands r ranged rest =
      other_values commands (Open zone blocks) refl (tt, open_values commands ranged [] (world_opened zone blocks places) (opened_orderly zone blocks places r range) match_empty)
  first_values range c commands r ranged rest = other_values commands c refl (tt, rest)

  values : (0 < places) × (places ≤ 65536) → (commands : List Numbered) → AreInRange commands → ValuesAreStored [] commands (answers_by steps None commands)
  values range [] ranged = tt
  values range (c ∷ commands) ranged = first_values range c.command commands ranged.0 ranged.1 (values range commands ranged.1)

  pub values_stored_by : (0 < places) × (places ≤ 65536) → (input : List ℕ) → ValuesAreStored [] (commands_of input) (answers_to steps input)
  values_stored_by range input = values range (commands_of input) (commands_ranged (by Untold) 1 (parts_of input))
