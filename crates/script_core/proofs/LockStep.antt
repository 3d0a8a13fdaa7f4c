-- A script of profile 1 runs in lock step with itself in profile 2.
use Rattle.std.proofs.Common.{◌≡◌, ℕ, ◌+◌, Bool, true, false, List, [], ◌∷◌, ◌++◌, length, refl, sym, ap, ◌∙◌, Option, Some, None, Result, Ok, Err}
use Rattle.std.specs.Prelude.{codes, map, nat_eq, nat_lt, option_map, ⊤, if◌then◌else◌}
use Rattle.std.proofs.lemmas.List.{length-map, map-append}
use Rattle.std.specs.Option.{option_or}
use Rattle.state_core.specs.declared.call.ZoneCall.{ZoneCall}
use Rattle.machine_core.specs.World.{WorldState}
use Rattle.text_core.specs.declared.command.Call.{Call}
use Rattle.text_core.specs.declared.command.Call.TheVariants as call
use Rattle.text_core.specs.declared.command.Calls.{Calls}
use Rattle.text_core.specs.declared.command.Calls.TheVariants.{Zone, One, Series as SeriesOf}
use Rattle.text_core.specs.declared.command.BlockLine.{BlockLine}
use Rattle.text_core.specs.declared.command.BlockLine.TheVariants.{Client, End}
use Rattle.text_core.specs.declared.command.Command.{Command}
use Rattle.text_core.specs.declared.command.Command.TheVariants.{On, Compact, Pool, Profile2, During}
use Rattle.text_core.specs.declared.error.ScriptError.{ScriptError}
use Rattle.text_core.specs.declared.profile.Profile.{Profile}
use Rattle.text_core.specs.declared.profile.Profile.TheVariants.{Untold, One as Profile1, Two}
use Rattle.text_core.specs.declared.reply.Reply.{Reply}
use Rattle.text_core.specs.declared.reply.Reply.TheVariants as reply
use Rattle.text_core.specs.Grammar.{zone_of}
use Rattle.text_core.specs.Line.{line_within, line_of}
use Rattle.text_core.specs.Profile.{profile_told}
use Rattle.text_core.proofs.Profiles as rows
use Rattle.text_core.proofs.Profiles.{SayAlike, call_in_profile_2, lines_alike}
use Rattle.machine_core.specs.Machine.{Step, answered, call_step, calls_step, declined, step, step_on, during_on}
use Rattle.text_core.specs.Script.{Answer, Numbered, commands_from, cut_fault, fault_from, fault_of, line_fault, onto_commands, parts_of, Block, Came, ClientLine, Reading, by, client_comes, command_comes, command_in_block, comes_in, comes_outside, comes_within, commands_of, line_comes, onto, open_fault, reading_after, within}
use Rattle.text_core.specs.declared.fault.Fault.{Fault}
use Rattle.text_core.specs.declared.fault.Fault.TheVariants.{Syntax}
use Rattle.text_core.specs.declared.fault.RunError.{RunError}
use Rattle.text_core.proofs.Lines.{Parts, parts-line, parts_are}
use Rattle.script_core.specs.Profile2.{IsSameInProfile2, after_profile_2, fault_in_profile_1, with_held}
use Rattle.script_core.proofs.Machines.{IsMachine, answers_by, answers_to, by_rounds, is_of_rounds, runs_rounds}
use Rattle.script_core.proofs.Replies.{has_counts, plain_call, plain_make, plain_series}

abbrev further : Answer → Answer
further a = record { line = a.line + 1; reply = with_held a.reply }

-- a client line, one line further down
abbrev lower : ClientLine → ClientLine
lower c = record { line = c.line + 1; call = c.call }

abbrev moved : Numbered → Numbered
moved c = record { line = c.line + 1; command = rows.in_profile_2 c.command; clients = map lower c.clients }

-- a reply without counts is the same in profile 2
plain_held : (r : Reply) → has_counts r ≡ false → r ≡ with_held r
plain_held (reply.Info i) h = cc
plain_held (reply.InfoWithHeld i) h = refl
plain_held _ h = refl

-- the step of a command in profile 2 has the same world, and the same reply except for the held frames
abbrev told : Step → Step
told s = record { reply = with_held s.reply; world = s.world }

told_plain : (s : Step) → has_counts s.reply ≡ false → s ≡ told s
told_plain s h = λ i. record { reply = plain_held s.reply h i; world = s.world }

call_told : (w : WorldState) (c : Call) → answered (call_step w (call_in_profile_2 c)) ≡ told (answered (call_step w c))
call_told w call.Info = refl
call_told w call.InfoWithHeld = refl
call_told w c = told_plain (answered (call_step w c)) (plain_call w c refl).0

plain_on : (zone : ℕ) (w : WorldState) (c : Calls) → has_counts (calls_step w c).reply ≡ false → step_on zone c (Some w) ≡ told (step_on zone c (Some w))
plain_on zone w c h = by_number (nat_eq zone w.zone.number) where
  by_number : (b : Bool) → (if b then answered (calls_step w c) else declined 43 (Some w)) ≡ told (if b then answered (calls_step w c) else declined 43 (Some w))
  by_number true = told_plain (answered (calls_step w c)) h
  by_number false = refl

other_told : (places : ℕ) (w : Option WorldState) (c : Command) → runs_rounds c ≡ false → step places w (rows.in_profile_2 c) ≡ told (step places w c)
other_told places w (Compact zone) h = cc
other_told places w (Pool zone count blocks) h = cc
other_told places w (During number) h = by_zone (zone_of number) w where
  by_zone : (z : Option ℕ) (v : Option WorldState) → during_on z v ≡ told (during_on z v)
  by_zone None v = refl
  by_zone (Some zone) None = refl
  by_zone (Some zone) (Some v) = refl
other_told places None (On zone (One c)) h = refl
other_told places None _ h = refl
other_told places (Some w) (On zone (Zone c)) h = plain_on zone w (Zone c) (plain_make w c)
other_told places (Some w) (On zone (One c)) h = by_number (nat_eq zone w.zone.number) where
  by_number : (b : Bool) → (if b then answered (call_step w (call_in_profile_2 c)) else declined 43 (Some w)) ≡ told (if b then answered (call_step w c) else declined 43 (Some w))
  by_number true = call_told w c
  by_number false = refl
other_told places (Some w) (On zone (SeriesOf s)) h = plain_on zone w (SeriesOf s) (plain_series s.call s.space s.first s.step 0 s.count w)
other_told places (Some w) _ h = refl

-- a round and a pool are the same in profile 2, and their replies have no counts
held_of_rounds : (r : Reply) → is_of_rounds r ≡ true → r ≡ with_held r
held_of_rounds (reply.Info i) h = cc
held_of_rounds _ h = refl

told_of_rounds : (s : Step) → is_of_rounds s.reply ≡ true → s ≡ told s
told_of_rounds s h = λ i. record { reply = held_of_rounds s.reply h i; world = s.world }

rounds_alike : (c : Command) → runs_rounds c ≡ true → rows.in_profile_2 c ≡ c
rounds_alike c h = by_rounds (λ c. rows.in_profile_2 c ≡ c) (λ zone. refl) (λ zone count blocks. refl) c h

others_alike : (c : Command) → runs_rounds (rows.in_profile_2 c) ≡ runs_rounds c
others_alike (On zone (One c)) = refl
others_alike _ = refl

-- in any machine
module _ (places : ℕ) (steps : Option WorldState → Command → Step) (m : IsMachine places steps) where
  step_told : (w : Option WorldState) (c : Command) → steps w (rows.in_profile_2 c) ≡ told (steps w c)
  step_told w c = by_kind (runs_rounds c) refl where
    by_kind : (b : Bool) → runs_rounds c ≡ b → steps w (rows.in_profile_2 c) ≡ told (steps w c)
    by_kind true e = ap (steps w) (rounds_alike c e) ∙ told_of_rounds (steps w c) (m.replies w c e)
    by_kind false e = m.other w (rows.in_profile_2 c) (others_alike c ∙ e) ∙ other_told places w c e ∙ ap told (sym (m.other w c e))

  answers_told : (w : Option WorldState) (commands : List Numbered) → answers_by steps w (map moved commands) ≡ map further (answers_by steps w commands)
  answers_told w [] = refl
  answers_told w (c ∷ commands) =
      let s : Step = steps w c.command in
      (λ i. (let t = step_told w c.command i in record { line = c.line + 1; reply = t.reply } ∷ answers_by steps t.world (map moved commands)))
      ∙ ap (λ (rest : List Answer). record { line = c.line + 1; reply = with_held s.reply } ∷ rest) (answers_told s.world commands)

  -- the line `profile 2` before others is answered `ok`, and changes nothing else
  profile_2_told : (commands : List Numbered) → answers_by steps None (record { line = 1; command = Profile2; clients = [] } ∷ commands) ≡ record { line = 1; reply = reply.Done } ∷ answers_by steps None commands
  profile_2_told commands = ap (λ (s : Step). record { line = 1; reply = s.reply } ∷ answers_by steps s.world commands) (m.other None Profile2 refl)

told_one : (c : Command) → profile_told c Profile1 ≡ Profile1
told_one Profile2 = refl
told_one _ = refl

told_two : (c : Command) → profile_told c Two ≡ Two
told_two Profile2 = refl
told_two _ = refl

told_first : (c : Command) → (c ≡ Profile2 → ⊥) → profile_told c Untold ≡ Profile1
told_first Profile2 never = absurd (never refl)
told_first _ never = refl

-- a block in profile 2, a line further down
abbrev lower_block : Block → Block
lower_block b = record { line = b.line + 1; zone = b.zone; clients = map lower b.clients }

abbrev lower_reading : Reading → Reading
lower_reading q = record { profile = Two; block = option_map lower_block q.block }

abbrev lower_came : Came → Came
lower_came came = record { ended = option_map moved came.ended; reading = lower_reading came.reading }

-- a line that has no fault in profile 1 makes the same in profile 2, and doesn't change the profile
record ComesLower (one two : Result Came Fault) (came : Came) : Type 0 where
  one_is : one ≡ Ok came
  two_is : two ≡ Ok (lower_came came)
  profile : came.reading.profile ≡ Profile1

-- a line has no fault
abbrev IsOver : Result Came Fault → Type 0
IsOver (Ok came) = ⊤
IsOver (Err fault) = ⊥

begun_lower : (n : ℕ) (c : Command) → ComesLower (Ok (command_comes Profile1 n c)) (Ok (command_comes Two (n + 1) (rows.in_profile_2 c))) (command_comes Profile1 n c)
begun_lower n (On zone (One c)) = record { one_is = refl; two_is = refl; profile = refl }
begun_lower n _ = record { one_is = refl; two_is = refl; profile = refl }

outside_lower : (n : ℕ) (one untold two : Result (Option Command) ScriptError) → SayAlike one untold two → IsOver (comes_outside Profile1 n one)
    → (came : Came) × ComesLower (comes_outside Profile1 n one) (comes_outside Two (n + 1) two) came
outside_lower n (Err error) untold two say over = absurd over
outside_lower n (Ok None) untold two say over =
    (record { ended = None; reading = by Profile1 }, record { one_is = refl; two_is = ap (comes_outside Two (n + 1)) say.1; profile = refl })
outside_lower n (Ok (Some c)) untold two say over =
    let l = begun_lower n c in (
      command_comes Profile1 n c,
      record {
        one_is = ap (λ q. Ok (command_comes q n c)) (told_one c);
        two_is = ap (comes_outside Two (n + 1)) say.1 ∙ ap (λ q. Ok (command_comes q (n + 1) (rows.in_profile_2 c))) (told_two (rows.in_profile_2 c)) ∙ l.two_is;
        profile = l.profile;
      },
    )

-- a client line, one line further down
module _ (n : ℕ) (block : Block) (call : Option (ZoneCall 8)) where
  abbrev more : Block
  more = record block { clients = block.clients ++ record { line = n; call = call } ∷ [] }

  abbrev more_lower : Block
  more_lower = record (lower_block block) { clients = map lower block.clients ++ record { line = n + 1; call = call } ∷ [] }

  abbrev noted : Bool → Profile → Block → Result Came Fault
  noted few q b = if few then Ok (record { ended = None; reading = within q b }) else Err Syntax

  same_lower : more_lower ≡ lower_block more
  same_lower = ap (λ (cs : List ClientLine). record { line = block.line + 1; zone = block.zone; clients = cs }) (sym (map-append lower block.clients (record { line = n; call = call } ∷ [])))

  same_count : nat_lt (length (map lower block.clients)) 1000 ≡ nat_lt (length block.clients) 1000
  same_count = ap (λ (k : ℕ). nat_lt k 1000) (length-map block.clients lower)

  noted_lower : (few : Bool) → nat_lt (length block.clients) 1000 ≡ few → IsOver (noted few Profile1 more)
      → (came : Came) × ComesLower (noted few Profile1 more) (noted (nat_lt (length (map lower block.clients)) 1000) Two more_lower) came
  noted_lower true e over = (
    record { ended = None; reading = within Profile1 more },
    record { one_is = refl; two_is = ap (λ few. noted few Two more_lower) (same_count ∙ e) ∙ ap (noted true Two) same_lower; profile = refl },
  )
  noted_lower false e over = absurd over

  client_lower : IsOver (client_comes Profile1 block (record { line = n; call = call }))
      → (came : Came) × ComesLower (client_comes Profile1 block (record { line = n; call = call })) (client_comes Two (lower_block block) (record { line = n + 1; call = call })) came
  client_lower over = noted_lower (nat_lt (length block.clients) 1000) refl over

within_lower : (n : ℕ) (block : Block) (says : Result (Option BlockLine) ScriptError) → IsOver (comes_within Profile1 block n says)
    → (came : Came) × ComesLower (comes_within Profile1 block n says) (comes_within Two (lower_block block) (n + 1) says) came
within_lower n block (Err error) over = absurd over
within_lower n block (Ok None) over = (record { ended = None; reading = within Profile1 block }, record { one_is = refl; two_is = refl; profile = refl })
within_lower n block (Ok (Some End)) over = (record { ended = Some (command_in_block block); reading = by Profile1 }, record { one_is = refl; two_is = refl; profile = refl })
within_lower n block (Ok (Some (Client call))) over = client_lower n block call over

comes_lower : (n : ℕ) (text : List ℕ) (o : Option Block) → IsOver (comes_in o Profile1 n text)
    → (came : Came) × ComesLower (comes_in o Profile1 n text) (comes_in (option_map lower_block o) Two (n + 1) text) came
comes_lower n text None over = outside_lower n (line_of Profile1 text) (line_of Untold text) (line_of Two text) (lines_alike text) over
comes_lower n text (Some block) over = within_lower n block (line_within block.zone text) over

-- lines without a fault in profile 1 have the same commands in profile 2, a line further down
record ReadsLower (n : ℕ) (o : Option Block) (parts : List (List ℕ)) : Type 0 where
  fault : fault_from (lower_reading (record { profile = Profile1; block = o })) (n + 1) parts ≡ None
  commands : commands_from (lower_reading (record { profile = Profile1; block = o })) (n + 1) parts ≡ map moved (commands_from (record { profile = Profile1; block = o }) n parts)

onto_lower : (o : Option Numbered) (behind : List Numbered) → onto (option_map moved o) (map moved behind) ≡ map moved (onto o behind)
onto_lower None behind = refl
onto_lower (Some c) behind = refl

over_of : (n : ℕ) (r : Result Came Fault) (rest : Option RunError) → option_or (line_fault n r) rest ≡ None → IsOver r
over_of n (Ok came) rest e = tt
over_of n (Err fault) rest e = cc

end_lower : (n : ℕ) (o : Option Block) (cut : List ℕ) → option_or (cut_fault n cut) (open_fault o) ≡ None → ReadsLower n o (cut ∷ [])
end_lower n None [] e = record { fault = refl; commands = refl }
end_lower n (Some block) [] e = cc
end_lower n o (b ∷ bytes) e = cc

reads_lower : (n : ℕ) (o : Option Block) (parts : List (List ℕ)) → fault_from (record { profile = Profile1; block = o }) n parts ≡ None → ReadsLower n o parts
reads_lower n o [] e = record { fault = refl; commands = refl }
reads_lower n o (cut ∷ []) e = end_lower n o cut e
reads_lower n o (text ∷ next ∷ parts) e =
    let q : Reading = record { profile = Profile1; block = o } in
    let found = comes_lower n text o (over_of n (line_comes q n text) _ e) in
    let came = found.0 in
    let c = found.1 in
    let behind : List (List ℕ) = next ∷ parts in
    let F : Reading → ℕ → Result Came Fault → Option RunError = λ r k l. option_or (line_fault k l) (fault_from (reading_after r l) (k + 1) behind) in
    let C : Reading → ℕ → Result Came Fault → List Numbered = λ r k l. onto_commands l (commands_from (reading_after r l) (k + 1) behind) in
    let next_reading : came.reading ≡ record { profile = Profile1; block = came.reading.block } = ap (λ p. record { profile = p; block = came.reading.block }) c.profile in
    let one : fault_from (record { profile = Profile1; block = came.reading.block }) (n + 1) behind ≡ None =
    ap (λ r. fault_from r (n + 1) behind) (sym next_reading) ∙ ap (F q n) (sym c.one_is) ∙ e in
    let rest = reads_lower (n + 1) came.reading.block (next ∷ parts) one in
    record {
      fault = ap (F (lower_reading q) (n + 1)) c.two_is ∙ rest.fault;
      commands =
          ap (C (lower_reading q) (n + 1)) c.two_is
          ∙ ap (onto (option_map moved came.ended)) (rest.commands ∙ ap (λ r. map moved (commands_from r (n + 1) behind)) (sym next_reading))
          ∙ onto_lower came.ended (commands_from came.reading (n + 1) behind)
          ∙ ap (λ l. map moved (C q n l)) (sym c.one_is);
    }

-- lines without a fault in profile 1 have the same commands where no profile is decided yet
record ReadsFirst (n : ℕ) (parts : List (List ℕ)) : Type 0 where
  fault : fault_from (by Untold) n parts ≡ None
  commands : commands_from (by Untold) n parts ≡ commands_from (by Profile1) n parts

module _ (n : ℕ) (text next : List ℕ) (parts : List (List ℕ)) where
  abbrev fault_line : Profile → Result (Option Command) ScriptError → Option RunError
  fault_line q says = let l = comes_outside q n says in option_or (line_fault n l) (fault_from (reading_after (by q) l) (n + 1) (next ∷ parts))

  abbrev commands_line : Profile → Result (Option Command) ScriptError → List Numbered
  commands_line q says = let l = comes_outside q n says in onto_commands l (commands_from (reading_after (by q) l) (n + 1) (next ∷ parts))

  first_alike : (says : Result (Option Command) ScriptError) → line_of Profile1 text ≡ says → fault_line Profile1 says ≡ None → SayAlike says (line_of Untold text) (line_of Two text)
      → (fault_from (by Profile1) (n + 1) (next ∷ parts) ≡ None → ReadsFirst (n + 1) (next ∷ parts)) → ReadsFirst n (text ∷ next ∷ parts)
  first_alike (Err error) is e say rest = cc
  first_alike (Ok None) is e say rest =
      let r = rest e in
      record { fault = ap (fault_line Untold) say.0 ∙ r.fault; commands = ap (commands_line Untold) say.0 ∙ r.commands ∙ sym (ap (commands_line Profile1) is) }
  first_alike (Ok (Some c)) is e say rest =
      let same : profile_told c Untold ≡ profile_told c Profile1 = told_first c (λ same. say.2 (ap Some same)) ∙ sym (told_one c) in
      let G : Profile → Option RunError = λ q. let l = command_comes q n c in fault_from l.reading (n + 1) (next ∷ parts) in
      let D : Profile → List Numbered = λ q. let l = command_comes q n c in onto l.ended (commands_from l.reading (n + 1) (next ∷ parts)) in
      record {
        fault = ap (fault_line Untold) say.0 ∙ ap G same ∙ e;
        commands = ap (commands_line Untold) say.0 ∙ ap D same ∙ sym (ap (commands_line Profile1) is);
      }

reads_first : (n : ℕ) (parts : List (List ℕ)) → fault_from (by Profile1) n parts ≡ None → ReadsFirst n parts
reads_first n [] e = record { fault = refl; commands = refl }
reads_first n (cut ∷ []) e = record { fault = e; commands = refl }
reads_first n (text ∷ next ∷ parts) e = first_alike n text next parts (line_of Profile1 text) refl e (lines_alike text) (λ one. reads_first (n + 1) (next ∷ parts) one)

-- the line `profile 2`
abbrev first_line : List ℕ
first_line = codes "profile 2"

first_says : line_of Untold first_line ≡ Ok (Some Profile2)
first_says = refl

first_parts : (input : List ℕ) → parts_of (after_profile_2 input) ≡ first_line ∷ parts_of input
first_parts input = parts-line first_line input refl

-- the commands of a script without a fault in profile 1
record IsInLockStep (input : List ℕ) : Type 0 where
  fault : fault_of input ≡ None
  fault_in_profile_2 : fault_of (after_profile_2 input) ≡ None
  commands : commands_of (after_profile_2 input) ≡ record { line = 1; command = Profile2; clients = [] } ∷ map moved (commands_of input)

in_lock_step : (input : List ℕ) → fault_in_profile_1 input ≡ None → IsInLockStep input
in_lock_step input e =
    let p : Parts input = parts_are input in
    let lower : ReadsLower 1 None (parts_of input) = reads_lower 1 None (parts_of input) e in
    let alone : ReadsFirst 1 (parts_of input) = reads_first 1 (parts_of input) e in
    let first : parts_of (after_profile_2 input) ≡ first_line ∷ p.first ∷ p.others = first_parts input ∙ ap (λ (parts : List (List ℕ)). first_line ∷ parts) p.are in
    record {
      fault = alone.fault;
      fault_in_profile_2 =
          ap (fault_from (by Untold) 1) first
          ∙ ap (λ l. let came = comes_outside Untold 1 l in option_or (line_fault 1 came) (fault_from (reading_after (by Untold) came) 2 (p.first ∷ p.others))) first_says
          ∙ ap (fault_from (by Two) 2) (sym p.are)
          ∙ lower.fault;
      commands =
          ap (commands_from (by Untold) 1) first
          ∙ ap (λ l. let came = comes_outside Untold 1 l in onto_commands came (commands_from (reading_after (by Untold) came) 2 (p.first ∷ p.others))) first_says
          ∙ ap (λ (parts : List (List ℕ)). record { line = 1; command = Profile2; clients = [] } ∷ commands_from (by Two) 2 parts) (sym p.are)
          ∙ ap (λ (rest : List Numbered). record { line = 1; command = Profile2; clients = [] } ∷ rest) (lower.commands ∙ ap (map moved) (sym alone.commands));
    }

pub same_in_profile_2_by : (places : ℕ) (steps : Option WorldState → Command → Step) → IsMachine places steps → (input : List ℕ) → fault_in_profile_1 input ≡ None → IsSameInProfile2 (answers_to steps) input
same_in_profile_2_by places steps m input e =
    let l : IsInLockStep input = in_lock_step input e in
    record {
      fault = l.fault;
      fault_in_profile_2 = l.fault_in_profile_2;
      answers =
          ap (answers_by steps None) l.commands
          ∙ profile_2_told places steps m (map moved (commands_of input))
          ∙ ap (λ (rest : List Answer). record { line = 1; reply = reply.Done } ∷ rest) (answers_told places steps m None (commands_of input));
    }
