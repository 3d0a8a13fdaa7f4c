-- What the run of one machine says, in terms of another machine that gives the same replies to such scripts.
use Rattle.std.proofs.Common.{◌≡◌, ◌⊎◌, ℕ, List, [], ◌∷◌, ◌++◌, refl, sym, subst, inl, inr, Option, Some, None, Result}
use Rattle.std.specs.List.{AllByRecursion}
use Rattle.std.specs.Io.KnownBytes.{Consumes}
use Rattle.text_core.specs.declared.command.Command.{Command}
use Rattle.text_core.specs.declared.fault.Fault.{Fault}
use Rattle.text_core.specs.declared.fault.Fault.TheVariants.{Syntax, LongLine, Read, Write, Memory}
use Rattle.text_core.specs.declared.fault.RunError.{RunError}
use Rattle.text_core.specs.declared.totals.Totals.{Totals}
use Rattle.text_core.specs.Runs.{Asking, Begins, IsAnswered, IsAsking, IsEnded, IsPlayed, IsTotal, Replied, Rule}
use Rattle.text_core.specs.Script.{Answer, IsBeginning, Numbered, commands_of}
use Rattle.text_core.proofs.Beginnings.{all_before, all_of_beginning}
use Rattle.text_core.proofs.Carried.{ends_carried, totals_carried}

-- the other machine gives the same answers, and is afterwards as it should be beside the first
pub record Goes {S T : Type 0} (to : Rule T) (R : S → T → Type 0) (b : T) (c : Numbered) (answers : List Answer) (after : S) : Type 0 where
  pub beside : T
  pub step : to b c answers beside
  pub related : R after beside

module _ {S T : Type 0} (may : Rule S) (asks : Asking S) (start : S) (to : Rule T) (asked : Asking T) (from : T) (P : Numbered → Type 0) (R : S → T → Type 0) (first : R start from)
    (steps : (a : S) (b : T) (c : Numbered) (answers : List Answer) (after : S) → P c → R a b → may a c answers after → Goes to R b c answers after)
    (asking : (a : S) (b : T) (c : Numbered) → P c → R a b → asks a c.command → asked b c.command) where
  abbrev Are : List Numbered → Type 0
  Are commands = AllByRecursion P commands

  record AreReplied (b : T) (commands : List Numbered) (answers : List Answer) (after : S) : Type 0 where
    beside : T
    replied : Replied to b commands answers beside
    related : R after beside

  replied_as : (a after : S) (b : T) (commands : List Numbered) (answers : List Answer) → R a b → Are commands → Replied may a commands answers after → AreReplied b commands answers after
  replied_as a after b [] answers r all told = record { beside = b; replied = (told.0, refl); related = subst (λ (s : S). R s b) (sym told.1) r }
  replied_as a after b (c ∷ commands) answers r all told =
      let here = steps a b c told.1 told.0 all.0 r told.4 in
      let rest = replied_as told.0 after here.beside commands told.2 here.related all.1 told.5 in
      record { beside = rest.beside; replied = (here.beside, told.1, told.2, told.3, here.step, rest.replied); related = rest.related }

  first_as : (commands : List Numbered) → Are commands → (b : Begins may start commands) → AreReplied from commands b.answers b.after
  first_as commands all b = replied_as start b.after from commands b.answers first all b.replied

  abbrev begins_as : (commands : List Numbered) → Are commands → Begins may start commands → Begins to from commands
  begins_as commands all b = record { answers = b.answers; after = (first_as commands all b).beside; replied = (first_as commands all b).replied }

  pub answered_as : (input : List ℕ) (old new : Option (List ℕ)) → Are (commands_of input) → IsAnswered may start input old new → IsAnswered to from input old new
  answered_as input old new all h = record { begins = begins_as (commands_of input) all h.begins; written = h.written }

  pub total_as : (input : List ℕ) (old new : Option (List ℕ)) (totals : Totals) → Are (commands_of input) → IsTotal may start input old new totals → IsTotal to from input old new totals
  unfolding answered_as
  total_as input old new totals all h = record { answered = answered_as input old new all h.answered; totals_are = h.totals_are }

  -- what holds of each command of an input holds of those before a place of it
  all_until : (input : List ℕ) (before later : List Numbered) → commands_of input ≡ before ++ later → Are (commands_of input) → Are before
  all_until input before later order all = all_before P before later (subst Are order all)

  -- and of those that were read
  all_read : (left_new : Option (List ℕ)) (input past : List ℕ) → Consumes (Some input) left_new past → Are (commands_of input) → Are (commands_of past)
  all_read None input past read all = absurd read
  all_read (Some rest) input past read all = all_of_beginning P past rest (subst (λ bytes. Are (commands_of bytes)) read all)

  -- and of those before one that needs memory, or before a block
  all_asking : (input : List ℕ) (before : List Numbered) (after : S) (line : ℕ) → Are (commands_of input) → IsAsking asks input before after line ⊎ IsBeginning input before line → Are before
  all_asking input before after line all (inl a) = all_until input before (a.command ∷ a.later) a.order all
  all_asking input before after line all (inr b) = subst Are b.commands (all_of_beginning P b.past (b.text ++ 10 ∷ b.rest) (subst (λ bytes. Are (commands_of bytes)) b.order all))

  one_after : (before : List Numbered) (c : Numbered) (later : List Numbered) → Are (before ++ c ∷ later) → P c
  one_after [] c later all = all.0
  one_after (d ∷ before) c later all = one_after before c later all.1

  asking_as : (input : List ℕ) (before : List Numbered) (after : S) (beside : T) (line : ℕ) → Are (commands_of input) → R after beside
      → IsAsking asks input before after line ⊎ IsBeginning input before line → IsAsking asked input before beside line ⊎ IsBeginning input before line
  asking_as input before after beside line all r (inl a) = inl (record {
    command = a.command;
    later = a.later;
    order = a.order;
    asking = asking after beside a.command (one_after before a.command a.later (subst Are a.order all)) r a.asking;
    at = a.at;
  })
  asking_as input before after beside line all r (inr b) = inr b

  pub ends_as : (f : Fault) (input : List ℕ) (e : RunError) (left left_new old new : Option (List ℕ)) → left ≡ Some input → Are (commands_of input)
      → IsEnded may asks start f input e left left_new old new → IsEnded to asked from f input e left left_new old new
  ends_as Syntax input e left left_new old new known all h = (h.0, answered_as input old new all h.1)
  ends_as LongLine input e left left_new old new known all h = (h.0, answered_as input old new all h.1)
  ends_as Read input e left left_new old new known all h =
      let C : Option (List ℕ) → Type 0 = λ l. Consumes l left_new h.past in
      record {
        past = h.past;
        read = h.read;
        clean = h.clean;
        answered = answered_as h.past old new (all_read left_new input h.past (subst C known h.read) all) h.answered;
        at = h.at;
      }
  ends_as Write input e left left_new old new known all h = record {
    before = h.before;
    later = h.later;
    order = h.order;
    begins = begins_as h.before (all_until input h.before h.later h.order all) h.begins;
    stops = h.stops;
  }
  ends_as Memory input e left left_new old new known all h =
      let before = all_asking input h.before h.begins.after e.line all h.asking in
      record {
        before = h.before;
        begins = begins_as h.before before h.begins;
        asking = asking_as input h.before h.begins.after (first_as h.before before h.begins).beside e.line all (first_as h.before before h.begins).related h.asking;
        written = h.written;
      }

-- and of the machine that its own machine stands for
pub played_carried : {S T : Type 0} (may : Rule S) (rule : Rule T) (seen : S → T) (steps : (old : S) (c : Numbered) (answers : List Answer) (new : S) → may old c answers new → rule (seen old) c answers (seen new))
    (asks : Asking S) (asks_by : Asking T) (asking : (old : S) (c : Command) → asks old c → asks_by (seen old) c) (start : S) (first : T) (is : seen start ≡ first)
    (left left_new old new : Option (List ℕ)) (r : Result Totals RunError) → IsPlayed may asks start left left_new old new r → IsPlayed rule asks_by first left left_new old new r
played_carried may rule seen steps asks asks_by asking start first is left left_new old new r played = record {
  ok = played.ok;
  answered = totals_carried may rule seen steps asks asks_by asking start first is left left_new old new r played.answered;
  err = ends_carried may rule seen steps asks asks_by asking start first is left left_new old new r played.err;
}
