-- A line of profile 1 says the same where no line has decided the profile yet, and says it in profile 2 too, where an info
-- counts the held frames besides.
use Rattle.std.proofs.Common.{◌≡◌, ℕ, Bool, true, false, List, [], ◌∷◌, length, refl, sym, ap, arith, Option, Some, None, Result, Ok, Err}
use Rattle.std.specs.Prelude.{bytes_eq, codes, map, nat_lt, if◌then◌else◌, IfSome, ⊤, option_map}
use Rattle.std.specs.Option.{option_or}
use Rattle.std.proofs.lemmas.Bool.{and_parts}
use Rattle.std.proofs.lemmas.Option.{same_Some}
use Rattle.std.proofs.lemmas.Slice.Eq.{bytes_eq-Decides}
use Rattle.state_core.specs.declared.call.ZoneCall.{ZoneCall}
use Rattle.text_core.specs.declared.token.Token.{Token}
use Rattle.text_core.specs.declared.token.Token.TheVariants.{Number, Zone, Map, MapAt, Store, Load, Info, Unmovable, Scan, Take, Copy, Finish, Shut, Look, Share, Unmap, Pin, Unpin, Huge, Give, Fill, Thin, Compact, Pool, During}
use Rattle.text_core.specs.declared.command.Call.{Call}
use Rattle.text_core.specs.declared.command.Call.TheVariants as call
use Rattle.text_core.specs.declared.command.Calls.TheVariants.{One}
use Rattle.text_core.specs.declared.command.Series.{Series}
use Rattle.text_core.specs.declared.command.Command.{Command}
use Rattle.text_core.specs.declared.command.Command.TheVariants.{On, Profile2}
use Rattle.text_core.specs.declared.error.ScriptError.{ScriptError}
use Rattle.text_core.specs.declared.error.ScriptError.TheVariants.{LongLine}
use Rattle.text_core.specs.declared.pool.PoolBlocks.{PoolBlocks}
use Rattle.text_core.specs.declared.pool.PoolBlocks.TheVariants.{Pageblocks}
use Rattle.text_core.specs.declared.profile.Profile.TheVariants.{Untold, One as Profile1, Two}
use Rattle.text_core.specs.Grammar.{address_of, blocks_of, call_on, command_of, compacting, hand_of, opening, pageblock_of, pooling, row_of, row_of_profile_2, series_on, zone_call_on, zone_of, during_row, row_in}
use Rattle.text_core.specs.Line.{command_in, said_or_fault, is_comment, lexemes_say, line_of}
use Rattle.text_core.specs.Profile.{is_profile_2}
use Rattle.text_core.specs.Token.{lexemes, token_of}

-- what a call of profile 1 is in profile 2, where an info counts the held frames too
abbrev pub call_in_profile_2 : Call → Call
call_in_profile_2 call.Info = call.InfoWithHeld
call_in_profile_2 c = c

abbrev pub in_profile_2 : Command → Command
in_profile_2 (On zone (One c)) = On zone (One (call_in_profile_2 c))
in_profile_2 c = c

-- a command is the same in profile 2
abbrev IsKept : Command → Type 0
IsKept c = (in_profile_2 c ≡ c) × (c ≡ Profile2 → ⊥)

abbrev IsKeptCall : Call → Type 0
IsKeptCall c = call_in_profile_2 c ≡ c

kept_opening : (z b : Option ℕ) → IsKept (opening z b)
kept_opening z b = (grind arith, λ e. grind arith)

kept_compacting : (z : Option ℕ) → IsKept (compacting z)
kept_compacting z = (grind arith, λ e. grind arith)

kept_pooling : (z n : Option ℕ) (b : Option PoolBlocks) → IsKept (pooling z n b)
kept_pooling z n b = (grind arith, λ e. grind arith)

kept_call : (z : Option ℕ) (o : Option Call) → IfSome o IsKeptCall → IsKept (call_on z o)
kept_call z o e = (grind arith, λ e. grind arith)

kept_series : (z : Option ℕ) (s : Option Series) → IsKept (series_on z s)
kept_series z s = (grind arith, λ e. grind arith)

kept_zone_call : (z : Option ℕ) (o : Option (ZoneCall 8)) → IsKept (zone_call_on z o)
kept_zone_call z o = (grind arith, λ e. grind arith)

kept_with : {A : Type 0} (f : A → Call) → ((x : A) → IsKeptCall (f x)) → (o : Option A) → IfSome (option_map f o) IsKeptCall
kept_with f g (Some x) = g x
kept_with f g None = tt

-- where profile 1 has a command, a line has it too where no profile is decided yet, and profile 2 has its own form of it
abbrev AreAlike : (one untold two : Option Command) → Type 0
AreAlike None untold two = ⊤
AreAlike (Some c) untold two = (untold ≡ Some c) × (two ≡ Some (in_profile_2 c)) × (c ≡ Profile2 → ⊥)

alike : (c : Command) → IsKept c → AreAlike (Some c) (Some c) (Some c)
alike c kept = (refl, ap Some (sym kept.0), kept.1)

alike_info : (z : Option ℕ) → AreAlike (Some (call_on z (Some call.Info))) (Some (call_on z (Some call.Info))) (Some (call_on z (Some call.InfoWithHeld)))
alike_info (Some z) = (refl, refl, λ e. cc)
alike_info None = (refl, refl, λ e. cc)

alike_row : (keyword : Token) (z : Option ℕ) (arguments : List Token) → AreAlike (row_of keyword z arguments) (row_of keyword z arguments) (option_or (row_of_profile_2 keyword z arguments) (row_of keyword z arguments))
alike_row Zone z (Number b ∷ []) = alike _ (kept_opening z (blocks_of b))
alike_row Map z (Number s ∷ Number v ∷ []) = alike _ (kept_zone_call z _)
alike_row Map z (Number s ∷ Number v ∷ Unmovable ∷ []) = alike _ (kept_zone_call z _)
alike_row MapAt z (Number s ∷ Number v ∷ Number f ∷ []) = alike _ (kept_zone_call z _)
alike_row MapAt z (Number s ∷ Number v ∷ Number f ∷ Unmovable ∷ []) = alike _ (kept_zone_call z _)
alike_row Store z (Number s ∷ Number v ∷ Number w ∷ Number x ∷ []) = alike _ (kept_zone_call z _)
alike_row Load z (Number s ∷ Number v ∷ Number w ∷ []) = alike _ (kept_zone_call z _)
alike_row Info z [] = alike_info z
alike_row Scan z [] = alike _ (kept_call z (Some call.Scan) refl)
alike_row Take z (Number k ∷ []) = alike _ (kept_call z _ (kept_with call.Take (λ n. refl) (hand_of k)))
alike_row Copy z (Number k ∷ []) = alike _ (kept_call z _ (kept_with call.Copy (λ n. refl) (hand_of k)))
alike_row Finish z (Number k ∷ []) = alike _ (kept_call z _ (kept_with call.Finish (λ n. refl) (hand_of k)))
alike_row Shut z [] = alike _ (kept_call z (Some call.Shut) refl)
alike_row Look z (Number s ∷ Number v ∷ []) = alike _ (kept_call z _ (kept_with call.Look (λ a. refl) (address_of s v)))
alike_row Share z (Number s ∷ Number v ∷ Number s2 ∷ Number v2 ∷ []) = alike _ (kept_zone_call z _)
alike_row Unmap z (Number s ∷ Number v ∷ []) = alike _ (kept_zone_call z _)
alike_row Pin z (Number s ∷ Number v ∷ []) = alike _ (kept_zone_call z _)
alike_row Unpin z (Number s ∷ Number v ∷ []) = alike _ (kept_zone_call z _)
alike_row Huge z [] = alike _ (kept_call z (Some call.Huge) refl)
alike_row Give z (Number b ∷ []) = alike _ (kept_call z _ (kept_with call.Give (λ n. refl) (pageblock_of b)))
alike_row Fill z (Number s ∷ Number v ∷ Number n ∷ []) = alike _ (kept_series z _)
alike_row Thin z (Number s ∷ Number v ∷ Number n ∷ Number step ∷ []) = alike _ (kept_series z _)
alike_row Compact z [] = alike _ (kept_compacting z)
alike_row Pool z (Number n ∷ []) = alike _ (kept_pooling z (blocks_of n) (Some Pageblocks))
alike_row _ z _ = tt

-- a keyword that doesn't begin a block has no command by the row of `during`
or_none : (one untold two during : Option Command) → during ≡ None → AreAlike one untold two → AreAlike (option_or one during) (option_or untold during) (option_or two during)
or_none (Some c) untold two during e a = (ap (λ o. option_or o during) a.0, ap (λ o. option_or o during) a.1, a.2)
or_none None untold two None e a = tt
or_none None untold two (Some c) e a = cc

alike_during : (keyword : Token) (z : ℕ) (arguments : List Token) → AreAlike (command_of Profile1 (keyword ∷ Number z ∷ arguments)) (command_of Untold (keyword ∷ Number z ∷ arguments)) (command_of Two (keyword ∷ Number z ∷ arguments))
alike_during During z [] = (refl, refl, λ e. cc)
alike_during keyword z arguments = or_none (row_in Profile1 keyword (zone_of z) arguments) (row_in Untold keyword (zone_of z) arguments) (row_in Two keyword (zone_of z) arguments) (during_row keyword z arguments) refl (alike_row keyword (zone_of z) arguments)

alike_tokens : (tokens : List Token) → AreAlike (command_of Profile1 tokens) (command_of Untold tokens) (command_of Two tokens)
alike_tokens (keyword ∷ Number z ∷ arguments) = alike_during keyword z arguments
alike_tokens _ = tt

bytes_same : (xs ys : List ℕ) → bytes_eq xs ys ≡ true → xs ≡ ys
bytes_same xs ys e = (bytes_eq-Decides xs ys).0 e

-- `profile 2` isn't a command of profile 1
no_command : (words : List (List ℕ)) → is_profile_2 words ≡ true → command_of Profile1 (map token_of words) ≡ None
no_command [] e = refl
no_command (keyword ∷ []) e = cc
no_command (keyword ∷ number ∷ []) e =
    let both = and_parts (bytes_eq keyword (codes "profile")) _ e in
    λ i. command_of Profile1 (token_of (bytes_same keyword (codes "profile") both.0 i) ∷ token_of (bytes_same number (codes "2") both.1 i) ∷ [])
no_command (keyword ∷ number ∷ another ∷ more) e = cc

none_alike : (one untold two : Option Command) → one ≡ None → AreAlike one untold two
none_alike None untold two e = tt
none_alike (Some c) untold two e = cc

alike_words : (words : List (List ℕ)) → AreAlike (command_in Profile1 words) (command_in Untold words) (command_in Two words)
alike_words words = by_test (is_profile_2 words) refl where
  by_test : (b : Bool) → is_profile_2 words ≡ b → AreAlike (command_of Profile1 (map token_of words)) (if b then Some Profile2 else command_of Untold (map token_of words)) (command_of Two (map token_of words))
  by_test true e = none_alike _ _ _ (no_command words e)
  by_test false e = alike_tokens (map token_of words)

-- where profile 1 says a command, the same holds of what the lines say
abbrev pub SayAlike : (one untold two : Result (Option Command) ScriptError) → Type 0
SayAlike (Err e) untold two = ⊤
SayAlike (Ok o) untold two = (untold ≡ Ok o) × (two ≡ Ok (option_map in_profile_2 o)) × (o ≡ Some Profile2 → ⊥)

or_faults_alike : (one untold two : Option Command) → AreAlike one untold two → SayAlike (said_or_fault one) (said_or_fault untold) (said_or_fault two)
or_faults_alike None untold two a = tt
or_faults_alike (Some c) untold two a = (ap said_or_fault a.0, ap said_or_fault a.1, λ e. a.2 (same_Some c Profile2 e))

or_skipped_alike : (words : List (List ℕ)) (skipped : Bool)
    → SayAlike (if skipped then Ok None else said_or_fault (command_in Profile1 words)) (if skipped then Ok None else said_or_fault (command_in Untold words)) (if skipped then Ok None else said_or_fault (command_in Two words))
or_skipped_alike words true = (refl, refl, λ e. cc)
or_skipped_alike words false = or_faults_alike (command_in Profile1 words) (command_in Untold words) (command_in Two words) (alike_words words)

lexemes_alike : (words : List (List ℕ)) → SayAlike (lexemes_say Profile1 words) (lexemes_say Untold words) (lexemes_say Two words)
lexemes_alike [] = (refl, refl, λ e. cc)
lexemes_alike (first ∷ more) = or_skipped_alike (first ∷ more) (is_comment first)

pub lines_alike : (line : List ℕ) → SayAlike (line_of Profile1 line) (line_of Untold line) (line_of Two line)
lines_alike line = by_test (nat_lt 200 (length line)) where
  by_test : (b : Bool) → SayAlike (if b then Err LongLine else lexemes_say Profile1 (lexemes line)) (if b then Err LongLine else lexemes_say Untold (lexemes line)) (if b then Err LongLine else lexemes_say Two (lexemes line))
  by_test true = tt
  by_test false = lexemes_alike (lexemes line)
