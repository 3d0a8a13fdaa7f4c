-- What a parse finds for one of the options passed the option's own test.
use Rattle.std.proofs.Common.{◌≡◌, ◌≢◌, ◌⊎◌, ◌∙◌, ◌<◌, ℕ, zero, suc, true, false, List, [], ◌∷◌, length, map, codes, pos, Option, Some, None, refl, sym, ap, subst, inl, inr, arith}
use Rattle.std.specs.Prelude.{option_map, slice_get, slice_index}
use Rattle.std.specs.List.{All, slice_index_or}
use Rattle.std.specs.Str.{bytes_eq}
use Rattle.std.specs.Borrow.{Bor}
use Rattle.std.proofs.lemmas.Slice.Eq.{bytes_eq-Decides}
use Rattle.std.proofs.lemmas.List.{get_or-map, length-map}
use Rattle.std.proofs.lemmas.List.Elements.{All-get_or}
use Rattle.clap.specs.Lexer.{without_minus}
use Rattle.clap.specs.Walk.{Rule, rule_of}
use Rattle.clap.specs.Simple.{app_of}
use Rattle.clap.specs.Facts.{Entry, EntryPasses, HasReading, PassesArg, ValuesPass, args_of, groups_of, parser_of, parser_of_value}
use Rattle.clap.specs.Built.{IsParsedFrom, IsPlain, SameRules}
use Rattle.clap.specs.Matches.{found_of, matched_of}
use Rattle.clap.specs.Values.{Accepts, IsSignedIn, read_as, reading_of}
use Rattle.clap.specs.declared.builder.arg.Arg.{Arg}
use Rattle.clap.specs.declared.builder.command.Command.{Command}
use Rattle.clap.specs.declared.builder.command.Command.TheViews.{out-Command}
use Rattle.clap.specs.declared.builder.value_parser.Reading.{Reading}
use Rattle.clap.specs.declared.builder.value_parser.ValueParser.{ValueParser}
use Rattle.clap.specs.declared.builder.value_parser.ValueParser.TheVariants.{Signed}
use Rattle.clap.specs.declared.parser.matches.ArgMatches.{ArgMatches}
use Rattle.clap.specs.declared.parser.matches.MatchedArg.{MatchedArg}
use Rattle.clap.proofs.CallerLemmas.{entry_by_id, same_rules_by_id}
use Rattle.script_core.specs.CommandLine.{FindsUpTo, number_rule, options_line}

-- what holds of all values of a list holds of the first
first_passes : {X : Type 0} (P : X → Type 0) (xs : List X) (x : X) → All P xs → slice_get xs 0 ≡ Some x → P x
first_passes P [] x all is = cc
first_passes P (y ∷ ys) x all is =
    let same : y ≡ x = cc in
    subst P same (All-get_or P (y ∷ ys) 0 y (omega arith) all)

-- an argument of the caller's with an id of its own, which takes the numbers from 1 to most
record Takes (old : Command) (k : ℕ) (d : Arg) (id : List ℕ) (most : ℕ) : Type 0 where
  pub within : k < length (args_of old)
  pub id_is : (slice_index_or (args_of old) k d).id.now ≡ id
  pub named : id ≡ [] → ⊥
  pub own : (id ≡ codes "help") ⊎ (id ≡ codes "version") → ⊥
  pub alone : (j : ℕ) (e : Arg) → j < length (args_of old) → bytes_eq (slice_index_or (args_of old) j e).id.now id ≡ true → j ≡ k
  pub parser : (slice_index_or (args_of old) k d).value_parser ≡ Some (Signed (pos 1) (pos most))

module _ (old : Command) (m : ArgMatches) (p : IsParsedFrom old m) (k : ℕ) (d : Arg) (id : List ℕ) (most : ℕ) (takes : Takes old k d id most) where
  -- an argument of the built command with this id is the caller's
  same_rules : (j : ℕ) (x : Arg) → j < length (args_of p.built) → slice_index_or (args_of p.built) j x ≡ x → bytes_eq x.id.now id ≡ true
      → SameRules (slice_index_or (args_of old) k d) x
  same_rules j x within at same =
      same_rules_by_id old m p k d takes.within (λ i e low eq. takes.alone i e low (rw (← takes.id_is) eq))
      (λ auto. takes.own (rw (← takes.id_is) auto)) j x within at (rw takes.id_is same)

  parser_is : (x : Arg) → SameRules (slice_index_or (args_of old) k d) x → parser_of x ≡ Signed (pos 1) (pos most)
  parser_is x same = ap parser_of_value (same.parser _ takes.parser)

  accepted : (value : List ℕ) → PassesArg p.built id value → IsSignedIn (pos 1) (pos most) value
  accepted value pass =
      subst (λ (q : ValueParser). Accepts pass.1.ignore_case q value) (parser_is pass.1 (same_rules pass.0 pass.1 pass.2 pass.3 pass.4.0)) pass.4.1

  reading : (r : Reading) → HasReading p.built id r → reading_of (Signed (pos 1) (pos most)) ≡ r
  reading r any = ap reading_of (sym (parser_is any.1 (same_rules any.0 any.1 any.2 any.3 any.4.0))) ∙ any.4.1

  -- the value that an entry gives
  entry_finds : (x : MatchedArg) (v : Bor (List ℕ)) (e : Entry) → groups_of p.built ≡ [] → slice_get x.vals.items 0 ≡ Some v
      → e.1 ≡ x → e.0.now ≡ id → EntryPasses p.built e
      → (read_as x.reading v.now ≡ without_minus v.now) × IsSignedIn (pos 1) (pos most) v.now
  entry_finds x v e no_groups first same_x key pass =
      let no_group : e.1.is_group ≡ true → ⊥ = λ g. elim (pass.3 g) [
        | inl empty ↦ takes.named (sym key ∙ empty)
        | inr some ↦
            let bad : 0 < 0 = rw no_groups at some in
            absurd (omega arith)
      ] in
      let all : All (λ (w : Bor (List ℕ)). PassesArg p.built id w.now) x.vals.items = elim pass.0 [
        | inl g ↦ absurd (no_group g)
        | inr vals ↦ subst (λ (w : List ℕ). All (λ v. PassesArg p.built w v.now) x.vals.items) key (rw same_x at vals)
      ] in
      let how : reading_of (Signed (pos 1) (pos most)) ≡ x.reading = elim pass.4 [
        | inl g ↦ absurd (no_group g)
        | inr h ↦ reading x.reading (subst (λ (w : List ℕ). HasReading p.built w x.reading) key (rw same_x at h))
      ] in
      (ap (λ (r : Reading). read_as r v.now) (sym how), accepted v.now (first_passes (λ w. PassesArg p.built id w.now) x.vals.items v all first))

  finds : IsPlain old → (out-Command old).has_globals ≡ false → FindsUpTo (found_of m) id most
  finds plain globals text is = at_entry (matched_of (found_of m) id) refl
    where
      parsed : ValuesPass p.built (found_of m)
      parsed = (p.parsed (p.from.globals ∙ globals)).values

      at_value : (x : MatchedArg) → matched_of (found_of m) id ≡ Some x → (o : Option (Bor (List ℕ))) → slice_get x.vals.items 0 ≡ o
          → option_map (λ v. read_as x.reading v.now) o ≡ Some text
          → (given : List ℕ) × (text ≡ without_minus given) × IsSignedIn (pos 1) (pos most) given
      at_value x at None first has = cc
      at_value x at (Some v) first has =
          let got = entry_by_id (EntryPasses p.built) (found_of m).entries.items id x parsed at in
          let found = entry_finds x v got.0 (p.from.plain plain).1 first got.1 ((bytes_eq-Decides got.0.0.now id).0 got.2) got.3 in
          let same : read_as x.reading v.now ≡ text = cc in
          (v.now, sym same ∙ found.0, found.1)

      at_entry : (o : Option MatchedArg) → matched_of (found_of m) id ≡ o
          → (given : List ℕ) × (text ≡ without_minus given) × IsSignedIn (pos 1) (pos most) given
      at_entry None at =
          let none : None ≡ Some text = rw at at is in
          cc
      at_entry (Some x) at =
          let has : option_map (λ v. read_as x.reading v.now) (slice_get x.vals.items 0) ≡ Some text = rw at at is in
          at_value x at (slice_get x.vals.items 0) refl has

-- the ids of the three options
abbrev pub id_at : ℕ → List ℕ
id_at zero = codes "copiers"
id_at (suc zero) = codes "capacity"
id_at (suc (suc n)) = codes "journal"

abbrev pub most_at : ℕ → ℕ
most_at zero = 4
most_at (suc zero) = 64
most_at (suc (suc n)) = 65536

abbrev pub rules_at : List Rule
rules_at = number_rule (id_at 0) (most_at 0) ∷ number_rule (id_at 1) (most_at 1) ∷ number_rule (id_at 2) (most_at 2) ∷ []

-- no two of the three ids are the same
distinct : (j k : ℕ) → j < 3 → k < 3 → bytes_eq (id_at j) (id_at k) ≡ true → j ≡ k
distinct zero zero lj lk e = refl
distinct zero (suc zero) lj lk e = cc
distinct zero (suc (suc k)) lj lk e = cc
distinct (suc zero) zero lj lk e = cc
distinct (suc zero) (suc zero) lj lk e = refl
distinct (suc zero) (suc (suc k)) lj lk e = cc
distinct (suc (suc j)) zero lj lk e = cc
distinct (suc (suc j)) (suc zero) lj lk e = cc
distinct (suc (suc j)) (suc (suc k)) lj lk e = omega arith

named_at : (k : ℕ) → id_at k ≡ [] → ⊥
named_at zero e = cc
named_at (suc zero) e = cc
named_at (suc (suc k)) e = cc

-- texts with different first bytes differ
differs : (x y : ℕ) {xs ys : List ℕ} → x ∷ xs ≡ y ∷ ys → x ≢ y → ⊥
differs x y e ne = ne (ap (λ t. slice_index t 0) e)

own_at : (k : ℕ) → (id_at k ≡ codes "help") ⊎ (id_at k ≡ codes "version") → ⊥
own_at zero (inl e) = differs 99 104 e (omega arith)
own_at zero (inr e) = differs 99 118 e (omega arith)
own_at (suc zero) (inl e) = differs 99 104 e (omega arith)
own_at (suc zero) (inr e) = differs 99 118 e (omega arith)
own_at (suc (suc k)) (inl e) = differs 106 104 e (omega arith)
own_at (suc (suc k)) (inr e) = differs 106 118 e (omega arith)

rule_at : (k : ℕ) (r : Rule) → k < 3 → slice_index_or rules_at k r ≡ number_rule (id_at k) (most_at k)
rule_at zero r l = refl
rule_at (suc zero) r l = refl
rule_at (suc (suc zero)) r l = refl
rule_at (suc (suc (suc k))) r l = absurd (omega arith)

head_of : (xs : List Arg) → 0 < length xs → Arg
head_of [] l = absurd (omega arith)
head_of (x ∷ xs) l = x

-- after a parse of the command line, what is found for each option is a number in its range
pub option_finds : (old : Command) (m : ArgMatches) → IsParsedFrom old m → IsPlain old → (out-Command old).has_globals ≡ false
    → app_of old ≡ options_line → (k : ℕ) → k < 3 → FindsUpTo (found_of m) (id_at k) (most_at k)
unfolding options_line
option_finds old m p plain globals line k l =
    let rules : map rule_of (args_of old) ≡ rules_at = ap (λ a. a.top.rules) line in
    let three : length (args_of old) ≡ 3 = sym (length-map (args_of old) rule_of) ∙ ap length rules in
    let d = head_of (args_of old) (omega arith) in
    let at : (j : ℕ) (e : Arg) → j < 3 → rule_of (slice_index_or (args_of old) j e) ≡ number_rule (id_at j) (most_at j) =
    λ j e low. sym (get_or-map rule_of (args_of old) j e (rule_of e) (omega arith)) ∙ ap (λ rs. slice_index_or rs j (rule_of e)) rules ∙ rule_at j (rule_of e) low in
    finds old m p k d (id_at k) (most_at k) (record {
      within = omega arith;
      id_is = ap (λ r. r.id) (at k d l);
      named = named_at k;
      own = own_at k;
      alone = λ j e low same. let under : j < 3 = omega arith in distinct j k under l (rw (← ap (λ (r : Rule). r.id) (at j e under)) same);
      parser = ap (λ r. r.parser) (at k d l);
    }) plain globals
