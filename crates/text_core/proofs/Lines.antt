-- The lines of an input, from one to the next.
use Rattle.std.proofs.Common.{◌≡◌, ℕ, suc, ◌+◌, ◌<◌, Bool, true, false, cond, List, [], ◌∷◌, ◌++◌, length, length-append, get_or, take, drop, length-take, refl, sym, ap, ◌∙◌, arith, Option, Some, None, Result, Err}
use Rattle.std.specs.Prelude.{nat_eq, nat_lt, if◌then◌else◌}
use Rattle.std.specs.List.{All, onto_first}
use Rattle.std.specs.Option.{option_or}
use Rattle.std.proofs.lemmas.Bool.Decides.{nat_tests}
use Rattle.std.proofs.lemmas.Bool.{false_from_ne_true}
use Rattle.std.proofs.lemmas.List.{drop_more, get_or-take, take-append-drop}
use Rattle.std.proofs.lemmas.List.Sums.{get_or-le-sum_by}
use Rattle.std.proofs.lemmas.List.Splits.{slice_split_at, slice_split_none}
use Rattle.memchr.specs.Find.{IsFirstByte, is_byte}
use Rattle.text_core.specs.declared.fault.RunError.{RunError}
use Rattle.text_core.specs.declared.fault.Fault.{Fault}
use Rattle.text_core.specs.declared.fault.Fault.TheVariants.{Syntax, LongLine}
use Rattle.text_core.specs.Line.{line_of}
use Rattle.text_core.specs.Reply.{newlines}
use Rattle.text_core.specs.Script.{Came, Numbered, Reading, comes_in, comes_outside, commands_from, fault_from, line_comes, line_fault, onto_commands, open_fault, parts_of, reading_after, reading_from}
use Rattle.text_core.proofs.Newlines.{newlines-append}

newline_first : (b : ℕ) (bytes : List ℕ) → newlines (b ∷ bytes) ≡ 0 → (nat_eq b 10 ≡ false) × (newlines bytes ≡ 0)
newline_first b bytes e =
    let parts = newlines-append (b ∷ []) bytes in
    (grind (arith, nat_tests, parts), omega (arith, parts))

unbroken : (bytes : List ℕ) → newlines bytes ≡ 0 → All (λ b. nat_eq b 10 ≡ false) bytes
unbroken bytes e = λ k d within. let most = get_or-le-sum_by (λ b. cond (nat_eq b 10) 1 0) bytes k d within in grind (arith, nat_tests, most)

-- the parts of an input with one more line in front
pub parts-line : (text rest : List ℕ) → newlines text ≡ 0 → parts_of (text ++ 10 ∷ rest) ≡ text ∷ parts_of rest
parts-line text rest e = slice_split_at (λ b. nat_eq b 10) text 10 rest (unbroken text e) refl

-- the parts of bytes without a newline
pub parts-end : (text : List ℕ) → newlines text ≡ 0 → parts_of text ≡ text ∷ []
parts-end text e = slice_split_none (λ b. nat_eq b 10) text (unbroken text e)

-- the first part of an input, and the others
pub record Parts (input : List ℕ) : Type 0 where
  pub first : List ℕ
  pub others : List (List ℕ)
  pub are : parts_of input ≡ first ∷ others

onto_first_is : (b : ℕ) (parts : List (List ℕ)) (first : List ℕ) (others : List (List ℕ)) → parts ≡ first ∷ others → onto_first b parts ≡ (b ∷ first) ∷ others
onto_first_is b parts first others e = ap (onto_first b) e

pub parts_are : (input : List ℕ) → Parts input
parts_are [] = record { first = []; others = []; are = refl }
parts_are (b ∷ input) = by_test (parts_are input) (nat_eq b 10) refl where
  by_test : Parts input → (t : Bool) → nat_eq b 10 ≡ t → Parts (b ∷ input)
  by_test p true e = record { first = []; others = parts_of input; are = ap (λ (t : Bool). cond t ([] ∷ parts_of input) (onto_first b (parts_of input))) e }
  by_test p false e = record { first = b ∷ p.first; others = p.others; are = ap (λ (t : Bool). cond t ([] ∷ parts_of input) (onto_first b (parts_of input))) e ∙ onto_first_is b (parts_of input) p.first p.others p.are }

-- bytes without a newline belong to the first part
pub parts-more : (text rest : List ℕ) (p : Parts rest) → newlines text ≡ 0 → parts_of (text ++ rest) ≡ (text ++ p.first) ∷ p.others
parts-more [] rest p e = p.are
parts-more (b ∷ text) rest p e =
    let first = newline_first b text e in
    ap (λ (t : Bool). cond t ([] ∷ parts_of (text ++ rest)) (onto_first b (parts_of (text ++ rest)))) first.0
    ∙ onto_first_is b (parts_of (text ++ rest)) (text ++ p.first) p.others (parts-more text rest p first.1)

-- a line outside a block
pub outside-line : (q : Reading) (n : ℕ) (text : List ℕ) → q.block ≡ None → line_comes q n text ≡ comes_outside q.profile n (line_of q.profile text)
outside-line q n text outside = ap (λ o. comes_in o q.profile n text) outside

-- the commands from a line on, given what the line makes
abbrev pub commands_by : Reading → ℕ → Result Came Fault → List (List ℕ) → List Numbered
commands_by q n came parts = onto_commands came (commands_from (reading_after q came) (n + 1) parts)

-- the first fault from a line on, given what the line makes
abbrev pub fault_by : Reading → ℕ → Result Came Fault → List (List ℕ) → Option RunError
fault_by q n came parts = option_or (line_fault n came) (fault_from (reading_after q came) (n + 1) parts)

-- how the bytes after the last newline are read, given what a line makes
abbrev pub reading_by : Reading → ℕ → Result Came Fault → List (List ℕ) → Reading
reading_by q n came parts = reading_from (reading_after q came) (n + 1) parts

-- what is the same of any first part and the others is the same of the parts of an input
by_parts : {A : Type 0} (F G : List (List ℕ) → A) → ((first : List ℕ) (others : List (List ℕ)) → F (first ∷ others) ≡ G (first ∷ others)) → (input : List ℕ) → F (parts_of input) ≡ G (parts_of input)
by_parts F G same input = let p = parts_are input in ap F p.are ∙ same p.first p.others ∙ ap G (sym p.are)

module _ (q : Reading) (n : ℕ) (text rest : List ℕ) (e : newlines text ≡ 0) where
  pub commands-line : commands_from q n (parts_of (text ++ 10 ∷ rest)) ≡ commands_by q n (line_comes q n text) (parts_of rest)
  commands-line = ap (commands_from q n) (parts-line text rest e) ∙ by_parts (λ ps. commands_from q n (text ∷ ps)) (commands_by q n (line_comes q n text)) (λ first others. refl) rest

  pub fault-line : fault_from q n (parts_of (text ++ 10 ∷ rest)) ≡ fault_by q n (line_comes q n text) (parts_of rest)
  fault-line = ap (fault_from q n) (parts-line text rest e) ∙ by_parts (λ ps. fault_from q n (text ∷ ps)) (fault_by q n (line_comes q n text)) (λ first others. refl) rest

  pub reading-line : reading_from q n (parts_of (text ++ 10 ∷ rest)) ≡ reading_by q n (line_comes q n text) (parts_of rest)
  reading-line = ap (reading_from q n) (parts-line text rest e) ∙ by_parts (λ ps. reading_from q n (text ∷ ps)) (reading_by q n (line_comes q n text)) (λ first others. refl) rest

-- how a line is read isn't changed by bytes without a newline
pub reading-end : (q : Reading) (n : ℕ) (cut : List ℕ) → newlines cut ≡ 0 → reading_from q n (parts_of cut) ≡ q
reading-end q n cut e = ap (reading_from q n) (parts-end cut e)

-- a line of more than 200 bytes is a fault
line_comes-long : (q : Reading) (n : ℕ) (text : List ℕ) → 200 < length text → line_comes q n text ≡ Err LongLine
line_comes-long q n text h = grind (arith, nat_tests)

commands_long : (q : Reading) (n : ℕ) (text : List ℕ) (others : List (List ℕ)) → 200 < length text → commands_from q n (text ∷ others) ≡ []
commands_long q n text [] h = refl
commands_long q n text (next ∷ parts) h = ap (λ l. commands_by q n l (next ∷ parts)) (line_comes-long q n text h)

fault_long : (q : Reading) (n : ℕ) (text : List ℕ) (others : List (List ℕ)) → 200 < length text → fault_from q n (text ∷ others) ≡ Some (record { fault = LongLine; line = n })
fault_long q n [] others h = absurd (omega arith)
fault_long q n (b ∷ bytes) [] h =
    let long : nat_lt 200 (length (b ∷ bytes)) ≡ true = grind (arith, nat_tests) in
    ap (λ (t : Bool). option_or (Some (record { fault = if t then LongLine else Syntax; line = n })) (open_fault q.block)) long
fault_long q n (b ∷ bytes) (next ∷ parts) h = ap (λ l. fault_by q n l (next ∷ parts)) (line_comes-long q n (b ∷ bytes) h)

-- a line that begins with more than 200 bytes is the first fault
pub commands-long : (q : Reading) (n : ℕ) (text rest : List ℕ) → newlines text ≡ 0 → 200 < length text → commands_from q n (parts_of (text ++ rest)) ≡ []
commands-long q n text rest e h = let p = parts_are rest in
    ap (commands_from q n) (parts-more text rest p e) ∙ commands_long q n (text ++ p.first) p.others (omega (arith, length-append text p.first))

pub fault-long : (q : Reading) (n : ℕ) (text rest : List ℕ) → newlines text ≡ 0 → 200 < length text → fault_from q n (parts_of (text ++ rest)) ≡ Some (record { fault = LongLine; line = n })
fault-long q n text rest e h = let p = parts_are rest in
    ap (fault_from q n) (parts-more text rest p e) ∙ fault_long q n (text ++ p.first) p.others (omega (arith, length-append text p.first))

newlines-none : (xs : List ℕ) → ((k : ℕ) → k < length xs → nat_eq (get_or xs k 0) 10 ≡ false) → newlines xs ≡ 0
newlines-none [] h = refl
newlines-none (x ∷ xs) h =
    let here : nat_eq x 10 ≡ false = h 0 (omega arith) in
    let one : newlines (x ∷ []) ≡ 0 = grind (arith, nat_tests) in
    omega (arith, newlines-append (x ∷ []) xs, one, newlines-none xs (λ k below. h (suc k) (omega (arith, below))))

-- what is known of the first newline of a text
pub record FirstNewline (xs : List ℕ) (end : ℕ) : Type 0 where
  pub within : end < length xs
  pub unbroken : newlines (take end xs) ≡ 0
  pub split : xs ≡ take end xs ++ 10 ∷ drop (end + 1) xs

pub newline_found : (xs : List ℕ) (end : ℕ) → IsFirstByte (is_byte 10) xs (Some end) → FirstNewline xs end
newline_found xs end found =
    let place = found.0 in
    let is = found.1 in
    let byte : get_or xs end 0 ≡ 10 = grind (arith, nat_tests, is) in
    record {
      within = place.high;
      unbroken = newlines-none (take end xs) (λ k below. let near : k < end = (let some = place.high in omega (arith, below, length-take end xs)) in
          ap (λ (b : ℕ). nat_eq b 10) (get_or-take end xs k 0 near) ∙ false_from_ne_true _ (place.before k (omega arith) near));
      split = sym (take-append-drop end xs) ∙ ap (λ (r : List ℕ). take end xs ++ r) (drop_more xs end 0 place.high ∙ ap (λ (b : ℕ). b ∷ drop (end + 1) xs) byte);
    }

pub newline_missing : (xs : List ℕ) → IsFirstByte (is_byte 10) xs None → newlines xs ≡ 0
newline_missing xs none = newlines-none xs (λ k within. false_from_ne_true _ (none k (omega arith) within))
