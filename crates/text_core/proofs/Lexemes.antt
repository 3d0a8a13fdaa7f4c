-- The words of a text.
use Rattle.std.proofs.Common.{inl, inr, ◌≡◌, ℕ, suc, ◌+◌, ◌<◌, ◌≤◌, Bool, true, false, not, ◌&&◌, List, [], ◌∷◌, ◌++◌, length, take, drop, get_or, refl, sym, ap, ◌∙◌, arith, cond}
use Rattle.std.specs.Prelude.{nat_eq, nat_lt, filter, codes, position, unwrap_or}
use Rattle.std.specs.List.{slice_split, onto_first, starts_with, position_or_len, after_first}
use Rattle.std.proofs.lemmas.List.{at_drop_more, drop_all, take_all}
use Rattle.std.proofs.lemmas.List.Sums.{prefix_len-le-length, passes_at_first, fails_before_first, take_while-cons}
use Rattle.std.proofs.lemmas.List.Folds.{length-prefix_len}
use Rattle.std.proofs.lemmas.List.Splits.{slice_split_first, slice_split_none}
use Rattle.std.proofs.lemmas.Bool.{and_parts, cases_lt, not-true}
use Rattle.std.proofs.lemmas.Bool.Decides.{nat_tests}
use Rattle.text_core.specs.Token.{lexemes, first_word, after_word}

abbrev pub is_space : ℕ → Bool
is_space byte = nat_eq byte 32

abbrev pub is_lexeme : List ℕ → Bool
is_lexeme part = nat_lt 0 (length part)

abbrev pub lexeme_len : List ℕ → ℕ
lexeme_len xs = position_or_len is_space xs

pub lexeme_len_is : (xs : List ℕ) → unwrap_or (position is_space xs) (length xs) ≡ lexeme_len xs
lexeme_len_is xs = (let most = prefix_len-le-length (λ b. not (is_space b)) xs in grind (arith, nat_tests, most))

-- a text that begins with a space has the words of the rest
pub lexemes_space : (b : ℕ) (xs : List ℕ) → is_space b ≡ true → lexemes (b ∷ xs) ≡ lexemes xs
lexemes_space b xs e = ap (λ (t : Bool). filter is_lexeme (cond t ([] ∷ slice_split is_space xs) (onto_first b (slice_split is_space xs)))) e

first_kept : (part : List ℕ) (parts : List (List ℕ)) → 0 < length part → filter is_lexeme (part ∷ parts) ≡ part ∷ filter is_lexeme parts
first_kept part parts h = grind (arith, nat_tests)

lexeme_len_pos : (x : ℕ) (xs : List ℕ) → is_space x ≡ false → 0 < lexeme_len (x ∷ xs)
lexeme_len_pos x xs e = grind arith

lexeme_then_space : (xs : List ℕ) → 0 < lexeme_len xs → lexeme_len xs < length xs → lexemes xs ≡ first_word xs ∷ lexemes (after_word xs)
lexeme_then_space xs some h =
    let n = lexeme_len xs in
    let len : length (take n xs) ≡ n = length-prefix_len (λ b. not (is_space b)) xs in
    let after : lexemes (drop n xs) ≡ lexemes (drop (n + 1) xs) =
    at_drop_more lexemes xs n 0 h ∙ lexemes_space (get_or xs n 0) (drop (n + 1) xs) (passes_at_first is_space xs 0 h) in
    ap (filter is_lexeme) (slice_split_first is_space xs 0 h) ∙ first_kept (take n xs) (slice_split is_space (after_first is_space xs)) (omega arith) ∙ ap (λ (r : List (List ℕ)). take n xs ∷ r) (sym after)

lexeme_to_end : (xs : List ℕ) → 0 < length xs → length xs ≤ lexeme_len xs → lexemes xs ≡ first_word xs ∷ lexemes (after_word xs)
lexeme_to_end xs some h =
    ap (filter is_lexeme) (slice_split_none is_space xs (λ k d below. fails_before_first is_space xs k d (omega arith)))
    ∙ first_kept xs [] some
    ∙ ap (λ (r : List ℕ). r ∷ []) (sym (take_all (lexeme_len xs) xs h))
    ∙ ap (λ (r : List ℕ). take (lexeme_len xs) xs ∷ lexemes r) (sym (drop_all (lexeme_len xs) xs h))

apart : (a : ℕ) (ys : List ℕ) → starts_with nat_eq (a ∷ ys) (codes " ") ≡ false → is_space a ≡ false
apart a ys e = grind (arith, nat_tests)

-- where a text doesn't begin with a space, its first word is what stands before the first space
pub lexemes_first : (xs : List ℕ) → 0 < length xs → starts_with nat_eq xs (codes " ") ≡ false → lexemes xs ≡ first_word xs ∷ lexemes (after_word xs)
lexemes_first [] h e = absurd (omega arith)
lexemes_first (x ∷ xs) h e = elim (cases_lt (lexeme_len (x ∷ xs)) (length (x ∷ xs))) [
  | inl below ↦ lexeme_then_space (x ∷ xs) (lexeme_len_pos x xs (apart x xs e)) below
  | inr past ↦ lexeme_to_end (x ∷ xs) h past
]

-- the first word of a text that begins with another byte than a space
pub first_word_step : (b : ℕ) (xs : List ℕ) → is_space b ≡ false → first_word (b ∷ xs) ≡ b ∷ first_word xs
first_word_step b xs e = take_while-cons (λ c. not (is_space c)) b xs ∙ ap (λ (t : Bool). cond (not t) (b ∷ first_word xs) []) e

pub after_word_step : (b : ℕ) (xs : List ℕ) → is_space b ≡ false → after_word (b ∷ xs) ≡ after_word xs
after_word_step b xs e =
    let more : 1 + lexeme_len xs ≡ suc (lexeme_len xs) = omega arith in
    ap (λ (t : Bool). drop (cond (not t) (1 + lexeme_len xs) 0) (b ∷ xs)) e ∙ ap (λ (n : ℕ). drop n (b ∷ xs)) more

space_first : (b : ℕ) (xs : List ℕ) → starts_with nat_eq (b ∷ xs) (codes " ") ≡ true → is_space b ≡ true
space_first b xs e = grind (arith, nat_tests)

-- the first word of a text that is empty or begins with a space is empty
pub first_word_none : (xs : List ℕ) → starts_with nat_eq xs (codes " ") ≡ true → first_word xs ≡ []
first_word_none [] e = refl
first_word_none (b ∷ xs) e = ap (λ (t : Bool). take (cond (not t) (1 + lexeme_len xs) 0) (b ∷ xs)) (space_first b xs e)

-- a digit isn't a space
pub is_apart : (d : ℕ) → nat_eq (48 + d) 32 ≡ false
is_apart d = grind (arith, nat_tests)

pub starts_apart : (b : ℕ) (xs : List ℕ) → is_space b ≡ false → starts_with nat_eq (b ∷ xs) (codes " ") ≡ false
starts_apart b xs e = grind (arith, nat_tests)

-- bytes without a space
abbrev pub is_bare : List ℕ → Bool
is_bare [] = true
is_bare (b ∷ bs) = not (is_space b) && is_bare bs

bare_parts : (b : ℕ) (bs : List ℕ) → is_bare (b ∷ bs) ≡ true → (is_space b ≡ false) × (is_bare bs ≡ true)
bare_parts b bs e = let both = and_parts (not (is_space b)) (is_bare bs) e in (not-true (is_space b) both.0, both.1)

pub bare_apart : (b : ℕ) (bs xs : List ℕ) → is_bare (b ∷ bs) ≡ true → starts_with nat_eq (b ∷ xs) (codes " ") ≡ false
bare_apart b bs xs e = starts_apart b xs (bare_parts b bs e).0

-- the first word of bytes without a space, followed by more
pub first_word-append : (word xs : List ℕ) → is_bare word ≡ true → first_word (word ++ xs) ≡ word ++ first_word xs
first_word-append [] xs e = refl
first_word-append (b ∷ word) xs e =
    let parts = bare_parts b word e in
    first_word_step b (word ++ xs) parts.0 ∙ ap (λ (r : List ℕ). b ∷ r) (first_word-append word xs parts.1)

pub after_word-append : (word xs : List ℕ) → is_bare word ≡ true → after_word (word ++ xs) ≡ after_word xs
after_word-append [] xs e = refl
after_word-append (b ∷ word) xs e =
    let parts = bare_parts b word e in
    after_word_step b (word ++ xs) parts.0 ∙ after_word-append word xs parts.1
