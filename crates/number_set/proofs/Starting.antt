-- Where the words of a level that have a number start.
use Rattle.std.proofs.Common.{◌≡◌, ◌≢◌, ℕ, ◌≤◌, Bool, true, false, not, List, length, inl, inr, refl, sym, ap, ◌∙◌, min, eq-eqb, arith}
use Rattle.std.specs.Prelude.{◌<◌, nat_eq, nat_lt, ◌&&◌, ◌||◌}
use Rattle.std.specs.Ordering.{nat_cmp}
use Rattle.std.specs.FinSet as set
use Rattle.std.proofs.lemmas.Bool.{ne_eqb}
use Rattle.std.proofs.lemmas.Bool.Decides.{leb_tells, nat_tests}
use Rattle.std.proofs.lemmas.List.{get_or_past}
use Rattle.number_set.specs.Bits.{is_filled}
use Rattle.number_set.specs.Finds.{IsFirst, NoneAtAll, StartsAt}
use Rattle.number_set.specs.Levels.{Summarizes}
use Rattle.number_set.specs.Runs.{in_run}

-- what the set above tells of where the words start, and the other way round
module _ (words : List ℕ) (above : set.FinSet nat_cmp) (each : Summarizes above words) (lowest : ℕ) where
  module _ (starts : StartsAt (is_filled words) (length words) lowest) where
    pub starts_nowhere : length words ≤ lowest → NoneAtAll (set.contains above)
    starts_nowhere past word = each word ∙ elim (leb_tells (length words) word) [
      | inl far ↦ ap (nat_lt 0) (get_or_past words word 0 far.1)
      | inr near ↦ starts.before word (omega (arith, past, near.1))
    ]

    pub starts_there : lowest < length words → IsFirst (set.contains above) lowest
    starts_there within = record {
      passes = each lowest ∙ starts.passes within;
      before = λ word less. each word ∙ starts.before word less;
    }

    -- where the set above stays as it is
    pub starts_kept : (new : List ℕ) → length new ≡ length words → Summarizes above new → StartsAt (is_filled new) (length new) lowest
    starts_kept new long kept = record {
      before = λ word less. sym (kept word) ∙ each word ∙ starts.before word less;
      passes = λ within. sym (kept lowest) ∙ each lowest ∙ starts.passes (omega (arith, within, long));
    }

  pub starts_above : (end : ℕ) → end ≡ length words → StartsAt (set.contains above) end lowest → StartsAt (is_filled words) (length words) lowest
  starts_above end is starts = record {
    before = λ word less. sym (each word) ∙ starts.before word less;
    passes = λ within. sym (each lowest) ∙ starts.passes (omega (arith, within, is));
  }

and_false : (b : Bool) → (b && false) ≡ false
and_false true = refl
and_false false = refl

-- a word other than the one that is emptied
pub not_emptied : (emptied : Bool) (word other : ℕ) → other ≢ word → (emptied && nat_eq other word) ≡ false
not_emptied emptied word other away = ap (λ b. emptied && b) (ne_eqb other word away) ∙ and_false emptied

-- the words that pass q got a number, or lost theirs
module _ (words new : List ℕ) (long : length new ≡ length words) (q : ℕ → Bool) (lowest : ℕ) (starts : StartsAt (is_filled words) (length words) lowest) where
  pub starts_put : ((word : ℕ) → is_filled new word ≡ (q word || is_filled words word)) → (put least : ℕ) → IsFirst q put → least ≡ min lowest put → StartsAt (is_filled new) (length new) least
  starts_put filled put least first is = record {
    before = λ word less. filled word ∙ ap (λ b. b || is_filled words word) (first.before word (omega (arith, is, less))) ∙ starts.before word (omega (arith, is, less));
    passes = λ within. elim (leb_tells lowest put) [
      | inl low ↦
          let same : least ≡ lowest = omega (arith, is, low.1) in
          ap (is_filled new) same ∙ filled lowest ∙ ap (λ b. q lowest || b) (starts.passes (omega (arith, same, within, long))) ∙ or_true (q lowest)
      | inr high ↦ (let same : least ≡ put = omega (arith, is, high.1) in ap (is_filled new) same ∙ filled put ∙ ap (λ b. b || is_filled words put) first.passes)
    ];
  } where
    or_true : (b : Bool) → (b || true) ≡ true
    or_true true = refl
    or_true false = refl

  pub starts_cut : ((word : ℕ) → is_filled new word ≡ (not (q word) && is_filled words word)) → q lowest ≡ false → StartsAt (is_filled new) (length new) lowest
  starts_cut filled away = record {
    before = λ word less. filled word ∙ ap (λ b. not (q word) && b) (starts.before word less) ∙ and_false (not (q word));
    passes = λ within. filled lowest ∙ ap (λ b. not b && is_filled words lowest) away ∙ starts.passes (omega (arith, within, long));
  }

-- where one word starts, and some in a row
pub first_of_one : (n : ℕ) → IsFirst (λ k. nat_eq k n) n
first_of_one n = record {
  passes = eq-eqb n n refl;
  before = λ k less. ne_eqb k n (λ same. absurd (omega (arith, same, less)));
}

pub first_of_run : (first count : ℕ) → 0 < count → IsFirst (in_run first count) first
first_of_run first count some = record {
  passes = grind (arith, nat_tests, some);
  before = λ k less. grind (arith, nat_tests, less);
}
