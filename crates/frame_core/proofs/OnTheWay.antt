-- Which serials are out, and which pages they were isolated with.
use Rattle.std.proofs.Common.{◌≡◌, ◌≢◌, ℕ, ◌+◌, ◌<◌, ◌≤◌, Bool, true, false, not, List, [], ◌∷◌, length, inl, inr, refl, sym, ap, subst, ◌∙◌, true≢false, arith}
use Rattle.std.specs.Prelude.{Option, Some, None, nat_eq, ◌&&◌, ◌||◌}
use Rattle.std.specs.List.{list_any}
use Rattle.std.proofs.lemmas.Bool.{eq-eqb, eqb-true, ne_eqb, or_from, or_left, or_right, or_cases, and_right, cond-true, cond-false}
use Rattle.std.proofs.lemmas.Bool.Decides.{eqb_tells}
use Rattle.std.proofs.lemmas.Cmp.{nat_eq_equiv}
use Rattle.std.proofs.lemmas.Map.Made.{is_member-filter}
use Rattle.frame_core.specs.declared.record.Record.{Record}
use Rattle.frame_core.specs.declared.record.Record.TheVariants.{Isolate, Moved, Back}
use Rattle.frame_core.specs.declared.record.Cause.TheVariants.{Pinned, NotCopied}
use Rattle.frame_core.specs.History.{is_page}
use Rattle.frame_core.specs.Moves.{isolated, without, out, is_out, page_of, is_moving, IsWellEnded}

-- the numbers fall strictly, and the first of them is below n
abbrev Falls : ℕ → List ℕ → Type 0
Falls n [] = Unit {0}
Falls n (s ∷ serials) = (s < n) × Falls s serials

falls_more : (m n : ℕ) (serials : List ℕ) → m ≤ n → Falls m serials → Falls n serials
falls_more m n [] h falls = tt
falls_more m n (s ∷ serials) h falls = (omega (arith, falls.0), falls.1)

falls_below : (s n : ℕ) (serials : List ℕ) → Falls n serials → list_any (nat_eq s) serials ≡ true → s < n
falls_below s n [] falls at = absurd (true≢false (sym at))
falls_below s n (x ∷ serials) falls at =
    elim (or_cases (nat_eq s x) _ at) [
      | inl here ↦ omega (arith, eqb-true s x here, falls.0)
      | inr under ↦ omega (arith, falls_below s x serials falls.1 under, falls.0)
    ]

falls_absent : (s n : ℕ) (serials : List ℕ) → Falls n serials → n ≤ s → list_any (nat_eq s) serials ≡ false
falls_absent s n [] falls h = refl
falls_absent s n (x ∷ serials) falls h =
    let under : x < n = falls.0 in
    let apart : s ≢ x = omega arith in
    or_from (nat_eq s x) _ (ne_eqb s x apart) (falls_absent s x serials falls.1 (omega arith))

kept : (serial x : ℕ) (serials : List ℕ) → nat_eq x serial ≡ false → without serial (x ∷ serials) ≡ x ∷ without serial serials
kept serial x serials e = cond-true (not (nat_eq x serial)) _ _ (ap not e)

dropped : (serial x : ℕ) (serials : List ℕ) → nat_eq x serial ≡ true → without serial (x ∷ serials) ≡ without serial serials
dropped serial x serials e = cond-false (not (nat_eq x serial)) _ _ (ap not e)

falls_without : (serial n : ℕ) (serials : List ℕ) → Falls n serials → Falls n (without serial serials)
falls_without serial n [] falls = tt
falls_without serial n (x ∷ serials) falls =
    elim (eqb_tells x serial) [
      | inl same ↦
          (let rest : Falls n (without serial serials) = falls_without serial n serials (falls_more x n serials (omega (arith, falls.0)) falls.1) in
          subst (Falls n) (sym (dropped serial x serials same.0)) rest)
      | inr other ↦
          (let rest : Falls n (x ∷ without serial serials) = (falls.0, falls_without serial x serials falls.1) in
          subst (Falls n) (sym (kept serial x serials other.0)) rest)
    ]

-- the serials that are out fall strictly, and the first is below the next one to be given
falls_out : (records : List Record) → IsWellEnded records → Falls (isolated records) (out records)
falls_out [] ended = tt
falls_out (Isolate page serial ∷ older) ended = (omega (arith, ended.0), subst (λ n. Falls n (out older)) (sym ended.0) (falls_out older ended.2))
falls_out (Moved serial ∷ older) ended = falls_without serial _ (out older) (falls_out older ended.1)
falls_out (Back Pinned serial ∷ older) ended = falls_without serial _ (out older) (falls_out older ended.1)
falls_out (Back NotCopied serial ∷ older) ended = falls_without serial _ (out older) (falls_out older ended.1)
falls_out (_ ∷ older) ended = falls_out older ended

pub out_below : (records : List Record) → IsWellEnded records → (serial : ℕ) → is_out records serial ≡ true → serial < isolated records
out_below records ended serial at = falls_below serial _ (out records) (falls_out records ended) at

-- each isolation has a record of its own
pub isolated_within : (records : List Record) → isolated records ≤ length records
isolated_within [] = omega arith
isolated_within (Isolate page serial ∷ older) = omega (arith, isolated_within older)
isolated_within (_ ∷ older) = omega (arith, isolated_within older)

-- whether a serial stands in a list without another one
pub any_without : (serial s : ℕ) (serials : List ℕ) → list_any (nat_eq s) (without serial serials) ≡ (list_any (nat_eq s) serials && not (nat_eq s serial))
any_without serial s serials = is_member-filter nat_eq_equiv (λ x. not (nat_eq x serial)) s (λ x same. ap (λ y. not (nat_eq y serial)) (eqb-true s x same)) serials

and_true : (a b : Bool) → b ≡ true → (a && b) ≡ a
and_true true b e = e
and_true false b e = refl

pub still_out : (serial s : ℕ) (serials : List ℕ) → s ≢ serial → list_any (nat_eq s) (without serial serials) ≡ list_any (nat_eq s) serials
still_out serial s serials apart = any_without serial s serials ∙ and_true _ _ (ap not (ne_eqb s serial apart))

pub ended_out : (serial : ℕ) (serials : List ℕ) → list_any (nat_eq serial) (without serial serials) ≡ false
ended_out serial serials = any_without serial serial serials ∙ and_right _ _ (ap not (eq-eqb serial serial refl))

-- taking a serial from a list that lacks it changes nothing
without_absent : (serial : ℕ) (serials : List ℕ) → list_any (nat_eq serial) serials ≡ false → without serial serials ≡ serials
without_absent serial [] e = refl
without_absent serial (x ∷ serials) e =
    elim (eqb_tells x serial) [
      | inl same ↦ absurd (true≢false (sym (or_left (nat_eq serial x) _ (eq-eqb serial x (sym same.1))) ∙ e))
      | inr other ↦ kept serial x serials other.0 ∙ ap (λ (rest : List ℕ). x ∷ rest) (without_absent serial serials (sym (ap (λ b. b || list_any (nat_eq serial) serials) (nat_eq_equiv.symm serial x ∙ other.0)) ∙ e))
    ]

-- in a list of numbers that fall strictly, each stands at most once: taking one that is there makes the list one shorter
length_falls : (serial n : ℕ) (serials : List ℕ) → Falls n serials → list_any (nat_eq serial) serials ≡ true → length (without serial serials) + 1 ≡ length serials
length_falls serial n [] falls at = absurd (true≢false (sym at))
length_falls serial n (x ∷ serials) falls at =
    elim (eqb_tells x serial) [
      | inl same ↦
          (let absent = falls_absent serial x serials falls.1 (omega (arith, same.1)) in
          omega (arith, ap length (dropped serial x serials same.0), ap length (without_absent serial serials absent)))
      | inr other ↦
          (let under : list_any (nat_eq serial) serials ≡ true = sym (ap (λ b. b || list_any (nat_eq serial) serials) (nat_eq_equiv.symm serial x ∙ other.0)) ∙ at in
          omega (arith, ap length (kept serial x serials other.0), length_falls serial x serials falls.1 under))
    ]

pub length_without : (records : List Record) → IsWellEnded records → (serial : ℕ) → is_out records serial ≡ true → length (without serial (out records)) + 1 ≡ length (out records)
length_without records ended serial at = length_falls serial _ (out records) (falls_out records ended) at

any_fails : (p : ℕ → Bool) (serials : List ℕ) → ((s : ℕ) → list_any (nat_eq s) serials ≡ true → p s ≡ false) → list_any p serials ≡ false
any_fails p [] fails = refl
any_fails p (x ∷ serials) fails =
    or_from (p x) _ (fails x (or_left (nat_eq x x) _ (eq-eqb x x refl))) (any_fails p serials (λ s at. fails s (or_right (nat_eq s x) _ at)))

other_page : (o : Option ℕ) (page : ℕ) → (o ≡ Some page → ⊥) → is_page o page ≡ false
other_page None page ne = refl
other_page (Some named) page ne = ne_eqb named page (λ same. ne (ap Some same))

-- a page isn't out where no serial that is out was given to it
pub not_moving : (records : List Record) (page : ℕ) → ((serial : ℕ) → is_out records serial ≡ true → page_of records serial ≡ Some page → ⊥) → is_moving records page ≡ false
not_moving records page none = any_fails (λ serial. is_page (page_of records serial) page) (out records) (λ serial at. other_page (page_of records serial) page (none serial at))

pub page_of_below : (records : List Record) → IsWellEnded records → (serial page : ℕ) → page_of records serial ≡ Some page → serial < isolated records
page_of_below [] ended s page e = cc
page_of_below (Isolate fresh serial ∷ older) ended s page e =
    elim (eqb_tells serial s) [
      | inl same ↦ omega (arith, same.1, ended.0)
      | inr other ↦ omega (arith, page_of_below older ended.2 s page (sym (cond-false (nat_eq serial s) (Some fresh) (page_of older s) other.0) ∙ e))
    ]
page_of_below (Moved serial ∷ older) ended s page e = page_of_below older ended.1 s page e
page_of_below (Back Pinned serial ∷ older) ended s page e = page_of_below older ended.1 s page e
page_of_below (Back NotCopied serial ∷ older) ended s page e = page_of_below older ended.1 s page e
page_of_below (_ ∷ older) ended s page e = page_of_below older ended s page e

none_listed : (serials : List ℕ) → ((s : ℕ) → list_any (nat_eq s) serials ≡ false) → serials ≡ []
none_listed [] none = refl
none_listed (x ∷ serials) none = absurd (true≢false (sym (or_left (nat_eq x x) _ (eq-eqb x x refl)) ∙ none x))

pub none_out : (records : List Record) → ((serial : ℕ) → is_out records serial ≡ false) → out records ≡ []
none_out records none = none_listed (out records) none

any_empty : (p : ℕ → Bool) (serials : List ℕ) → length serials ≡ 0 → list_any p serials ≡ false
any_empty p [] e = refl
any_empty p (x ∷ serials) e = absurd (omega arith)

pub out_empty : (records : List Record) → length (out records) ≡ 0 → (serial : ℕ) → is_out records serial ≡ false
out_empty records e serial = any_empty (nat_eq serial) (out records) e
