-- That each page that was isolated ends once.
use Rattle.std.proofs.Common.{◌≡◌, ◌≢◌, ℕ, ◌+◌, ◌<◌, ◌≤◌, true, List, [], ◌∷◌, inl, inr, refl, sym, ap, ◌∙◌, arith}
use Rattle.std.specs.Prelude.{nat_eq, ◌||◌}
use Rattle.std.specs.List.{list_any}
use Rattle.std.proofs.lemmas.Bool.{or_left}
use Rattle.std.proofs.lemmas.Bool.Decides.{eqb_tells}
use Rattle.frame_core.specs.Below.{one_if}
use Rattle.frame_core.specs.declared.record.Record.{Record}
use Rattle.frame_core.specs.declared.record.Record.TheVariants.{Isolate, Moved, Back}
use Rattle.frame_core.specs.declared.record.Cause.TheVariants.{Pinned, NotCopied}
use Rattle.frame_core.specs.Moves.{isolated, ends_of, without, out, is_out, IsWellEnded}
use Rattle.frame_core.specs.Ends.{EndsAtMostOnce, IsBalanced, AreEndedOnce}
use Rattle.frame_core.proofs.OnTheWay.{out_below, still_out, ended_out, length_without}

-- how often a serial is out or has ended
abbrev stands : List Record → ℕ → ℕ
stands records s = one_if (is_out records s) + ends_of records s

-- a serial that was given is out or has ended, once; any other is not out and has not ended
abbrev StandsOnce : List Record → ℕ → Type 0
StandsOnce records s = (s < isolated records → stands records s ≡ 1) × (isolated records ≤ s → stands records s ≡ 0)

-- an end of one serial leaves this count as it was, for each serial
stands_ended : (serial s : ℕ) (serials : List ℕ) (ends : ℕ) → list_any (nat_eq serial) serials ≡ true → one_if (list_any (nat_eq s) (without serial serials)) + (one_if (nat_eq serial s) + ends) ≡ one_if (list_any (nat_eq s) serials) + ends
stands_ended serial s serials ends at =
    elim (eqb_tells serial s) [
      | inl same ↦
          (let gone : one_if (list_any (nat_eq s) (without serial serials)) ≡ 0 = ap one_if (ap (λ n. list_any (nat_eq n) (without serial serials)) (sym same.1) ∙ ended_out serial serials) in
          let was : one_if (list_any (nat_eq s) serials) ≡ 1 = ap one_if (ap (λ n. list_any (nat_eq n) serials) (sym same.1) ∙ at) in
          let one : one_if (nat_eq serial s) ≡ 1 = ap one_if same.0 in
          omega arith)
      | inr other ↦
          (let apart : s ≢ serial = λ e. other.1 (sym e) in
          let as_was : one_if (list_any (nat_eq s) (without serial serials)) ≡ one_if (list_any (nat_eq s) serials) = ap one_if (still_out serial s serials apart) in
          let none : one_if (nat_eq serial s) ≡ 0 = ap one_if other.0 in
          omega arith)
    ]

stands_isolated : (serial s n ends : ℕ) (serials : List ℕ) → serial ≡ n → (s < n → one_if (list_any (nat_eq s) serials) + ends ≡ 1) × (n ≤ s → one_if (list_any (nat_eq s) serials) + ends ≡ 0) → (s < n + 1 → one_if (nat_eq s serial || list_any (nat_eq s) serials) + ends ≡ 1) × (n + 1 ≤ s → one_if (nat_eq s serial || list_any (nat_eq s) serials) + ends ≡ 0)
stands_isolated serial s n ends serials next stand =
    elim (eqb_tells s serial) [
      | inl same ↦
          (let out : one_if (nat_eq s serial || list_any (nat_eq s) serials) ≡ 1 = ap one_if (or_left (nat_eq s serial) _ same.0) in
          let at : n ≤ s = omega (arith, same.1) in
          let none : one_if (list_any (nat_eq s) serials) + ends ≡ 0 = stand.1 at in
          (λ h. omega arith, λ h. absurd (omega (arith, same.1))))
      | inr other ↦
          (let as_was : one_if (nat_eq s serial || list_any (nat_eq s) serials) ≡ one_if (list_any (nat_eq s) serials) = ap (λ b. one_if (b || list_any (nat_eq s) serials)) other.0 in
          let apart : s ≢ serial = other.1 in
          (λ h. let under : s < n = omega arith in omega (arith, stand.0 under), λ h. let above : n ≤ s = omega arith in omega (arith, stand.1 above)))
    ]

as_stood : (m n : ℕ) (P Q : Type 0) → m ≡ n → (P → n ≡ 1) × (Q → n ≡ 0) → (P → m ≡ 1) × (Q → m ≡ 0)
as_stood m n P Q e stand = (λ h. e ∙ stand.0 h, λ h. e ∙ stand.1 h)

stands_once : (records : List Record) → IsWellEnded records → (s : ℕ) → StandsOnce records s
stands_once [] ended s = (λ h. absurd (omega arith), λ h. refl)
stands_once (Isolate page serial ∷ older) ended s = stands_isolated serial s _ _ (out older) ended.0 (stands_once older ended.2 s)
stands_once (Moved serial ∷ older) ended s = as_stood _ _ _ _ (stands_ended serial s (out older) _ ended.0.under_way) (stands_once older ended.1 s)
stands_once (Back Pinned serial ∷ older) ended s = as_stood _ _ _ _ (stands_ended serial s (out older) _ ended.0.under_way) (stands_once older ended.1 s)
stands_once (Back NotCopied serial ∷ older) ended s = as_stood _ _ _ _ (stands_ended serial s (out older) _ ended.0.under_way) (stands_once older ended.1 s)
stands_once (_ ∷ older) ended s = stands_once older ended s

at_most_once : (records : List Record) → ((s : ℕ) → StandsOnce records s) → ((s : ℕ) → is_out records s ≡ true → s < isolated records) → EndsAtMostOnce records
at_most_once records stand below = record {
  on_its_way = λ s at. let one : one_if (is_out records s) ≡ 1 = ap one_if at in let once : stands records s ≡ 1 = (stand s).0 (below s at) in omega arith;
  ended = λ s h gone. let none : one_if (is_out records s) ≡ 0 = ap one_if gone in let once : stands records s ≡ 1 = (stand s).0 h in omega arith;
  not_given = λ s h. let none : stands records s ≡ 0 = (stand s).1 h in omega arith;
}

pub ends_at_most_once : (records : List Record) → IsWellEnded records → EndsAtMostOnce records
ends_at_most_once records ended = at_most_once records (stands_once records ended) (out_below records ended)

pub is_balanced : (records : List Record) → IsWellEnded records → IsBalanced records
is_balanced [] ended = refl
is_balanced (Isolate page serial ∷ older) ended = omega (arith, is_balanced older ended.2)
is_balanced (Moved serial ∷ older) ended = omega (arith, is_balanced older ended.1, length_without older ended.1 serial ended.0.under_way)
is_balanced (Back Pinned serial ∷ older) ended = omega (arith, is_balanced older ended.1, length_without older ended.1 serial ended.0.under_way)
is_balanced (Back NotCopied serial ∷ older) ended = omega (arith, is_balanced older ended.1, length_without older ended.1 serial ended.0.under_way)
is_balanced (_ ∷ older) ended = is_balanced older ended

pub ended_once : (records : List Record) → IsWellEnded records → out records ≡ [] → AreEndedOnce records
ended_once records ended none =
    let once : EndsAtMostOnce records = ends_at_most_once records ended in
    record {
      ended = λ s h. once.ended s h (ap (λ serials. list_any (nat_eq s) serials) none);
      not_given = once.not_given;
    }
