-- Requests that had their turns, and one more.
use Rattle.std.proofs.Common.{◌≡◌, ℕ, ◌+◌, ◌<◌, List, [], ◌∷◌, ◌++◌, length, take, drop, set, get_or, suc, refl, sym, ap, ◌∙◌, if◌then◌else◌, arith}
use Rattle.std.specs.Prelude.{nat_eq}
use Rattle.std.proofs.lemmas.List.{append_assoc, drop_more, get_or_at, length-take-le, set_at, take_more}
use Rattle.std.proofs.lemmas.List.Sums.{fold_more}
use Rattle.std.proofs.lemmas.Bool.Decides.{nat_tests}
use Rattle.state_core.specs.ZoneState.{ZoneState}
use Rattle.compactd_c.specs.Batches.{after_turn, after_turns, all_answered, answered, first_refusal}
use Rattle.compactd_c.specs.declared.batches.Change.{Change}
use Rattle.compactd_c.specs.declared.batches.PageRequest.{PageRequest}

first_refusal-push : (requests : List PageRequest) (last : PageRequest)
    → first_refusal (requests ++ last ∷ []) ≡ (if nat_eq (first_refusal requests) 0 then last.status else first_refusal requests)
first_refusal-push [] last = grind (arith, nat_tests)
first_refusal-push (one ∷ requests) last = let rest = first_refusal-push requests last in grind (arith, nat_tests)

module _ (client : ℕ) (change : Change) where
  length-all_answered : (z : ZoneState) (requests : List PageRequest) → length (all_answered client change z requests) ≡ length requests
  length-all_answered z [] = refl
  length-all_answered z (one ∷ requests) = ap suc (length-all_answered (after_turn client change z one) requests)

  all_answered-push : (z : ZoneState) (requests : List PageRequest) (last : PageRequest)
      → all_answered client change z (requests ++ last ∷ []) ≡ all_answered client change z requests ++ answered client change (after_turns client change z requests) last ∷ []
  all_answered-push z [] last = refl
  all_answered-push z (one ∷ requests) last =
      ap (λ (rest : List PageRequest). answered client change z one ∷ rest) (all_answered-push (after_turn client change z one) requests last)

  -- so many requests had their turns, and left this zone, these requests and this first refusal
  abbrev pub HaveTurns : (z : ZoneState) (requests : List PageRequest) (count : ℕ) (z_now : ZoneState) (now : List PageRequest) (first : ℕ) → Type 0
  HaveTurns z requests count z_now now first =
      (z_now ≡ after_turns client change z (take count requests))
      × (now ≡ all_answered client change z (take count requests) ++ drop count requests)
      × (first ≡ first_refusal (all_answered client change z (take count requests)))

  module _ (z : ZoneState) (requests : List PageRequest) (i : ℕ) (d : PageRequest) (within : i < length requests) where
    abbrev begun : ZoneState
    begun = after_turns client change z (take i requests)

    abbrev had : List PageRequest
    had = all_answered client change z (take i requests)

    abbrev asked : PageRequest
    asked = get_or requests i d

    abbrev rest : List PageRequest
    rest = drop (i + 1) requests

    abbrev next : PageRequest
    next = answered client change begun asked

    count : length had ≡ i
    count = length-all_answered z (take i requests) ∙ length-take-le i requests (omega arith)

    split : had ++ drop i requests ≡ had ++ asked ∷ rest
    split = ap (λ (left : List PageRequest). had ++ left) (drop_more requests i d within)

    more : all_answered client change z (take (i + 1) requests) ≡ had ++ next ∷ []
    more = ap (all_answered client change z) (take_more requests i d within) ∙ all_answered-push z (take i requests) asked

    asked_at : get_or (had ++ drop i requests) i d ≡ asked
    asked_at = ap (λ (all : List PageRequest). get_or all i d) split ∙ get_or_at had asked rest d i count

    set_next : set (had ++ drop i requests) i next ≡ all_answered client change z (take (i + 1) requests) ++ rest
    set_next =
        ap (λ (all : List PageRequest). set all i next) split ∙ set_at had asked rest next i count
        ∙ sym (ap (λ (done : List PageRequest). done ++ rest) more ∙ append_assoc had (next ∷ []) rest)

    -- one more request has its turn
    pub HaveTurns-more : (z_now : ZoneState) (now : List PageRequest) (first : ℕ) (x : PageRequest) (z_new : ZoneState) (new : List PageRequest) (first_new : ℕ)
        → HaveTurns z requests i z_now now first
        → x ≡ answered client change z_now (get_or now i d) → z_new ≡ after_turn client change z_now (get_or now i d) → new ≡ set now i x
        → first_new ≡ (if nat_eq first 0 then x.status else first)
        → HaveTurns z requests (i + 1) z_new new first_new
    HaveTurns-more z_now now first x z_new new first_new turns is_answer is_zone is_set is_first =
        let at : get_or now i d ≡ asked = ap (λ (all : List PageRequest). get_or all i d) turns.1 ∙ asked_at in
        let answer : x ≡ next = cc (is_answer, turns.0, at) in
        let status : x.status ≡ next.status = ap (λ (request : PageRequest). request.status) answer in (
          cc (is_zone, turns.0, at, fold_more (after_turn client change) z requests i d within),
          cc (is_set, turns.1, answer, set_next),
          cc (is_first, turns.2, status, ap first_refusal more ∙ first_refusal-push had next),
        )
