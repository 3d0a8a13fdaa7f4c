-- What all ends of a hand-over know together, and how one end's step changes it.
use Rattle.std.proofs.Common.{◌≡◌, ◌≢◌, ℕ, zero, suc, ◌+◌, ◌≤◌, List, [], ◌∷◌, ◌++◌, set, All, sym, refl, ap, ◌∙◌, subst, append_assoc, append-nil, arith}
use Rattle.std.specs.List.Sorted.{IsPermutation}
use Rattle.std.proofs.lemmas.List.Sorted.{IsPermutation-refl, IsPermutation-sym, IsPermutation-trans, IsPermutation-append_comm, IsPermutation-append_left, IsPermutation-append_right, All-permutation}
use mathlib.Core.Option.{some, some-ne-none, some-injective}
use lib.ListN.{get_elem?}
use Rattle.frame_core.specs.Page.{IsolatedPage}
use Rattle.hand_core.specs.declared.page_queue.Known.{Known}
use Rattle.hand_core.specs.PageQueue.{all_off}
use Rattle.hand_core.specs.Queue.{Each, total}
use Rattle.atomic_table.proofs.Lists.{set_else, set_again}
use Rattle.std.proofs.lemmas.List.{set_comm}
use Rattle.hand_core.proofs.Serials.{all_front}

-- a total after one end changed
pub total_set : {V : Type 0} (f : V → ℕ) (ends : List V) (number : ℕ) (v w : V) → get_elem? ends number ≡ some v → total f (set ends number w) + f v ≡ total f ends + f w
total_set f [] number v w at = absurd (some-ne-none v (sym at))
total_set f (x ∷ ends) zero v w at = let same : f x ≡ f v = ap f (some-injective x v at) in omega arith
total_set f (x ∷ ends) (suc number) v w at = let h = total_set f ends number v w at in omega arith

pub total_same : {V : Type 0} (f : V → ℕ) (ends : List V) (number : ℕ) (v w : V) → get_elem? ends number ≡ some v → f w ≡ f v → total f (set ends number w) ≡ total f ends
total_same f ends number v w at e = let t = total_set f ends number v w at in omega arith

pub total_new : {V : Type 0} (f : V → ℕ) (ends : List V) (new : V) → total f (ends ++ new ∷ []) ≡ total f ends + f new
total_new f [] new = omega arith
total_new f (x ∷ ends) new = let h = total_new f ends new in omega arith

-- no end has more than all ends together
pub total_at_most : {V : Type 0} (f : V → ℕ) (ends : List V) (number : ℕ) (v : V) → get_elem? ends number ≡ some v → f v ≤ total f ends
total_at_most f [] number v at = absurd (some-ne-none v (sym at))
total_at_most f (x ∷ ends) zero v at = let e : f x ≡ f v = ap f (some-injective x v at) in omega arith
total_at_most f (x ∷ ends) (suc number) v at = let e = total_at_most f ends number v at in omega arith

total_nobody : (f : Known → ℕ) (ends : List Known) → total (λ u. u.shares) ends ≡ 0 → Each ends (λ _ u. u.shares ≡ 0 → f u ≡ 0) → total f ends ≡ 0
total_nobody f [] none idle = refl
total_nobody f (x ∷ ends) none idle =
    let a = idle 0 x refl (omega arith) in
    let b = total_nobody f ends (omega arith) (λ j u at. idle (suc j) u at) in omega arith

-- where one end has every share, and an end with none has nothing, the total is that end's
pub total_alone : (f : Known → ℕ) (ends : List Known) (number : ℕ) (v : Known) → get_elem? ends number ≡ some v → total (λ u. u.shares) ends ≡ v.shares
    → Each ends (λ _ u. u.shares ≡ 0 → f u ≡ 0) → total f ends ≡ f v
total_alone f [] number v at whole idle = absurd (some-ne-none v (sym at))
total_alone f (x ∷ ends) zero v at whole idle =
    let is : x ≡ v = some-injective x v at in
    let shares : x.shares ≡ v.shares = ap (λ (u : Known). u.shares) is in
    let e : f x ≡ f v = ap f is in
    let rest = total_nobody f ends (omega arith) (λ j u at. idle (suc j) u at) in omega arith
total_alone f (x ∷ ends) (suc number) v at whole idle =
    let most = total_at_most (λ (u : Known). u.shares) ends number v at in
    let first : f x ≡ 0 = idle 0 x refl (omega arith) in
    let rest = total_alone f ends number v at (omega arith) (λ j u at. idle (suc j) u at) in omega arith

-- an end's step that takes no page
pub off_same : (ends : List Known) (number : ℕ) (v w : Known) → get_elem? ends number ≡ some v → w.off ≡ v.off → all_off (set ends number w) ≡ all_off ends
off_same [] number v w at e = absurd (some-ne-none v (sym at))
off_same (x ∷ ends) zero v w at e = ap (λ l. l ++ all_off ends) (e ∙ ap (λ (u : Known). u.off) (sym (some-injective x v at)))
off_same (x ∷ ends) (suc number) v w at e = ap (λ l. x.off ++ l) (off_same ends number v w at e)

pub off_new : (ends : List Known) (new : Known) → new.off ≡ [] → all_off (ends ++ new ∷ []) ≡ all_off ends
off_new [] new e = append-nil new.off ∙ e
off_new (x ∷ ends) new e = ap (λ l. x.off ++ l) (off_new ends new e)

-- the pages of one end come first, and those of the others after them
apart : (ends : List Known) (number : ℕ) (v : Known) → get_elem? ends number ≡ some v → (rest : List IsolatedPage) × ((w : Known) → IsPermutation (all_off (set ends number w)) (w.off ++ rest))
apart [] number v at = absurd (some-ne-none v (sym at))
apart (x ∷ ends) zero v at = (all_off ends, λ w. IsPermutation-refl (w.off ++ all_off ends))
apart (x ∷ ends) (suc number) v at =
    let inner = apart ends number v at in
    let behind : (xs : List IsolatedPage) → IsPermutation (x.off ++ (xs ++ inner.0)) (xs ++ (x.off ++ inner.0)) = λ xs.
    subst (λ l. IsPermutation l (xs ++ (x.off ++ inner.0))) (append_assoc x.off xs inner.0)
    (subst (IsPermutation ((x.off ++ xs) ++ inner.0)) (append_assoc xs x.off inner.0) (IsPermutation-append_left inner.0 (x.off ++ xs) (xs ++ x.off) (IsPermutation-append_comm x.off xs))) in (
      x.off ++ inner.0,
      λ w. IsPermutation-trans (x.off ++ all_off (set ends number w)) (x.off ++ (w.off ++ inner.0)) (w.off ++ (x.off ++ inner.0))
          (IsPermutation-append_right x.off (all_off (set ends number w)) (w.off ++ inner.0) (inner.1 w)) (behind w.off),
    )

module _ (ends : List Known) (number : ℕ) (v : Known) (at : get_elem? ends number ≡ some v) where
  abbrev of_others : List IsolatedPage
  of_others = (apart ends number v at).0

  here : IsPermutation (all_off ends) (v.off ++ of_others)
  here = subst (λ l. IsPermutation (all_off l) (v.off ++ of_others)) (set_again ends number v at) ((apart ends number v at).1 v)

  back : IsPermutation (v.off ++ of_others) (all_off ends)
  back = IsPermutation-sym (all_off ends) (v.off ++ of_others) here

  -- an end's list grows by more pages
  pub off_longer : (w : Known) (more : List IsolatedPage) → w.off ≡ v.off ++ more → IsPermutation (all_off (set ends number w)) (all_off ends ++ more)
  off_longer w more e =
      IsPermutation-trans (all_off (set ends number w)) (w.off ++ of_others) (all_off ends ++ more) ((apart ends number v at).1 w)
      (subst (λ l. IsPermutation l (all_off ends ++ more)) (sym (ap (λ l. l ++ of_others) e ∙ append_assoc v.off more of_others))
      (IsPermutation-trans (v.off ++ (more ++ of_others)) (v.off ++ (of_others ++ more)) (all_off ends ++ more)
      (IsPermutation-append_right v.off (more ++ of_others) (of_others ++ more) (IsPermutation-append_comm more of_others))
      (subst (λ l. IsPermutation l (all_off ends ++ more)) (append_assoc v.off of_others more) (IsPermutation-append_left more (v.off ++ of_others) (all_off ends) back))))

  -- what holds of all pages that were taken holds of those of each end
  pub all_of_end : (holds : IsolatedPage → Type 0) → All holds (all_off ends) → All holds v.off
  all_of_end holds every = all_front holds v.off of_others (All-permutation holds (all_off ends) (v.off ++ of_others) here every)

-- one end's list goes to another end
pub off_joined : (ends : List Known) (number other : ℕ) (v u both none : Known) → other ≢ number → get_elem? ends number ≡ some v → get_elem? ends other ≡ some u
    → both.off ≡ v.off ++ u.off → none.off ≡ [] → IsPermutation (all_off (set (set ends number both) other none)) (all_off ends)
off_joined ends number other v u both none differ at at_other joined empty =
    let gone = set ends other none in
    let rest = of_others ends other u at_other in
    subst (λ l. IsPermutation (all_off l) (all_off ends)) (set_comm ends other number none both differ)
    (IsPermutation-trans (all_off (set gone number both)) (all_off gone ++ u.off) (all_off ends)
    (off_longer gone number v (set_else ends other number none (λ e. differ (sym e)) ∙ at) both u.off joined)
    (IsPermutation-trans (all_off gone ++ u.off) (rest ++ u.off) (all_off ends)
    (IsPermutation-append_left u.off (all_off gone) rest (subst (λ l. IsPermutation (all_off gone) (l ++ rest)) empty ((apart ends other u at_other).1 none)))
    (IsPermutation-trans (rest ++ u.off) (u.off ++ rest) (all_off ends) (IsPermutation-append_comm rest u.off) (back ends other u at_other))))

off_nobody : (ends : List Known) → total (λ u. u.shares) ends ≡ 0 → Each ends (λ _ u. u.shares ≡ 0 → u.off ≡ []) → all_off ends ≡ []
off_nobody [] none idle = refl
off_nobody (x ∷ ends) none idle =
    ap (λ l. l ++ all_off ends) (idle 0 x refl (omega arith)) ∙ off_nobody ends (omega arith) (λ j u at. idle (suc j) u at)

-- where one end has every share, its list has all pages that were taken
pub off_alone : (ends : List Known) (number : ℕ) (v : Known) → get_elem? ends number ≡ some v → total (λ u. u.shares) ends ≡ v.shares
    → Each ends (λ _ u. u.shares ≡ 0 → u.off ≡ []) → all_off ends ≡ v.off
off_alone [] number v at whole idle = absurd (some-ne-none v (sym at))
off_alone (x ∷ ends) zero v at whole idle =
    let is : x ≡ v = some-injective x v at in
    let shares : x.shares ≡ v.shares = ap (λ (u : Known). u.shares) is in
    ap (λ l. x.off ++ l) (off_nobody ends (omega arith) (λ j u at. idle (suc j) u at)) ∙ append-nil x.off ∙ ap (λ (u : Known). u.off) is
off_alone (x ∷ ends) (suc number) v at whole idle =
    let most = total_at_most (λ (u : Known). u.shares) ends number v at in
    ap (λ l. l ++ all_off ends) (idle 0 x refl (omega arith)) ∙ off_alone ends number v at (omega arith) (λ j u at. idle (suc j) u at)

-- a list that comes back is added to those that came back before
pub list_back : (mine his before : List IsolatedPage) → IsPermutation mine before → IsPermutation (mine ++ his) (his ++ before)
list_back mine his before h = IsPermutation-trans (mine ++ his) (his ++ mine) (his ++ before) (IsPermutation-append_comm mine his) (IsPermutation-append_right his mine before h)
