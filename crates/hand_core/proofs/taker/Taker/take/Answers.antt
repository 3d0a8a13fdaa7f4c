use Rattle.std.proofs.Common.{rules, ◌≡◌, ◌≢◌, ◌∷◌, ◌++◌, [], true, List, ap, sym, refl, ◌∙◌}
use Rattle.frame_core.specs.Page.{IsolatedPage}
use Rattle.hand_core.specs.PageEnds.{Taker, off}
use Rattle.hand_core.proofs.taker.Taker.take.Goals as goal

-- a hand that had pages before the loop still has them
empty_before : (in_hand : List IsolatedPage) (before now : Taker) → before.in_hand ≡ in_hand → (before.in_hand ≢ [] → now ≡ before) → now.in_hand ≡ [] → in_hand ≡ []
empty_before [] before now is held empty = refl
empty_before (p ∷ in_hand) before now is held empty = absurd (still (sym empty ∙ ap (λ (t : Taker). t.in_hand) (held other) ∙ is))
  where
    still : [] ≡ p ∷ in_hand → ⊥
    still e = cc

    other : before.in_hand ≢ []
    other e = still (sym e ∙ is)

-- with an empty hand the taker is as before the loop
same_before : (before now : Taker) → now ≡ record before { in_hand = now.in_hand } → (before.in_hand ≢ [] → now ≡ before) → now.in_hand ≡ [] → (now ≡ before) × (before.in_hand ≡ [])
same_before before now same held empty =
    let was = empty_before before.in_hand before now refl held empty in
    (same ∙ ap (λ l. record before { in_hand = l }) (empty ∙ sym was), was)

pub returns-then-is_err-clause-took : goal.returns-then-is_err-clause-took
returns-then-is_err-clause-took g c =
    let old = c.loop.invariant in
    let none = c.in_default.ensures.none in
    let before = same_before c.args.self.now c.loop.self old.same old.held none.1 in
    let gone : c.receive.new.self ≡ c.next_in_hand.new.self = search rules in
    (gone ∙ none.0 ∙ before.0, before.1)

pub returns-then-self-clause-took : goal.returns-then-self-clause-took
returns-then-self-clause-took g c =
    let old = c.loop.invariant in
    let none = c.in_default.ensures.none in
    let before = same_before c.args.self.now c.loop.self old.same old.held none.1 in
    let ended : c.receive.new.self.ended ≡ true = sym (ap (λ (t : Taker). t.ended) c.self.view_is) ∙ c.if-self.true in
    (c.receive.ensures.mark ended ∙ ap (λ (t : Taker). record t { ended = true }) (none.0 ∙ before.0), before.1)

pub returns-in-Some-next_in_hand-clause-took : goal.returns-in-Some-next_in_hand-clause-took
returns-in-Some-next_in_hand-clause-took g c =
    let old = c.loop.invariant in
    let page = c.in-Some-next_in_hand.page in (
      c.in-Some-next_in_hand.ensures.some ∙ ap (λ (t : Taker). record t { taken = t.taken ++ page ∷ []; in_hand = c.next_in_hand.new.self.in_hand }) old.same,
      λ other. c.next_in_hand.ensures.off ∙ ap off (old.held other),
    )
