use Rattle.std.proofs.Common.{◌≡◌, ◌++◌, ◌∷◌, [], ◌-◌, List, take, Some, true, All, ap, sym, ◌∙◌, subst, append_assoc, append-nil, arith}
use Rattle.std.specs.List.Sorted.{IsPermutation}
use Rattle.std.proofs.lemmas.List.Sorted.{IsPermutation-sym, IsPermutation-trans}
use Rattle.crossbeam_channel.specs.Claims.{view}
use Rattle.hand_core.specs.declared.page_queue.Known.{Known}
use Rattle.hand_core.specs.PageEnds.{Giver, Taker, off, taken_by}
use Rattle.hand_core.specs.Batches.{before_hand}
use Rattle.frame_core.specs.Serials.{IsRising}
use Rattle.std.proofs.lemmas.List.Elements.{All-cons, All-pop}
use Rattle.hand_core.proofs.HandedOver.{all_have_ended, handed_over}
use Rattle.hand_core.proofs.Hands.{all_answered}
use Rattle.hand_core.proofs.Totals.{list_back}
use Rattle.hand_core.proofs.PageSteps.{joins, settles}
use Rattle.hand_core.proofs.settling.take_back.Goals as goal
use Rattle.hand_core.proofs.settling.take_back.Goals.{After-drop-takers}

pub absorb-requires-clause-rule : goal.absorb-requires-clause-rule
absorb-requires-clause-rule c =
    let shares = c.loop-taker.invariant.shares in
    let few = c.loop-taker.invariant.few in joins _ _ _ _ c.loop-taker.invariant.gives (omega arith)

pub loop-taker-preserved : goal.loop-taker-preserved
loop-taker-preserved c =
    let old = c.loop-taker.invariant in
    let t = c.in-Some.taker in
    let inside = c.taker.inside in
    let his = c.taker.invariant in
    let is = c.taker.view_is in
    let e = c.absorb.ensures.rule in
    let items = c.in-Some.ensures.items in
    let len = c.in-Some.ensures.len in
    let mine : Known = view c.loop-taker.pass in
    let Left : Taker → Type 0 = λ u. (u.hand_over ≡ c.args.giver.hand_over) × (u.ended ≡ true) in
    let left = All-pop Left c.loop-taker.takers.items c.pop.new.self.items (Some t) items old.left in
    let ended : inside.ended ≡ true = ap (λ (u : Taker). u.ended) is ∙ left.1.1 in
    let one : (view inside.pass).ended ≡ 1 = rw ended at his.marked in
    let shares_now = ap (λ (v : Known). v.shares) e in
    let ended_now = ap (λ (v : Known). v.ended) e in
    let shares_was = old.shares in
    let ended_was = old.ended in
    let few_was = old.few in
    let share = his.share in
    let before = old.back in
    let all = all_answered (view inside.pass).off in
    let came : (view inside.pass).off ≡ t.taken = sym (ap (before_hand (view inside.pass).off) (his.empty ended) ∙ all) ∙ ap (λ (u : Taker). u.taken) is in
    let rising : IsRising t.taken = subst IsRising came his.rising in
    let answered : off t ≡ t.taken = ap (λ l. t.taken ++ l) (sym (ap (λ (u : Taker). u.in_hand) is) ∙ his.empty ended) ∙ append-nil t.taken in
    let taken : IsPermutation (view c.absorb.new.pass).off (t.taken ++ taken_by before.0) =
    subst (λ l. IsPermutation l (t.taken ++ taken_by before.0)) (sym (ap (λ (v : Known). v.off) e))
    (subst (λ l. IsPermutation (mine.off ++ l) (t.taken ++ taken_by before.0)) (sym came) (list_back mine.off t.taken (taken_by before.0) before.2)) in
    record {
      seat = c.absorb.ensures.channel.0;
      channel = old.channel;
      gives = ap (λ (v : Known). v.gives) e ∙ old.gives;
      given = ap (λ (v : Known). v.given) e ∙ old.given;
      marks = ap (λ (v : Known). v.marks) e ∙ old.marks;
      shares = omega arith;
      few = omega arith;
      ended = omega arith;
      left = left.0;
      back = (
        t ∷ before.0,
        before.1 ∙ ap (λ l. l ++ before.0) items ∙ append_assoc c.pop.new.self.items (t ∷ []) before.0,
        taken,
        All-cons (λ (u : Taker). IsRising u.taken) t before.0 rising before.3,
        All-cons (λ (u : Taker). off u ≡ u.taken) t before.0 answered before.4,
      );
      count = old.count;
    }

pub learn_as-requires-clause-rule : goal.learn_as-requires-clause-rule
learn_as-requires-clause-rule c =
    let old = c.loop-taker.invariant in
    let none = c.in_default.ensures.cases in
    let shares = old.shares in
    let ended = old.ended in
    let marks = old.marks in
    let all_put = c.requires.marks.0 in
    let few = c.giver.invariant.few in
    let takers = ap (λ (g : Giver). g.takers) c.giver.view_is in settles _ _ old.gives (omega arith) (omega arith) (omega arith)

-- every taker came back
all_back : (c : After-drop-takers) → c.args.takers.items ≡ c.loop-taker.invariant.back.0
all_back c =
    let left = c.loop-taker.takers in
    let end = c.in_default.ensures in
    let empty : left.items ≡ [] = end.items ∙ append-nil c.pop.new.self.items ∙ end.rest ∙ ap (λ n. take (n - 1) left.items) end.cases.0 in
    c.loop-taker.invariant.back.1 ∙ ap (λ l. l ++ c.loop-taker.invariant.back.0) empty

pub returns-clause-pages : goal.returns-clause-pages
returns-clause-pages c =
    let before = c.loop-taker.invariant.back in
    let knows : Known = view c.loop-taker.pass in
    let learned : IsPermutation knows.off knows.given = c.learn_as.ensures.rule.1.0 in
    subst (λ (l : List Taker). IsPermutation (taken_by l) c.args.giver.given) (sym (all_back c))
    (IsPermutation-trans (taken_by before.0) knows.off c.args.giver.given (IsPermutation-sym knows.off (taken_by before.0) before.2)
    (subst (λ l. IsPermutation knows.off l) c.loop-taker.invariant.given learned))

pub returns-clause-rising : goal.returns-clause-rising
returns-clause-rising c = subst (λ (l : List Taker). All (λ (t : Taker). IsRising t.taken) l) (sym (all_back c)) c.loop-taker.invariant.back.3

pub returns-clause-answered : goal.returns-clause-answered
returns-clause-answered c = subst (λ (l : List Taker). All (λ (t : Taker). off t ≡ t.taken) l) (sym (all_back c)) c.loop-taker.invariant.back.4

pub returns-clause-empty : goal.returns-clause-empty
returns-clause-empty c queue holds =
    let few = c.giver.invariant.few in
    let takers = ap (λ (g : Giver). g.takers) c.giver.view_is in
    let marks = c.requires.marks in
    let long = c.args.takers.ok in
    let all = all_have_ended c.args.takers.items c.requires.ended in (handed_over queue c.args.giver c.args.takers.items holds).empty (omega arith) (omega arith)
