use Rattle.std.proofs.Common.{◌≡◌, length, ap, sym, ◌∙◌, subst, refl, arith}
use Rattle.std.specs.List.{range_with_len}
use Rattle.std.specs.List.Sorted.{IsPermutation}
use Rattle.std.proofs.lemmas.List.Sorted.{IsPermutation-map}
use Rattle.std.proofs.lemmas.List.Sums.{AllPass-from_list_all}
use Rattle.frame_core.specs.Page.{IsolatedPage}
use Rattle.hand_core.specs.PageEnds.{Giver, Taker, taken_by}
use Rattle.frame_core.specs.Serials.{serials_of, HasSerialsFrom}
use Rattle.hand_core.proofs.settling.settle.Goals as goal

pub returns-clause-serials : goal.returns-clause-serials
returns-clause-serials c =
    let giver = c.args.giver in
    let settled = c.take_back.result in
    let count = c.take_back.ensures.count in
    let serials : HasSerialsFrom giver.base giver.given = subst (λ (g : Giver). HasSerialsFrom g.base g.given) c.giver.view_is c.giver.invariant.serials in
    let numbers : range_with_len giver.base (length giver.given) ≡ range_with_len settled.base settled.count =
    ap (λ b. range_with_len b (length giver.given)) (sym count.0) ∙ ap (λ n. range_with_len settled.base n) (sym count.1) in
    subst (λ l. IsPermutation (serials_of (taken_by c.args.takers.items)) l) (serials ∙ numbers)
    (IsPermutation-map (λ (p : IsolatedPage). p.serial) (taken_by c.args.takers.items) giver.given c.take_back.ensures.pages)

pub take_back-requires-clause-ended : goal.take_back-requires-clause-ended
take_back-requires-clause-ended c = AllPass-from_list_all (λ (t : Taker). t.ended) c.args.takers.items cc

pub take_back-requires-clause-marks : goal.take_back-requires-clause-marks
take_back-requires-clause-marks c =
    let marks = ap (λ (g : Giver). g.marks) c.giver.view_is in
    let takers = ap (λ (g : Giver). g.takers) c.giver.view_is in (omega arith, omega arith)

pub returns-clause-exact : goal.returns-clause-exact
returns-clause-exact c =
    let marks = ap (λ (g : Giver). g.marks) c.giver.view_is in
    let takers = ap (λ (g : Giver). g.takers) c.giver.view_is in (λ _. (omega arith, omega arith, cc), λ _. refl)
