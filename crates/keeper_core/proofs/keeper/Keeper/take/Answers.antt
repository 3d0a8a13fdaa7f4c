use Rattle.std.proofs.Common.{◌≡◌, ◌∙◌, ◌+◌, ◌++◌, length, List, ℕ, Some, subst, sym, ap, arith}
use Rattle.std.specs.Prelude.{drop, slice_index, take}
use Rattle.std.specs.List.{position}
use Rattle.std.proofs.lemmas.List.{get_or_read_under}
use Rattle.std.proofs.lemmas.Result.{err_from_is_err_and}
use Rattle.fewest_core.specs.Claims.{claimed_taken, take_claimed_refusal}
use Rattle.keeper_core.specs.Keeping.{Keeper, is_ready, IsTaken}
use Rattle.keeper_core.proofs.Searches.{at_place, nowhere}
use Rattle.keeper_core.proofs.Taking.{refused, taken}
use Rattle.keeper_core.proofs.keeper.Keeper.take.Goals as goal

pub take_cheapest-requires : goal.take_cheapest-requires
take_cheapest-requires g c = (omega arith, nowhere (is_ready c.args.zone.now c.args.self.now.order) c.args.self.now.claims (sym c.place_of_ready.ensures ∙ c.in_default.is))

pub returns-in_err-take_claimed-clause-refused : goal.returns-in_err-take_claimed-clause-refused
returns-in_err-take_claimed-clause-refused g c =
    let k = c.args.self.now in
    let at : position (is_ready c.args.zone.now k.order) k.claims ≡ Some c.in-Some.place = sym c.place_of_ready.ensures ∙ c.in-Some.is in
    let items = ap (λ (k : Keeper). k.claims) c.self.view_is in
    let named : c.index-first.result.now ≡ slice_index k.claims c.in-Some.place = get_or_read_under c.self.inside.claims.items c.in-Some.place (length k.claims) c.index-first.result.now 0 c.index-first.ensures (at_place (is_ready c.args.zone.now k.order) k.claims c.in-Some.place at).0 (sym (ap length items)) ∙ ap (λ l. slice_index l c.in-Some.place) items in
    let p = err_from_is_err_and c.from_residual.result c.from_residual.ensures.1 in
    let order = ap (λ (k : Keeper). k.order) c.self.view_is in
    rw (p.1, p.2) (c.in_err-take_claimed.ensures.refused ∙ ap (take_claimed_refusal c.args.zone.now c.index-first.result.now) order ∙ refused k c.args.zone.now c.in-Some.place c.index-first.result.now at named)

pub returns-clause-refused : goal.returns-clause-refused
returns-clause-refused g c =
    let k = c.args.self.now in
    let at : position (is_ready c.args.zone.now k.order) k.claims ≡ Some c.in-Some.place = sym c.place_of_ready.ensures ∙ c.in-Some.is in
    let items = ap (λ (k : Keeper). k.claims) c.self.view_is in
    let named : c.index-first.result.now ≡ slice_index k.claims c.in-Some.place = get_or_read_under c.self.inside.claims.items c.in-Some.place (length k.claims) c.index-first.result.now 0 c.index-first.ensures (at_place (is_ready c.args.zone.now k.order) k.claims c.in-Some.place at).0 (sym (ap length items)) ∙ ap (λ l. slice_index l c.in-Some.place) items in
    let order = ap (λ (k : Keeper). k.order) c.self.view_is in
    c.in_ok-take_claimed.ensures.refused ∙ ap (take_claimed_refusal c.args.zone.now c.index-first.result.now) order ∙ refused k c.args.zone.now c.in-Some.place c.index-first.result.now at named

pub returns-clause-ok : goal.returns-clause-ok
returns-clause-ok g c =
    let k = c.args.self.now in
    let at : position (is_ready c.args.zone.now k.order) k.claims ≡ Some c.in-Some.place = sym c.place_of_ready.ensures ∙ c.in-Some.is in
    let items = ap (λ (k : Keeper). k.claims) c.self.view_is in
    let named : c.index-first.result.now ≡ slice_index k.claims c.in-Some.place = get_or_read_under c.self.inside.claims.items c.in-Some.place (length k.claims) c.index-first.result.now 0 c.index-first.ensures (at_place (is_ready c.args.zone.now k.order) k.claims c.in-Some.place at).0 (sym (ap length items)) ∙ ap (λ l. slice_index l c.in-Some.place) items in
    let without = c.remove.ensures.by_index.2 ∙ ap (λ (l : List ℕ). take c.in-Some.place l ++ drop (c.in-Some.place + 1) l) items in
    let order = ap (λ (k : Keeper). k.order) c.self.view_is in
    subst (λ (u : Keeper). IsTaken k c.args.zone.now (record { first = c.index-first.result.now; pages = 0 }) u c.take_claimed.new.self) (sym (ap (λ (u : Keeper). record u { claims = c.remove.new.self.items }) c.self.view_is))
    (taken k c.args.zone.now c.in-Some.place c.index-first.result.now at named c.remove.new.self.items c.take_claimed.new.self without
    (c.in_ok-take_claimed.ensures.ok ∙ ap (claimed_taken c.args.zone.now c.index-first.result.now) order)
    (c.in_ok-take_claimed.ensures.taken ∙ ap Some order))
