use Rattle.std.proofs.Common.{◌≡◌, ◌∙◌, ◌<◌, length, true, sym, ap, arith}
use Rattle.std.specs.Prelude.{slice_index}
use Rattle.std.proofs.lemmas.List.{get_or_read_under}
use Rattle.keeper_core.specs.Keeping.{Keeper, is_ready}
use Rattle.keeper_core.proofs.Searches.{placed, unplaced}
use Rattle.keeper_core.proofs.keeper.Keeper.place_of_ready.Goals as goal

pub returns-then-is_ready : goal.returns-then-is_ready
returns-then-is_ready g c =
    let k = c.args.self.now in
    let items = ap (λ (k : Keeper). k.claims) c.self.view_is in
    let within : c.loop-place.place < length k.claims = omega (arith, c.loop-place-test.true, c.len-place-end.ensures, c.self.inside.claims.ok.0, ap length items) in
    let at : c.index.result.now ≡ slice_index k.claims c.loop-place.place = get_or_read_under c.self.inside.claims.items c.loop-place.place (length k.claims) c.index.result.now 0 c.index.ensures within (sym (ap length items)) ∙ ap (λ l. slice_index l c.loop-place.place) items in
    let passes : is_ready c.args.zone.now k.order (slice_index k.claims c.loop-place.place) ≡ true = ap (is_ready c.args.zone.now k.order) (sym at) ∙ sym c.is_ready.ensures ∙ c.if-is_ready.true in
    sym (placed (is_ready c.args.zone.now k.order) k.claims c.loop-place.place within c.loop-place.invariant passes)

pub returns : goal.returns
returns g c =
    let k = c.args.self.now in
    let items = ap (λ (k : Keeper). k.claims) c.self.view_is in
    sym (unplaced (is_ready c.args.zone.now k.order) k.claims (λ n h. c.loop-place.invariant n (omega (arith, h, c.loop-place-test.false, c.len-place-end.ensures, c.self.inside.claims.ok.0, ap length items))))
