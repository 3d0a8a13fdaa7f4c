use Rattle.std.proofs.Common.{◌≡◌, ◌∙◌, ◌<◌, length, true, sym, ap, arith}
use Rattle.std.specs.Prelude.{slice_index, Some}
use Rattle.std.proofs.lemmas.List.{get_or_read_under}
use Rattle.keeper_core.specs.Keeping.{Keeper}
use Rattle.keeper_core.proofs.Searches.{found, not_found}
use Rattle.zone_core.specs.Stepping.{is_unfinished}
use Rattle.keeper_core.proofs.keeper.Keeper.next_unfinished.Goals as goal

pub returns-then-is_unfinished : goal.returns-then-is_unfinished
returns-then-is_unfinished g c =
    let k = c.args.self.now in
    let items = ap (λ (k : Keeper). k.claims) c.self.view_is in
    let within : c.loop-place.place < length k.claims = omega (arith, c.loop-place-test.true, c.len-place-end.ensures, c.self.inside.claims.ok.0, ap length items) in
    let at : c.index-first.result.now ≡ slice_index k.claims c.loop-place.place = get_or_read_under c.self.inside.claims.items c.loop-place.place (length k.claims) c.index-first.result.now 0 c.index-first.ensures within (sym (ap length items)) ∙ ap (λ l. slice_index l c.loop-place.place) items in
    let passes : is_unfinished c.args.zone.now (slice_index k.claims c.loop-place.place) k.order ≡ true = (λ i. is_unfinished c.args.zone.now (sym at i) (sym (ap (λ (k : Keeper). k.order) c.self.view_is) i)) ∙ sym c.is_unfinished.ensures ∙ c.if-is_unfinished.true in
    ap Some at ∙ sym (found (λ first. is_unfinished c.args.zone.now first k.order) k.claims c.loop-place.place within c.loop-place.invariant passes)

pub returns : goal.returns
returns g c =
    let k = c.args.self.now in
    let items = ap (λ (k : Keeper). k.claims) c.self.view_is in
    sym (not_found (λ first. is_unfinished c.args.zone.now first k.order) k.claims (λ n h. c.loop-place.invariant n (omega (arith, h, c.loop-place-test.false, c.len-place-end.ensures, c.self.inside.claims.ok.0, ap length items))))
