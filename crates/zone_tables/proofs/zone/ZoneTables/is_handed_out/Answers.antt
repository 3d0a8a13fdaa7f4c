use Rattle.std.proofs.Common.{◌∙◌, ℕ, ap, sym}
use Rattle.std.specs.Prelude.{Option}
use Rattle.state_core.specs.HandingOut.{is_order}
use Rattle.zone_tables.proofs.SearchesAndCounts.{orders_seen}
use Rattle.zone_tables.proofs.zone.ZoneTables.is_handed_out.Goals as goal

pub returns-in-Some : goal.returns-in-Some
returns-in-Some g c =
    c.eq.ensures
    ∙ ap (λ (o : Option ℕ). is_order o c.args.order) (sym c.in-Some.is ∙ c.order.ensures ∙ (λ i. orders_seen c.self.inside c.args.self.now c.self.view_is i c.args.first))

pub returns-in-None : goal.returns-in-None
returns-in-None g c =
    ap (λ (o : Option ℕ). is_order o c.args.order) (sym c.in-None.is ∙ c.order.ensures ∙ (λ i. orders_seen c.self.inside c.args.self.now c.self.view_is i c.args.first))
