use Rattle.std.proofs.Common.{◌∙◌, refl, sym}
use Rattle.zone_tables.proofs.zone.ZoneTables.counted.Goals as goal
use Rattle.zone_tables.proofs.OutAndEnded.{out_seen}

pub returns-then-out-ne0-clause-some : goal.returns-then-out-ne0-clause-some
returns-then-out-ne0-clause-some g c =
    (λ e. cc, λ none. absurd (c.if-out-ne0.true (out_seen c.self.view_is c.self.invariant c.out.ensures ∙ none)))

pub returns-clause-some : goal.returns-clause-some
returns-clause-some g c =
    (λ e. sym (out_seen c.self.view_is c.self.invariant c.out.ensures) ∙ c.if-out-ne0.false, λ none. refl)
