use Rattle.std.proofs.Common.{ℕ, ◌*◌, ◌∙◌, ap, arith}
use Rattle.std.proofs.lemmas.Option.{IfSome_then}
use Rattle.state_core.specs.ZoneState.{ZoneState}
use Rattle.zone_tables.proofs.Facts.{is_sound}
use Rattle.zone_tables.proofs.LendingBlocks.{row_back}
use Rattle.zone_tables.proofs.LentBlocks.{none_lent}
use Rattle.zone_tables.proofs.zone.ZoneTables.end.Goals as goal

pub end-requires : goal.end-requires
end-requires g c = (omega arith, none_lent c.self.inside c.args.self (is_sound c.self.view_is c.self.invariant) c.requires)

pub returns-clause-at : goal.returns-clause-at
returns-clause-at g c = row_back c.end.result c.self.inside.words.given c.self.inside.words.at c.end.ensures.given c.end.ensures.at ∙ ap (λ (u : ZoneState). u.memory) c.self.view_is

pub returns-clause-count : goal.returns-clause-count
returns-clause-count g c =
    let sound = is_sound c.self.view_is c.self.invariant in
    IfSome_then c.end.result c.end.ensures.count
    (λ row is. is ∙ ap (λ (n : ℕ). n * g.row.W) sound.words.count ∙ ap (λ (u : ZoneState). 512 * c.args.self.blocks * u.page_size) c.self.view_is)
