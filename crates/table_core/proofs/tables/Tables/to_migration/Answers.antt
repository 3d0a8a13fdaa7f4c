use Rattle.std.proofs.Common.{◌≢◌, ap, sym, ◌∙◌}
use Rattle.table_core.specs.declared.entry.Entry.TheVariants.{Migration}
use Rattle.table_core.specs.Tables.{Tables, entry_at}
use Rattle.table_core.proofs.Listing.{everywhere, listed_moved}
use Rattle.table_core.proofs.tables.Tables.to_migration.Goals as goal

pub to_migration-requires-clause-resting : goal.to_migration-requires-clause-resting
to_migration-requires-clause-resting c =
    everywhere c.self.inside.entries.entries c.self.inside.lists.items c.self.invariant.0 (λ entry. entry ≢ Migration c.args.frame) (λ e. cc)
    (λ b range e. c.requires.resting b range (sym (ap (λ (t : Tables). entry_at t.entries b) c.self.view_is) ∙ e))

pub invariant_of-self : goal.invariant_of-self
invariant_of-self c =
    let z = c.self.inside in (
      listed_moved z.entries.entries c.to_migration.new.self.entries z.lists.items c.args.frame c.self.invariant.0
          c.to_migration.ensures.replaced,
      c.to_migration.ensures.frames ∙ c.self.invariant.1,
    )
