use Rattle.std.proofs.Common.{◌≡◌, subst}
use Rattle.table_core.specs.declared.entry.Entry.TheVariants.{Migration}
use Rattle.table_core.specs.Names.{AreJust}
use Rattle.table_core.specs.Tables.{Tables, entry_at}
use Rattle.table_core.proofs.Walking.{few_have}
use Rattle.table_core.proofs.tables.Tables.walk_moving.Goals as goal

pub walk-requires : goal.walk-requires
walk-requires c = record {
  named = λ e. cc;
  few = few_have c.self.inside.entries.entries c.self.inside.lists.items c.self.invariant.0 (Migration c.args.source) (λ e. cc);
}

pub returns : goal.returns
returns c = subst (λ (t : Tables). AreJust c.walk.result.items (λ a. entry_at t.entries a ≡ Migration c.args.source)) c.self.view_is c.walk.ensures
