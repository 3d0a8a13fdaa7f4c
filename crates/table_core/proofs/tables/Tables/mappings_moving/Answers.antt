use Rattle.std.proofs.Common.{◌≡◌, ap, sym, subst, refl, arith}
use Rattle.std.proofs.lemmas.Bool.{eq-eqb}
use Rattle.table_core.specs.declared.entry.Entry.TheVariants.{Migration}
use Rattle.table_core.specs.Listed.{IsListOf}
use Rattle.table_core.specs.Names.{AreJust}
use Rattle.table_core.specs.Tables.{Tables, entry_at}
use Rattle.table_core.proofs.Listing.{list_read, just_those}
use Rattle.table_core.proofs.Places.{listed_inside}
use Rattle.table_core.proofs.tables.Tables.mappings_moving.Goals as goal
use Rattle.table_core.proofs.tables.Tables.mappings_moving.Goals.{After-as_slice-names}

list : (c : After-as_slice-names) → IsListOf c.self.inside.entries.entries c.args.source c.as_slice-names.result.now
list c =
    subst (IsListOf c.self.inside.entries.entries c.args.source) (sym c.as_slice-names.ensures.value)
    (c.self.invariant.0.each c.args.source c.index.result.now
    (list_read c.self.inside.lists.items c.args.source c.get.result c.index.result.now c.get.ensures.value (omega (arith, c.get.ensures.value, c.requires, c.self.invariant.1, ap (λ (t : Tables). t.frames) c.self.view_is)) c.index.ensures))

pub those_with-requires : goal.those_with-requires
those_with-requires c = record {
  inside = λ a h. listed_inside c.self.inside.entries.entries a c.args.source (((list c.before).just.each a).0 h).1;
  few = (list c.before).few;
  rising = (list c.before).just.rising;
}

pub returns : goal.returns
returns c =
    subst (λ (t : Tables). AreJust c.those_with.result.items (λ a. entry_at t.entries a ≡ Migration c.args.source)) c.self.view_is
    (just_those c.self.inside.entries.entries c.args.source c.as_slice-names.result.now c.those_with.result.items (Migration c.args.source) (list c.before.before) (eq-eqb c.args.source c.args.source refl) c.those_with.ensures.rising c.those_with.ensures.each)
