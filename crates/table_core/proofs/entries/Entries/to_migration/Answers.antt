use Rattle.std.proofs.Common.{ℕ, true, ap, sym, subst, ◌∙◌, arith}
use Rattle.std.specs.Prelude.{slice_set}
use Rattle.table_core.specs.declared.entry.Entry.TheVariants.{Present, Migration}
use Rattle.table_core.specs.Tables.{Tables, entry_at, Replaces}
use Rattle.table_core.proofs.Writing.{table, entries_left}
use Rattle.table_core.proofs.entries.Entries.to_migration.Goals as goal

pub returns-clause-replaced : goal.returns-clause-replaced
returns-clause-replaced c =
    let left = c.self.inside.left.items in
    let frames = c.self.inside.frames.items in
    let size = c.self.inside.size in
    let from = Present c.args.frame in
    let to = Migration c.args.frame in
    subst (λ (t : Tables). Replaces t.entries (table size (slice_set left c.get.result true) frames) from to) c.self.view_is
    (subst (λ (k : ℕ). Replaces (table size left frames) (table size (slice_set left k true) frames) from to) (sym c.get.ensures.value)
    (entries_left size left frames c.self.invariant.count c.args.frame (omega (arith, c.requires.within, ap (λ (t : Tables). t.frames) c.self.view_is))
    (λ a e. c.requires.resting a (sym (ap (λ (t : Tables). entry_at t.entries a) c.self.view_is) ∙ e))))
