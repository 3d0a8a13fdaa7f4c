use Rattle.std.proofs.Common.{ℕ, ap, ◌∙◌}
use Rattle.std.specs.Prelude.{Option, slice_set}
use Rattle.std.proofs.lemmas.List.{map-set}
use Rattle.table_core.specs.declared.entry.Entry.TheVariants.{Absent}
use Rattle.table_core.specs.EntriesInside.{entry_by, entries_of}
use Rattle.table_core.specs.Tables.{Tables}
use Rattle.table_core.proofs.entries.Entries.clear.Goals as goal

pub returns : goal.returns
returns c =
    let z = c.self.inside in
    let list =
    map-set (entry_by z.left.items) z.frames.items c.args.place c.none.result
    ∙ ap (λ (under : Option ℕ). slice_set (entries_of z.left.items z.frames.items) c.args.place (entry_by z.left.items under)) c.none.ensures
    ∙ ap (λ (t : Tables). slice_set t.entries.list c.args.place Absent) c.self.view_is in
    λ i. record { entries = record { list = list i; size = (c.self.view_is i).entries.size }; frames = (c.self.view_is i).frames }
