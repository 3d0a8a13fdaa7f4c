use Rattle.std.proofs.Common.{false, ap, sym, ◌∙◌, arith}
use Rattle.std.specs.Prelude.{slice_set}
use Rattle.std.proofs.lemmas.List.{length-set}
use Rattle.table_core.specs.declared.entry.Entry.TheVariants.{Present}
use Rattle.table_core.specs.EntriesInside.{entries_of}
use Rattle.table_core.specs.Tables.{Tables, entry_at}
use Rattle.table_core.proofs.Writing.{entries_set}
use Rattle.table_core.proofs.entries.Entries.set.Goals as goal

pub returns : goal.returns
returns c =
    let left = c.self.inside.left.items in
    let frames = c.self.inside.frames.items in
    let list =
    (λ i. entries_of (slice_set left (c.get.ensures.value i) false) (slice_set frames c.args.place (c.some.ensures i)))
    ∙ entries_set c.self.inside.size left frames c.self.invariant.count c.args.frame (omega (arith, c.requires.within, ap (λ (t : Tables). t.frames) c.self.view_is))
    (λ a e. c.requires.resting a (sym (ap (λ (t : Tables). entry_at t.entries a) c.self.view_is) ∙ e)) c.args.place
    ∙ ap (λ (t : Tables). slice_set t.entries.list c.args.place (Present c.args.frame)) c.self.view_is in
    let count = length-set left c.get.result false ∙ ap (λ (t : Tables). t.frames) c.self.view_is in
    λ i. record { entries = record { list = list i; size = (c.self.view_is i).entries.size }; frames = count i }
