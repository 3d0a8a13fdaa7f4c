use Rattle.std.proofs.Common.{◌≡◌, ◌≢◌, ◌<◌, length, ap, sym, subst, ◌∙◌, arith}
use Rattle.std.specs.Prelude.{Some, slice_get, slice_set}
use Rattle.std.proofs.lemmas.List.{length-set}
use Rattle.frame_core.specs.Address.{InTable}
use Rattle.table_core.specs.declared.entry.Entry.TheVariants.{Absent, Present, Migration}
use Rattle.table_core.specs.Listed.{AreListed}
use Rattle.table_core.specs.Tables.{Tables, EntryTable, place_of, entry_at, with_entry, count_listed, ChangesOnly}
use Rattle.table_core.proofs.Counting.{length_list}
use Rattle.table_core.proofs.Listing.{list_read, everywhere, listed_set}
use Rattle.table_core.proofs.Places.{place_in, Changes, changes, changes_only}
use Rattle.table_core.proofs.tables.Tables.set.Goals as goal
use Rattle.table_core.proofs.tables.Tables.set.Goals.{After-place_of-place, After-index_mut}

inside : (c : After-place_of-place) → InTable c.self.inside.entries.entries.size.spaces c.self.inside.entries.entries.size.pages c.args.address
inside c = subst (λ (t : Tables). InTable t.entries.size.spaces t.entries.size.pages c.args.address) (sym c.self.view_is) c.requires.inside

place : (c : After-place_of-place) → (c.place_of-place.result ≡ place_of c.self.inside.entries.entries.size.pages c.args.address) × (c.place_of-place.result < length c.self.inside.entries.entries.list)
place c = place_in c.self.inside.entries.entries c.size.result c.args.address c.place_of-place.result c.size.ensures.value c.size.ensures.count (inside c) c.place_of-place.ensures.place

pub set-requires-clause-place : goal.set-requires-clause-place
set-requires-clause-place c = (place c.before).1

pub set-requires-clause-resting : goal.set-requires-clause-resting
set-requires-clause-resting c =
    everywhere c.self.inside.entries.entries c.self.inside.lists.items c.self.invariant.0 (λ entry. entry ≢ Migration c.args.frame) (λ e. cc)
    (λ b range e. c.requires.resting b range (sym (ap (λ (t : Tables). entry_at t.entries b) c.self.view_is) ∙ e))

at : (c : After-index_mut) → slice_get c.self.inside.lists.items c.args.frame ≡ Some c.index_mut.result.now
at c =
    list_read c.self.inside.lists.items c.args.frame c.get.result c.index_mut.result.now c.get.ensures.value
    (omega (arith, c.get.ensures.value, c.requires.within, c.self.invariant.1, ap (λ (t : Tables). t.frames) c.self.view_is)) c.index_mut.ensures.value

room : (c : After-index_mut) → length c.index_mut.result.now < 4
room c =
    omega (
      arith,
      c.requires.room,
      ap (λ (t : Tables). count_listed t.entries c.args.frame) c.self.view_is,
      length_list c.self.inside.entries.entries c.self.inside.lists.items c.self.invariant.0 c.args.frame c.index_mut.result.now (c.self.invariant.0.each c.args.frame c.index_mut.result.now (at c)),
    )

pub insert-requires : goal.insert-requires
insert-requires c = room c

entries : (c : After-index_mut) → c.set.new.self.entries ≡ with_entry c.self.inside.entries.entries c.place_of-place.result (Present c.args.frame)
entries c = ap (λ (t : Tables). t.entries) c.set.ensures

change : (c : After-index_mut) → Changes c.self.inside.entries.entries c.set.new.self.entries c.args.address (Present c.args.frame)
change c =
    subst (λ (new : EntryTable). Changes c.self.inside.entries.entries new c.args.address (Present c.args.frame)) (sym (entries c))
    (changes c.self.inside.entries.entries c.args.address (Present c.args.frame) c.place_of-place.result (inside c.before.before.before.before.before) (place c.before.before.before.before.before).0 (place c.before.before.before.before.before).1)

pub invariant_of-self : goal.invariant_of-self
invariant_of-self c =
    let z = c.self.inside in
    let absent : entry_at z.entries.entries c.args.address ≡ Absent = ap (λ (t : Tables). entry_at t.entries c.args.address) c.self.view_is ∙ c.requires.absent in (
      subst (AreListed c.set.new.self.entries) (sym (λ i. slice_set z.lists.items (c.get.ensures.value i) (c.insert.ensures i)))
          (listed_set z.entries.entries c.set.new.self.entries z.lists.items c.args.address c.args.frame c.index_mut.result.now c.self.invariant.0 c.place_of-place.ensures.range
          (change c.before.before) absent (at c.before.before) (room c.before.before)),
      ap (λ (t : Tables). t.frames) c.set.ensures ∙ c.self.invariant.1 ∙ sym (length-set z.lists.items c.get.result c.insert.new.self),
    )

pub returns-clause-set : goal.returns-clause-set
returns-clause-set c =
    subst (λ (t : Tables). ChangesOnly t.entries c.set.new.self.entries c.args.address (Present c.args.frame)) c.self.view_is
    (changes_only c.self.inside.entries.entries c.set.new.self.entries c.args.address (Present c.args.frame) (change c.before.before))
