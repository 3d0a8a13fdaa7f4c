use Rattle.std.proofs.Common.{◌≡◌, ◌<◌, true, length, ap, sym, subst, refl, ◌∙◌, arith}
use Rattle.std.specs.Prelude.{Some, slice_get, slice_set}
use Rattle.std.proofs.lemmas.Bool.{eq-eqb}
use Rattle.std.proofs.lemmas.List.{length-set}
use Rattle.frame_core.specs.Address.{InTable}
use Rattle.table_core.specs.declared.entry.Entry.{Entry}
use Rattle.table_core.specs.declared.entry.Entry.TheVariants.{Absent, Present}
use Rattle.table_core.specs.Listed.{IsListOf, AreListed}
use Rattle.table_core.specs.Tables.{Tables, EntryTable, place_of, entry_at, is_listed, with_entry, ChangesOnly}
use Rattle.table_core.proofs.Listing.{list_read, listed_clear}
use Rattle.table_core.proofs.Places.{named_inside, place_in, entry_got, Changes, changes, changes_only}
use Rattle.table_core.proofs.tables.Tables.clear.Goals as goal
use Rattle.table_core.proofs.tables.Tables.clear.Goals.{After-place_of-place, After-get-in-Present, After-index_mut}

inside : (c : After-place_of-place) → InTable c.self.inside.entries.entries.size.spaces c.self.inside.entries.entries.size.pages c.args.address
inside c = named_inside c.self.inside.entries.entries c.args.address (λ none. (let bad : Absent ≡ Present c.requires.0 =
    sym none ∙ ap (λ (t : Tables). entry_at t.entries c.args.address) c.self.view_is ∙ c.requires.1 in cc))

place : (c : After-place_of-place) → (c.place_of-place.result ≡ place_of c.self.inside.entries.entries.size.pages c.args.address) × (c.place_of-place.result < length c.self.inside.entries.entries.list)
place c = place_in c.self.inside.entries.entries c.size.result c.args.address c.place_of-place.result c.size.ensures.value c.size.ensures.count (inside c) c.place_of-place.ensures.place

pub get-requires : goal.get-requires
get-requires c = (place c.before).1

entry_is : (c : After-get-in-Present) → entry_at c.self.inside.entries.entries c.args.address ≡ Present c.in-Present.frame
entry_is c =
    entry_got c.self.inside.entries.entries c.args.address c.place_of-place.result c.get.result (inside c.before.before.before.before.before.before.before) (place c.before.before.before.before.before.before.before).0 c.get.ensures
    ∙ c.in-Present.is

is_under : (c : After-get-in-Present) → is_listed (entry_at c.self.inside.entries.entries c.args.address) c.in-Present.frame ≡ true
is_under c = ap (λ (e : Entry). is_listed e c.in-Present.frame) (entry_is c) ∙ eq-eqb c.in-Present.frame c.in-Present.frame refl

within : (c : After-get-in-Present) → c.get-in-Present.result < length c.self.inside.lists.items
within c = omega (arith, c.get-in-Present.ensures.value, c.self.invariant.0.within c.args.address c.in-Present.frame (is_under c))

pub index_mut-requires : goal.index_mut-requires
index_mut-requires c = omega (arith, within c)

at : (c : After-index_mut) → slice_get c.self.inside.lists.items c.in-Present.frame ≡ Some c.index_mut.result.now
at c = list_read c.self.inside.lists.items c.in-Present.frame c.get-in-Present.result c.index_mut.result.now c.get-in-Present.ensures.value (within c.before) c.index_mut.ensures.value

list : (c : After-index_mut) → IsListOf c.self.inside.entries.entries c.in-Present.frame c.index_mut.result.now
list c = c.self.invariant.0.each c.in-Present.frame c.index_mut.result.now (at c)

pub remove-requires-clause-rising : goal.remove-requires-clause-rising
remove-requires-clause-rising c = (list c.before).just.rising

pub remove-requires-clause-named : goal.remove-requires-clause-named
remove-requires-clause-named c = ((list c.before).just.each c.args.address).1 (c.place_of-place.ensures.range, is_under c.before.before)

entries : (c : After-index_mut) → c.clear.new.self.entries ≡ with_entry c.self.inside.entries.entries c.place_of-place.result Absent
entries c = ap (λ (t : Tables). t.entries) c.clear.ensures

change : (c : After-index_mut) → Changes c.self.inside.entries.entries c.clear.new.self.entries c.args.address Absent
change c =
    subst (λ (new : EntryTable). Changes c.self.inside.entries.entries new c.args.address Absent) (sym (entries c))
    (changes c.self.inside.entries.entries c.args.address Absent c.place_of-place.result (inside c.before.before.before.before.before.before.before.before) (place c.before.before.before.before.before.before.before.before).0 (place c.before.before.before.before.before.before.before.before).1)

pub invariant_of-self : goal.invariant_of-self
invariant_of-self c =
    let z = c.self.inside in (
      subst (AreListed c.clear.new.self.entries) (sym (λ i. slice_set z.lists.items (c.get-in-Present.ensures.value i) (c.remove.ensures i)))
          (listed_clear z.entries.entries c.clear.new.self.entries z.lists.items c.args.address c.in-Present.frame c.index_mut.result.now c.self.invariant.0 c.place_of-place.ensures.range
          (change c.before.before.before) (entry_is c.before.before.before.before) (at c.before.before.before)),
      ap (λ (t : Tables). t.frames) c.clear.ensures ∙ c.self.invariant.1 ∙ sym (length-set z.lists.items c.get-in-Present.result c.remove.new.self),
    )

pub returns-in-Present-clause-cleared : goal.returns-in-Present-clause-cleared
returns-in-Present-clause-cleared c =
    subst (λ (t : Tables). ChangesOnly t.entries c.clear.new.self.entries c.args.address Absent) c.self.view_is
    (changes_only c.self.inside.entries.entries c.clear.new.self.entries c.args.address Absent (change c.before.before.before))
