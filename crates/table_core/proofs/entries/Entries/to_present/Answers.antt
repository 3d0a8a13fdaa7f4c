use Rattle.std.proofs.Common.{◌≡◌, ◌≢◌, ℕ, true, false, List, length, take, drop, ◌++◌, ap, refl, sym, subst, ◌∙◌, arith}
use Rattle.std.specs.Prelude.{Option, slice_get, slice_set, ◌↔◌}
use Rattle.std.proofs.lemmas.List.{length-set}
use Rattle.frame_core.specs.declared.place.Address.{Address}
use Rattle.table_core.specs.declared.entry.Entry.TheVariants.{Present, Migration}
use Rattle.table_core.specs.EntriesInside.{AreKept}
use Rattle.table_core.specs.Names.{IsIn}
use Rattle.table_core.specs.Tables.{Tables, place_of, entry_at, is_listed, Replaces}
use Rattle.table_core.proofs.Listing.{rewritten}
use Rattle.table_core.proofs.Places.{moving_inside}
use Rattle.table_core.proofs.Writing.{table, entries_come, kept_come}
use Rattle.table_core.proofs.entries.Entries.to_present.Goals as goal
use Rattle.table_core.proofs.entries.Entries.to_present.Goals.{After-list_under}

-- the frames of all addresses are those that were written
written : (c : After-list_under) → take (length c.self.inside.frames.items) (c.list_under.new.frames ++ drop (length c.list_under.new.frames) c.self.inside.frames.items) ≡ c.list_under.new.frames
written c = rewritten c.self.inside.frames.items c.list_under.new.frames (length c.self.inside.frames.items) (c.list_under.ensures.count ∙ ap length c.deref_mut.ensures.value) refl

others : (c : After-list_under) → (place : ℕ) → ((a : Address) → IsIn c.args.names.now a → place_of c.self.inside.size.pages a ≢ place) →
    slice_get c.list_under.new.frames place ≡ slice_get c.self.inside.frames.items place
others c place none = c.list_under.ensures.other place none ∙ ap (λ (frames : List (Option ℕ)). slice_get frames place) c.deref_mut.ensures.value

pub list_under-requires-clause-count : goal.list_under-requires-clause-count
list_under-requires-clause-count c = ap length c.deref_mut.ensures.value ∙ c.self.invariant.count

pub list_under-requires-clause-inside : goal.list_under-requires-clause-inside
list_under-requires-clause-inside c = λ a h.
    moving_inside (table c.self.inside.size c.self.inside.left.items c.self.inside.frames.items) a c.args.source
    (ap (λ (t : Tables). entry_at t.entries a) c.self.view_is ∙ (c.requires.named a).0 h)

pub invariant_of-self : goal.invariant_of-self
invariant_of-self c =
    let z = c.self.inside in
    let first = slice_set z.left.items c.get.result false in
    let more = slice_set first c.get-2.result false in
    let count : length more ≡ length z.left.items = length-set first c.get-2.result false ∙ length-set z.left.items c.get.result false in
    subst (AreKept z.size more) (sym (written c.before)) (kept_come z.size z.left.items more z.frames.items c.list_under.new.frames c.args.names.now c.args.frame c.self.invariant count (c.list_under.ensures.count ∙ ap length c.deref_mut.ensures.value)
    (omega (arith, c.requires.within, ap (λ (t : Tables). t.frames) c.self.view_is)) c.list_under.ensures.named (others c.before))

pub returns-clause-replaced : goal.returns-clause-replaced
returns-clause-replaced c =
    let z = c.self.inside in
    let s = z.left.items in
    let old = table z.size s z.frames.items in
    let from = Migration c.args.source in
    let to = Present c.args.frame in
    let frames = ap (λ (t : Tables). t.frames) c.self.view_is in
    subst (λ (t : Tables). Replaces t.entries (table z.size (slice_set (slice_set s c.get.result false) c.get-2.result false) (take (length z.frames.items) (c.list_under.new.frames ++ drop (length c.list_under.new.frames) z.frames.items))) from to) c.self.view_is
    (subst (λ (k : ℕ). Replaces old (table z.size (slice_set (slice_set s c.get.result false) k false) (take (length z.frames.items) (c.list_under.new.frames ++ drop (length c.list_under.new.frames) z.frames.items))) from to) (sym c.get-2.ensures.value)
    (subst (λ (k : ℕ). Replaces old (table z.size (slice_set (slice_set s k false) c.args.frame false) (take (length z.frames.items) (c.list_under.new.frames ++ drop (length c.list_under.new.frames) z.frames.items))) from to) (sym c.get.ensures.value)
    (subst (λ (new : List (Option ℕ)). Replaces old (table z.size (slice_set (slice_set s c.args.source false) c.args.frame false) new) from to) (sym (written c.before))
    (entries_come z.size s z.frames.items c.list_under.new.frames c.args.names.now c.args.source c.args.frame
    (omega (arith, c.requires.source_within, frames)) (omega (arith, c.requires.within, frames))
    (subst (λ (t : Tables). (a : Address) → IsIn c.args.names.now a ↔ (entry_at t.entries a ≡ from)) (sym c.self.view_is) c.requires.named)
    (subst (λ (t : Tables). (a : Address) → is_listed (entry_at t.entries a) c.args.source ≡ true → entry_at t.entries a ≡ from) (sym c.self.view_is) c.requires.left)
    (subst (λ (t : Tables). c.args.frame ≢ c.args.source → (a : Address) → is_listed (entry_at t.entries a) c.args.frame ≡ false) (sym c.self.view_is) c.requires.unnamed)
    c.list_under.ensures.named (others c.before)))))
