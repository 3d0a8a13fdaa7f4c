use Rattle.std.proofs.Common.{◌≡◌, ℕ, ◌<◌, false, true, length, refl, ap, sym, subst, ◌∙◌, arith}
use Rattle.std.specs.List.{SwappedAt}
use Rattle.table_core.specs.declared.entry.Entry.{Entry}
use Rattle.table_core.specs.declared.entry.Entry.TheVariants.{Migration}
use Rattle.table_core.specs.Tables.{Tables, entry_at, is_listed}
use Rattle.table_core.proofs.Listing.{everywhere, swapped_at, listed_ended}
use Rattle.table_core.proofs.tables.Tables.to_present.Goals as goal

pub to_present-requires-clause-left : goal.to_present-requires-clause-left
to_present-requires-clause-left c =
    everywhere c.self.inside.entries.entries c.self.inside.lists.items c.self.invariant.0
    (λ entry. is_listed entry c.args.source ≡ true → entry ≡ Migration c.args.source) (λ e. cc)
    (λ b range e. (let same = ap (λ (t : Tables). entry_at t.entries b) c.self.view_is in
    same ∙ c.requires.left b range (ap (λ (entry : Entry). is_listed entry c.args.source) (sym same) ∙ e)))

pub to_present-requires-clause-unnamed : goal.to_present-requires-clause-unnamed
to_present-requires-clause-unnamed c =
    λ apart. everywhere c.self.inside.entries.entries c.self.inside.lists.items c.self.invariant.0 (λ entry. is_listed entry c.args.frame ≡ false) refl
    (λ b range. ap (λ (t : Tables). is_listed (entry_at t.entries b) c.args.frame) c.self.view_is ∙ c.requires.unnamed apart b range)

pub invariant_of-self : goal.invariant_of-self
invariant_of-self c =
    let z = c.self.inside in
    let frames = ap (λ (t : Tables). t.frames) c.self.view_is in
    let source_in : c.args.source < length z.lists.items = omega (arith, frames, c.self.invariant.1, c.requires.source_within) in
    let frame_in : c.args.frame < length z.lists.items = omega (arith, frames, c.self.invariant.1, c.requires.within) in
    let swapped = subst (λ (k : ℕ). SwappedAt z.lists.items c.swap.new.self.items k c.args.frame) c.get-2.ensures.value
    (subst (λ (k : ℕ). SwappedAt z.lists.items c.swap.new.self.items c.get-2.result k) c.get-3.ensures.value c.swap.ensures.items) in
    let count : length c.swap.new.self.items ≡ length z.lists.items = c.swap.ensures.len in (
      listed_ended z.entries.entries c.to_present.new.self.entries z.lists.items c.swap.new.self.items c.args.source c.args.frame c.self.invariant.0
          c.to_present.ensures.replaced
          (swapped_at z.lists.items c.swap.new.self.items c.args.source c.args.frame source_in frame_in count swapped)
          (λ a range e. (let same = ap (λ (t : Tables). entry_at t.entries a) c.self.view_is in same ∙ c.requires.left a range (ap (λ (entry : Entry). is_listed entry c.args.source) (sym same) ∙ e)))
          (λ ne a range. ap (λ (t : Tables). is_listed (entry_at t.entries a) c.args.frame) c.self.view_is ∙ c.requires.unnamed ne a range)
          source_in frame_in,
      c.to_present.ensures.frames ∙ c.self.invariant.1 ∙ sym count,
    )
