use Rattle.std.proofs.Common.{ℕ, Bool, ◌<◌, ◌∙◌, sym, ap, length, List, arith}
use Rattle.std.specs.Prelude.{is_none, nat_lt}
use Rattle.std.specs.FinSet as set
use Rattle.std.proofs.lemmas.Bool.{ltb-true}
use Rattle.scan_core.proofs.Spanning.{both}
use Rattle.frame_core.specs.Below.{lowest}
use Rattle.zone_tables.specs.declared.note.PageNote.{PageNote}
use Rattle.zone_tables.specs.Notes.{placement_of}
use Rattle.zone_tables.proofs.SearchesAndCounts.{some_is}
use Rattle.zone_tables.proofs.Unused.{first_is_lowest, none_is_lowest}
use Rattle.zone_tables.proofs.notes.Notes.lowest_unused.Goals as goal

pub returns-in_err-first : goal.returns-in_err-first
returns-in_err-first c =
    c.from_residual.ensures
    ∙ sym (none_is_lowest (λ page. is_none (placement_of c.self.inside.notes.items page)) (set.contains c.self.inside.unused.members) (length c.self.inside.notes.items) c.self.invariant.unused c.in_err-first.ensures.first)
    ∙ ap (λ (notes : List PageNote). lowest (λ page. is_none (placement_of notes page)) (length notes)) c.self.view_is

pub returns : goal.returns
returns c =
    let p : ℕ → Bool = λ page. is_none (placement_of c.self.inside.notes.items page) in
    let first = c.in_ok-first.ensures.first in
    let below : c.in_ok-first.field-0 < length c.self.inside.notes.items = ltb-true c.in_ok-first.field-0 (length c.self.inside.notes.items) (both (nat_lt c.in_ok-first.field-0 (length c.self.inside.notes.items)) (p c.in_ok-first.field-0) (sym (c.self.invariant.unused c.in_ok-first.field-0) ∙ first.passes)).0 in
    some_is c.in_any_zone.result c.in_ok-first.field-0 (c.in_any_zone.ensures.valid.1 (omega (arith, below, c.self.invariant.few))) c.in_any_zone.ensures.value
    ∙ sym (first_is_lowest p (set.contains c.self.inside.unused.members) (length c.self.inside.notes.items) c.self.invariant.unused c.in_ok-first.field-0 first)
    ∙ ap (λ (notes : List PageNote). lowest (λ page. is_none (placement_of notes page)) (length notes)) c.self.view_is
