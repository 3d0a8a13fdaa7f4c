use Rattle.std.proofs.Common.{◌≡◌, ℕ, ◌+◌, ◌<◌, length, refl, ap, sym, subst, ◌∙◌, arith}
use Rattle.std.specs.Prelude.{Option, Some, slice_get, slice_set}
use Rattle.std.proofs.lemmas.List.{length-set}
use Rattle.std.proofs.lemmas.Option.{slice_get-get_or}
use Rattle.table_core.proofs.Passing.{Under, in_at, under_more, under_all}
use Rattle.table_core.proofs.Places.{place_within}
use Rattle.table_core.proofs.entries.list_under.Goals as goal
use Rattle.table_core.proofs.entries.list_under.Goals.{After-place_of}

pub loop-name-init : goal.loop-name-init
loop-name-init c = record {
  count = refl;
  under = record { named = λ k a h e. absurd (omega (arith, h)); other = λ place none. refl };
}

at : (c : After-place_of) → slice_get c.args.names.now c.loop-name.name-index ≡ Some c.name-item.result
at c = slice_get-get_or c.args.names.now c.loop-name.name-index c.name-item.result c.loop-name-test.true ∙ ap Some (sym c.name-item.is)

within : (c : After-place_of) → c.place_of.result < length c.loop-name.frames
within c =
    let inside = c.requires.inside c.name-item.result (in_at c.args.names.now c.loop-name.name-index c.name-item.result (at c)) in
    omega (arith, c.place_of.ensures.place, place_within c.args.size.spaces c.args.size.pages c.name-item.result inside, c.requires.count, c.loop-name.invariant.count)

pub bounds-frames-place_of : goal.bounds-frames-place_of
bounds-frames-place_of c = within c

pub loop-name-preserved : goal.loop-name-preserved
loop-name-preserved c = record {
  count = length-set c.loop-name.frames c.place_of.result c.some.result ∙ c.loop-name.invariant.count;
  under = subst (λ (under : Option ℕ). Under c.args.size.pages c.args.frames.now (slice_set c.loop-name.frames c.place_of.result under) c.args.names.now c.args.frame (c.loop-name.name-index + 1)) (sym c.some.ensures)
      (under_more c.args.size.pages c.args.frames.now c.loop-name.frames c.args.names.now c.args.frame c.loop-name.name-index c.loop-name.invariant.under c.name-item.result
      (at c) c.place_of.result c.place_of.ensures.place (within c));
}

pub returns-clause-named : goal.returns-clause-named
returns-clause-named c = under_all c.args.size.pages c.args.frames.now c.loop-name.frames c.args.names.now c.args.frame c.loop-name.name-index c.loop-name.invariant.under c.loop-name-test.false

pub returns-clause-other : goal.returns-clause-other
returns-clause-other c = c.loop-name.invariant.under.other
