-- The words that an iterator over a vector gives.
use Rattle.std.proofs.Common.{◌≡◌, ◌∙◌, ap, true, refl, sym, map}
use Rattle.std.specs.Iterator.Runs.{Run, YieldsRun}
use Rattle.std.specs.Vec.Iter.{into_iter_items, into_iter_steps}
use Rattle.std.specs.declared.vec.IntoIter.{IntoIter}
use Rattle.std.proofs.lemmas.Iterator.{items_from_drains}
use Rattle.std.proofs.lemmas.Iterator.Adapters.{YieldsList-from_vec}
use Rattle.std.proofs.lemmas.List.{map-id}

-- a run to the end gives all items that were still to come
pub whole_run : {X Z : Type 0} (words : IntoIter X Z) (run : Run (into_iter_steps {X = X} {Z = Z})) → run.from ≡ words → run.whole ≡ true
    → run.items ≡ into_iter_items words
unfolding YieldsRun
whole_run {X = X} words run from whole =
    let drained = run.gave.0 in
    let all : map (λ (y : X). y) run.items ≡ into_iter_items run.from =
    items_from_drains run.items (drained.0, drained.1, λ _. drained.2 whole) (YieldsList-from_vec (into_iter_items run.from) refl run.from.rest.ok.0) in
    sym (map-id run.items) ∙ all ∙ ap into_iter_items from
