use Rattle.std.proofs.Common.{◌∙◌, ap, sym, Some}
use Rattle.std.proofs.lemmas.Bool.{ltb-true}
use Rattle.std.proofs.lemmas.Option.{slice_get-get_or}
use Rattle.worker_threads.proofs.Places.{same_move}
use Rattle.worker_threads.proofs.room.is_kept.Goals as goal

pub returns-clause-half : goal.returns-clause-half
returns-clause-half c so =
    let kept = c.in-Some-Some.kept in
    let found = c.in-Some-Some.ensures.lookup in
    let same = same_move kept.way c.args.way.now (sym c.eq.ensures ∙ so) in (
      kept.half,
      slice_get-get_or c.args.kept.now c.args.place c.in-Some-Some.field-0.now (ltb-true _ _ (sym found.0))
          ∙ ap Some (sym found.1 ∙ c.in-Some-Some.field-0-is ∙ (λ i. Some (record { way = same i; half = kept.half }))),
    )
