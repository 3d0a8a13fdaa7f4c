use Rattle.std.proofs.Common.{◌≡◌, length, arith, sym, ◌∙◌}
use Rattle.std.proofs.lemmas.List.{ext_get_or}
use Rattle.frame_core.proofs.words.Words.same.Goals as goal

pub returns : goal.returns
returns g c =
    let size : length c.row-row.result.now ≡ length c.words-words.result.now = c.row-row.ensures.size ∙ sym c.words-words.ensures.size in
    let each = c.loop-word.invariant in (
      λ same. sym c.row-row.ensures.value
          ∙ ext_get_or 0 c.row-row.result.now c.words-words.result.now size (λ word within. each.same same word (omega (arith, c.row-row.ensures.size)))
          ∙ c.words-words.ensures.value,
      λ equal. each.all (c.row-row.ensures.value ∙ equal ∙ sym c.words-words.ensures.value),
    )
