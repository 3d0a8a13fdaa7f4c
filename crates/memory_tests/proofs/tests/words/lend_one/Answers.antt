use Rattle.std.proofs.Common.{◌*◌, length, refl, sym, ap, ◌∙◌, arith}
use denote.RawPtr.{◌+ₚ◌}
use Rattle.std.specs.List.{length_refill}
use Rattle.memory_tests.proofs.tests.words.lend_one.Goals as goal

pub take_block_back-requires : goal.take_block_back-requires
take_block_back-requires g c =
    let lent = c.lend_block-row in (
      omega arith,
      (
        omega (arith, c.requires.block, c.store.ensures.frames, ap length lent.ensures.rows),
        (
          lent.ensures.row.0 ∙ ap (λ at. at +ₚ c.args.first * 8 * 8) (sym (ap (λ s. s.at) c.store.ensures.stored ∙ lent.ensures.at.0)),
          sym (length_refill (length lent.result.words) lent.result.words _ refl) ∙ lent.ensures.count,
        ),
      ),
    )
