use Rattle.std.proofs.Common.{◌≡◌, ◌<◌, ◌≤◌, ◌∷◌, [], ◌++◌, length, get_or, arith, sym, ◌∙◌, ap, length-set}
use Rattle.std.proofs.lemmas.List.{take_more_set, take_more, take_all}
use Rattle.frame_core.proofs.page.Page.copy_into_new.Goals as goal

pub loop-word-preserved : goal.loop-word-preserved
loop-word-preserved g c =
    let word = c.loop-word.word in
    let here : word < length c.loop-word.words = omega arith in
    let there : word < length c.self.inside.words = omega arith in
    let value = get_or c.self.inside.words word 0 in
    record {
      size = length-set c.loop-word.words word value ∙ c.loop-word.invariant.size;
      copied =
          take_more_set c.loop-word.words word value here
          ∙ (ap (λ ws. ws ++ value ∷ []) c.loop-word.invariant.copied ∙ sym (take_more c.self.inside.words word 0 there));
    }

pub returns : goal.returns
returns g c =
    let copy : length c.loop-word.words ≤ c.loop-word.word = omega arith in
    let whole : length c.self.inside.words ≤ c.loop-word.word = omega arith in
    let words : c.loop-word.words ≡ c.self.inside.words =
    sym (take_all c.loop-word.word c.loop-word.words copy) ∙ (c.loop-word.invariant.copied ∙ take_all c.loop-word.word c.self.inside.words whole) in
    rw words c.self.view_is
