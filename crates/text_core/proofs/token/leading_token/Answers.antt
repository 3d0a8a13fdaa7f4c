use Rattle.std.proofs.Common.{◌≡◌, ◌∙◌, ℕ, List, [], ◌∷◌, ◌++◌, get_or, take, sym, ap}
use Rattle.std.proofs.lemmas.List.{take-append-drop}
use Rattle.text_core.specs.declared.token.Token.{Token}
use Rattle.text_core.specs.Token.{tokens}
use Rattle.text_core.proofs.Keywords.{keyword_comes}
use Rattle.text_core.proofs.token.leading_token.Goals as goal

pub loop-count-init : goal.loop-count-init
loop-count-init c = tt

pub returns-in_default : goal.returns-in_default
returns-in_default c =
    let text = c.args.text.now in
    let word = c.in-Some.word.now in
    let after = c.in-Some.after.now in
    let count = get_or (4 ∷ 3 ∷ 5 ∷ 6 ∷ []) c.loop-count.count-index 0 in
    let split = c.in-Some.ensures.cases in
    let whole : word ++ after ≡ text =
    ap (λ (front : List ℕ). front ++ after) split.1 ∙ ap (λ (rest : List ℕ). take count text ++ rest) split.2 ∙ take-append-drop count text in
    record {
      token = ap tokens (sym whole)
          ∙ keyword_comes word after (λ other. c.in_default.not-Other (c.keyword.ensures ∙ other)) (c.ends_word.ensures.word c.if-ends_word.true) (c.ends_word.ensures.after c.if-ends_word.true)
          ∙ ap (λ (t : Token). t ∷ tokens after) (sym c.keyword.ensures);
    }

pub loop-count-preserved : goal.loop-count-preserved
loop-count-preserved c = tt
