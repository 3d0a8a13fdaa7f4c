use Rattle.std.proofs.Common.{◌∙◌, ◌-◌, ◌++◌, List, ℕ, length, length-take, length-drop, take, drop, get_or, ap, append_assoc, decimal, arith}
use Rattle.text_core.specs.Reply.{after_commas}
use Rattle.text_core.proofs.Commas.{numbers_text-front}
use Rattle.text_core.proofs.reply.push_numbers.Goals as goal

pub push_after_commas-requires : goal.push_after_commas-requires
push_after_commas-requires g c =
    let numbers = c.args.numbers.now in
    omega (arith, c.requires.few, c.requires.room, c.push_short.ensures.len, c.in-len1-up.len_at_least, length-take (length numbers - 1) (drop 1 numbers), length-drop 1 numbers)

pub returns-clause-text : goal.returns-clause-text
returns-clause-text g c =
    let old = c.args.text.now.bytes in
    let numbers = c.args.numbers.now in
    let more : List ℕ = after_commas (take (length numbers - 1) (drop 1 numbers)) in
    c.push_after_commas.ensures.text ∙ ap (λ (r : List ℕ). r ++ more) c.push_short.ensures.text
    ∙ append_assoc old (decimal (get_or numbers 0 0)) more ∙ ap (λ (r : List ℕ). old ++ r) (numbers_text-front numbers c.in-len1-up.len_at_least)

pub returns-clause-len : goal.returns-clause-len
returns-clause-len g c =
    let numbers = c.args.numbers.now in
    omega (arith, c.requires.few, c.push_short.ensures.len, c.push_after_commas.ensures.len, c.in-len1-up.len_at_least, length-take (length numbers - 1) (drop 1 numbers), length-drop 1 numbers)
