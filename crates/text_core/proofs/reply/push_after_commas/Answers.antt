use Rattle.std.proofs.Common.{◌≡◌, ◌∙◌, ◌++◌, List, ℕ, take, get_or, sym, ap, append_assoc, append-nil, decimal, arith}
use Rattle.std.specs.Prelude.{codes}
use Rattle.std.proofs.lemmas.List.{take_all}
use Rattle.text_core.specs.Reply.{after_commas}
use Rattle.text_core.proofs.Commas.{after_commas-next}
use Rattle.text_core.proofs.reply.push_after_commas.Goals as goal

pub loop-number-init : goal.loop-number-init
loop-number-init g c = record {
  text = sym (append-nil c.args.text.now.bytes);
  len = omega arith;
}

pub loop-number-preserved : goal.loop-number-preserved
loop-number-preserved g c =
    let l = c.loop-number in
    let old = c.args.text.now.bytes in
    let numbers = c.args.numbers.now in
    let so_far : List ℕ = after_commas (take l.number-index numbers) in
    let more : List ℕ = codes "," ++ decimal (get_or numbers l.number-index 0) in
    let told : c.push_short.new.text.bytes ≡ l.text.bytes ++ more =
    c.push_short.ensures.text ∙ ap (λ (r : List ℕ). r ++ decimal (get_or numbers l.number-index 0)) c.push_str.ensures.bytes
    ∙ append_assoc l.text.bytes (codes ",") (decimal (get_or numbers l.number-index 0)) in
    record {
      text = told ∙ ap (λ (r : List ℕ). r ++ more) l.invariant.text ∙ append_assoc old so_far more
          ∙ ap (λ (r : List ℕ). old ++ r) (sym (after_commas-next numbers l.number-index c.loop-number-test.true));
      len = omega (arith, c.push_short.ensures.len, c.push_str.ensures.len, l.invariant.len);
    }

pub returns-clause-text : goal.returns-clause-text
returns-clause-text g c =
    c.loop-number.invariant.text
    ∙ ap (λ (r : List ℕ). c.args.text.now.bytes ++ after_commas r) (take_all c.loop-number.number-index c.args.numbers.now c.loop-number-test.false)
