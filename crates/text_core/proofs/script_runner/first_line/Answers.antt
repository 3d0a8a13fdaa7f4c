use Rattle.std.proofs.Common.{◌+◌, ◌-◌, ◌++◌, ◌∷◌, List, ℕ, length, take, drop, length-drop, ap, sym, ◌∙◌, arith}
use Rattle.std.proofs.lemmas.List.{take_all}
use Rattle.text_core.proofs.Lines.{newline_found, newline_missing}
use Rattle.text_core.proofs.script_runner.first_line.Goals as goal

pub returns-in_err-end-clause-none : goal.returns-in_err-end-clause-none
returns-in_err-end-clause-none c = rw c.from_residual.ensures (newline_missing c.args.bytes.now c.in_err-end.ensures)

pub returns-clause-line : goal.returns-clause-line
returns-clause-line c = (newline_found c.args.bytes.now c.in_ok-end.end c.in_ok-end.ensures).unbroken

pub returns-clause-parts : goal.returns-clause-parts
returns-clause-parts c =
    let xs = c.args.bytes.now in
    let end = c.in_ok-end.end in
    let after : List ℕ = drop (end + 1) xs in
    (newline_found xs end c.in_ok-end.ensures).split
    ∙ ap (λ (r : List ℕ). take end xs ++ 10 ∷ r) (sym (take_all (length xs - (end + 1)) after (omega (arith, length-drop (end + 1) xs))))
