-- Clap's account of a parse, read off for the three options.
use Rattle.std.proofs.Common.{ℕ, ◌≡◌, ◌∙◌, ap, refl, subst, sym, codes, true, arith, map}
use Rattle.std.specs.Prelude.{Option, option_map, unwrap_or}
use Rattle.std.proofs.lemmas.Result.{err_from_is_err_and}
use Rattle.clap.specs.Words.{App, Text, fault_of, is_simple, one_of, found_of, matches_of}
use Rattle.clap.specs.Kinds.{HasKind}
use Rattle.clap.specs.Faults.{is_simple_and_free}
use Rattle.clap.proofs.OnLiterals.{clap_on_literals}
use Rattle.clap.proofs.WalkLemmas.{one_text-rows}
use Rattle.script_core.specs.CommandLine.{options_line, refusal_of, number_in, number_of, number_told}
use Rattle.script_core.proofs.Found.{option_finds}
use Rattle.script_core.proofs.options.options_from.Goals as goal

is_free : is_simple_and_free options_line ≡ true
unfolding options_line clap_on_literals
is_free = refl

is_plain : is_simple options_line ≡ true
unfolding options_line clap_on_literals
is_plain = refl

pub returns-in_err-matches-clause-refused : goal.returns-in_err-matches-clause-refused
unfolding refusal_of
returns-in_err-matches-clause-refused g c =
    let line = c.in_ok-command_line.ensures.app in
    let kinds = c.in_err-matches.ensures.kinds (ap is_simple_and_free line ∙ is_free) in
    let p = err_from_is_err_and c.from_residual-in_err-matches.result c.from_residual-in_err-matches.ensures.1 in
    rw (p.1, p.2) (subst (λ (a : App). HasKind (fault_of a (map g.S.AsStr.text c.args.words.now)) c.in_err-matches.field-0.0) line kinds)

pub options_in-requires : goal.options_in-requires
options_in-requires g c =
    let was = c.in_ok-command_line.ensures in
    let finds = option_finds c.in_ok-command_line.field-0 c.in_ok-matches.matches c.in_ok-matches.ensures.parsed was.plain was.local was.app in
    record { copiers = finds 0 (omega arith); capacity = finds 1 (omega arith); journal = finds 2 (omega arith) }

pub returns-clause-refused : goal.returns-clause-refused
unfolding refusal_of
returns-clause-refused g c =
    let line = c.in_ok-command_line.ensures.app in
    let kinds = c.in_ok-matches.ensures.kinds (ap is_simple_and_free line ∙ is_free) in
    ap (λ (a : App). fault_of a (map g.S.AsStr.text c.args.words.now)) (sym line) ∙ kinds

pub returns-clause-ok : goal.returns-clause-ok
unfolding number_of
returns-clause-ok g c =
    let words = map g.S.AsStr.text c.args.words.now in
    let line = c.in_ok-command_line.ensures.app in
    let rows = (c.in_ok-matches.ensures.matches (ap is_simple line ∙ is_plain)).0 ∙ ap (λ (a : App). matches_of a words) line in
    let read : (name : Text) (own : ℕ) → number_in (found_of c.in_ok-matches.matches) name own ≡ number_of words name own =
    λ name own. ap (λ (o : Option Text). unwrap_or (option_map number_told o) own) (one_text-rows (found_of c.in_ok-matches.matches) name ∙ ap (one_of name) rows) in
    let found = c.options_in.ensures in
    record { copiers = found.copiers ∙ read (codes "copiers") 2; capacity = found.capacity ∙ read (codes "capacity") 8; journal = found.journal ∙ read (codes "journal") 65536 }
