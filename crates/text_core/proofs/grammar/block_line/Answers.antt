use Rattle.std.proofs.Common.{◌≡◌, ◌∙◌, ℕ, List, [], ◌∷◌, Option, None, Some, refl, sym, ap, subst}
use Rattle.std.proofs.lemmas.Bool.{cond-false, cond-true, eq-eqb, ne_eqb}
use Rattle.std.specs.Prelude.{IfSome, IsTrue, nat_eq, if◌then◌else◌, option_map}
use Rattle.state_core.specs.Calls.{is_of_client}
use Rattle.state_core.specs.declared.call.ZoneCall.{ZoneCall}
use Rattle.text_core.specs.declared.command.BlockLine.TheVariants.{Client}
use Rattle.text_core.specs.declared.token.Token.{Token}
use Rattle.text_core.specs.declared.token.Token.TheVariants.{End, Number}
use Rattle.text_core.specs.Arguments.{number_first}
use Rattle.text_core.specs.Grammar.{block_line_of, client_row}
use Rattle.text_core.specs.Token.{tokens}
use Rattle.text_core.proofs.ClientRows.{client_rows}
use Rattle.text_core.proofs.Variants.{not_true}
use Rattle.text_core.proofs.grammar.block_line.Goals as goal
use Rattle.text_core.proofs.grammar.block_line.Goals.{in-End, in_default, else-matches-via-then-matches+else-is_end, else-matches-via-else-matches}

-- a line says nothing where no number comes after its keyword, and it isn't the end of the block
no_number : (zone : ℕ) (keyword token : Token) (more : List Token) → number_first (token ∷ more) ≡ None → block_line_of zone (keyword ∷ token ∷ more) ≡ None
no_number zone keyword (Number z) more none = absurd cc
no_number zone End token more none = refl
no_number zone keyword token more none = refl

without_number : (zone : ℕ) (keyword : Token) (rest : List Token) → (keyword ≡ End → rest ≡ [] → ⊥) → number_first rest ≡ None
    → block_line_of zone (keyword ∷ rest) ≡ None
without_number zone keyword (token ∷ more) other none = no_number zone keyword token more none
without_number zone End [] other none = absurd (other refl refl)
without_number zone keyword [] other none = refl

-- a line with a number after its keyword is a client's, where the number is that of the block's zone
with_number : (zone z : ℕ) (keyword : Token) (arguments : List Token)
    → block_line_of zone (keyword ∷ Number z ∷ arguments) ≡ (if nat_eq z zone then option_map Client (client_row keyword arguments) else None)
with_number zone z End arguments = refl
with_number zone z keyword arguments = refl

of_zone : (zone z : ℕ) (keyword : Token) (arguments : List Token) (row : Option (Option (ZoneCall 8))) → z ≡ zone → client_row keyword arguments ≡ row
    → block_line_of zone (keyword ∷ Number z ∷ arguments) ≡ option_map Client row
of_zone zone z keyword arguments row same is = with_number zone z keyword arguments ∙ cond-true _ _ _ (eq-eqb z zone same) ∙ ap (option_map Client) is

pub returns-in_err-keyword : goal.returns-in_err-keyword
returns-in_err-keyword c = c.from_residual.ensures ∙ ap (block_line_of c.args.zone) (sym c.in_err-keyword.ensures.token)

pub returns-then-is_end : goal.returns-then-is_end
returns-then-is_end c = elim c.match-matches.branch [
  | in-End w ↦ sym (ap (block_line_of c.args.zone) (c.in_ok-keyword.ensures.token
      ∙ ap (λ (keyword : Token). keyword ∷ tokens c.in_ok-keyword.after.now) w.in-End.is
      ∙ ap (λ (rest : List Token). End ∷ rest) (c.is_end.ensures.0 c.if-is_end.true)))
  | in_default w ↦ absurd cc
]

pub returns-in_err-number : goal.returns-in_err-number
returns-in_err-number c =
    let other : c.in_ok-keyword.keyword ≡ End → tokens c.in_ok-keyword.after.now ≡ [] → ⊥ = elim c.else-matches.branch [
      | else-matches-via-then-matches+else-is_end w ↦ λ end none. not_true (subst IsTrue w.if-is_end.false (w.is_end.ensures.1 none))
      | else-matches-via-else-matches w ↦ λ end none. elim c.match-matches.branch [
        | in-End v ↦ absurd cc
        | in_default v ↦ v.in_default.not-End end
      ]
    ] in
    c.from_residual-in_err-number.ensures
    ∙ sym (ap (block_line_of c.args.zone) c.in_ok-keyword.ensures.token ∙ without_number c.args.zone c.in_ok-keyword.keyword (tokens c.in_ok-keyword.after.now) other c.in_err-number.ensures)

pub returns-else-number-zone : goal.returns-else-number-zone
returns-else-number-zone c =
    let keyword = c.in_ok-keyword.keyword in
    let arguments = tokens c.in_ok-number.arguments.now in
    sym (ap (block_line_of c.args.zone) (c.in_ok-keyword.ensures.token ∙ ap (λ (rest : List Token). keyword ∷ rest) c.in_ok-number.ensures)
    ∙ with_number c.args.zone c.in_ok-number.number keyword arguments
    ∙ cond-false _ _ _ (ne_eqb c.in_ok-number.number c.args.zone c.if-number-zone.false))

pub of_client-requires : goal.of_client-requires
of_client-requires c =
    let row : client_row c.in_ok-keyword.keyword (tokens c.in_ok-number.arguments.now) ≡ Some c.in_ok-client_row.field-0 = sym c.client_row.ensures ∙ c.in_ok-client_row.was in
    let P : Option (Option (ZoneCall 8)) → Type 0 = λ row. IfSome row (λ call. IfSome call (λ k. IsTrue (is_of_client k))) in
    subst P row (client_rows c.in_ok-keyword.keyword (tokens c.in_ok-number.arguments.now))

pub returns-in_err-client_row : goal.returns-in_err-client_row
returns-in_err-client_row c =
    c.from_residual-in_err-client_row.ensures
    ∙ sym (ap (block_line_of c.args.zone) (c.in_ok-keyword.ensures.token ∙ ap (λ (rest : List Token). c.in_ok-keyword.keyword ∷ rest) c.in_ok-number.ensures)
    ∙ of_zone c.args.zone c.in_ok-number.number c.in_ok-keyword.keyword (tokens c.in_ok-number.arguments.now) None c.if-number-zone.true (sym c.client_row.ensures ∙ c.in_err-client_row.was))

pub returns-in_ok-client_row : goal.returns-in_ok-client_row
returns-in_ok-client_row c =
    ap (λ (call : Option (ZoneCall 8)). Some (Client call)) c.of_client.ensures
    ∙ sym (ap (block_line_of c.args.zone) (c.in_ok-keyword.ensures.token ∙ ap (λ (rest : List Token). c.in_ok-keyword.keyword ∷ rest) c.in_ok-number.ensures)
    ∙ of_zone c.args.zone c.in_ok-number.number c.in_ok-keyword.keyword (tokens c.in_ok-number.arguments.now) (Some c.in_ok-client_row.field-0) c.if-number-zone.true (sym c.client_row.ensures ∙ c.in_ok-client_row.was))
