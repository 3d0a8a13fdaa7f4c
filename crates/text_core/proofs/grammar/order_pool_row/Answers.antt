use Rattle.std.proofs.Common.{◌≡◌, ◌∙◌, ℕ, List, [], ◌∷◌, Option, Some, None, ap, refl, rules, sym}
use Rattle.std.specs.Prelude.{option_map}
use Rattle.text_core.specs.declared.pool.PoolBlocks.TheVariants.{OfOrder}
use Rattle.text_core.specs.declared.token.Token.{Token}
use Rattle.text_core.specs.declared.token.Token.TheVariants.{Number, Pool}
use Rattle.text_core.specs.Arguments.{two_of}
use Rattle.text_core.specs.Grammar.{blocks_of, order_of, pooling, row_of_profile_2}
use Rattle.text_core.specs.Token.{tokens}
use Rattle.text_core.proofs.Rows.{two_are}
use Rattle.text_core.proofs.grammar.order_pool_row.Goals as goal

no_pool : (z : Option ℕ) (arguments : List Token) → None ≡ two_of arguments → row_of_profile_2 Pool z arguments ≡ None
no_pool z (Number n ∷ Number k ∷ []) e = absurd cc
no_pool z _ e = refl

pub returns-in_err-n : goal.returns-in_err-n
returns-in_err-n c = c.from_residual.ensures ∙ sym (no_pool c.args.zone (tokens c.args.arguments.now) c.in_err-n.ensures)

pub returns : goal.returns
returns c =
    let zone = c.args.zone in
    let blocks : c.map.result ≡ option_map OfOrder (order_of c.in_ok-n.k) = search rules in
    ap Some (c.pool.ensures ∙ ap (λ (count : Option ℕ). pooling zone count c.map.result) c.blocks-2.ensures ∙ ap (pooling zone (blocks_of c.in_ok-n.n)) blocks)
    ∙ ap (row_of_profile_2 Pool zone) (sym (two_are (tokens c.args.arguments.now) c.in_ok-n.n c.in_ok-n.k c.in_ok-n.ensures))
