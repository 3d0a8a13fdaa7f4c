use Rattle.std.proofs.Common.{◌≡◌, ◌∙◌, ℕ, ◌+◌, ◌*◌, ◌^◌, ap, leb-true, arith}
use Rattle.std.specs.Prelude.{nat_le}
use Rattle.state_core.specs.ZoneState.{ZoneState}
use Rattle.zone_tables.proofs.zone.ZoneTables.has_words_from.Goals as goal

pub returns-clause-has : goal.returns-clause-has
returns-clause-has g c =
    let words : c.frames.result * c.page_words.result ≡ 2 ^ c.args.order * c.args.self.now.page_size = (λ i. c.frames.ensures.value i * c.page_words.ensures i) ∙ ap (λ (u : ZoneState). 2 ^ c.args.order * u.page_size) c.self.view_is in
    ap (λ (n : ℕ). nat_le (c.args.from + c.args.count) n) words

pub returns-clause-within : goal.returns-clause-within
returns-clause-within g c fits =
    let words : c.frames.result * c.page_words.result ≡ 2 ^ c.args.order * g.row.W = λ i. c.frames.ensures.value i * c.page_words.ensures i in
    omega (arith, leb-true _ _ fits, words)
