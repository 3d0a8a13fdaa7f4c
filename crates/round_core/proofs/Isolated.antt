-- A scanner that isolated one page more.
use Rattle.std.proofs.Common.{◌≡◌, ◌+◌, ◌++◌, ℕ, List, [], ◌∷◌, length, sym, ap, subst, ◌∙◌, arith, length-append}
use Rattle.frame_core.specs.Page.{IsolatedPage}
use Rattle.frame_core.specs.Serials.{HasSerialsFrom}
use Rattle.hand_core.proofs.Serials.{serials-snoc}

pub isolated_more : (first count count_new : ℕ) (pages pages_new : List IsolatedPage) (page : IsolatedPage) → pages_new ≡ pages ++ page ∷ []
    → page.serial ≡ count → count_new ≡ count + 1 → HasSerialsFrom first pages → count ≡ first + length pages
    → HasSerialsFrom first pages_new × (count_new ≡ first + length pages_new)
isolated_more first count count_new pages pages_new page pushed serial more serials before =
    let longer = ap (length {A = IsolatedPage}) pushed ∙ length-append pages (page ∷ []) in
    (subst (HasSerialsFrom first) (sym pushed) (serials-snoc first pages page serials (serial ∙ before)), omega (arith, more, before, longer))
