use Rattle.std.proofs.Common.{◌≡◌, ◌<◌, length, sym, subst, IfOk, Result, Ok, Err, ℕ, arith}
use Rattle.row_core.specs.Seen.{Row}
use Rattle.state_core.specs.declared.error.ZoneError.{ZoneError}
use Rattle.compactd_c.proofs.zone.Zone.lend_page.Goals as goal
use Rattle.compactd_c.proofs.zone.Zone.lend_page.Goals.{in-Small, in-Large}

some_words : (lent : Result Row ZoneError) (size : ℕ) → 0 < size → IfOk lent (λ row. length row.words ≡ size) → IfOk lent (λ row. 0 < length row.words)
some_words (Ok row) size some count = subst (λ (n : ℕ). 0 < n) (sym count) some
some_words (Err error) size some count = tt

pub returns-clause-some : goal.returns-clause-some
returns-clause-some c = elim c.match-self.branch [
  | in-Small w ↦ rw w.result-is (some_words w.lend_page.result w.in-Small.zone.page_size (omega (arith, w.lend_page.ensures.size)) w.lend_page.ensures.count)
  | in-Large w ↦ rw w.result-is (some_words w.lend_page-in-Large.result w.in-Large.zone.page_size (omega (arith, w.lend_page-in-Large.ensures.size)) w.lend_page-in-Large.ensures.count)
]
