use Rattle.std.proofs.Common.{◌≡◌, ◌∙◌, ◌+◌, ◌^◌, ◌/◌, ◌<◌, ℕ, false, ◌&&◌, ap, sym, arith}
use Rattle.std.specs.Prelude.{Option, Some, None, IfSome, is_some, nat_le}
use Rattle.std.specs.FinSet as set
use Rattle.std.proofs.lemmas.Nat.{pow_pos}
use Rattle.frame_core.specs.Order.{is_aligned}
use Rattle.frame_core.specs.Below.{count_from}
use Rattle.scan_core.specs.Frames.{holds_at, is_open_at}
use Rattle.scan_core.specs.NumberSet.{all_from}
use Rattle.fewest_core.specs.FewestMoves.{cost, is_open}
use Rattle.fewest_core.proofs.OpenRuns.{block_within}
use Rattle.zone_tables.proofs.Facts.{is_sound}
use Rattle.zone_tables.proofs.OpenRuns.{cost_by, marked_shut, open_by}
use Rattle.zone_tables.proofs.zone.ZoneTables.pages_of.Given.{Over}
use Rattle.zone_tables.proofs.zone.ZoneTables.pages_of.Goals as goal
use Rattle.zone_tables.proofs.zone.ZoneTables.pages_of.Goals.{After-pages_of_run}

pub is_marked-requires : goal.is_marked-requires
is_marked-requires g c =
    let some : 0 < 2 ^ c.args.order = pow_pos c.args.order in
    (omega arith, omega (arith, block_within c.args.self.now c.args.first c.args.order c.requires, c.block_of.ensures, some))

pub returns-then-is_marked : goal.returns-then-is_marked
returns-then-is_marked g c =
    let marked = ap (set.contains c.args.self.now.marked) (sym c.block_of.ensures) ∙ sym c.is_marked.ensures ∙ c.if-is_marked.true in
    record { «open» = sym (marked_shut c.args.self.now c.args.first c.args.order c.requires marked); pages = tt }

pub pages_of_run-requires : goal.pages_of_run-requires
pages_of_run-requires g c =
    ap (λ (n : ℕ). is_aligned c.args.order c.args.first && nat_le (c.args.first + 2 ^ c.args.order) n) (is_sound c.self.view_is c.self.invariant).frames.count ∙ c.requires

unmarked : {g : Over} (c : After-pages_of_run g) → set.contains c.args.self.now.marked (c.args.first / 512) ≡ false
unmarked c = ap (set.contains c.args.self.now.marked) (sym c.block_of.ensures) ∙ sym c.is_marked.ensures ∙ c.if-is_marked.false

opened : {g : Over} (c : After-pages_of_run g) → all_from (is_open_at c.self.inside.frames) c.args.first (2 ^ c.args.order) ≡ is_open c.args.self.now (2 ^ c.args.order) (c.args.first / 2 ^ c.args.order)
opened c = open_by c.self.inside c.args.self.now (is_sound c.self.view_is c.self.invariant) c.args.first c.args.order c.requires c.pages_of_run.ensures.order (unmarked c)

pub returns-clause-open : goal.returns-clause-open
returns-clause-open g c = c.pages_of_run.ensures.open ∙ opened c

pub returns-clause-pages : goal.returns-clause-pages
returns-clause-pages g c = by_result c.pages_of_run.result (sym (opened c) ∙ sym c.pages_of_run.ensures.open) c.pages_of_run.ensures.pages where
  by_result : (o : Option ℕ) → is_open c.args.self.now (2 ^ c.args.order) (c.args.first / 2 ^ c.args.order) ≡ is_some o
      → IfSome o (λ pages. pages ≡ count_from (holds_at c.self.inside.frames.states) c.args.first (2 ^ c.args.order))
      → IfSome o (λ pages. pages ≡ cost c.args.self.now (2 ^ c.args.order) (c.args.first / 2 ^ c.args.order))
  by_result None is told = tt
  by_result (Some pages) is told = told ∙ cost_by c.self.inside c.args.self.now (is_sound c.self.view_is c.self.invariant) c.args.first c.args.order c.requires c.pages_of_run.ensures.order (unmarked c) is
