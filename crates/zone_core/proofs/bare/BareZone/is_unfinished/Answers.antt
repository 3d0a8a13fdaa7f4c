use Rattle.std.proofs.Common.{◌≡◌, ◌∙◌, ◌^◌, ap, sym, arith}
use Rattle.std.specs.Prelude.{true, false, ◌&&◌, ◌||◌, is_some, nat_lt}
use Rattle.std.proofs.lemmas.Bool.{lt-ltb, le-ltb}
use Rattle.fewest_core.specs.Claims.{highest_vacant, pages_to_go}
use Rattle.frame_core.specs.Below.{count_from}
use Rattle.state_core.specs.HandingOut.{has_block}
use Rattle.state_core.specs.ZoneState.{ZoneState, is_free}
use Rattle.zone_core.proofs.bare.BareZone.is_unfinished.Goals as goal

pub free_in_run-requires : goal.free_in_run-requires
free_in_run-requires g c =
    (omega arith, ap (λ (u : ZoneState). has_block u c.args.order c.args.first) (c.deref-then-has_block.ensures ∙ sym c.deref.ensures) ∙ sym c.has_block.ensures ∙ c.if-has_block.true)

pub pages_to_go-requires : goal.pages_to_go-requires
pages_to_go-requires g c =
    (omega arith, ap (λ (u : ZoneState). has_block u c.args.order c.args.first) (c.deref-else-free_in_run-gt0.ensures ∙ sym c.deref.ensures) ∙ sym c.has_block.ensures ∙ c.if-has_block.true)

pub returns-else-has_block : goal.returns-else-has_block
returns-else-has_block g c =
    let block : has_block c.args.self.now c.args.order c.args.first ≡ false = ap (λ (u : ZoneState). has_block u c.args.order c.args.first) (sym (c.deref.ensures ∙ c.self.view_is)) ∙ sym c.has_block.ensures ∙ c.if-has_block.false in
    c.if-has_block.false ∙ sym (ap (λ b. b && (nat_lt 0 (count_from (is_free c.args.self.now) c.args.first (2 ^ c.args.order)) || (nat_lt 0 (pages_to_go c.args.first (2 ^ c.args.order) c.args.self.now) && is_some (highest_vacant c.args.self.now)))) block)

pub returns-then-free_in_run-gt0 : goal.returns-then-free_in_run-gt0
returns-then-free_in_run-gt0 g c =
    let block : has_block c.args.self.now c.args.order c.args.first ≡ true = ap (λ (u : ZoneState). has_block u c.args.order c.args.first) (sym (c.deref.ensures ∙ c.self.view_is)) ∙ sym c.has_block.ensures ∙ c.if-has_block.true in
    let count : count_from (is_free c.deref-then-has_block.result.now) c.args.first (2 ^ c.args.order) ≡ count_from (is_free c.args.self.now) c.args.first (2 ^ c.args.order) = ap (λ (u : ZoneState). count_from (is_free u) c.args.first (2 ^ c.args.order)) (c.deref-then-has_block.ensures ∙ c.self.view_is) in
    let some : nat_lt 0 (count_from (is_free c.args.self.now) c.args.first (2 ^ c.args.order)) ≡ true = lt-ltb 0 _ (omega (arith, count, c.free_in_run.ensures, c.if-free_in_run-gt0.true)) in
    lt-ltb _ _ c.if-free_in_run-gt0.true
    ∙ sym (λ i. block i && (some i || (nat_lt 0 (pages_to_go c.args.first (2 ^ c.args.order) c.args.self.now) && is_some (highest_vacant c.args.self.now))))

pub returns-then-pages_to_go-gt0 : goal.returns-then-pages_to_go-gt0
returns-then-pages_to_go-gt0 g c =
    let block : has_block c.args.self.now c.args.order c.args.first ≡ true = ap (λ (u : ZoneState). has_block u c.args.order c.args.first) (sym (c.deref.ensures ∙ c.self.view_is)) ∙ sym c.has_block.ensures ∙ c.if-has_block.true in
    let count : count_from (is_free c.deref-then-has_block.result.now) c.args.first (2 ^ c.args.order) ≡ count_from (is_free c.args.self.now) c.args.first (2 ^ c.args.order) = ap (λ (u : ZoneState). count_from (is_free u) c.args.first (2 ^ c.args.order)) (c.deref-then-has_block.ensures ∙ c.self.view_is) in
    let none : nat_lt 0 (count_from (is_free c.args.self.now) c.args.first (2 ^ c.args.order)) ≡ false = le-ltb 0 _ (omega (arith, count, c.free_in_run.ensures, c.if-free_in_run-gt0.false)) in
    let pages : c.pages_to_go.result ≡ pages_to_go c.args.first (2 ^ c.args.order) c.args.self.now = c.pages_to_go.ensures ∙ ap (pages_to_go c.args.first (2 ^ c.args.order)) (c.deref-else-free_in_run-gt0.ensures ∙ c.self.view_is) in
    let some : nat_lt 0 (pages_to_go c.args.first (2 ^ c.args.order) c.args.self.now) ≡ true = lt-ltb 0 _ (omega (arith, pages, c.if-pages_to_go-gt0.true)) in
    c.is_some.ensures ∙ ap is_some (c.highest_vacant.ensures ∙ ap highest_vacant (c.deref-then-pages_to_go-gt0.ensures ∙ c.self.view_is))
    ∙ sym (λ i. block i && (none i || (some i && is_some (highest_vacant c.args.self.now))))

pub returns-else-pages_to_go-gt0 : goal.returns-else-pages_to_go-gt0
returns-else-pages_to_go-gt0 g c =
    let block : has_block c.args.self.now c.args.order c.args.first ≡ true = ap (λ (u : ZoneState). has_block u c.args.order c.args.first) (sym (c.deref.ensures ∙ c.self.view_is)) ∙ sym c.has_block.ensures ∙ c.if-has_block.true in
    let count : count_from (is_free c.deref-then-has_block.result.now) c.args.first (2 ^ c.args.order) ≡ count_from (is_free c.args.self.now) c.args.first (2 ^ c.args.order) = ap (λ (u : ZoneState). count_from (is_free u) c.args.first (2 ^ c.args.order)) (c.deref-then-has_block.ensures ∙ c.self.view_is) in
    let none : nat_lt 0 (count_from (is_free c.args.self.now) c.args.first (2 ^ c.args.order)) ≡ false = le-ltb 0 _ (omega (arith, count, c.free_in_run.ensures, c.if-free_in_run-gt0.false)) in
    let pages : c.pages_to_go.result ≡ pages_to_go c.args.first (2 ^ c.args.order) c.args.self.now = c.pages_to_go.ensures ∙ ap (pages_to_go c.args.first (2 ^ c.args.order)) (c.deref-else-free_in_run-gt0.ensures ∙ c.self.view_is) in
    let left : nat_lt 0 (pages_to_go c.args.first (2 ^ c.args.order) c.args.self.now) ≡ false = le-ltb 0 _ (omega (arith, pages, c.if-pages_to_go-gt0.false)) in
    le-ltb 0 _ c.if-pages_to_go-gt0.false ∙ sym (λ i. block i && (none i || (left i && is_some (highest_vacant c.args.self.now))))
