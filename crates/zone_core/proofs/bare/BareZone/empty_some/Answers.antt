use Rattle.std.proofs.Common.{◌≡◌, ◌∙◌, ◌^◌, ap, subst, sym, arith}
use Rattle.std.specs.Prelude.{true, not, min, Some, None, if◌then◌else◌}
use Rattle.state_core.specs.Claiming.{run_claimed}
use Rattle.state_core.specs.HandingOut.{has_block}
use Rattle.state_core.specs.ZoneState.{ZoneState}
use Rattle.state_core.specs.declared.error.ZoneError.TheVariants.{Range, JournalFull}
use Rattle.fewest_core.specs.Claims.{pages_gone, pages_to_go, step_pages}
use Rattle.fewest_core.specs.Evacuation.{has_room_for_moves}
use Rattle.zone_core.specs.Stepping.{IsStepping}
use Rattle.zone_core.proofs.Stepping.{claimed_kept, claimed_shut, IsShutRun}
use Rattle.zone_core.proofs.bare.BareZone.empty_some.Given.{Over}
use Rattle.zone_core.proofs.bare.BareZone.empty_some.Goals as goal
use Rattle.zone_core.proofs.bare.BareZone.empty_some.Goals.{After-move_out}

pub move_out-requires : goal.move_out-requires
move_out-requires g c =
    let block : has_block c.args.self.now c.args.order c.args.first ≡ true = ap (λ (u : ZoneState). has_block u c.args.order c.args.first) (sym (c.deref.ensures ∙ c.self.view_is)) ∙ sym c.has_block.ensures ∙ c.if-not-has_block.false in
    let room : has_room_for_moves c.args.self.now c.min-pages.result ≡ true = ap (λ (u : ZoneState). has_room_for_moves u c.min-pages.result) (sym (c.deref-3.ensures ∙ c.self.view_is)) ∙ sym c.has_room_for_moves.ensures ∙ c.if-not-has_room_for_moves.false in
    let base = c.claim_free.ensures.claimed in (
      omega arith,
      (
        subst (IsShutRun c.args.first (2 ^ c.args.order)) (sym base) (claimed_shut c.args.first (2 ^ c.args.order) c.args.self.now),
        (
          ap (λ (u : ZoneState). has_block u c.args.order c.args.first) base ∙ block,
          ap (λ (u : ZoneState). has_room_for_moves u c.min-pages.result) base ∙ room,
        ),
      ),
    )

-- the pages that went after the free frames of the run were claimed
stepping : {g : Over} (c : After-move_out g) → IsStepping c.args.first (2 ^ c.args.order) (run_claimed c.args.first (2 ^ c.args.order) c.args.self.now) c.move_out.new.self c.move_out.result
stepping c = subst (λ (u : ZoneState). IsStepping c.args.first (2 ^ c.args.order) u c.move_out.new.self c.move_out.result) c.claim_free.ensures.claimed c.move_out.ensures.stepping

pub returns-clause-refused : goal.returns-clause-refused
returns-clause-refused g c =
    let block : has_block c.args.self.now c.args.order c.args.first ≡ true = ap (λ (u : ZoneState). has_block u c.args.order c.args.first) (sym (c.deref.ensures ∙ c.self.view_is)) ∙ sym c.has_block.ensures ∙ c.if-not-has_block.false in
    let room : has_room_for_moves c.args.self.now c.min-pages.result ≡ true = ap (λ (u : ZoneState). has_room_for_moves u c.min-pages.result) (sym (c.deref-3.ensures ∙ c.self.view_is)) ∙ sym c.has_room_for_moves.ensures ∙ c.if-not-has_room_for_moves.false in
    let pages : c.min-pages.result ≡ step_pages c.args.first (2 ^ c.args.order) c.args.self.now c.args.most = c.min-pages.ensures ∙ ap (λ n. min c.args.most n) (c.pages_to_go.ensures ∙ ap (pages_to_go c.args.first (2 ^ c.args.order)) (c.deref-2.ensures ∙ c.self.view_is)) in
    sym (λ i. if not (block i) then Some Range else if not ((ap (has_room_for_moves c.args.self.now) (sym pages) ∙ room) i) then Some JournalFull else None)

pub returns-clause-ok : goal.returns-clause-ok
returns-clause-ok g c =
    let pages : c.min-pages.result ≡ step_pages c.args.first (2 ^ c.args.order) c.args.self.now c.args.most = c.min-pages.ensures ∙ ap (λ n. min c.args.most n) (c.pages_to_go.ensures ∙ ap (pages_to_go c.args.first (2 ^ c.args.order)) (c.deref-2.ensures ∙ c.self.view_is)) in
    c.move_out.ensures.gone ∙ (λ i. pages_gone c.args.first (2 ^ c.args.order) (c.claim_free.ensures.claimed i) (pages i))

pub returns-clause-moved : goal.returns-clause-moved
returns-clause-moved g c = (stepping c).moved

pub returns-clause-most : goal.returns-clause-most
returns-clause-most g c =
    let pages : c.min-pages.result ≡ step_pages c.args.first (2 ^ c.args.order) c.args.self.now c.args.most = c.min-pages.ensures ∙ ap (λ n. min c.args.most n) (c.pages_to_go.ensures ∙ ap (pages_to_go c.args.first (2 ^ c.args.order)) (c.deref-2.ensures ∙ c.self.view_is)) in
    omega (arith, pages, c.move_out.ensures.most)

pub returns-clause-shut : goal.returns-clause-shut
returns-clause-shut g c = (stepping c).shut

pub returns-clause-kept : goal.returns-clause-kept
returns-clause-kept g c frame claim = (stepping c).kept frame (claimed_kept c.args.first (2 ^ c.args.order) c.args.self.now frame claim)

pub returns-clause-carried : goal.returns-clause-carried
returns-clause-carried g c = let same = (stepping c).carried in record { flags = same.flags; words = same.words; names = same.names; others = same.others }

pub returns-clause-identity : goal.returns-clause-identity
returns-clause-identity g c = ((stepping c).number, (stepping c).blocks)
