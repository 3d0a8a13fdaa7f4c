use Rattle.std.proofs.Common.{◌≡◌, ◌∙◌, ap, length, subst, sym, arith}
use Rattle.frame_core.specs.Moves.{out}
use Rattle.state_core.specs.declared.information.Info.{Info}
use Rattle.state_core.specs.Valid.{IsValidZone}
use Rattle.state_core.specs.Looking.{info_of}
use Rattle.state_core.proofs.Filled.{all_whole, packed_order}
use Rattle.state_core.proofs.Placements.{whole_best, runs_best, placed_now}
use Rattle.zone_core.proofs.bare.BareZone.info.Given.{Over}
use Rattle.zone_core.proofs.bare.BareZone.info.Goals as goal
use Rattle.zone_core.proofs.bare.BareZone.info.Goals.{After-info}

counted : (g : Over) (c : After-info g) → c.info.result ≡ info_of c.args.self.now
counted g c = c.info.ensures.counts ∙ ap info_of (c.deref.ensures ∙ c.self.view_is)

law : (g : Over) (c : After-info g) → IsValidZone c.args.self.now
law g c = subst IsValidZone c.self.view_is c.self.invariant

none_out : (g : Over) (c : After-info g) → c.info.result.moving ≡ 0 → length (out c.args.self.now.records) ≡ 0
none_out g c none = sym (ap (λ (i : Info). i.moving) (counted g c)) ∙ none

pub returns-clause-whole : goal.returns-clause-whole
returns-clause-whole g c packed = ap (λ (i : Info). i.whole) (counted g c) ∙ all_whole c.args.self.now packed

pub returns-clause-runs : goal.returns-clause-runs
returns-clause-runs g c packed order within = packed_order c.args.self.now order packed within

pub returns-clause-most_whole : goal.returns-clause-most_whole
returns-clause-most_whole g c packed none place placed =
    let whole = ap (λ (i : Info). i.whole) (counted g c) in
    omega (arith, whole, whole_best c.args.self.now (law g c) (none_out g c none) place placed packed)

pub returns-clause-most_runs : goal.returns-clause-most_runs
returns-clause-most_runs g c packed none place placed = runs_best c.args.self.now (law g c) (none_out g c none) place placed packed

pub returns-clause-placement : goal.returns-clause-placement
returns-clause-placement g c none = placed_now c.args.self.now (law g c) (none_out g c none)
