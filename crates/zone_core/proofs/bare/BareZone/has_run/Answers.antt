use Rattle.std.proofs.Common.{◌≡◌, ℕ, Bool, ap, ◌∙◌}
use Rattle.std.specs.Prelude.{nat_lt}
use Rattle.std.proofs.lemmas.Bool.{lt-ltb, ltb-true}
use Rattle.fewest_core.proofs.Counts.{some_counted}
use Rattle.frame_core.proofs.Searches.{count_some, some_at, some_one}
use Rattle.frame_core.specs.Below.{count_below, some_below}
use Rattle.scan_core.proofs.Spanning.{same_by}
use Rattle.state_core.specs.HandingOut.{is_run}
use Rattle.state_core.specs.ZoneState.{ZoneState, frame_count}
use Rattle.zone_core.proofs.bare.BareZone.has_run.Goals as goal

-- some number passes where the count of those that do isn't 0
counted : (p : ℕ → Bool) (n : ℕ) → nat_lt 0 (count_below p n) ≡ some_below p n
counted p n = same_by (nat_lt 0 (count_below p n)) (some_below p n)
    (λ e. let found = some_counted p n (ltb-true 0 (count_below p n) e) in some_at p n found.0 found.1 found.2)
    (λ e. let found = some_one p n e in lt-ltb 0 (count_below p n) (count_some p n found.0 found.1 found.2))

pub returns : goal.returns
returns g c =
    let runs = c.count_runs.ensures.count ∙ ap (λ (z : ZoneState). count_below (is_run z c.args.order) (frame_count z)) (c.deref.ensures ∙ c.self.view_is) in
    ap (nat_lt 0) runs ∙ counted (is_run c.args.self.now c.args.order) (frame_count c.args.self.now)
