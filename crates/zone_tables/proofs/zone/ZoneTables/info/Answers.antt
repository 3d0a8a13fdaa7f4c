use Rattle.std.proofs.Common.{◌≡◌, ◌∙◌, ◌+◌, ◌-◌, arith}
use Rattle.frame_core.specs.Below.{count_below}
use Rattle.state_core.specs.Looking.{info_of}
use Rattle.state_core.specs.ZoneState.{frame_count, is_held}
use Rattle.zone_tables.proofs.Facts.{is_sound}
use Rattle.zone_tables.proofs.SearchesAndCounts.{free_counted, whole_counted, in_use_seen, blocks_seen}
use Rattle.zone_tables.proofs.zone.ZoneTables.info.Given.{Over}
use Rattle.zone_tables.proofs.zone.ZoneTables.info.Goals as goal
use Rattle.zone_tables.proofs.zone.ZoneTables.info.Goals.{After-len}
use Rattle.zone_tables.proofs.OutAndEnded.{out_fits, out_seen}

-- the frames that are neither free nor of a page are held
rest_held : {g : Over} (c : After-len g) → c.free-free.result + c.in_use-pages.result + c.out-moving.result + count_below (is_held c.args.self.now) (frame_count c.args.self.now) ≡ c.len.result
rest_held c =
    let sound = is_sound c.self.view_is c.self.invariant in
    let free = c.free-free.ensures ∙ free_counted c.self.inside.frames.states c.args.self.now sound.frames in
    let pages = c.in_use-pages.ensures ∙ in_use_seen c.self.inside c.args.self.now c.self.view_is sound.notes.count in
    let moving = out_seen c.self.view_is c.self.invariant c.out-moving.ensures in
    omega (arith, free, pages, moving, sound.valid.sum, sound.frames.count, c.len.ensures.len)

counts : {g : Over} (c : After-len g) → record { free = c.free-free.result; pages = c.in_use-pages.result; moving = c.out-moving.result; huge = c.blocks-2.result; whole = c.whole_blocks.result; held = c.len.result - c.free-free.result - c.in_use-pages.result - c.out-moving.result } ≡ info_of c.args.self.now
counts c =
    let sound = is_sound c.self.view_is c.self.invariant in
    let free = c.free-free.ensures ∙ free_counted c.self.inside.frames.states c.args.self.now sound.frames in
    let whole = c.whole_blocks.ensures ∙ whole_counted c.self.inside.frames.states c.args.self.now sound.frames in
    let pages = c.in_use-pages.ensures ∙ in_use_seen c.self.inside c.args.self.now c.self.view_is sound.notes.count in
    let moving = out_seen c.self.view_is c.self.invariant c.out-moving.ensures in
    let huge = c.blocks-2.ensures ∙ blocks_seen c.self.inside c.args.self.now c.self.view_is sound.orders in
    let held : c.len.result - c.free-free.result - c.in_use-pages.result - c.out-moving.result ≡ count_below (is_held c.args.self.now) (frame_count c.args.self.now) = omega (arith, rest_held c) in
    λ i. record { free = free i; pages = pages i; moving = moving i; huge = huge i; whole = whole i; held = held i }

pub overflow_cast-moving : goal.overflow_cast-moving
overflow_cast-moving g c = omega (arith, out_fits c.self.view_is c.self.invariant c.out-moving.ensures)

pub overflow_sub-result : goal.overflow_sub-result
overflow_sub-result g c = omega (arith, rest_held c)

pub overflow_sub-result-2 : goal.overflow_sub-result-2
overflow_sub-result-2 g c = omega (arith, rest_held c)

pub overflow_sub-result-3 : goal.overflow_sub-result-3
overflow_sub-result-3 g c = omega (arith, rest_held c)

pub returns-clause-counts : goal.returns-clause-counts
returns-clause-counts g c = counts c

pub returns-clause-sum : goal.returns-clause-sum
returns-clause-sum g c =
    (λ i. (counts c i).free + (counts c i).pages + (counts c i).moving + (counts c i).held) ∙ (is_sound c.self.view_is c.self.invariant).valid.sum
