use Rattle.std.proofs.Common.{refl}
use Rattle.state_core.specs.Ending.{committed}
use Rattle.round_core.proofs.NoReceipt.{commit_tells_none, leaves, way_of}
use Rattle.round_core.proofs.under_lock.commit_copy.Goals as goal
use Rattle.round_core.proofs.under_lock.commit_copy.Goals.{in-Ok, in-Err}

pub invariant_of-room : goal.invariant_of-room
invariant_of-room g c =
    let zone = c.room.inside.zone in
    let inv = c.room.invariant in
    let copy = c.args.copy in
    elim c.match-commit.branch [
      | in-Ok w ↦
          (let made = w.in-Ok.ensures in
          let on = way_of zone c.commit.new.self copy w.in-Ok.field-0 made.settled in
          leaves g.K.Keeping.told g.K.Keeping.keeps zone (committed zone copy.serial copy.page.number) c.commit.new.self made.ok made.valid made.identity
          (g.K.Keeping.commits zone copy.page.number copy.serial on.source on.target inv.0 on.way inv.2)
          (commit_tells_none g.K.Keeping.told g.K.Keeping.tells_none zone copy.serial copy.page.number) inv.1 inv.3)
      | in-Err w ↦
          (let made = w.in-Err.ensures in
          leaves g.K.Keeping.told g.K.Keeping.keeps zone zone c.commit.new.self made.err.0 made.valid made.identity inv.2 refl inv.1 inv.3)
    ]
