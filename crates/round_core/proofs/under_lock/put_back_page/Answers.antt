use Rattle.std.proofs.Common.{refl}
use Rattle.frame_core.specs.declared.record.Cause.TheVariants.{NotCopied}
use Rattle.state_core.specs.Ending.{put_back_to_source}
use Rattle.round_core.proofs.NoReceipt.{back_tells_none, leaves}
use Rattle.round_core.proofs.under_lock.put_back_page.Goals as goal
use Rattle.round_core.proofs.under_lock.put_back_page.Goals.{in-Ok, in-Err}

pub invariant_of-room : goal.invariant_of-room
invariant_of-room g c =
    let zone = c.room.inside.zone in
    let inv = c.room.invariant in
    let p = c.args.page in
    elim c.match-put_back.branch [
      | in-Ok w ↦
          (let made = w.in-Ok.ensures in
          leaves g.K.Keeping.told g.K.Keeping.keeps zone (put_back_to_source zone p.serial p.page.number NotCopied) c.put_back.new.self made.ok made.valid made.identity
          (g.K.Keeping.puts_back zone p.page.number p.serial made.settled.source made.settled.target NotCopied inv.0 tt made.settled.way inv.2)
          (back_tells_none g.K.Keeping.told g.K.Keeping.tells_none zone p.serial p.page.number NotCopied) inv.1 inv.3)
      | in-Err w ↦
          (let made = w.in-Err.ensures in
          leaves g.K.Keeping.told g.K.Keeping.keeps zone zone c.put_back.new.self made.err.0 made.valid made.identity inv.2 refl inv.1 inv.3)
    ]
