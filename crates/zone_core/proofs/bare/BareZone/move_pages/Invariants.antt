use Rattle.std.proofs.Common.{◌≡◌, ◌+◌, ◌-◌}
use Rattle.frame_core.specs.Moves.{moved}
use Rattle.zone_core.specs.OneThread.{moved_at_most}
use Rattle.zone_core.specs.ZoneIdentity.{HasIdentity}
use Rattle.zone_core.proofs.bare.BareZone.move_pages.Given as goal

abbrev pub invariant-loop-moved : goal.invariant-loop-moved
invariant-loop-moved g l = record {
  further : moved_at_most (l.fn.most - l.moved) l.self ≡ moved_at_most l.fn.most l.fn.self;
  count : moved l.self.records ≡ moved l.fn.self.records + l.moved;
  identity : HasIdentity l.fn.self.number l.fn.self.blocks l.self;
}
