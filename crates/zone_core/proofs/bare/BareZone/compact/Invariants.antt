use Rattle.std.proofs.Common.{◌≡◌}
use Rattle.state_core.specs.Rounds.{round_begun}
use Rattle.zone_core.specs.Alone.{IsAtRest}
use Rattle.zone_core.specs.OneThread.{all_moved}
use Rattle.zone_core.specs.ZoneIdentity.{HasIdentity}
use Rattle.zone_core.proofs.OneThread.{IsBetween}
use Rattle.zone_core.proofs.bare.BareZone.compact.Given as goal

abbrev pub invariant-loop-last : goal.invariant-loop-last
invariant-loop-last g l = record {
  further : all_moved l.self ≡ all_moved (round_begun l.fn.self);
  between : IsAtRest l.fn.self → IsBetween l.fn.self l.self;
  identity : HasIdentity l.fn.self.number l.fn.self.blocks l.self;
}

-- each page takes places of the journal
abbrev pub decreases-loop-last : goal.decreases-loop-last
decreases-loop-last g l = l.self.room
