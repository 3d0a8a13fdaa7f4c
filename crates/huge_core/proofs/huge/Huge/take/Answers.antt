use Rattle.std.proofs.Common.{None, sym}
use Rattle.huge_core.proofs.huge.Huge.take.Goals as goal

pub returns-clause-handed_out : goal.returns-clause-handed_out
returns-clause-handed_out g c =
    let taken = c.in_ok-frame.ensures in
    record {
      zone = c.args.zone.now;
      zone_new = c.take_order.new.self;
      accepted = sym {a = None} taken.refused;
      lowest = taken.first;
      taken = taken.ok;
      clear = taken.clear;
      valid = taken.valid;
    }
