use Rattle.std.proofs.Common.{◌≡◌, ◌+◌, drop}
use Rattle.hand_core.specs.Told.{pair_of}
use Rattle.frame_core.specs.Access.{access_record}
use Rattle.client_core.specs.Bulk.{records_each, written_all}
use Rattle.client_core.proofs.client.bulk.write_each.Given as goal

-- with those that are left to be written, each half is what it is to be
abbrev pub invariant-loop-offset : goal.invariant-loop-offset
invariant-loop-offset l =
    let left = records_each (access_record l.access) (l.from + l.offset) (drop l.offset l.values) in
    let all = records_each (access_record l.access) l.from l.values in
    record {
      stub : written_all left l.stub ≡ written_all all l.fn.stub;
      slip : written_all left l.slip ≡ written_all all l.fn.slip;
      pair : pair_of l.slip ≡ pair_of l.stub;
    }
