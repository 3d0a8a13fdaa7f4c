use Rattle.std.proofs.Common.{rules, ◌≡◌, ap, arith}
use Rattle.atomic_table.specs.Table.{Me}
use Rattle.frame_core.specs.declared.record.Record.{Record}
use Rattle.hand_core.specs.declared.rule.Part.{Part}
use Rattle.hand_core.proofs.Steps.{joins, compares}
use Rattle.hand_core.proofs.halves.Stub.compare.Goals as goal

pub join_seat-requires : goal.join_seat-requires
join_seat-requires c =
    let own = c.self.inside.seat in
    let other = c.slip.inside.seat in
    (search rules, search rules, search rules, search rules, joins own.id own.me.0 other.id other.me.0 (search rules) (search rules))

pub load-requires : goal.load-requires
load-requires c =
    let seat = c.join_seat.new.seat in
    let one : c.self.inside.seat.me.0.shares ≡ 1 = search rules in
    let other : c.slip.inside.seat.me.0.shares ≡ 1 = search rules in
    let sum = ap (λ (me : Me Record Part). me.0.shares) c.join_seat.ensures.2 in
    (search rules, search rules, compares c.self.inside.table.shared.table_id.slots seat.id seat.me (omega arith))
