use Rattle.std.proofs.Common.{rules, ◌≡◌, ap, arith}
use Rattle.atomic_table.specs.Table.{Me}
use Rattle.frame_core.specs.declared.record.Record.{Record}
use Rattle.hand_core.specs.declared.rule.Part.{Part}
use Rattle.hand_core.proofs.Steps.{joins, splits, writes}
use Rattle.hand_core.proofs.halves.Stub.write.Goals as goal

pub join_seat-requires : goal.join_seat-requires
join_seat-requires c =
    let own = c.self.inside.seat in
    let other = c.slip.inside.seat in
    (search rules, search rules, search rules, search rules, joins own.id own.me.0 other.id other.me.0 (search rules) (search rules))

pub compare_exchange_with-requires : goal.compare_exchange_with-requires
compare_exchange_with-requires c =
    let seat = c.join_seat.new.seat in
    let one : c.self.inside.seat.me.0.shares ≡ 1 = search rules in
    let other : c.slip.inside.seat.me.0.shares ≡ 1 = search rules in
    let sum = ap (λ (me : Me Record Part). me.0.shares) c.join_seat.ensures.2 in
    (search rules, search rules, writes c.self.inside.table.shared.table_id.slots seat.id seat.me c.args.receipt.now (omega arith))

pub split_seat-other-requires : goal.split_seat-other-requires
split_seat-other-requires c =
    let seat = c.compare_exchange_with.new.seat in
    let both : seat.me.0.shares ≡ 2 = ap (λ (me : Me Record Part). me.0.shares) c.compare_exchange_with.ensures.2.1 in
    (search rules, search rules, splits seat.id seat.me.0 both)
