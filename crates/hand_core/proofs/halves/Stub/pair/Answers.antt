use Rattle.std.proofs.Common.{rules, ◌≡◌, ap}
use Rattle.atomic_table.specs.Table.{Me}
use Rattle.frame_core.specs.declared.record.Record.{Record}
use Rattle.hand_core.specs.declared.rule.Part.{Part}
use Rattle.hand_core.proofs.Steps.{splits}
use Rattle.hand_core.proofs.halves.Stub.pair.Goals as goal

pub split_seat-other-requires : goal.split_seat-other-requires
split_seat-other-requires c =
    let seat = c.in_ok-table.seat in
    let both : seat.me.0.shares ≡ 2 = ap (λ (me : Me Record Part). me.0.shares) c.in_ok-table.ensures.4 in
    (search rules, search rules, splits seat.id seat.me.0 both)
