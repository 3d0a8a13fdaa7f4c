use Rattle.std.proofs.Common.{◌≡◌, ℕ, ◌+◌, ◌-◌, ◌≤◌, inl, inr, sym, ◌∙◌, arith}
use Rattle.std.specs.Prelude.{nat_le}
use Rattle.std.proofs.lemmas.Bool.{le-leb, lt-leb}
use Rattle.std.proofs.lemmas.Bool.Decides.{leb_tells}
use Rattle.zone_tables.proofs.Facts.{is_sound}
use Rattle.zone_tables.proofs.OutAndEnded.{out_seen, room_seen}
use Rattle.zone_tables.proofs.zone.ZoneTables.has_room_for.Goals as goal

pub overflow_sub-result : goal.overflow_sub-result
overflow_sub-result g c = omega (arith, out_seen c.self.view_is c.self.invariant c.out.ensures, room_seen c.self.view_is c.self.invariant c.room.result c.room.ensures, (is_sound c.self.view_is c.self.invariant).valid.journal.room_left)

-- as many places are left over as the others leave
left_over : (count room taken : ℕ) → taken ≤ room → nat_le count (room - taken) ≡ nat_le (taken + count) room
left_over count room taken few = elim (leb_tells count (room - taken)) [
  | inl fits ↦ fits.0 ∙ sym (le-leb (taken + count) room (omega (arith, fits.1, few)))
  | inr more ↦ more.0 ∙ sym (lt-leb (taken + count) room (omega (arith, more.1, few)))
]

pub returns : goal.returns
returns g c =
    let out = out_seen c.self.view_is c.self.invariant c.out.ensures in
    let room = room_seen c.self.view_is c.self.invariant c.room.result c.room.ensures in
    left_over c.args.count c.room.result c.out.result (overflow_sub-result g c) ∙ (λ i. nat_le (out i + c.args.count) (room i))
