-- How many pages are out.
use Rattle.std.proofs.Common.{◌≡◌, ℕ, ◌+◌, ◌^◌, ◌<◌, length, ap, ◌∙◌, arith}
use Rattle.frame_core.proofs.Ends.{is_balanced}
use Rattle.frame_core.specs.Moves.{out}
use Rattle.state_core.specs.ZoneState.{ZoneState}
use Rattle.zone_tables.specs.declared.zone.ZoneTables.TheInside.{Inside}
use Rattle.zone_tables.specs.Sound.{IsSound, state_of}
use Rattle.zone_tables.proofs.Facts.{is_sound}

module _ {W : ℕ} {z : Inside W} {v : ZoneState} (view : state_of z ≡ v) (invariant : IsSound z (state_of z)) where
  sound : IsSound z v
  sound = is_sound view invariant

  -- the number of pages that are out
  pub out_seen : {n : ℕ} → n + z.moves.moved + z.moves.back ≡ z.moves.isolated → n ≡ length (out v.records)
  out_seen counted = omega (arith, counted, is_balanced v.records sound.valid.journal.well_ended, sound.moves.isolated, sound.moves.moved, sound.moves.back)

  pub out_fits : {n : ℕ} → n + z.moves.moved + z.moves.back ≡ z.moves.isolated → n < 2 ^ 32
  out_fits counted = omega (arith, out_seen counted, sound.valid.sum, sound.valid.size.1)

  pub some_out : 0 < length (out v.records) → z.moves.moved + z.moves.back < z.moves.isolated
  some_out some = omega (arith, some, is_balanced v.records sound.valid.journal.well_ended, sound.moves.isolated, sound.moves.moved, sound.moves.back)

  pub room_seen : (room : ℕ) → room ≡ z.history.room → room ≡ v.room
  room_seen room is = is ∙ ap (λ (u : ZoneState). u.room) view
