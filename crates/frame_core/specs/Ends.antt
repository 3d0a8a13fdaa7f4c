-- What holds of each page that was isolated: it ends once. The newest record stands first.
use Rattle.std.specs.Prelude.{◌≡◌, ℕ, ◌+◌, ◌<◌, ◌≤◌, false, List, length, IsTrue}
use Rattle.frame_core.specs.declared.record.Record.{Record}
use Rattle.frame_core.specs.Moves.{isolated, moved, put_back, ends_of, out, is_out}

-- a serial that is out has no end, each other that was given has one, and one that wasn't given has none
pub record EndsAtMostOnce (records : List Record) : Type 0 where
  pub on_its_way : (serial : ℕ) → IsTrue (is_out records serial) → ends_of records serial ≡ 0
  pub ended : (serial : ℕ) → serial < isolated records → is_out records serial ≡ false → ends_of records serial ≡ 1
  pub not_given : (serial : ℕ) → isolated records ≤ serial → ends_of records serial ≡ 0

-- the number of pages isolated is the sum of those that are out, those that were moved and those that were put back
abbrev pub IsBalanced : List Record → Type 0
IsBalanced records = length (out records) + moved records + put_back records ≡ isolated records

-- each serial that was given has exactly one end, and no other has any
pub record AreEndedOnce (records : List Record) : Type 0 where
  pub ended : (serial : ℕ) → serial < isolated records → ends_of records serial ≡ 1
  pub not_given : (serial : ℕ) → isolated records ≤ serial → ends_of records serial ≡ 0
