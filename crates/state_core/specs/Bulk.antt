-- A read and a write of several words in one call: when they are refused, what a read answers, and what they leave.
use Rattle.std.specs.Prelude.{ℕ, zero, suc, ◌+◌, Bool, List, [], ◌∷◌, length, map as each, not, nat_lt, nat_le, if◌then◌else◌, Option, Some}
use Rattle.std.specs.List.{range_with_len}
use Rattle.frame_core.specs.declared.place.Address.{Address}
use Rattle.frame_core.specs.Moves.{out}
use Rattle.state_core.specs.declared.error.ZoneError.{ZoneError}
use Rattle.state_core.specs.declared.error.ZoneError.TheVariants.{Range, JournalFull}
use Rattle.state_core.specs.ZoneState.{ZoneState}
use Rattle.state_core.specs.Access.{words_refusal, value_at, loaded, stored}

-- whether the journal has places for this many calls, besides those for the ends of the pages that are out
abbrev pub has_room_for : ZoneState → ℕ → Bool
has_room_for z count = nat_le (length (out z.records) + count) z.room

-- why a read or a write of this many words, from one on, is refused, if it is: they go past the page, the journal has no
-- place for each of them, or the first of them is refused
abbrev pub bulk_refusal : ZoneState → Address → ℕ → ℕ → Option ZoneError
bulk_refusal z address from count =
    if nat_lt z.page_size (from + count) then Some Range
    else if not (has_room_for z count) then Some JournalFull
    else words_refusal z address

-- the last values of this many words, from one on, of the page that an address names
abbrev pub values_at : ZoneState → Address → ℕ → ℕ → List ℕ
values_at z address from count = each (value_at z address) (range_with_len from count)

-- the zone after an accepted read: that after loads of these words, one after the other
abbrev pub loaded_all : ZoneState → ℕ → Address → ℕ → ℕ → ZoneState
loaded_all z client address from zero = z
loaded_all z client address from (suc count) = loaded_all (loaded z client address from) client address (from + 1) count

-- the zone after an accepted write: that after stores of these values, one after the other
abbrev pub stored_all : ZoneState → ℕ → Address → ℕ → List ℕ → ZoneState
stored_all z client address from [] = z
stored_all z client address from (value ∷ values) = stored_all (stored z client address from value) client address (from + 1) values
