-- The words of a block that is handed out: when reading and writing them is refused, and what they leave. No record is
-- written of these calls.
use Rattle.std.specs.Prelude.{ℕ, ◌+◌, ◌*◌, ◌^◌, List, [], take, drop, not, nat_lt, if◌then◌else◌, Option, Some, None, unwrap_or}
use Rattle.std.specs.FinMap as map
use Rattle.std.specs.FinSet as set
use Rattle.state_core.specs.declared.error.ZoneError.{ZoneError}
use Rattle.state_core.specs.declared.error.ZoneError.TheVariants.{Range, NotHuge, Lent}
use Rattle.state_core.specs.HandingOut.{is_order}
use Rattle.state_core.specs.ZoneState.{ZoneState}
use Rattle.frame_core.specs.Words.{put_from}

-- why reading or writing this many words, from one on, of a block of this order from this first frame on is refused, if it
-- is: no such block is handed out, they go past its last word, or its words are lent
abbrev pub contents_refusal : ZoneState → ℕ → ℕ → ℕ → ℕ → Option ZoneError
contents_refusal z first order from count =
    if not (is_order (map.get z.handed_out first) order) then Some NotHuge
    else if nat_lt (2 ^ order * z.page_size) (from + count) then Some Range
    else if set.contains z.lent first then Some Lent
    else None

-- the words of the block that is handed out from this first frame on
abbrev pub contents_of : ZoneState → ℕ → List ℕ
contents_of z first = unwrap_or (map.get z.contents first) []

-- this many words of the block, from one on
abbrev pub contents_from : ZoneState → ℕ → ℕ → ℕ → List ℕ
contents_from z first from count = take count (drop from (contents_of z first))

-- the zone after these values were written into the block, from one word on
abbrev pub contents_written : ZoneState → ℕ → ℕ → List ℕ → ZoneState
contents_written z first from values = record z { contents = map.insert z.contents first (put_from (contents_of z first) from values) }
