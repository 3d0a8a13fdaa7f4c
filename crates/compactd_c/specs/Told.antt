-- What C is told of a zone, as C sees it.
use Rattle.std.specs.Prelude.{◌≡◌, ℕ, ◌+◌, true, false, List, [], ◌∷◌, length, nat_le, if◌then◌else◌, Option, Some, None}
use Rattle.frame_core.specs.Moves.{isolated, moved, put_back}
use Rattle.state_core.specs.declared.information.Info.{Info}
use Rattle.state_core.specs.declared.information.Look.{Look}
use Rattle.state_core.specs.declared.information.Look.TheVariants.{At, Moving}
use Rattle.state_core.specs.ZoneState.{ZoneState}
use Rattle.compactd_c.specs.declared.looking.Counts.{Counts}
use Rattle.compactd_c.specs.declared.looking.Geometry.{Geometry}
use Rattle.compactd_c.specs.declared.looking.PageInfo.{PageInfo}
use Rattle.compactd_c.specs.declared.looking.RoundCounts.{RoundCounts}

-- what the spare words of a structure hold
abbrev pub reserved : List ℕ
reserved = 0 ∷ 0 ∷ []

-- the counts
abbrev pub counts_of : Info → Counts
counts_of info = record { free = info.free; pages = info.pages; moving = info.moving; huge = info.huge; whole = info.whole; held = info.held; reserved = reserved }

-- how many places the journal has, used or not: none where it isn't kept, which has more than 65,536
abbrev pub places_of : ZoneState → ℕ
places_of z = if nat_le (length z.records + z.room) 65536 then length z.records + z.room else 0

-- what the pool was opened with
abbrev pub geometry_of : ZoneState → Geometry
geometry_of z = record { page_words = z.page_size; blocks = z.blocks; places = places_of z; spaces = z.spaces; vpages = z.vpages; reserved = 0 }

-- what is known of a page, if it is in use
abbrev pub page_info_of : Option Look → Option PageInfo
page_info_of None = None
page_info_of (Some (At frame flags pins maps)) =
    Some (record { serial = 0; frame = frame; flags = flags.0; pins = pins; maps = maps; moving = false; reserved = reserved })
page_info_of (Some (Moving serial pins maps)) =
    Some (record { serial = serial; frame = 0; flags = 0; pins = pins; maps = maps; moving = true; reserved = reserved })

-- how many pages were isolated, and what became of them: each was moved or put back
pub record AreMoves (z : ZoneState) (counts : RoundCounts) : Type 0 where
  pub isolated : counts.isolated ≡ isolated z.records
  pub moved : counts.moved ≡ moved z.records
  pub back : counts.back ≡ put_back z.records
  pub sum : counts.moved + counts.back ≡ counts.isolated
  pub reserved : counts.reserved ≡ reserved
