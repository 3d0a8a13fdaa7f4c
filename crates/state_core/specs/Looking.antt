-- What a zone tells: what is known of the page that an address names, and its counts.
use Rattle.std.specs.Prelude.{ℕ, length, None, is_some, Option, Some}
use Rattle.std.specs.FinMap as map
use Rattle.frame_core.specs.Below.{count_below}
use Rattle.frame_core.specs.declared.place.Address.{Address}
use Rattle.frame_core.specs.History.{page_at, pins, maps}
use Rattle.frame_core.specs.Moves.{out}
use Rattle.state_core.specs.declared.placement.Placement.TheVariants.{At, Moving}
use Rattle.state_core.specs.declared.information.Info.{Info}
use Rattle.state_core.specs.ZoneState.{ZoneState, frame_count, is_free, is_held, is_whole}
use Rattle.std.specs.Option.{option_and_then}
use Rattle.state_core.specs.declared.information.Look.{Look}
use Rattle.state_core.specs.declared.information.Look.TheVariants as look
use Rattle.state_core.specs.declared.placement.Placement.{Placement}
use Rattle.state_core.specs.Carrying.{flags_of}

-- what is known of a page with this placement, if it is in use
abbrev pub look_by : ZoneState → ℕ → Option Placement → Option Look
look_by z page None = None
look_by z page (Some (At frame)) = Some (look.At frame (flags_of z page) (pins z.records page) (maps z.records page))
look_by z page (Some (Moving serial source target)) = Some (look.Moving serial (pins z.records page) (maps z.records page))

-- what is known of the page that an address names, if it names one
abbrev pub look_of : ZoneState → Address → Option Look
look_of z address = option_and_then (λ page. look_by z page (map.get z.placement page)) (page_at z.records address)

-- the counts of a zone
abbrev pub info_of : ZoneState → Info
info_of z = record {
  free = count_below (is_free z) (frame_count z);
  pages = count_below (λ page. is_some (map.get z.placement page)) (frame_count z);
  moving = length (out z.records);
  huge = count_below (λ first. is_some (map.get z.handed_out first)) (frame_count z);
  whole = count_below (is_whole z) z.blocks;
  held = count_below (is_held z) (frame_count z);
}
