-- What C is told of a page that is moving.
use Rattle.std.specs.Prelude.{◌≡◌, ℕ}
use Rattle.state_core.specs.ZoneState.{ZoneState}
use Rattle.zone_tables.specs.MovingPages.{IsNextMoving}
use Rattle.zone_tables.specs.declared.moving.MovingPage.{MovingPage as Found}
use Rattle.compactd_c.specs.Told.{reserved}
use Rattle.compactd_c.specs.declared.carrying.MovingPage.{MovingPage}
use Rattle.compactd_c.specs.declared.moving.Move.{Move}

-- the page
abbrev pub page_of : Found → MovingPage
page_of found = record { serial = found.serial; number = found.page; flags = found.flags.0; reserved = reserved }

-- its frames and its address
abbrev pub move_of : Found → Move
move_of found = record { source = found.source; target = found.target; space = found.address.space; vpage = found.address.vpage; reserved = reserved }

-- of the pages that leave a frame from `from` on, they are those of the one that leaves the lowest
pub record IsToldOfNext (z : ZoneState) (from : ℕ) (page : MovingPage) (way : Move) : Type 0 where
  pub found : Found
  pub next : IsNextMoving z from found
  pub of_page : page ≡ page_of found
  pub of_way : way ≡ move_of found
