-- What holds of the fields of a giver, and of a taker.
use Rattle.std.specs.Prelude.{◌≡◌, ◌+◌, ◌<◌, ◌≤◌, true, false, if◌then◌else◌, List, [], ◌++◌, length}
use Rattle.crossbeam_channel.specs.Claims.{view, IsSeatAt}
use Rattle.crossbeam_channel.specs.Ends.{sends_on, receives_on}
use Rattle.frame_core.specs.Page.{IsolatedPage}
use Rattle.frame_core.specs.Serials.{HasSerialsFrom, IsRising}
use Rattle.hand_core.specs.declared.giver.Giver.TheInside as giver
use Rattle.hand_core.specs.declared.taker.Taker.TheInside as taker

-- the giver's pass is a seat at its channel, the page that it gives next has the serial `next`, and it counts the end marks that it put
pub record IsGiving (g : giver.Inside) : Type 0 where
  pub seat : IsSeatAt (sends_on g.to) g.pass
  pub gives : (view g.pass).gives ≡ true
  pub serials : HasSerialsFrom g.base (view g.pass).given
  pub next : g.base + length (view g.pass).given ≡ g.next
  pub few : (0 < g.takers) × (g.takers ≤ 4)
  pub shares : (view g.pass).shares + g.takers ≡ 1024
  pub marked : (view g.pass).marks ≡ g.marks
  pub largest : (view g.pass).largest ≤ g.most
  pub some : (0 < g.most) × (g.most ≤ 8)
  pub fresh : g.closed ≡ false → g.marks ≡ 0
  pub took_nothing : ((view g.pass).off ≡ []) × ((view g.pass).ended ≡ 0)

-- the taker's pass is a seat at its channel with one share, its list rises and ends with the pages in hand, and after its end mark
-- no page is in hand
pub record IsTaking (t : taker.Inside) : Type 0 where
  pub seat : IsSeatAt (receives_on t.from) t.pass
  pub takes : (view t.pass).gives ≡ false
  pub share : (view t.pass).shares ≡ 1
  pub rising : IsRising (view t.pass).off
  pub hand : (before : List IsolatedPage) × ((view t.pass).off ≡ before ++ t.hand)
  pub empty : t.ended ≡ true → t.hand ≡ []
  pub marked : (view t.pass).ended ≡ (if t.ended then 1 else 0)
