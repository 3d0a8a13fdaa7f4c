-- What becomes of a zone whose copiers are gone: the pages that nobody took are put back.
use Rattle.std.specs.Prelude.{List, [], ◌∷◌}
use Rattle.frame_core.specs.declared.record.Cause.TheVariants.{NotCopied}
use Rattle.state_core.specs.Ending.{put_back_to_source}
use Rattle.state_core.specs.ZoneState.{ZoneState}
use Rattle.frame_core.specs.Page.{IsolatedPage}

-- the zone after all these pages were put back, the first of them first
abbrev pub all_put_back : ZoneState → List IsolatedPage → ZoneState
all_put_back z [] = z
all_put_back z (page ∷ more) = all_put_back (put_back_to_source z page.serial page.page.number NotCopied) more
