-- Pages that C carries: what it gets of one that is isolated, and what it brings back.
use Rattle.std.specs.Prelude.{◌≡◌, ℕ, Bool, ◌&&◌, not, List, length, nat_eq, is_some, if◌then◌else◌, Option, Some, None}
use Rattle.std.specs.FinMap as map
use Rattle.std.specs.FinSet as set
use Rattle.frame_core.specs.Moves.{isolated}
use Rattle.state_core.specs.Carrying.{flags_of, words_now}
use Rattle.state_core.specs.Ending.{IsOwnCopy}
use Rattle.state_core.specs.Isolating.{isolate_refusal}
use Rattle.state_core.specs.Pairs.{next_pair}
use Rattle.state_core.specs.Valid.{is_under}
use Rattle.state_core.specs.ZoneState.{ZoneState}
use Rattle.state_core.specs.declared.error.ZoneError.{ZoneError}
use Rattle.state_core.specs.declared.error.ZoneError.TheVariants.{Range, Stranger}
use Rattle.state_core.specs.declared.round.Pair.{Pair}
use Rattle.frame_core.specs.Page.{IsolatedPage}
use Rattle.compactd_c.specs.Answers.{number_for}
use Rattle.compactd_c.specs.Told.{reserved}
use Rattle.compactd_c.specs.declared.carrying.MovingPage.{MovingPage}

-- a page is moving under this serial
abbrev pub is_moving : ZoneState → ℕ → ℕ → Bool
is_moving z number serial = is_under (map.get z.placement number) serial

-- and its words aren't lent, so that C ends its move by its serial
abbrev pub is_carried : ZoneState → ℕ → ℕ → Bool
is_carried z number serial = is_moving z number serial && not (set.contains z.lent_pages number)

-- an isolation is refused where C has room for another number of words than a page has, and where the zone refuses it
abbrev pub isolate_refused : ZoneState → ℕ → Option ZoneError
isolate_refused z count = if nat_eq count z.page_size then isolate_refusal z else Some Range

-- what C gets of the page of a pair, if there is one
abbrev pub moving_page_of : ZoneState → Option Pair → Option MovingPage
moving_page_of z None = None
moving_page_of z (Some pair) = Some (record { serial = isolated z.records; number = pair.page; flags = (flags_of z pair.page).0; reserved = reserved })

-- the words that C has then: those of the page, and what was there before where there is none
abbrev pub words_of : ZoneState → Option Pair → List ℕ → List ℕ
words_of z None before = before
words_of z (Some pair) before = words_now z pair.page

-- the number of an isolation: 0, that of its refusal, or 53 where there is no page to isolate
abbrev pub isolate_number : ZoneState → ℕ → ℕ
isolate_number z count =
    if is_some (isolate_refused z count) then number_for (isolate_refused z count)
    else if is_some (moving_page_of z (next_pair z)) then 0
    else 53

-- the copy of a page with this number and these words, under this serial
abbrev pub brought : ZoneState → ℕ → ℕ → List ℕ → IsolatedPage
brought z serial number words = record {
  serial = serial;
  page = record { zone = z.number; number = number; flags = record { 0 = 0 }; words = words };
}

-- C brings as many words as a page has, and they are those of a page that is moving under this serial
abbrev pub IsOwn : ZoneState → ℕ → ℕ → List ℕ → Type 0
IsOwn z serial number words = (length words ≡ z.page_size) × IsOwnCopy z (brought z serial number words)

-- why a commit is refused that brings so many words
abbrev pub commit_refused : ZoneState → ℕ → ZoneError
commit_refused z count = if nat_eq count z.page_size then Stranger else Range
