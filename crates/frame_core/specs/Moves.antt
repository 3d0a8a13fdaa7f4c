-- What the records of a journal say of moves. The newest record stands first.
use Rattle.std.specs.Prelude.{◌≡◌, ℕ, ◌+◌, ◌<◌, Bool, false, not, List, [], ◌∷◌, nat_eq, if◌then◌else◌, ⊤, IsTrue, Option, Some, None, IsSomeAnd}
use Rattle.std.specs.List.{filter, list_any}
use Rattle.frame_core.specs.Below.{one_if}
use Rattle.frame_core.specs.declared.record.Record.{Record}
use Rattle.frame_core.specs.declared.record.Record.TheVariants.{Isolate, Moved, Back}
use Rattle.frame_core.specs.declared.record.Cause.TheVariants.{Pinned, NotCopied}
use Rattle.frame_core.specs.History.{is_page, maps, pins}

-- how many pages were isolated
abbrev pub isolated : List Record → ℕ
isolated [] = 0
isolated (Isolate page serial ∷ older) = isolated older + 1
isolated (_ ∷ older) = isolated older

-- how many pages were moved
abbrev pub moved : List Record → ℕ
moved [] = 0
moved (Moved serial ∷ older) = moved older + 1
moved (_ ∷ older) = moved older

-- how many pages were put back
abbrev pub put_back : List Record → ℕ
put_back [] = 0
put_back (Back cause serial ∷ older) = put_back older + 1
put_back (_ ∷ older) = put_back older

-- how often a serial has ended: as moved, or as put back
abbrev pub ends_of : List Record → ℕ → ℕ
ends_of [] s = 0
ends_of (Moved serial ∷ older) s = one_if (nat_eq serial s) + ends_of older s
ends_of (Back cause serial ∷ older) s = one_if (nat_eq serial s) + ends_of older s
ends_of (_ ∷ older) s = ends_of older s

-- a list of serials without each that is equal to this one
abbrev pub without : ℕ → List ℕ → List ℕ
without serial serials = filter (λ s. not (nat_eq s serial)) serials

-- the serials that are out: isolated, and neither moved nor put back since
abbrev pub out : List Record → List ℕ
out [] = []
out (Isolate page serial ∷ older) = serial ∷ out older
out (Moved serial ∷ older) = without serial (out older)
out (Back cause serial ∷ older) = without serial (out older)
out (_ ∷ older) = out older

-- whether a serial is out
abbrev pub is_out : List Record → ℕ → Bool
is_out records serial = list_any (nat_eq serial) (out records)

-- the page that was isolated under a serial, if the serial was given
abbrev pub page_of : List Record → ℕ → Option ℕ
page_of [] s = None
page_of (Isolate page serial ∷ older) s = if nat_eq serial s then Some page else page_of older s
page_of (_ ∷ older) s = page_of older s

-- whether a page is out, under whichever serial
abbrev pub is_moving : List Record → ℕ → Bool
is_moving records page = list_any (λ serial. is_page (page_of records serial) page) (out records)

-- a page may be isolated: an address names it, it isn't out, and it has no pin
pub record CanIsolate (older : List Record) (page : ℕ) : Type 0 where
  pub in_use : 0 < maps older page
  pub here : is_moving older page ≡ false
  pub unpinned : pins older page ≡ 0

-- a serial that is out may end: P holds of the pins of its page
pub record EndsWith (older : List Record) (serial : ℕ) (P : ℕ → Type 0) : Type 0 where
  pub under_way : IsTrue (is_out older serial)
  pub page : IsSomeAnd (page_of older serial) (λ page. P (pins older page))

-- each isolation takes the next serial, from 0 on, and a page that is in use, not out and without a pin; each end is of a serial that
-- is out: its page is moved without a pin, put back as Pinned with one, or put back as NotCopied in either case
abbrev pub IsWellEnded : List Record → Type 0
IsWellEnded [] = ⊤
IsWellEnded (Isolate page serial ∷ older) = (serial ≡ isolated older) × CanIsolate older page × IsWellEnded older
IsWellEnded (Moved serial ∷ older) = EndsWith older serial (λ n. n ≡ 0) × IsWellEnded older
IsWellEnded (Back Pinned serial ∷ older) = EndsWith older serial (λ n. 0 < n) × IsWellEnded older
IsWellEnded (Back NotCopied serial ∷ older) = EndsWith older serial (λ n. ⊤) × IsWellEnded older
IsWellEnded (_ ∷ older) = IsWellEnded older
