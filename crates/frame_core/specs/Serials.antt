-- The serials of isolated pages.
use Rattle.std.specs.Prelude.{◌≡◌, ℕ, List, length, map}
use Rattle.std.specs.List.{range_with_len}
use Rattle.std.specs.List.Sorted.{IsStrictlyIncreasing}
use Rattle.frame_core.specs.Page.{IsolatedPage}

-- the serials of isolated pages, in the order of the pages
abbrev pub serials_of : List IsolatedPage → List ℕ
serials_of pages = map (λ (p : IsolatedPage). p.serial) pages

-- the pages have the serials first, first + 1, .. in their order
abbrev pub HasSerialsFrom : ℕ → List IsolatedPage → Type 0
HasSerialsFrom first pages = serials_of pages ≡ range_with_len first (length pages)

-- each page has a lower serial than the next
abbrev pub IsRising : List IsolatedPage → Type 0
IsRising pages = IsStrictlyIncreasing (serials_of pages)
