-- What the records of a journal say of addresses and pages. The newest record stands first.
use Rattle.std.specs.Prelude.{ℕ, ◌+◌, ◌-◌, Bool, false, not, ◌&&◌, ◌||◌, List, [], ◌∷◌, nat_eq, if◌then◌else◌, Option, Some, None}
use Rattle.frame_core.specs.Below.{one_if, count_pairs}
use Rattle.frame_core.specs.declared.place.Address.{Address}
use Rattle.frame_core.specs.declared.record.Record.{Record}
use Rattle.frame_core.specs.declared.record.Record.TheVariants.{Map, Share, Unmap, Store, Pin, Unpin}

-- whether two addresses are the same
abbrev pub same_address : Address → Address → Bool
same_address a b = nat_eq a.space b.space && nat_eq a.vpage b.vpage

-- the page that an address names, if it names one: only a map, a share and an unmap change it
abbrev pub page_at : List Record → Address → Option ℕ
page_at [] a = None
page_at (Map client address page ∷ older) a = if same_address a address then Some page else page_at older a
page_at (Share client address alias ∷ older) a = if same_address a alias then page_at older address else page_at older a
page_at (Unmap client address ∷ older) a = if same_address a address then None else page_at older a
page_at (_ ∷ older) a = page_at older a

-- whether a page that may be none is the page with this number
abbrev pub is_page : Option ℕ → ℕ → Bool
is_page None page = false
is_page (Some named) page = nat_eq named page

-- whether an address names this page
abbrev pub names : List Record → Address → ℕ → Bool
names records address page = is_page (page_at records address) page

-- how many addresses name a page, of all in 256 spaces with 16777216 virtual pages each, which are the most that a zone has
abbrev pub maps : List Record → ℕ → ℕ
maps records page = count_pairs (λ space vpage. names records (record { space = space; vpage = vpage }) page) 256 16777216

-- the last value that was stored in a word of a page since the page was mapped, and 0 before the first
abbrev pub last : List Record → ℕ → ℕ → ℕ
last [] page w = 0
last (Map client address fresh ∷ older) page w = if nat_eq fresh page then 0 else last older page w
last (Store client address word value ∷ older) page w =
    if names older address page && nat_eq word w then value else last older page w
last (_ ∷ older) page w = last older page w

-- whether a page was stored to since it was mapped
abbrev pub dirty : List Record → ℕ → Bool
dirty [] page = false
dirty (Map client address fresh ∷ older) page = not (nat_eq fresh page) && dirty older page
dirty (Store client address word value ∷ older) page = names older address page || dirty older page
dirty (_ ∷ older) page = dirty older page

-- how many pins a page has since it was mapped
abbrev pub pins : List Record → ℕ → ℕ
pins [] page = 0
pins (Map client address fresh ∷ older) page = if nat_eq fresh page then 0 else pins older page
pins (Pin client address ∷ older) page = one_if (names older address page) + pins older page
pins (Unpin client address ∷ older) page = pins older page - one_if (names older address page)
pins (_ ∷ older) page = pins older page
