-- What a contract sees of a page, and of an isolated page.
use Rattle.std.specs.Prelude.{ℕ, List, replicate}
use Rattle.frame_core.specs.declared.flags.PageFlags.{PageFlags}

-- a page of a zone, with its words
pub record Page : Type 0 where
  pub zone : ℕ
  pub number : ℕ
  pub flags : PageFlags
  pub words : List ℕ

-- the words of a page of so many words that nothing was stored to: zeros
abbrev pub blank_words : ℕ → List ℕ
blank_words size = replicate size 0

-- a page of so many words, with no flags, and all its words 0
abbrev pub blank_page : ℕ → ℕ → ℕ → Page
blank_page size zone number = record { zone = zone; number = number; flags = record { 0 = 0 }; words = blank_words size }

-- an isolated page, under the serial that its zone gave it
pub record IsolatedPage : Type 0 where
  pub serial : ℕ
  pub page : Page

-- a blank isolated page, or a blank copy: the blank page 0 of zone 0, under the serial 0
abbrev pub blank_on_its_way : ℕ → IsolatedPage
blank_on_its_way size = record { serial = 0; page = blank_page size 0 0 }
