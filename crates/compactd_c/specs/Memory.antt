-- Pools in memory of the caller's, and the words of their blocks in the caller's hands.
use Rattle.std.specs.Prelude.{◌≡◌, ℕ, ◌*◌, ◌^◌, Bool, false, List, [], length, ◌&&◌, nat_eq, is_none, if◌then◌else◌, IfSome, Option, Some, None}
use Rattle.std.specs.FinSet as set
use denote.RawPtr.{Ptr}
use Rattle.row_core.specs.Seen.{Row}
use Rattle.state_core.specs.Lending.{lend_page_refusal, lend_refusal, page_return_refusal, return_refusal}
use Rattle.state_core.specs.Opening.{IsAllowed}
use Rattle.state_core.specs.ZoneState.{ZoneState}
use Rattle.state_core.specs.declared.error.ZoneError.{ZoneError}
use Rattle.state_core.specs.declared.error.ZoneError.TheVariants.{Lent, OwnMemory}
use Rattle.compactd_c.specs.Ranges.{address_of, is_address, is_block, is_client, ranged}
use Rattle.compactd_c.specs.Kinds.{IsPageSize}
use Rattle.compactd_c.specs.Sizes.{size_with, some_places}

-- the words in the caller's hands; none where there are none
abbrev pub words_in : Option Row → List ℕ
words_in None = []
words_in (Some row) = row.words

-- a pool may be opened with these numbers in memory of the caller's, which has the words of all frames and no other
abbrev pub IsOpenableIn : ℕ → ℕ → ℕ → ℕ → ℕ → Option Row → Type 0
IsOpenableIn page_words blocks spaces vpages places memory =
    IsPageSize page_words × IsAllowed (size_with blocks spaces vpages) (some_places places) × (length (words_in memory) ≡ 512 * blocks * page_words)

-- why a pool doesn't give its memory back, if it doesn't: the memory is its own, or words of it are lent
abbrev pub end_refusal : ZoneState → Option ZoneError
end_refusal z = if is_none z.memory then Some OwnMemory else if nat_eq (set.len z.lent) 0 && nat_eq (set.len z.lent_pages) 0 then None else Some Lent

-- why lending the words of a block is refused, if it is
abbrev pub block_refusal : ℕ → ℕ → ZoneState → Option ZoneError
block_refusal first order z = ranged (is_block first order) (lend_refusal z first order)

-- whether these are so many words
abbrev pub are_words : ℕ → Option Row → Bool
are_words count None = false
are_words count (Some row) = nat_eq (length row.words) count

-- why taking these words back for a block is refused, if it is
abbrev pub back_refusal : ℕ → ℕ → Option Row → ZoneState → Option ZoneError
back_refusal first order held z = ranged (is_block first order && are_words (2 ^ order * z.page_size) held) (return_refusal z first order)

-- why lending the words of the page of an address is refused, if it is
abbrev pub page_words_refusal : ℕ → ℕ → ZoneState → Option ZoneError
page_words_refusal space vpage z = ranged (is_address space vpage) (lend_page_refusal z (address_of space vpage))

-- why taking these words back for the page of an address is refused, if it is
abbrev pub page_back_refusal : ℕ → ℕ → ℕ → Option Row → ZoneState → Option ZoneError
page_back_refusal client space vpage held z =
    ranged (is_client client && (is_address space vpage && are_words z.page_size held)) (page_return_refusal z (address_of space vpage))

-- C gets these words of the zone, which lie at this place, or has the words that it had where the call is refused
pub record AreLent (words : ZoneState → List ℕ) (place : ZoneState → Option Ptr) (zone : Option ZoneState) (number : ℕ) (old new : Option Row) : Type 0 where
  pub lent : (z : ZoneState) → zone ≡ Some z → number ≡ 0 → IfSome new (λ row. (row.words ≡ words z) × (Some row.at ≡ place z))
  pub given : number ≡ 0 → ¬ (new ≡ None)
  pub kept : ¬ (number ≡ 0) → new ≡ old

-- the words that C brought back are taken, or it has them where the call is refused
pub record AreTaken (number : ℕ) (old new : Option Row) : Type 0 where
  pub taken : number ≡ 0 → new ≡ None
  pub kept : ¬ (number ≡ 0) → new ≡ old
