-- What a journal says of addresses, words and pins it says without the ends of moves.
use Rattle.std.proofs.Common.{◌≡◌, ℕ, ◌+◌, ◌-◌, not, cond, ◌&&◌, ◌||◌, List, [], ◌∷◌, refl, ap, nat_eq, Some, None, sym, ◌∙◌}
use Rattle.frame_core.specs.Below.{one_if}
use Rattle.frame_core.specs.declared.record.Record.{Record}
use Rattle.frame_core.specs.declared.record.Record.TheVariants.{Map, Share, Unmap, Store, Pin, Unpin, Isolate}
use Rattle.frame_core.specs.declared.place.Address.{Address}
use Rattle.frame_core.specs.History.{page_at, pins, is_page, same_address, last, dirty}
use Rattle.frame_core.specs.Moves.{isolated}
use Rattle.state_core.specs.ZoneState.{ZoneState}
use Rattle.zone_core.specs.Outcome.{without_ends, IsSame}

pub page_at-without_ends : (rs : List Record) (a : Address) → page_at (without_ends rs) a ≡ page_at rs a
page_at-without_ends [] a = refl
page_at-without_ends (Map client address page ∷ rs) a = ap (cond (same_address a address) (Some page)) (page_at-without_ends rs a)
page_at-without_ends (Share client address alias ∷ rs) a = λ i. cond (same_address a alias) (page_at-without_ends rs address i) (page_at-without_ends rs a i)
page_at-without_ends (Unmap client address ∷ rs) a = ap (cond (same_address a address) None) (page_at-without_ends rs a)
page_at-without_ends (_ ∷ rs) a = page_at-without_ends rs a

pub pins-without_ends : (rs : List Record) (page : ℕ) → pins (without_ends rs) page ≡ pins rs page
pins-without_ends [] page = refl
pins-without_ends (Map client address fresh ∷ rs) page = ap (cond (nat_eq fresh page) 0) (pins-without_ends rs page)
pins-without_ends (Pin client address ∷ rs) page = λ i. one_if (is_page (page_at-without_ends rs address i) page) + pins-without_ends rs page i
pins-without_ends (Unpin client address ∷ rs) page = λ i. pins-without_ends rs page i - one_if (is_page (page_at-without_ends rs address i) page)
pins-without_ends (_ ∷ rs) page = pins-without_ends rs page

pub isolated-without_ends : (rs : List Record) → isolated (without_ends rs) ≡ isolated rs
isolated-without_ends [] = refl
isolated-without_ends (Isolate p s ∷ rs) = ap (λ n. n + 1) (isolated-without_ends rs)
isolated-without_ends (_ ∷ rs) = isolated-without_ends rs

pub last-without_ends : (rs : List Record) (page w : ℕ) → last (without_ends rs) page w ≡ last rs page w
last-without_ends [] page w = refl
last-without_ends (Map c d fresh ∷ rs) page w = ap (cond (nat_eq fresh page) 0) (last-without_ends rs page w)
last-without_ends (Store c address word value ∷ rs) page w = λ i. cond (is_page (page_at-without_ends rs address i) page && nat_eq word w) value (last-without_ends rs page w i)
last-without_ends (_ ∷ rs) page w = last-without_ends rs page w

pub dirty-without_ends : (rs : List Record) (page : ℕ) → dirty (without_ends rs) page ≡ dirty rs page
dirty-without_ends [] page = refl
dirty-without_ends (Map c d fresh ∷ rs) page = ap (λ b. not (nat_eq fresh page) && b) (dirty-without_ends rs page)
dirty-without_ends (Store c address word value ∷ rs) page = λ i. is_page (page_at-without_ends rs address i) page || dirty-without_ends rs page i
dirty-without_ends (_ ∷ rs) page = dirty-without_ends rs page

-- zones that are the same have isolated as many pages
pub isolated_same : (z w : ZoneState) → IsSame z w → isolated z.records ≡ isolated w.records
isolated_same z w same = sym (isolated-without_ends z.records) ∙ ap isolated same.records ∙ isolated-without_ends w.records
