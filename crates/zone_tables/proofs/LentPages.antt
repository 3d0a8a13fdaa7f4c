-- Which pages have words that are lent, as the tables have them, when a page changes its place and when frames are lent.
use Rattle.std.proofs.Common.{◌≡◌, ◌≢◌, ℕ, Bool, false, List, inl, inr, refl, sym, ap, ◌∙◌}
use Rattle.std.specs.Prelude.{Option, Some, None}
use Rattle.std.specs.FinMap as map
use Rattle.std.specs.Ordering.{nat_cmp}
use Rattle.std.proofs.lemmas.Bool.Decides.{eqb_tells}
use Rattle.frame_core.specs.FrameSet.{has_frame}
use Rattle.state_core.proofs.Entries.{get_insert_same, get_insert_other, get_remove_same, get_remove_other}
use Rattle.state_core.specs.declared.placement.Placement.{Placement}
use Rattle.state_core.specs.ZoneState.{words_frame}
use Rattle.zone_tables.specs.LentPages.{has_words_lent, pages_lent}
use Rattle.zone_tables.proofs.Tabulating.{gathered_same, put}

-- where the frame with the words of a page is lent if it was, so is the page
pub lent_same : (old new : List Bool) (o : Option Placement) → ((place : Placement) → o ≡ Some place → has_frame new (words_frame place) ≡ has_frame old (words_frame place)) → has_words_lent new o ≡ has_words_lent old o
lent_same old new None same = refl
lent_same old new (Some place) same = same place refl

-- a page isn't lent where the frame with its words isn't
pub lent_none : (lent : List Bool) (o : Option Placement) → ((place : Placement) → o ≡ Some place → has_frame lent (words_frame place) ≡ false) → has_words_lent lent o ≡ false
lent_none lent None back = refl
lent_none lent (Some place) back = back place refl

-- the pages stay where one of them changes its place of which no frame with words is lent, before and after
pub pages_put : (lent : List Bool) (placement : map.FinMap nat_cmp Placement) (pages page : ℕ) (o : Option Placement) → has_words_lent lent (map.get placement page) ≡ false → has_words_lent lent o ≡ false → pages_lent lent (put placement page o) pages ≡ pages_lent lent placement pages
pages_put lent placement pages page o before after = gathered_same _ _ pages (λ q. elim (eqb_tells q page) [
  | inl same ↦ ap (has_words_lent lent) (here o q same.1) ∙ after ∙ sym (ap (λ (p : ℕ). has_words_lent lent (map.get placement p)) same.1 ∙ before)
  | inr other ↦ ap (has_words_lent lent) (there o q other.1)
]) where
  here : (o : Option Placement) (q : ℕ) → q ≡ page → map.get (put placement page o) q ≡ o
  here None q same = get_remove_same placement page q same
  here (Some place) q same = get_insert_same placement page q place same

  there : (o : Option Placement) (q : ℕ) → q ≢ page → map.get (put placement page o) q ≡ map.get placement q
  there None q ne = get_remove_other placement page q ne
  there (Some place) q ne = get_insert_other placement page q place ne
