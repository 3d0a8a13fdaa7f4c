-- What is known of the addresses of a page in use, and of a page that is moving.
use Rattle.std.proofs.Common.{◌≡◌, ◌≤◌, ◌<◌, ℕ, List, [], ◌∷◌, true, false, ap, sym, refl, ◌∙◌, inl, inr, arith}
use Rattle.std.specs.Prelude.{Option, Some, None, IfSome, slice_get}
use Rattle.std.specs.FinMap as map
use Rattle.std.specs.Option.{option_and_then}
use Rattle.std.proofs.lemmas.Bool.{false_from_ne_true}
use Rattle.frame_core.proofs.Searches.{pairs_same_below, pairs_none}
use Rattle.frame_core.specs.Address.{InRange}
use Rattle.frame_core.specs.declared.place.Address.{Address}
use Rattle.frame_core.specs.History.{page_at, names, maps}
use Rattle.frame_core.specs.declared.state.FrameState.{FrameState}
use Rattle.frame_core.specs.declared.state.FrameState.TheVariants.{Free, Holds, Huge, Source, Target}
use Rattle.scan_core.specs.Frames.{is_leaving_state, leaving_at}
use Rattle.state_core.proofs.Facts.{named_in_range, page_named, not_none, takes_own}
use Rattle.state_core.specs.Valid.{IsValidZone}
use Rattle.state_core.specs.ZoneState.{ZoneState, frame_count, placement_at, takes_up}
use Rattle.state_core.specs.declared.placement.Placement.{Placement}
use Rattle.state_core.specs.declared.placement.Placement.TheVariants.{Moving}
use Rattle.table_core.specs.declared.entry.Entry.TheVariants.{Migration}
use Rattle.table_core.specs.Names.{IsIn, IsRising, AreJust, order_of}
use Rattle.table_core.specs.Tables.{EntryTable, entry_at}
use Rattle.zone_tables.proofs.Tables.{migration_is, source_of_page, source_seen}
use Rattle.zone_tables.proofs.ListedAddresses.{page_is}
use Rattle.zone_tables.specs.Fits.{EntriesFit, FramesFit, entry_for}
use Rattle.zone_tables.specs.MovingPages.{IsMovingFrom, IsNextMoving, Leaves, IsLeftByNone, IsLowestName}
use Rattle.zone_tables.specs.declared.moving.MovingPage.{MovingPage}

-- some address names a page in use
pub has_name : (v : ZoneState) → IsValidZone v → (page : ℕ) (placement : Placement) → map.get v.placement page ≡ Some placement → ((a : Address) → page_at v.records a ≡ Some page → ⊥) → ⊥
has_name v valid page placement at none =
    let unnamed = λ (i j : ℕ) (h : i < 256) (l : j < 16777216). let a : Address = record { space = i; vpage = j } in
    false_from_ne_true (names v.records a page) (λ is. none a (page_is (page_at v.records a) page is)) in
    let few : maps v.records page ≡ 0 = pairs_same_below (λ space vpage. names v.records (record { space = space; vpage = vpage }) page) (λ i j. false) 256 16777216 unnamed
    ∙ pairs_none (λ i j. false) 256 16777216 (λ i j. refl) in
    let some = (valid.agrees.in_use page (not_none (map.get v.placement page) placement at)).0 in omega (arith, few, some)

module _ (v : ZoneState) (valid : IsValidZone v) (entries : EntryTable) (fit : EntriesFit entries v) (page source : ℕ) (leaves : Leaves (map.get v.placement page) source) where
  -- the addresses of a moving page have the entry of its move, and no other address has
  pub entered : (a : Address) → page_at v.records a ≡ Some page → InRange a × (entry_at entries a ≡ Migration source)
  entered a is =
      let range = named_in_range v valid a page is in
      (range, fit.each a range ∙ ap entry_for (ap (option_and_then (map.get v.placement)) is ∙ leaves.2))

  pub of_entry : (a : Address) → InRange a → entry_at entries a ≡ Migration source → page_at v.records a ≡ Some page
  of_entry a range is =
      let way = migration_is (placement_at v a) source (sym (fit.each a range) ∙ is) in
      let named = page_named v a (Moving way.0 source way.1) way.2 in
      let takes = λ (p s t : ℕ) (e : map.get v.placement p ≡ Some (Moving s source t)). ap (λ (o : Option Placement). takes_up o source) e ∙ takes_own (Moving s source t) in
      named.1 ∙ ap Some (valid.pages.apart named.0 page source (takes named.0 way.0 way.1 named.2) (takes page leaves.0 leaves.1 leaves.2))

  module _ (found : List Address) (just : AreJust found (λ a. entry_at entries a ≡ Migration source)) where
    not_empty : (list : List Address) → slice_get list 0 ≡ None → (a : Address) → IsIn list a → ⊥
    not_empty [] e a inside = inside
    not_empty (b ∷ rest) e a inside = cc

    pub some_found : slice_get found 0 ≡ None → ⊥
    some_found none = has_name v valid page (Moving leaves.0 source leaves.1) leaves.2 (λ a is. not_empty found none a ((just.each a).1 (entered a is)))

    -- the first address of a rising list is the lowest
    first_is_lowest : (list : List Address) (a other : Address) → slice_get list 0 ≡ Some a → IsRising list → IsIn list other → order_of a ≤ order_of other
    first_is_lowest [] a other first rising inside = absurd inside
    first_is_lowest (b ∷ rest) a other first rising (inl here) = let same : b ≡ a = cc in let at : order_of a ≡ order_of other = ap order_of (sym same ∙ here) in omega (arith, at)
    first_is_lowest (b ∷ rest) a other first rising (inr later) = let same : b ≡ a = cc in let below = rising.0 other later in let at : order_of b ≡ order_of a = ap order_of same in omega (arith, below, at)

    first_within : (list : List Address) (a : Address) → slice_get list 0 ≡ Some a → IsIn list a
    first_within [] a first = cc
    first_within (b ∷ rest) a first = let same : b ≡ a = cc in inl same

    pub lowest_found : (a : Address) → slice_get found 0 ≡ Some a → IsLowestName v page a
    lowest_found a first =
        let passes = (just.each a).0 (first_within found a first) in
        record {
          named = of_entry a passes.0 passes.1;
          lowest = λ other is. first_is_lowest found a other first just.rising ((just.each other).1 (entered other is));
        }

-- the page that is moving out of a frame is the only one
pub only_page : (v : ZoneState) → IsValidZone v → (source page : ℕ) → Leaves (map.get v.placement page) source → (found : Option ℕ) →
    IfSome found (λ q. Leaves (map.get v.placement q) source) → (found ≡ None → IsLeftByNone v source) → found ≡ Some page
only_page v valid source page leaves None some none = absurd (none refl page leaves.0 leaves.1 leaves.2)
only_page v valid source page leaves (Some q) some none = ap Some (valid.pages.apart q page source (takes q some) (takes page leaves)) where
  takes : (p : ℕ) → Leaves (map.get v.placement p) source → takes_up (map.get v.placement p) source ≡ true
  takes p left = ap (λ (o : Option Placement). takes_up o source) left.2 ∙ takes_own (Moving left.0 source left.1)

-- the state of a frame that a page is leaving has that page
source_in : (o : Option (FrameState ℕ)) → is_leaving_state o ≡ true → (page : ℕ) × (o ≡ Some (Source page))
source_in None is = absurd cc
source_in (Some Free) is = absurd cc
source_in (Some (Holds page)) is = absurd cc
source_in (Some (Source page)) is = (page, refl)
source_in (Some (Target page)) is = absurd cc
source_in (Some Huge) is = absurd cc

module _ (v : ZoneState) (frames : List (FrameState ℕ)) (fit : FramesFit frames v) (source : ℕ) where
  pub left_by_none : leaving_at frames source ≡ false → IsLeftByNone v source
  left_by_none isnt page serial target at = let bad : true ≡ false = sym (ap is_leaving_state (source_of_page frames v fit page serial source target at)) ∙ isnt in cc

  pub left_by_one : source < frame_count v → leaving_at frames source ≡ true → IsLeftByNone v source → ⊥
  left_by_one within is none =
      let page = source_in (slice_get frames source) is in
      let leaves = source_seen frames v fit source page.0 (Source page.0) within page.1 refl in
      none page.0 leaves.0 leaves.1 leaves.2

-- the page that leaves the lowest of the frames from one on that are left
pub lowest_left : (v : ZoneState) (from source : ℕ) (found : Option MovingPage) → from ≤ source → ((frame : ℕ) → from ≤ frame → frame < source → IsLeftByNone v frame) → IfSome found (IsMovingFrom v source) → IfSome found (IsNextMoving v from)
lowest_left v from source None low before is = tt
lowest_left v from source (Some moving) low before is = record {
  least = omega (arith, low, is.left);
  leaves = record { left = refl; placed = is.placed; flags = is.flags; address = is.address };
  before = λ frame least less. before frame least (omega (arith, less, is.left));
}
