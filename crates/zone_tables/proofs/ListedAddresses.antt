-- Which addresses are listed under a frame, by the pages that they name.
use Rattle.std.proofs.Common.{◌≡◌, ◌≢◌, ◌<◌, ℕ, Bool, true, false, inl, inr, refl, sym, ap, subst, ◌∙◌}
use Rattle.std.specs.Prelude.{Option, Some, None}
use Rattle.std.specs.FinMap as map
use Rattle.std.specs.Option.{option_and_then}
use Rattle.std.proofs.lemmas.Bool.{eq-eqb, or_left, or_right, false_from_ne_true, eqb-true}
use Rattle.std.proofs.lemmas.Bool.Decides.{eqb_tells}
use Rattle.frame_core.proofs.Bounds.{pairs_within}
use Rattle.frame_core.proofs.Searches.{pairs_same_below, pairs_none, some_none}
use Rattle.frame_core.specs.Address.{InRange, InTable}
use Rattle.frame_core.specs.Below.{count_pairs}
use Rattle.frame_core.specs.declared.place.Address.{Address}
use Rattle.frame_core.specs.History.{page_at, is_page, names, maps}
use Rattle.table_core.specs.declared.entry.Entry.{Entry}
use Rattle.table_core.specs.declared.size.Size.{Size}
use Rattle.table_core.specs.declared.entry.Entry.TheVariants.{Present, Migration}
use Rattle.table_core.specs.Tables.{EntryTable, entry_at, is_listed, count_listed}
use Rattle.state_core.specs.declared.placement.Placement.{Placement}
use Rattle.state_core.specs.declared.placement.Placement.TheVariants.{At, Moving}
use Rattle.state_core.specs.Valid.{IsValidZone}
use Rattle.state_core.specs.ZoneState.{ZoneState, frame_count, placement_at, takes_up, is_used}
use Rattle.state_core.proofs.Facts.{in_range, page_named, not_none}
use Rattle.state_core.proofs.Placed.{untrue}
use Rattle.zone_tables.specs.Fits.{table_size, entry_for, EntriesFit}

-- an address that names a page by a test names it
pub page_is : (o : Option ℕ) (page : ℕ) → is_page o page ≡ true → o ≡ Some page
page_is None page e = cc
page_is (Some named) page e = ap Some (eqb-true named page e)

-- a page whose entry is listed under a frame takes it up
takes_listed : (p : Placement) (frame : ℕ) → is_listed (entry_for (Some p)) frame ≡ true → takes_up (Some p) frame ≡ true
takes_listed (At f) frame e = elim (eqb_tells f frame) [ inl same ↦ eq-eqb frame f (sym same.1) | inr other ↦ absurd (untrue _ other.0 e) ]
takes_listed (Moving serial source target) frame e = elim (eqb_tells source frame) [
  | inl same ↦ or_left _ _ (eq-eqb frame source (sym same.1))
  | inr other ↦ absurd (untrue _ other.0 e)
]

module _ (entries : EntryTable) (v : ZoneState) (fit : EntriesFit entries v) (law : IsValidZone v) where
  pub record Names (address : Address) (frame : ℕ) : Type 0 where
    pub page : ℕ
    pub placement : Placement
    pub named : page_at v.records address ≡ Some page
    pub at : map.get v.placement page ≡ Some placement
    pub entry : entry_at entries address ≡ entry_for (Some placement)
    pub takes : takes_up (map.get v.placement page) frame ≡ true

  -- an address that is listed under a frame names a page that takes it up
  pub names_of : (a : Address) → InRange a → (frame : ℕ) → is_listed (entry_at entries a) frame ≡ true → Names a frame
  names_of a range frame e = by_placement (placement_at v a) refl where
    by_placement : (o : Option Placement) → placement_at v a ≡ o → Names a frame
    by_placement None is = (let bad : false ≡ true = sym (ap (λ (x : Entry). is_listed x frame) (fit.each a range ∙ ap entry_for is)) ∙ e in cc)
    by_placement (Some p) is =
        let page = page_named v a p is in
        let entry = fit.each a range ∙ ap entry_for is in
        record {
          page = page.0;
          placement = p;
          named = page.1;
          at = page.2;
          entry = entry;
          takes = ap (λ (o : Option Placement). takes_up o frame) page.2 ∙ takes_listed p frame (sym (ap (λ (x : Entry). is_listed x frame) entry) ∙ e);
        }

  -- no address is listed under a frame that no page takes up
  pub none_listed : (frame : ℕ) → is_used v frame ≡ false → (a : Address) → InRange a → is_listed (entry_at entries a) frame ≡ false
  none_listed frame unused a range = false_from_ne_true _ (λ e.
      (let by = names_of a range frame e in
      untrue _ (some_none (λ page. takes_up (map.get v.placement page) frame) (frame_count v) unused by.page (law.pages.numbered by.page (not_none _ by.placement by.at))) by.takes))

  -- an address of the tables is in range
  listed_range : entries.size ≡ table_size v → (a : Address) → a.space < entries.size.spaces → a.vpage < entries.size.pages → InRange a
  listed_range size a h l = in_range v law a (subst (λ (s : Size). InTable s.spaces s.pages a) size (record { space = h; vpage = l }))

  pub count_none : entries.size ≡ table_size v → (frame : ℕ) → is_used v frame ≡ false → count_listed entries frame ≡ 0
  count_none size frame unused =
      pairs_same_below _ (λ space vpage. false) entries.size.spaces entries.size.pages
      (λ space vpage h l. (let a : Address = record { space = space; vpage = vpage } in none_listed frame unused a (listed_range size a h l)))
      ∙ pairs_none (λ space vpage. false) entries.size.spaces entries.size.pages (λ i j. refl)

  -- exactly the addresses that name a page are listed under its frame
  pub listed_names : (page frame : ℕ) → map.get v.placement page ≡ Some (At frame) → (a : Address) → InRange a → is_listed (entry_at entries a) frame ≡ names v.records a page
  listed_names page frame at a range = by_list (is_listed (entry_at entries a) frame) (page_at v.records a) refl refl where
    by_list : (b : Bool) (o : Option ℕ) → is_listed (entry_at entries a) frame ≡ b → page_at v.records a ≡ o → b ≡ is_page (page_at v.records a) page
    by_list true o e is =
        let by = names_of a range frame e in
        let same : by.page ≡ page = law.pages.apart by.page page frame by.takes (ap (λ (p : Option Placement). takes_up p frame) at ∙ eq-eqb frame frame refl) in
        sym (ap (λ (p : Option ℕ). is_page p page) by.named ∙ eq-eqb by.page page same)
    by_list false None e is = sym (ap (λ (p : Option ℕ). is_page p page) is)
    by_list false (Some q) e is = elim (eqb_tells q page) [
      | inl same ↦ (let entry : entry_at entries a ≡ entry_for (Some (At frame)) = fit.each a range ∙ ap (λ (o : Option ℕ). entry_for (option_and_then (map.get v.placement) o)) is ∙ ap (λ (p : ℕ). entry_for (map.get v.placement p)) same.1 ∙ ap entry_for at in
          absurd (untrue _ e (ap (λ (x : Entry). is_listed x frame) entry ∙ eq-eqb frame frame refl)))
      | inr other ↦ sym (ap (λ (p : Option ℕ). is_page p page) is ∙ other.0)
    ]

  pub count_names : entries.size ≡ table_size v → (page frame : ℕ) → map.get v.placement page ≡ Some (At frame) → count_listed entries frame ≡ maps v.records page
  count_names size page frame at =
      pairs_same_below _ (λ space vpage. names v.records (record { space = space; vpage = vpage }) page) entries.size.spaces entries.size.pages
      (λ space vpage h l. (let a : Address = record { space = space; vpage = vpage } in listed_names page frame at a (listed_range size a h l)))
      ∙ ap (λ (s : Size). count_pairs (λ space vpage. names v.records (record { space = space; vpage = vpage }) page) s.spaces s.pages) size
      ∙ sym (pairs_within (λ space vpage. names v.records (record { space = space; vpage = vpage }) page) v.spaces v.vpages 256 16777216 law.addresses.0 law.addresses.1 (λ i j e.
      (let a : Address = record { space = i; vpage = j } in
      let inside = (law.agrees.named a page (page_is (page_at v.records a) page e)).0 in (inside.space, inside.vpage))))

  -- no address names a page that left a frame which no page takes up, or which holds a page
  pub none_left : (frame : ℕ) → is_used v frame ≡ false → (a : Address) → InRange a → entry_at entries a ≢ Migration frame
  none_left frame unused a range e =
      untrue _ (none_listed frame unused a range) (ap (λ (x : Entry). is_listed x frame) e ∙ eq-eqb frame frame refl)

  pub page_rests : (page frame : ℕ) → map.get v.placement page ≡ Some (At frame) → (a : Address) → InRange a → entry_at entries a ≢ Migration frame
  page_rests page frame at a range e =
      let by = names_of a range frame (ap (λ (x : Entry). is_listed x frame) e ∙ eq-eqb frame frame refl) in
      let same : by.page ≡ page = law.pages.apart by.page page frame by.takes (ap (λ (p : Option Placement). takes_up p frame) at ∙ eq-eqb frame frame refl) in
      let two : Some by.placement ≡ Some (At frame) = sym by.at ∙ ap (map.get v.placement) same ∙ at in
      let is : by.placement ≡ At frame = cc in
      let bad : Present frame ≡ Migration frame = sym (ap (λ (p : Placement). entry_for (Some p)) is) ∙ sym by.entry ∙ e in
      cc

  -- the addresses listed under the source of a moving page name that page, and none is listed under its target
  module _ (page serial source target : ℕ) (at : map.get v.placement page ≡ Some (Moving serial source target)) where
    same_page : (frame : ℕ) → takes_up (Some (Moving serial source target)) frame ≡ true → (a : Address) (by : Names a frame) → by.placement ≡ Moving serial source target
    same_page frame takes a by =
        let same : by.page ≡ page = law.pages.apart by.page page frame by.takes (ap (λ (p : Option Placement). takes_up p frame) at ∙ takes) in
        let two : Some by.placement ≡ Some (Moving serial source target) = sym by.at ∙ ap (map.get v.placement) same ∙ at in cc

    pub all_left : (a : Address) → InRange a → is_listed (entry_at entries a) source ≡ true → entry_at entries a ≡ Migration source
    all_left a range e =
        let by = names_of a range source e in
        by.entry ∙ ap (λ (p : Placement). entry_for (Some p)) (same_page source (or_left _ _ (eq-eqb source source refl)) a by)

    pub target_unnamed : target ≢ source → (a : Address) → InRange a → is_listed (entry_at entries a) target ≡ false
    target_unnamed apart a range = false_from_ne_true _ (λ e.
        (let by = names_of a range target e in
        let is = by.entry ∙ ap (λ (p : Placement). entry_for (Some p)) (same_page target (or_right _ _ (eq-eqb target target refl)) a by) in
        apart (sym (eqb-true source target (sym (ap (λ (x : Entry). is_listed x target) is) ∙ e)))))
