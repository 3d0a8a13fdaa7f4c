-- The words of a block that is handed out, or of a page that is pinned, are lent or come back: the zone stays valid, and no pair comes of it.
use Rattle.std.proofs.Common.{◌≡◌, ℕ, ◌+◌, ◌*◌, ◌^◌, ◌<◌, ◌≤◌, true, false, List, length, inl, inr, refl, sym, ap, subst, ◌∙◌, Some, None, IsSome, is_some}
use Rattle.std.specs.FinMap as map
use Rattle.std.specs.FinSet as set
use Rattle.std.specs.Option.{option_map}
use Rattle.std.specs.Ordering.{nat_cmp}
use Rattle.std.proofs.lemmas.Bool.{both_ways, false_from_ne_true}
use Rattle.std.proofs.lemmas.Bool.Decides.{eqb_tells}
use Rattle.frame_core.specs.declared.place.Address.{Address}
use Rattle.frame_core.specs.History.{pins}
use Rattle.frame_core.specs.Moves.{out}
use Rattle.state_core.specs.declared.placement.Placement.TheVariants.{At}
use Rattle.state_core.specs.Lending.{block_lent, block_returned, page_back, page_lent, page_returned}
use Rattle.state_core.specs.Pairs.{HaveMet}
use Rattle.state_core.specs.Valid.{IsValidZone}
use Rattle.state_core.specs.ZoneState.{ZoneState}
use Rattle.state_core.proofs.Accessed.{valid_stored_all}
use Rattle.state_core.proofs.Bulk.{met_stored_all}
use Rattle.state_core.proofs.Entries.{contains_insert_other, contains_remove_other, contains_remove_same, get_insert_same, get_insert_other}
use Rattle.state_core.proofs.StaysMet.{met_same}
use Rattle.state_core.proofs.Sweeping.{swept_same}

-- the words of a page may be lent: it is in use, and has a pin where it rests in a frame, and the zone lies in memory of its caller
pub record MayBeLent (v : ZoneState) (page : ℕ) : Type 0 where
  pub used : IsSome (map.get v.placement page)
  pub pinned : (frame : ℕ) → map.get v.placement page ≡ Some (At frame) → 0 < pins v.records page
  pub lendable : IsSome v.memory

module _ (v : ZoneState) (law : IsValidZone v) (first order : ℕ) (at : map.get v.handed_out first ≡ Some order) where
  lent_more : (f : ℕ) → set.contains (set.insert v.lent first) f ≡ true → IsSome (map.get v.handed_out f)
  lent_more f e = elim (eqb_tells f first) [
    | inl same ↦ ap is_some (ap (map.get v.handed_out) same.1 ∙ at)
    | inr other ↦ law.blocks.lent f (sym (contains_insert_other v.lent first f other.1) ∙ e)
  ]

  pub valid_block_lent : IsSome v.memory → IsValidZone (block_lent v first)
  valid_block_lent given = record {
    size = law.size;
    addresses = law.addresses;
    journal = law.journal;
    agrees = law.agrees;
    pages = law.pages;
    blocks = record { each = law.blocks.each; disjoint = law.blocks.disjoint; contents = law.blocks.contents; lent = lent_more; lendable = λ f e. given; claims = law.blocks.claims; unclaimed = law.blocks.unclaimed };
    loans = law.loans;
    fingers = record { ordered = law.fingers.ordered; begun = law.fingers.begun; swept = λ quiet. swept_same v v.records v.room v.contents (set.insert v.lent first) v.lent_pages (λ page. refl) (law.fingers.swept quiet) };
    sum = law.sum;
  }

  module _ (words : List ℕ) (long : length words ≡ 2 ^ order * v.page_size) where
    lent_fewer : (f : ℕ) → set.contains (set.remove v.lent first) f ≡ true → IsSome (map.get v.handed_out f)
    lent_fewer f e = elim (eqb_tells f first) [
      | inl same ↦ absurd (both_ways _ (contains_remove_same v.lent first f same.1) e)
      | inr other ↦ law.blocks.lent f (sym (contains_remove_other v.lent first f other.1) ∙ e)
    ]

    lendable_fewer : (f : ℕ) → set.contains (set.remove v.lent first) f ≡ true → IsSome v.memory
    lendable_fewer f e = elim (eqb_tells f first) [
      | inl same ↦ absurd (both_ways _ (contains_remove_same v.lent first f same.1) e)
      | inr other ↦ law.blocks.lendable f (sym (contains_remove_other v.lent first f other.1) ∙ e)
    ]

    contents_back : (f : ℕ) → option_map length (map.get (map.insert v.contents first words) f) ≡ option_map (λ o. 2 ^ o * v.page_size) (map.get v.handed_out f)
    contents_back f = elim (eqb_tells f first) [
      | inl same ↦
          (ap (option_map length) (get_insert_same v.contents first f words same.1) ∙ ap Some long
          ∙ sym (ap (option_map (λ o. 2 ^ o * v.page_size)) (ap (map.get v.handed_out) same.1 ∙ at)))
      | inr other ↦ ap (option_map length) (get_insert_other v.contents first f words other.1) ∙ law.blocks.contents f
    ]

    pub valid_block_returned : IsValidZone (block_returned v first words)
    valid_block_returned = record {
      size = law.size;
      addresses = law.addresses;
      journal = law.journal;
      agrees = law.agrees;
      pages = law.pages;
      blocks = record { each = law.blocks.each; disjoint = law.blocks.disjoint; contents = contents_back; lent = lent_fewer; lendable = lendable_fewer; claims = law.blocks.claims; unclaimed = law.blocks.unclaimed };
      loans = law.loans;
      fingers = record { ordered = law.fingers.ordered; begun = law.fingers.begun; swept = λ quiet. swept_same v v.records v.room (map.insert v.contents first words) (set.remove v.lent first) v.lent_pages (λ page. refl) (law.fingers.swept quiet) };
      sum = law.sum;
    }

pub met_block_lent : (v : ZoneState) (first : ℕ) → HaveMet v → HaveMet (block_lent v first)
met_block_lent v first = met_same v v.records v.room v.contents _ v.lent_pages (λ page. refl)

pub met_block_returned : (v : ZoneState) (first : ℕ) (words : List ℕ) → HaveMet v → HaveMet (block_returned v first words)
met_block_returned v first words = met_same v v.records v.room _ _ v.lent_pages (λ page. refl)

-- the pages whose words are lent may be any that may be lent
module _ (v : ZoneState) (law : IsValidZone v) (away : set.FinSet nat_cmp) (may : (page : ℕ) → set.contains away page ≡ true → MayBeLent v page) where
  pub valid_loans : IsValidZone (record v { lent_pages = away })
  valid_loans = record {
    size = law.size;
    addresses = law.addresses;
    journal = law.journal;
    agrees = law.agrees;
    pages = law.pages;
    blocks = law.blocks;
    loans = record { used = λ page lent. (may page lent).used; pinned = λ page frame lent. (may page lent).pinned frame; lendable = λ page lent. (may page lent).lendable };
    fingers = record { ordered = law.fingers.ordered; begun = law.fingers.begun; swept = λ quiet. swept_same v v.records v.room v.contents v.lent away (λ page. refl) (law.fingers.swept quiet) };
    sum = law.sum;
  }

lent_may : (v : ZoneState) → IsValidZone v → (page : ℕ) → set.contains v.lent_pages page ≡ true → MayBeLent v page
lent_may v law page lent = record { used = law.loans.used page lent; pinned = λ frame. law.loans.pinned page frame lent; lendable = law.loans.lendable page lent }

pub valid_page_lent : (v : ZoneState) → IsValidZone v → (page : ℕ) → MayBeLent v page → IsValidZone (record v { lent_pages = set.insert v.lent_pages page })
valid_page_lent v law page can = valid_loans v law (set.insert v.lent_pages page) (λ other lent. elim (eqb_tells other page) [
  | inl same ↦ subst (MayBeLent v) (sym same.1) can
  | inr ne ↦ lent_may v law other (sym (contains_insert_other v.lent_pages page other ne.1) ∙ lent)
])

pub valid_page_back : (v : ZoneState) → IsValidZone v → (page : ℕ) → IsValidZone (record v { lent_pages = set.remove v.lent_pages page })
valid_page_back v law page = valid_loans v law (set.remove v.lent_pages page) (λ other lent. elim (eqb_tells other page) [
  | inl same ↦ absurd (both_ways _ (contains_remove_same v.lent_pages page other same.1) lent)
  | inr ne ↦ lent_may v law other (sym (contains_remove_other v.lent_pages page other ne.1) ∙ lent)
])

-- the words of a page come back, where the journal has a place for a store of each
pub valid_page_returned : (v : ZoneState) → IsValidZone v → (client : ℕ) (address : Address) (words : List ℕ) → length (out v.records) + length words ≤ v.room → IsValidZone (page_returned v client address words)
valid_page_returned v law client address words room = valid_stored_all (page_back v address) (valid_page_back v law _) client address 0 words room

pub met_page_lent : (v : ZoneState) (address : Address) → HaveMet v → HaveMet (page_lent v address)
met_page_lent v address = met_same v v.records v.room v.contents v.lent _ (λ page. refl)

pub met_page_returned : (v : ZoneState) (client : ℕ) (address : Address) (words : List ℕ) → HaveMet v → HaveMet (page_returned v client address words)
met_page_returned v client address words met = met_stored_all (page_back v address) client address 0 words (met_same v v.records v.room v.contents v.lent _ (λ page. refl) met)

-- a zone in memory of its own lends the words of no page
pub own_lends_none : (v : ZoneState) → IsValidZone v → v.memory ≡ None → (page : ℕ) → set.contains v.lent_pages page ≡ false
own_lends_none v law own page = false_from_ne_true _ (λ lent. both_ways _ (ap is_some own) (law.loans.lendable page lent))
