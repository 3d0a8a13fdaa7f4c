-- Words are written into a block that is handed out: the zone stays valid, and no pair comes of it.
use Rattle.std.proofs.Common.{◌≡◌, ℕ, ◌+◌, ◌*◌, ◌^◌, ◌≤◌, List, length, take, drop, [], ◌++◌, inl, inr, refl, sym, ap, ◌∙◌, arith, Option, Some, None, unwrap_or}
use Rattle.std.specs.FinMap as map
use Rattle.std.specs.Option.{option_map}
use Rattle.std.proofs.lemmas.Bool.Decides.{eqb_tells}
use Rattle.std.proofs.lemmas.List.{length-append, length-drop, length-take-le}
use Rattle.std.proofs.lemmas.Option.{none-some, same_Some}
use Rattle.state_core.specs.Contents.{contents_of, contents_written}
use Rattle.state_core.specs.Valid.{IsValidZone}
use Rattle.state_core.specs.Pairs.{HaveMet}
use Rattle.state_core.specs.ZoneState.{ZoneState}
use Rattle.state_core.proofs.Entries.{get_insert_same, get_insert_other}
use Rattle.state_core.proofs.StaysMet.{met_same}
use Rattle.state_core.proofs.Sweeping.{swept_same}
use Rattle.frame_core.specs.Words.{put_from}

-- values that are put among the words leave as many words
pub length_put_from : (words : List ℕ) (from : ℕ) (values : List ℕ) → from + length values ≤ length words → length (put_from words from values) ≡ length words
length_put_from words from values within =
    length-append (take from words ++ values) (drop (from + length values) words)
    ∙ omega (arith, length-append (take from words) values, length-take-le from words (omega arith), length-drop (from + length values) words)

module _ (v : ZoneState) (law : IsValidZone v) (first order : ℕ) (at : map.get v.handed_out first ≡ Some order) where
  -- a block that is handed out has its words
  pub has_contents : map.get v.contents first ≡ Some (contents_of v first)
  has_contents = by_entry (map.get v.contents first) (law.blocks.contents first ∙ ap (option_map (λ o. 2 ^ o * v.page_size)) at) where
    by_entry : (o : Option (List ℕ)) → option_map length o ≡ Some (2 ^ order * v.page_size) → o ≡ Some (unwrap_or o [])
    by_entry None e = absurd (none-some _ e)
    by_entry (Some words) e = refl

  pub length_contents : length (contents_of v first) ≡ 2 ^ order * v.page_size
  length_contents = same_Some _ _ (sym (ap (option_map length) has_contents) ∙ law.blocks.contents first ∙ ap (option_map (λ o. 2 ^ o * v.page_size)) at)

  module _ (from : ℕ) (values : List ℕ) (within : from + length values ≤ 2 ^ order * v.page_size) where
    abbrev written : ZoneState
    written = contents_written v first from values

    contents_after : (f : ℕ) → option_map length (map.get written.contents f) ≡ option_map (λ o. 2 ^ o * v.page_size) (map.get v.handed_out f)
    contents_after f = elim (eqb_tells f first) [
      | inl same ↦
          (ap (option_map length) (get_insert_same v.contents first f _ same.1)
          ∙ ap Some (length_put_from (contents_of v first) from values (omega (arith, length_contents)) ∙ length_contents)
          ∙ sym (ap (option_map (λ o. 2 ^ o * v.page_size)) (ap (map.get v.handed_out) same.1 ∙ at)))
      | inr other ↦ ap (option_map length) (get_insert_other v.contents first f _ other.1) ∙ law.blocks.contents f
    ]

    pub valid_contents_written : IsValidZone (contents_written v first from values)
    valid_contents_written = record {
      size = law.size;
      addresses = law.addresses;
      journal = law.journal;
      agrees = law.agrees;
      pages = law.pages;
      blocks = record { each = law.blocks.each; disjoint = law.blocks.disjoint; contents = contents_after; lent = law.blocks.lent; lendable = law.blocks.lendable; claims = law.blocks.claims; unclaimed = law.blocks.unclaimed };
      loans = law.loans;
      fingers = record { ordered = law.fingers.ordered; begun = law.fingers.begun; swept = λ quiet. swept_same v v.records v.room written.contents v.lent v.lent_pages (λ page. refl) (law.fingers.swept quiet) };
      sum = law.sum;
    }

pub met_contents_written : (v : ZoneState) (first from : ℕ) (values : List ℕ) → HaveMet v → HaveMet (contents_written v first from values)
met_contents_written v first from values = met_same v v.records v.room _ v.lent v.lent_pages (λ page. refl)
