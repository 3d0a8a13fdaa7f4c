-- A zone that was just opened.
use Rattle.std.proofs.Common.{◌≡◌, ℕ, ◌*◌, ◌^◌, ◌≤◌, true, false, not, refl, sym, ap, ◌∙◌, arith, Option, None, is_some, length}
use Rattle.std.specs.FinSet as set
use Rattle.std.specs.FinMap as map
use denote.RawPtr.{Ptr}
use Rattle.std.specs.Option.{option_map}
use Rattle.std.specs.Ordering.{nat_cmp}
use Rattle.std.proofs.lemmas.Bool.{and_from, both_ways, or_from}
use Rattle.std.proofs.lemmas.Option.{none-some}
use Rattle.frame_core.proofs.Searches.{count_all, count_none, none_some}
use Rattle.frame_core.specs.Below.{count_below}
use Rattle.state_core.specs.declared.placement.Placement.{Placement}
use Rattle.state_core.specs.declared.size.ZoneSize.{ZoneSize}
use Rattle.state_core.specs.Opening.{opened_in, opened_sized, IsZoneSize}
use Rattle.state_core.specs.Valid.{IsValidZone, is_under}
use Rattle.state_core.specs.ZoneState.{ZoneState, frame_count, takes_up, covers, is_held, is_free}

module _ (words number : ℕ) (size : ZoneSize) (places : ℕ) where
  abbrev new_zone : ZoneState
  new_zone = opened_sized words number size places

  no_page : (page : ℕ) → map.get new_zone.placement page ≡ None
  no_page page = map.get-empty nat_cmp page

  no_block : (first : ℕ) → map.get new_zone.handed_out first ≡ None
  no_block first = map.get-empty nat_cmp first

  untaken : (page frame : ℕ) → takes_up (map.get new_zone.placement page) frame ≡ false
  untaken page frame = ap (λ (o : Option Placement). takes_up o frame) (no_page page)

  uncovered : (first frame : ℕ) → covers (map.get new_zone.handed_out first) first frame ≡ false
  uncovered first frame = ap (λ (o : Option ℕ). covers o first frame) (no_block first)

  pub unheld : (frame : ℕ) → is_held new_zone frame ≡ false
  unheld frame = or_from _ _ (none_some (λ first. covers (map.get new_zone.handed_out first) first frame) (frame_count new_zone) (λ first h. uncovered first frame)) (set.contains-empty nat_cmp frame)

  pub all_free : (frame : ℕ) → is_free new_zone frame ≡ true
  all_free frame = and_from _ _ (ap not (none_some (λ page. takes_up (map.get new_zone.placement page) frame) (frame_count new_zone) (λ page h. untaken page frame))) (ap not (unheld frame))

  pub free_count : count_below (is_free new_zone) (frame_count new_zone) ≡ 512 * size.blocks
  free_count = count_all (is_free new_zone) (frame_count new_zone) (λ frame h. all_free frame)

  pub page_count : count_below (λ page. is_some (map.get new_zone.placement page)) (frame_count new_zone) ≡ 0
  page_count = count_none (λ page. is_some (map.get new_zone.placement page)) (frame_count new_zone) (λ page h. ap is_some (no_page page))

  pub held_count : count_below (is_held new_zone) (frame_count new_zone) ≡ 0
  held_count = count_none (is_held new_zone) (frame_count new_zone) (λ frame h. unheld frame)

  pub opened_valid : IsZoneSize size → places ≤ 2 ^ 53 → IsValidZone new_zone
  opened_valid within few = record {
    size = within.0;
    addresses = (within.2, within.4);
    journal = record { places = omega arith; truthful = tt; well_ended = tt; room_left = omega arith };
    agrees = record {
      named = λ address page e. cc;
      in_use = λ page used. absurd (both_ways _ (ap is_some (no_page page)) used);
      under_way = λ page serial. (λ h. absurd (both_ways _ (ap (λ o. is_under o serial) (no_page page)) h), λ h. absurd (both_ways false refl h.0));
      handed = no_block;
      marks = set.contains-empty nat_cmp;
    };
    pages = record {
      numbered = λ page used. absurd (both_ways _ (ap is_some (no_page page)) used);
      elsewhere = λ page serial source target e. absurd (none-some _ (sym (no_page page) ∙ e));
      apart = λ p q frame h k. absurd (both_ways _ (untaken p frame) h);
      within = λ page frame h. absurd (both_ways _ (untaken page frame) h);
      clear = λ page frame h. absurd (both_ways _ (untaken page frame) h);
      unmovable = λ page e. absurd (both_ways _ (set.contains-empty nat_cmp page) e);
    };
    blocks = record {
      each = λ first order e. absurd (none-some _ (sym (no_block first) ∙ e));
      disjoint = λ a b frame h k. absurd (both_ways _ (uncovered a frame) h);
      contents = λ first. ap (option_map length) (map.get-empty nat_cmp first) ∙ sym (ap (option_map (λ order. 2 ^ order * words)) (no_block first));
      lent = λ first e. absurd (both_ways _ (set.contains-empty nat_cmp first) e);
      lendable = λ first e. absurd (both_ways _ (set.contains-empty nat_cmp first) e);
      claims = λ frame c. absurd (both_ways _ (set.contains-empty nat_cmp frame) c);
      unclaimed = λ first frame e. absurd (both_ways _ (uncovered first frame) e);
    };
    loans = record {
      used = λ page e. absurd (both_ways _ (set.contains-empty nat_cmp page) e);
      pinned = λ page frame e rests. absurd (both_ways _ (set.contains-empty nat_cmp page) e);
      lendable = λ page e. absurd (both_ways _ (set.contains-empty nat_cmp page) e);
    };
    fingers = record { ordered = (omega arith, omega arith); begun = λ start e. cc; swept = λ quiet. cc };
    sum = omega (arith, free_count, page_count, held_count);
  }

  -- and so is one that was opened in memory of its caller
  pub opened_in_valid : (at : Ptr) → IsZoneSize size → places ≤ 2 ^ 53 → IsValidZone (opened_in at words number size places)
  opened_in_valid at within few = let law = opened_valid within few in record {
    size = law.size;
    addresses = law.addresses;
    journal = law.journal;
    agrees = law.agrees;
    pages = law.pages;
    blocks = record {
      each = law.blocks.each;
      disjoint = law.blocks.disjoint;
      contents = law.blocks.contents;
      lent = law.blocks.lent;
      lendable = λ first e. refl;
      claims = law.blocks.claims;
      unclaimed = law.blocks.unclaimed;
    };
    loans = record { used = law.loans.used; pinned = law.loans.pinned; lendable = λ page e. refl };
    fingers = record { ordered = law.fingers.ordered; begun = law.fingers.begun; swept = λ quiet. cc };
    sum = law.sum;
  }
