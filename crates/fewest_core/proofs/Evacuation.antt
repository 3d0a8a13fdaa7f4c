-- A move outside of a round leaves the zone valid, and so does its beginning.
use Rattle.std.proofs.Common.{◌≡◌, ◌≢◌, ℕ, true, false, List, ◌∷◌, length, inl, inr, refl, sym, ap, subst, ◌∙◌, arith, Option, Some, None, IsSomeAnd, is_some, nat_eq}
use Rattle.std.specs.FinMap as map
use Rattle.std.specs.FinSet as set
use Rattle.std.specs.Cmp.{nat_cmp_total}
use Rattle.std.specs.Ordering.{nat_cmp}
use Rattle.std.proofs.lemmas.Bool.{and_parts, both_ways, cond-true, cond-false, eq-eqb, eqb-true, ne_eqb, or_cases, or_left, or_right}
use Rattle.std.proofs.lemmas.Bool.Decides.{eqb_tells}
use Rattle.std.proofs.lemmas.Option.{same_Some}
use Rattle.frame_core.proofs.OnTheWay.{ended_out, length_without, not_moving, out_below, still_out}
use Rattle.frame_core.specs.declared.record.Record.{Record}
use Rattle.frame_core.specs.declared.record.Record.TheVariants.{Isolate, Moved}
use Rattle.frame_core.specs.History.{pins}
use Rattle.frame_core.specs.Moves.{isolated, out, is_out, page_of, IsWellEnded}
use Rattle.state_core.specs.declared.placement.Placement.{Placement}
use Rattle.state_core.specs.declared.placement.Placement.TheVariants.{At, Moving}
use Rattle.state_core.specs.Isolating.{isolate_refusal}
use Rattle.state_core.specs.Valid.{IsValidZone, is_under}
use Rattle.state_core.specs.ZoneState.{ZoneState, is_free}
use Rattle.state_core.proofs.Entries.{get_insert_same, get_insert_other}
use Rattle.state_core.proofs.Facts.{not_none, room_for_two, unpinned_here}
use Rattle.state_core.proofs.Moving.{CanSettle, IsRecorded, isolate_still, some_same}
use Rattle.state_core.proofs.Places.{IsOutWith, free_count, lent_stay, page_count, valid_places, ways_of, where_is}
use Rattle.fewest_core.specs.Evacuation.{moved_away}
use Rattle.fewest_core.specs.FewestMoves.{Move, IsMove, after_move, under_way}
use Rattle.fewest_core.proofs.Moves.{target_not_source}

module _ (z : ZoneState) (m : Move) (law : IsValidZone z) (is : IsMove z m) where
  abbrev serial : ℕ
  serial = isolated z.records

  -- the records after the move
  abbrev records : List Record
  records = Moved serial ∷ Isolate m.page serial ∷ z.records

  abbrev placement : map.FinMap nat_cmp Placement
  placement = map.insert z.placement m.page (At m.target)

  pub target_free : is_free z m.target ≡ true
  target_free = (and_parts _ (is_free z m.target) is.vacant).1

  pub can_settle : CanSettle z m.page (At m.source) (At m.target)
  can_settle = record {
    valid = law;
    at = is.here;
    numbered = is.known;
    takes = λ g e. inr (ap (is_free z) (eqb-true g m.target e) ∙ target_free, omega (arith, eqb-true g m.target e, is.within));
    elsewhere = λ s source target e. cc;
  }

  -- while the page moves, it takes up its target besides its source
  pub can_start : CanSettle z m.page (At m.source) (Moving serial m.source m.target)
  can_start = record {
    valid = law;
    at = is.here;
    numbered = is.known;
    takes = λ g e. elim (or_cases (nat_eq g m.source) (nat_eq g m.target) e) [
      | inl source ↦ inl source
      | inr target ↦ inr (ap (is_free z) (eqb-true g m.target target) ∙ target_free, omega (arith, eqb-true g m.target target, is.within))
    ];
    elsewhere = λ s source target e same. (let from : m.source ≡ source = cc in let to : m.target ≡ target = cc in absurd (target_not_source z m is (to ∙ sym same ∙ sym from)));
  }

  -- the words of the page aren't lent, and those whose words are lent stay where they are
  pub move_here : set.contains z.lent_pages m.page ≡ false
  move_here = unpinned_here z law m.page m.source is.here (eqb-true (pins z.records m.page) 0 (and_parts _ _ is.movable).0)

  stays : (q : ℕ) → set.contains z.lent_pages q ≡ true → map.get placement q ≡ map.get z.placement q
  stays = lent_stay can_settle move_here

  -- the page's place while it moved is forgotten
  pub placement_after : (moved_away z m).placement ≡ placement
  placement_after = map.same_map nat_cmp_total map.nat_cmp-IsAntisymmetric (after_move z m).placement placement (λ q. elim (eqb_tells q m.page) [
    | inl same ↦ get_insert_same (under_way z m).placement m.page q (At m.target) same.1 ∙ sym (get_insert_same z.placement m.page q (At m.target) same.1)
    | inr other ↦ get_insert_other (under_way z m).placement m.page q (At m.target) other.1 ∙ get_insert_other z.placement m.page q _ other.1 ∙ sym (get_insert_other z.placement m.page q (At m.target) other.1)
  ])

  -- no serial that is out is of the page
  at_rest : (s : ℕ) → is_out z.records s ≡ true → page_of z.records s ≡ Some m.page → ⊥
  at_rest s e of = both_ways _ (ap (λ (o : Option Placement). is_under o s) is.here) ((law.agrees.under_way m.page s).1 (e, of))

  fresh : (s : ℕ) → is_out z.records s ≡ true → s ≢ serial
  fresh s e same = let below = out_below z.records law.journal.well_ended s e in absurd (omega (arith, below, same))

  isolated_well : IsWellEnded (Isolate m.page serial ∷ z.records)
  isolated_well = (
    refl,
    (let used = law.agrees.in_use m.page (not_none _ (At m.source) is.here) in
        record { in_use = used.0; here = not_moving z.records m.page at_rest; unpinned = eqb-true (pins z.records m.page) 0 (and_parts _ _ is.movable).0 }),
    law.journal.well_ended,
  )

  -- a page that is out under another serial than the new one was out before
  was_out : (q s : ℕ) → serial ≢ s → IsOutWith (Isolate m.page serial ∷ z.records) q s → IsOutWith z.records q s
  was_out q s ne way = (
    elim (or_cases (nat_eq s serial) _ way.0) [ inl here ↦ absurd (ne (sym (eqb-true s serial here))) | inr old ↦ old ],
    sym (cond-false _ (Some m.page) (page_of z.records s) (ne_eqb serial s ne)) ∙ way.1,
  )

  -- the record with which it starts to move
  pub start_recorded : isolate_refusal z ≡ None → IsRecorded z (Isolate m.page serial) m.page (Moving serial m.source m.target)
  start_recorded accepted =
      let left = room_for_two z accepted in
      record {
        still = isolate_still z.records serial m.page;
        truthful = law.journal.truthful;
        well_ended = isolated_well;
        spare = omega (arith, left);
        room_left = omega (arith, left);
        here = move_here;
        own_way = λ s. (
          λ under. (or_left _ _ (eq-eqb s serial (sym (eqb-true serial s under))), cond-true _ (Some m.page) (page_of z.records s) under),
          λ way. elim (eqb_tells serial s) [ inl same ↦ same.0 | inr other ↦ (let old = was_out m.page s other.1 way in absurd (at_rest s old.0 old.1)) ],
        );
        other_ways = λ q s ne. (
          λ way. (or_right _ _ way.0, cond-false _ (Some m.page) (page_of z.records s) (ne_eqb serial s (λ same. fresh s way.0 (sym same))) ∙ way.1),
          λ way. elim (eqb_tells serial s) [
            | inl same ↦ absurd (ne (same_Some q m.page (sym way.1 ∙ cond-true _ (Some m.page) (page_of z.records s) same.0)))
            | inr other ↦ was_out q s other.1 way
          ],
        );
        ways = omega (arith, ap ways_of is.here);
      }

  serial_out : is_out (Isolate m.page serial ∷ z.records) serial ≡ true
  serial_out = or_left _ _ (eq-eqb serial serial refl)

  well_ended : IsWellEnded records
  well_ended = (
    record {
      under_way = serial_out;
      page = subst (λ (o : Option ℕ). IsSomeAnd o (λ page. pins (Isolate m.page serial ∷ z.records) page ≡ 0)) (sym (cond-true (nat_eq serial serial) (Some m.page) (page_of z.records serial) (eq-eqb serial serial refl))) (eqb-true (pins z.records m.page) 0 (and_parts _ _ is.movable).0);
    },
    isolated_well,
  )

  -- as many pages are out as before, and the same ones
  pub as_many_out : length (out records) ≡ length (out z.records)
  as_many_out = omega (arith, length_without (Isolate m.page serial ∷ z.records) isolated_well serial serial_out)

  out_now : (q s : ℕ) → IsOutWith z.records q s → IsOutWith records q s
  out_now q s way =
      let apart = fresh s way.0 in (
        still_out serial s (out (Isolate m.page serial ∷ z.records)) apart ∙ or_right _ _ way.0,
        cond-false _ (Some m.page) (page_of z.records s) (ne_eqb serial s (λ e. apart (sym e))) ∙ way.1,
      )

  out_before : (q s : ℕ) → IsOutWith records q s → IsOutWith z.records q s
  out_before q s way =
      let apart : s ≢ serial = λ same. both_ways _ (ap (is_out records) same ∙ ended_out serial (out (Isolate m.page serial ∷ z.records))) way.0 in (
        elim (or_cases (nat_eq s serial) _ (sym (still_out serial s (out (Isolate m.page serial ∷ z.records)) apart) ∙ way.0)) [ inl here ↦ absurd (apart (eqb-true s serial here)) | inr there ↦ there ],
        sym (cond-false _ (Some m.page) (page_of z.records s) (ne_eqb serial s (λ e. apart (sym e)))) ∙ way.1,
      )

  under_same : (q s : ℕ) → is_under (map.get placement q) s ≡ is_under (map.get z.placement q) s
  under_same q s = elim (where_is can_settle q) [
    | inl here ↦ ap (λ (o : Option Placement). is_under o s) here.2 ∙ sym (ap (λ (o : Option Placement). is_under o s) here.1)
    | inr there ↦ ap (λ (o : Option Placement). is_under o s) there.1
  ]

  pub valid_moved_away : isolate_refusal z ≡ None → IsValidZone (moved_away z m)
  valid_moved_away accepted =
      let left = room_for_two z accepted in
      let places = law.journal.places in
      subst (λ (p : map.FinMap nat_cmp Placement). IsValidZone (record (moved_away z m) { placement = p })) (sym placement_after) (record {
        size = law.size;
        addresses = law.addresses;
        journal = record {
          places = omega (arith, places, left);
          truthful = law.journal.truthful;
          well_ended = well_ended;
          room_left = omega (arith, left, as_many_out);
        };
        agrees = record {
          named = λ a q e. (let before = law.agrees.named a q e in (before.0, some_same can_settle q ∙ before.1));
          in_use = λ q used. law.agrees.in_use q (sym (some_same can_settle q) ∙ used);
          under_way = λ q s. (
            λ under. out_now q s ((law.agrees.under_way q s).0 (sym (under_same q s) ∙ under)),
            λ way. under_same q s ∙ (law.agrees.under_way q s).1 (out_before q s way),
          );
          handed = law.agrees.handed;
          marks = law.agrees.marks;
        };
        pages = valid_places can_settle z.unmovable (λ q e. some_same can_settle q ∙ law.pages.unmovable q e);
        blocks = law.blocks;
        loans = record { used = λ q lent. ap is_some (stays q lent) ∙ law.loans.used q lent; pinned = λ q frame lent rests. law.loans.pinned q frame lent (sym (stays q lent) ∙ rests); lendable = law.loans.lendable };
        fingers = record { ordered = law.fingers.ordered; begun = λ start e. cc; swept = λ quiet. cc };
        sum = omega (arith, law.sum, free_count can_settle, page_count can_settle, as_many_out);
      })
