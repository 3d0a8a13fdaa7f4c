-- An address names no page any more. A page that loses its last address is nowhere: its frame is free again, and it isn't in use.
use Rattle.std.proofs.Common.{◌≡◌, ◌≢◌, ℕ, ◌+◌, ◌<◌, true, false, length, inl, inr, refl, sym, ap, subst, ◌∙◌, arith, nat_eq, Option, Some, None, IsSome, is_some}
use Rattle.std.specs.Prelude.{unwrap_or}
use Rattle.std.specs.FinMap as map
use Rattle.std.specs.FinSet as set
use Rattle.std.proofs.lemmas.Bool.{and_from, both_ways, cases_Bool, cond-true, cond-false, eq-eqb, ne_eqb}
use Rattle.std.proofs.lemmas.Bool.Decides.{eqb_tells}
use Rattle.frame_core.specs.Below.{one_if}
use Rattle.frame_core.specs.declared.place.Address.{Address}
use Rattle.frame_core.proofs.Maps.{maps_changed, maps_some}
use Rattle.frame_core.specs.declared.record.Record.TheVariants.{Unmap}
use Rattle.frame_core.specs.History.{same_address, page_at, is_page, maps, pins}
use Rattle.frame_core.specs.Moves.{out}
use Rattle.state_core.specs.declared.placement.Placement.TheVariants.{At}
use Rattle.state_core.specs.Valid.{IsValidZone, is_under}
use Rattle.state_core.specs.Unmapping.{is_last, without_page, unmapped}
use Rattle.state_core.specs.ZoneState.{ZoneState, noted}
use Rattle.state_core.proofs.Entries.{contains_remove_same, contains_remove_other}
use Rattle.state_core.proofs.Facts.{unpinned_here, named_in_range, not_none}
use Rattle.state_core.proofs.Noted.{valid_noted}
use Rattle.state_core.proofs.Quiet.{swept_ended}
use Rattle.state_core.proofs.Places.{CanChangePlace, IsTold, with_place, where_is, ways_of, valid_told}

-- what has to hold so that an address can be unmapped
pub record CanUnmap (v : ZoneState) (address : Address) (page frame : ℕ) : Type 0 where
  pub valid : IsValidZone v
  pub spare : length (out v.records) < v.room
  pub named : page_at v.records address ≡ Some page
  pub at : map.get v.placement page ≡ Some (At frame)
  pub unpinned : maps v.records page ≡ 1 → pins v.records page ≡ 0

module _ (v : ZoneState) (client : ℕ) (address : Address) (page frame : ℕ) (can : CanUnmap v address page frame) where
  -- the zone after the record of the unmap, with each page where it was
  abbrev after : ZoneState
  after = noted v (Unmap client address)

  pub named_here : (a : Address) → same_address a address ≡ true → page_at after.records a ≡ None
  named_here a e = cond-true (same_address a address) None (page_at v.records a) e

  pub named_there : (a : Address) → same_address a address ≡ false → page_at after.records a ≡ page_at v.records a
  named_there a e = cond-false (same_address a address) None (page_at v.records a) e

  maps_then : (q : ℕ) → maps after.records q + one_if (nat_eq page q) ≡ maps v.records q
  maps_then q = omega (
    arith,
    maps_changed v.records after.records address (named_in_range v can.valid address page can.named) named_there q,
    ap (λ (o : Option ℕ). one_if (is_page o q)) can.named,
    ap (λ (o : Option ℕ). one_if (is_page o q)) (named_here address (and_from _ _ (eq-eqb address.space address.space refl) (eq-eqb address.vpage address.vpage refl))),
  )

  pub maps_one_less : maps after.records page + 1 ≡ maps v.records page
  maps_one_less = omega (arith, maps_then page, ap one_if (eq-eqb page page refl))

  pub maps_others : (q : ℕ) → q ≢ page → maps after.records q ≡ maps v.records q
  maps_others q ne = omega (arith, maps_then q, ap one_if (ne_eqb page q (λ e. ne (sym e))))

  -- an address that names a page afterwards named it before
  named_before : (a : Address) (q : ℕ) → page_at after.records a ≡ Some q → page_at v.records a ≡ Some q
  named_before a q is = elim (cases_Bool (same_address a address)) [
    | inl here ↦ (let gone : None ≡ Some q = sym (named_here a here) ∙ is in cc)
    | inr there ↦ sym (named_there a there) ∙ is
  ]

  -- the zone stays valid where another address names the page
  pub valid_still : maps v.records page ≢ 1 → IsValidZone after
  valid_still more =
      let law = can.valid in
      valid_noted v law (Unmap client address) can.spare (record {
        truthful = law.journal.truthful;
        well_ended = law.journal.well_ended;
        named = λ a q is. law.agrees.named a q (named_before a q is);
        in_use = λ q used.
            let before = law.agrees.in_use q used in
            elim (eqb_tells q page) [
              | inl same ↦
                  (let fewer : maps after.records q + 1 ≡ maps v.records q = ap (λ (p : ℕ). maps after.records p + 1) same.1 ∙ maps_one_less ∙ ap (maps v.records) (sym same.1) in
                  let two : maps v.records q ≢ 1 = λ e. more (ap (maps v.records) (sym same.1) ∙ e) in
                  (omega (arith, before.0), omega (arith, before.1), before.2))
              | inr other ↦ (let same = maps_others q other.1 in (omega (arith, before.0), omega (arith, before.1), before.2))
            ];
        out = refl;
        ways = λ p serial. (λ way. way, λ way. way);
        handed = λ first. refl;
        marks = λ block. refl;
        pinned = law.loans.pinned;
        swept = swept_ended v after (Unmap client address) law refl refl refl;
      })

  -- the zone where the page is nowhere
  abbrev next : ZoneState
  next = with_place v page None

  pub can_unmap : maps v.records page ≡ 1 → CanChangePlace v page (Some (At frame)) None
  can_unmap one = record { valid = can.valid; at = can.at; numbered = can.valid.pages.numbered page (not_none _ (At frame) can.at); takes = λ g e. cc; elsewhere = λ serial source target e. cc }

  still_used : maps v.records page ≡ 1 → (q : ℕ) → q ≢ page → IsSome (map.get v.placement q) → IsSome (map.get next.placement q)
  still_used one q ne used = elim (where_is (can_unmap one) q) [ inl here ↦ absurd (ne here.0) | inr there ↦ ap is_some there.1 ∙ used ]

  was_used : maps v.records page ≡ 1 → (q : ℕ) → IsSome (map.get next.placement q) → (q ≢ page) × IsSome (map.get v.placement q)
  was_used one q used = elim (where_is (can_unmap one) q) [
    | inl here ↦ absurd (both_ways _ (ap is_some here.2) used)
    | inr there ↦ (there.0, ap is_some (sym there.1) ∙ used)
  ]

  -- no other address names the page
  pub none_left : maps v.records page ≡ 1 → (a : Address) (q : ℕ) → page_at after.records a ≡ Some q → q ≢ page
  none_left one a q is same =
      let range = named_in_range v can.valid a q (named_before a q is) in
      let some = maps_some after.records page a range (ap (λ (o : Option ℕ). is_page o page) is ∙ eq-eqb q page same) in
      absurd (omega (arith, maps_one_less))

  unmap_told : maps v.records page ≡ 1 → IsTold v page None (Unmap client address) (set.remove v.unmovable page)
  unmap_told one =
      let law = can.valid in
      let room = can.spare in
      record {
        truthful = law.journal.truthful;
        well_ended = law.journal.well_ended;
        spare = omega arith;
        room_left = omega arith;
        named = λ a q is. (let before = law.agrees.named a q (named_before a q is) in (before.0, still_used one q (none_left one a q is) before.1));
        in_use = λ q used.
            let was = was_used one q used in
            let before = law.agrees.in_use q was.1 in
            let same = maps_others q was.0 in
            (omega (arith, before.0), omega (arith, before.1), before.2);
        own_way = λ serial. (λ under. cc, λ way. absurd (both_ways _ (ap (λ o. is_under o serial) can.at) ((law.agrees.under_way page serial).1 way)));
        other_ways = λ q serial ne. (λ way. way, λ way. way);
        ways = ap (λ o. length (out v.records) + ways_of o) can.at;
        handed = λ first. refl;
        marks = λ block. refl;
        here = unpinned_here v can.valid page frame can.at (can.unpinned one);
        pins_kept = λ q lent. refl;
        stay = λ q e. elim (eqb_tells q page) [
          | inl same ↦ absurd (both_ways _ (contains_remove_same v.unmovable page q same.1) e)
          | inr other ↦ still_used one q other.1 (law.pages.unmovable q (sym (contains_remove_other v.unmovable page q other.1) ∙ e))
        ];
      }

  pub valid_gone : maps v.records page ≡ 1 → IsValidZone (without_page after page)
  valid_gone one = valid_told (can_unmap one) (Unmap client address) _ (unmap_told one) v.migrate v.free can.valid.fingers.ordered (swept_ended v (without_page after page) (Unmap client address) can.valid refl refl refl)

  -- the page of the address has one address exactly where the address is its last one
  pub is_last_by : is_last v address ≡ nat_eq (maps v.records page) 1
  is_last_by = ap (λ (o : Option ℕ). nat_eq (maps v.records (unwrap_or o 0)) 1) can.named

  pub unmapped_last : maps v.records page ≡ 1 → unmapped v client address ≡ without_page after page
  unmapped_last one = cond-true (is_last v address) _ after (is_last_by ∙ eq-eqb (maps v.records page) 1 one) ∙ ap (λ (o : Option ℕ). without_page after (unwrap_or o 0)) can.named

  pub unmapped_still : maps v.records page ≢ 1 → unmapped v client address ≡ after
  unmapped_still more = cond-false (is_last v address) _ after (is_last_by ∙ ne_eqb (maps v.records page) 1 more)

  pub valid_unmapped : IsValidZone (unmapped v client address)
  valid_unmapped = elim (eqb_tells (maps v.records page) 1) [
    | inl last ↦ subst IsValidZone (sym (unmapped_last last.1)) (valid_gone last.1)
    | inr more ↦ subst IsValidZone (sym (unmapped_still more.1)) (valid_still more.1)
  ]
