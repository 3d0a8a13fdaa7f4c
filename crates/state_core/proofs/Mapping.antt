-- A fresh page gets its first place: a free frame.
use Rattle.std.proofs.Common.{◌≡◌, ◌≢◌, ℕ, ◌+◌, ◌<◌, Bool, true, false, length, inl, inr, refl, sym, ap, subst, ◌∙◌, arith, if◌then◌else◌, Option, Some, None, IsSome, is_some, nat_eq}
use Rattle.std.specs.FinMap as map
use Rattle.std.specs.FinSet as set
use Rattle.std.proofs.lemmas.Bool.{and_from, both_ways, cases_Bool, cond-true, cond-false, eq-eqb, eqb-true, false_from_ne_true, ne_eqb}
use Rattle.std.proofs.lemmas.Option.{same_Some}
use Rattle.frame_core.specs.Address.{InTable}
use Rattle.frame_core.specs.Below.{one_if}
use Rattle.frame_core.specs.declared.place.Address.{Address}
use Rattle.frame_core.proofs.Maps.{one_address, maps_changed, maps_none}
use Rattle.frame_core.specs.declared.record.Record.TheVariants.{Map}
use Rattle.frame_core.specs.History.{same_address, page_at, is_page, names, maps, pins}
use Rattle.frame_core.specs.Moves.{out}
use Rattle.state_core.specs.declared.placement.Placement.TheVariants.{At}
use Rattle.state_core.specs.Valid.{IsValidZone, is_under}
use Rattle.state_core.specs.Mapping.{placed}
use Rattle.state_core.specs.ZoneState.{ZoneState, frame_count, is_free}
use Rattle.state_core.proofs.Entries.{contains_insert_other}
use Rattle.state_core.proofs.Facts.{in_range}
use Rattle.state_core.proofs.Quiet.{swept_ended}
use Rattle.state_core.proofs.Places as places
use Rattle.state_core.proofs.Places.{CanChangePlace, IsTold, put, page_count, valid_told}

-- what has to hold so that a fresh page can be placed
pub record CanPlace (v : ZoneState) (address : Address) (page frame : ℕ) : Type 0 where
  pub valid : IsValidZone v
  pub spare : length (out v.records) < v.room
  pub inside : InTable v.spaces v.vpages address
  pub vacant : page_at v.records address ≡ None
  pub unused : map.get v.placement page ≡ None
  pub numbered : page < frame_count v
  pub free : is_free v frame ≡ true
  pub within : frame < frame_count v

pub clash : {A : Type 0} (o : Option A) → o ≡ None → IsSome o → ⊥
clash o e used = both_ways _ (ap is_some e) used

module _ (v : ZoneState) (client : ℕ) (address : Address) (unmovable : Bool) (page frame : ℕ) (can : CanPlace v address page frame) where
  abbrev next : ZoneState
  next = placed v client address unmovable page frame

  -- the words of a page that isn't in use aren't lent
  pub fresh_here : set.contains v.lent_pages page ≡ false
  fresh_here = false_from_ne_true _ (λ lent. clash _ can.unused (can.valid.loans.used page lent))

  pub can_map : CanChangePlace v page None (Some (At frame))
  can_map = record {
    valid = can.valid;
    at = can.unused;
    numbered = can.numbered;
    takes = λ g e. (let same : frame ≡ g = sym (eqb-true g frame e) in let within = can.within in inr (ap (is_free v) (sym same) ∙ can.free, omega arith));
    elsewhere = λ serial source target e. cc;
  }

  -- placements after a fresh page was placed
  pub at_page : map.get next.placement page ≡ Some (At frame)
  at_page = places.at_page can_map

  pub at_other : (q : ℕ) → q ≢ page → map.get next.placement q ≡ map.get v.placement q
  at_other = places.at_other can_map

  -- names after a fresh page was placed
  pub named_here : (b : Address) → same_address b address ≡ true → page_at next.records b ≡ Some page
  named_here b e = cond-true (same_address b address) (Some page) (page_at v.records b) e

  pub named_there : (b : Address) → same_address b address ≡ false → page_at next.records b ≡ page_at v.records b
  named_there b e = cond-false (same_address b address) (Some page) (page_at v.records b) e

  -- a page in use isn't the fresh one
  used_apart : (q : ℕ) → IsSome (map.get v.placement q) → q ≢ page
  used_apart q used same = clash _ can.unused (ap (λ (p : ℕ). is_some (map.get v.placement p)) (sym same) ∙ used)

  -- no address named the fresh page
  unnamed : (b : Address) → names v.records b page ≡ false
  unnamed b = by_name (page_at v.records b) refl where
    by_name : (o : Option ℕ) → page_at v.records b ≡ o → is_page (page_at v.records b) page ≡ false
    by_name None e = ap (λ (p : Option ℕ). is_page p page) e
    by_name (Some q) e = ap (λ (p : Option ℕ). is_page p page) e ∙ ne_eqb q page (used_apart q (can.valid.agrees.named b q e).1)

  -- one more address names the fresh page, and each other page has as many as before
  maps_changed_by : (q : ℕ) → maps next.records q ≡ maps v.records q + one_if (nat_eq page q)
  maps_changed_by q = omega (
    arith,
    maps_changed v.records next.records address (in_range v can.valid address can.inside) named_there q,
    ap (λ (o : Option ℕ). one_if (is_page o q)) can.vacant,
    ap (λ (o : Option ℕ). one_if (is_page o q)) (named_here address (and_from _ _ (eq-eqb address.space address.space refl) (eq-eqb address.vpage address.vpage refl))),
  )

  pub maps_one : maps next.records page ≡ 1
  maps_one = omega (arith, maps_changed_by page, maps_none v.records page unnamed, ap one_if (eq-eqb page page refl))

  pub maps_others : (q : ℕ) → q ≢ page → maps next.records q ≡ maps v.records q
  maps_others q ne = omega (arith, maps_changed_by q, ap one_if (ne_eqb page q (λ e. ne (sym e))))

  pub pins_none : pins next.records page ≡ 0
  pins_none = cond-true (nat_eq page page) 0 (pins v.records page) (eq-eqb page page refl)

  pub pins_others : (q : ℕ) → q ≢ page → pins next.records q ≡ pins v.records q
  pins_others q ne = cond-false (nat_eq page q) 0 (pins v.records q) (ne_eqb page q (λ e. ne (sym e)))

  -- the pages in use are the fresh one and those that were in use
  page_used : (q : ℕ) → q ≡ page → IsSome (map.get next.placement q)
  page_used q same = ap (λ (p : ℕ). is_some (map.get next.placement p)) same ∙ ap is_some at_page

  still_used : (q : ℕ) → IsSome (map.get v.placement q) → IsSome (map.get next.placement q)
  still_used q used = ap is_some (at_other q (used_apart q used)) ∙ used

  stay : (b : Bool) (q : ℕ) → set.contains (if b then set.insert v.unmovable page else v.unmovable) q ≡ true → IsSome (map.get next.placement q)
  stay false q e = still_used q (can.valid.pages.unmovable q e)
  stay true q e = elim (places.where_is can_map q) [
    | inl here ↦ page_used q here.0
    | inr there ↦ still_used q (can.valid.pages.unmovable q (sym (contains_insert_other v.unmovable page q there.0) ∙ e))
  ]

  map_told : IsTold v page (Some (At frame)) (Map client address page) (if unmovable then set.insert v.unmovable page else v.unmovable)
  map_told =
      let law = can.valid in
      let room = can.spare in
      record {
        truthful = law.journal.truthful;
        well_ended = law.journal.well_ended;
        spare = omega arith;
        room_left = omega arith;
        named = λ b q is. elim (cases_Bool (same_address b address)) [
          | inl here ↦ (subst (InTable v.spaces v.vpages) (sym (one_address b address here)) can.inside, page_used q (same_Some q page (sym is ∙ named_here b here)))
          | inr there ↦ (let before = law.agrees.named b q (sym (named_there b there) ∙ is) in (before.0, still_used q before.1))
        ];
        in_use = λ q used. elim (places.where_is can_map q) [
          | inl here ↦
              (let one : maps next.records q ≡ 1 = ap (maps next.records) here.0 ∙ maps_one in
              let none : pins next.records q ≡ 0 = ap (pins next.records) here.0 ∙ pins_none in
              (omega arith, omega arith, omega arith))
          | inr there ↦
              (let before = law.agrees.in_use q (ap is_some (sym there.1) ∙ used) in
              let same = maps_others q there.0 in
              let kept = pins_others q there.0 in
              (omega (arith, before.0), omega (arith, before.1), omega (arith, before.2)))
        ];
        own_way = λ serial. (λ under. cc, λ way. absurd (both_ways _ (ap (λ o. is_under o serial) can.unused) ((law.agrees.under_way page serial).1 way)));
        other_ways = λ q serial ne. (λ way. way, λ way. way);
        ways = ap (λ o. length (out v.records) + places.ways_of o) can.unused;
        handed = λ first. refl;
        marks = λ block. refl;
        here = fresh_here;
        pins_kept = λ q lent. pins_others q (λ same. both_ways _ fresh_here (ap (set.contains v.lent_pages) (sym same) ∙ lent));
        stay = stay unmovable;
      }

  pub placed_valid : IsValidZone next
  placed_valid = valid_told can_map (Map client address page) _ map_told v.migrate v.free can.valid.fingers.ordered (swept_ended v next (Map client address page) can.valid refl refl refl)
