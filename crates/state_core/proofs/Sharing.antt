-- A second address for a page: each other page has as many addresses as before, and this one has one more.
use Rattle.std.proofs.Common.{◌≡◌, ◌≢◌, ℕ, ◌+◌, ◌<◌, true, false, length, inl, inr, refl, sym, ap, subst, ◌∙◌, arith, nat_eq, Option, Some, None}
use Rattle.std.specs.FinMap as map
use Rattle.std.proofs.lemmas.Bool.{and_from, cases_Bool, cond-true, cond-false, eq-eqb, ne_eqb}
use Rattle.std.proofs.lemmas.Bool.Decides.{eqb_tells}
use Rattle.frame_core.specs.Address.{InTable}
use Rattle.frame_core.specs.Below.{one_if}
use Rattle.frame_core.specs.declared.place.Address.{Address}
use Rattle.frame_core.proofs.Maps.{one_address, maps_changed}
use Rattle.frame_core.specs.declared.record.Record.TheVariants.{Share}
use Rattle.frame_core.specs.History.{same_address, page_at, is_page, maps}
use Rattle.frame_core.specs.Moves.{out}
use Rattle.state_core.specs.declared.placement.Placement.TheVariants.{At}
use Rattle.state_core.specs.Valid.{IsValidZone}
use Rattle.state_core.specs.Sharing.{shared}
use Rattle.state_core.specs.ZoneState.{ZoneState}
use Rattle.state_core.proofs.Facts.{in_range}
use Rattle.state_core.proofs.Noted.{valid_noted}
use Rattle.state_core.proofs.Quiet.{swept_ended}

-- what has to hold so that an alias can name the page of an address
pub record CanShare (v : ZoneState) (address alias : Address) (page frame : ℕ) : Type 0 where
  pub valid : IsValidZone v
  pub spare : length (out v.records) < v.room
  pub named : page_at v.records address ≡ Some page
  pub at : map.get v.placement page ≡ Some (At frame)
  pub inside : InTable v.spaces v.vpages alias
  pub vacant : page_at v.records alias ≡ None
  pub few : maps v.records page < 4

module _ (v : ZoneState) (client : ℕ) (address alias : Address) (page frame : ℕ) (can : CanShare v address alias page frame) where
  abbrev next : ZoneState
  next = shared v client address alias

  -- names after the share
  pub named_here : (a : Address) → same_address a alias ≡ true → page_at next.records a ≡ Some page
  named_here a e = cond-true (same_address a alias) (page_at v.records address) (page_at v.records a) e ∙ can.named

  pub named_there : (a : Address) → same_address a alias ≡ false → page_at next.records a ≡ page_at v.records a
  named_there a e = cond-false (same_address a alias) (page_at v.records address) (page_at v.records a) e

  maps_then : (q : ℕ) → maps next.records q ≡ maps v.records q + one_if (nat_eq page q)
  maps_then q = omega (
    arith,
    maps_changed v.records next.records alias (in_range v can.valid alias can.inside) named_there q,
    ap (λ (o : Option ℕ). one_if (is_page o q)) can.vacant,
    ap (λ (o : Option ℕ). one_if (is_page o q)) (named_here alias (and_from _ _ (eq-eqb alias.space alias.space refl) (eq-eqb alias.vpage alias.vpage refl))),
  )

  pub maps_one_more : maps next.records page ≡ maps v.records page + 1
  maps_one_more = omega (arith, maps_then page, ap one_if (eq-eqb page page refl))

  pub maps_others : (q : ℕ) → q ≢ page → maps next.records q ≡ maps v.records q
  maps_others q ne = omega (arith, maps_then q, ap one_if (ne_eqb page q (λ e. ne (sym e))))

  pub valid_shared : IsValidZone next
  valid_shared =
      let law = can.valid in
      valid_noted v law (Share client address alias) can.spare (record {
        truthful = law.journal.truthful;
        well_ended = law.journal.well_ended;
        named = λ a q is. elim (cases_Bool (same_address a alias)) [
          | inl here ↦ (subst (InTable v.spaces v.vpages) (sym (one_address a alias here)) can.inside, (law.agrees.named address q (can.named ∙ sym (named_here a here) ∙ is)).1)
          | inr there ↦ law.agrees.named a q (sym (named_there a there) ∙ is)
        ];
        in_use = λ q used.
            let before = law.agrees.in_use q used in
            elim (eqb_tells q page) [
              | inl same ↦
                  (let more : maps next.records q ≡ maps v.records q + 1 = ap (maps next.records) same.1 ∙ maps_one_more ∙ ap (λ (p : ℕ). maps v.records p + 1) (sym same.1) in
                  let few : maps v.records q < 4 = omega (arith, ap (maps v.records) same.1, can.few) in
                  (omega arith, omega arith, before.2))
              | inr other ↦ (let same = maps_others q other.1 in (omega (arith, before.0), omega (arith, before.1), before.2))
            ];
        out = refl;
        ways = λ p serial. (λ way. way, λ way. way);
        handed = λ first. refl;
        marks = λ block. refl;
        pinned = law.loans.pinned;
        swept = swept_ended v next (Share client address alias) law refl refl refl;
      })
