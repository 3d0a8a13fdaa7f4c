-- One pin more or less: nothing changes but how many pins the page has.
use Rattle.std.proofs.Common.{◌≡◌, ◌≢◌, ℕ, ◌+◌, ◌-◌, ◌<◌, true, length, inl, inr, refl, sym, ap, ◌∙◌, arith, Option, Some}
use Rattle.std.specs.FinMap as map
use Rattle.std.specs.FinSet as set
use Rattle.std.proofs.lemmas.Bool.{eq-eqb, ne_eqb}
use Rattle.std.proofs.lemmas.Bool.Decides.{eqb_tells}
use Rattle.frame_core.specs.Below.{one_if}
use Rattle.frame_core.specs.declared.place.Address.{Address}
use Rattle.frame_core.specs.declared.record.Record.TheVariants.{Pin, Unpin}
use Rattle.frame_core.specs.History.{page_at, is_page, pins}
use Rattle.frame_core.specs.Moves.{out}
use Rattle.state_core.specs.declared.placement.Placement.TheVariants.{At}
use Rattle.state_core.specs.Valid.{IsValidZone}
use Rattle.state_core.specs.Pinning.{pinned, unpinned}
use Rattle.state_core.specs.ZoneState.{ZoneState}
use Rattle.state_core.proofs.Noted.{valid_noted}
use Rattle.state_core.proofs.Quiet.{swept_ended}

module _ (v : ZoneState) (client : ℕ) (address : Address) (page : ℕ) (named : page_at v.records address ≡ Some page) where
  named_one : one_if (is_page (page_at v.records address) page) ≡ 1
  named_one = ap (λ (o : Option ℕ). one_if (is_page o page)) named ∙ ap one_if (eq-eqb page page refl)

  named_none : (q : ℕ) → q ≢ page → one_if (is_page (page_at v.records address) q) ≡ 0
  named_none q ne = ap (λ (o : Option ℕ). one_if (is_page o q)) named ∙ ap one_if (ne_eqb page q (λ e. ne (sym e)))

  pub pins_one_more : pins (pinned v client address).records page ≡ pins v.records page + 1
  pins_one_more = omega (arith, named_one)

  pub pins_one_less : pins (unpinned v client address).records page ≡ pins v.records page - 1
  pins_one_less = ap (λ n. pins v.records page - n) named_one

  pub pinned_others : (q : ℕ) → q ≢ page → pins (pinned v client address).records q ≡ pins v.records q
  pinned_others q ne = omega (arith, named_none q ne)

  pub unpinned_others : (q : ℕ) → q ≢ page → pins (unpinned v client address).records q ≡ pins v.records q
  unpinned_others q ne = omega (arith, named_none q ne)

  module _ (law : IsValidZone v) (spare : length (out v.records) < v.room) where
    pub valid_pinned : pins v.records page < 255 → IsValidZone (pinned v client address)
    valid_pinned few = valid_noted v law (Pin client address) spare (record {
      truthful = law.journal.truthful;
      well_ended = law.journal.well_ended;
      named = law.agrees.named;
      in_use = λ q used.
          let before = law.agrees.in_use q used in
          elim (eqb_tells q page) [
            | inl same ↦ (before.0, before.1, omega (arith, ap (pins (pinned v client address).records) same.1, pins_one_more))
            | inr other ↦ (before.0, before.1, omega (arith, pinned_others q other.1, before.2))
          ];
      out = refl;
      ways = λ p serial. (λ way. way, λ way. way);
      handed = λ first. refl;
      marks = λ block. refl;
      pinned = λ q frame lent rests. (let some = law.loans.pinned q frame lent rests in elim (eqb_tells q page) [
        | inl same ↦ omega (arith, ap (pins (pinned v client address).records) same.1, pins_one_more)
        | inr other ↦ omega (arith, pinned_others q other.1, some)
      ]);
      swept = swept_ended v (pinned v client address) (Pin client address) law refl refl refl;
    })

    pub valid_unpinned : ((frame : ℕ) → map.get v.placement page ≡ Some (At frame) → set.contains v.lent_pages page ≡ true → 1 < pins v.records page) → IsValidZone (unpinned v client address)
    valid_unpinned keeps = valid_noted v law (Unpin client address) spare (record {
      truthful = law.journal.truthful;
      well_ended = law.journal.well_ended;
      named = law.agrees.named;
      in_use = λ q used. (let before = law.agrees.in_use q used in (before.0, before.1, omega (arith, before.2)));
      out = refl;
      ways = λ p serial. (λ way. way, λ way. way);
      handed = λ first. refl;
      marks = λ block. refl;
      pinned = λ q frame lent rests. (let some = law.loans.pinned q frame lent rests in elim (eqb_tells q page) [
        | inl same ↦
            (let more = keeps frame (ap (map.get v.placement) (sym same.1) ∙ rests) (ap (set.contains v.lent_pages) (sym same.1) ∙ lent) in
            omega (arith, ap (pins (unpinned v client address).records) same.1, pins_one_less, more))
        | inr other ↦ omega (arith, unpinned_others q other.1, some)
      ]);
      swept = swept_ended v (unpinned v client address) (Unpin client address) law refl refl refl;
    })
