-- The calls of a series, one after the other.
use Rattle.std.proofs.Common.{◌≡◌, ◌∙◌, ℕ, zero, suc, ◌+◌, ◌-◌, ◌^◌, ◌≤◌, inl, inr, refl, sym, ap, arith}
use Rattle.std.specs.Prelude.{Bool, Option, Some, None, ◌&&◌, if◌then◌else◌, min, nat_lt}
use Rattle.std.proofs.lemmas.Bool.Decides.{leb_tells}
use Rattle.std.proofs.lemmas.Bool.{le-ltb}
use Rattle.std.proofs.Math.Bool.{and-false}
use Rattle.frame_core.specs.declared.place.Address.{Address}
use Rattle.machine_core.specs.World.{WorldState}
use Rattle.text_core.specs.declared.command.Repeated.{Repeated}
use Rattle.text_core.specs.declared.reply.Reply.TheVariants as reply
use Rattle.text_core.specs.Grammar.{address_of}
use Rattle.machine_core.specs.Machine.{Answered, page_step, says, series_from, unless_refused}

module _ (c : Repeated) (s v further done n m : ℕ) (w after : WorldState) (left : n ≡ suc m) where
  first_call : series_from c s v further done n w
      ≡ (let a = page_step c w (address_of s v) in unless_refused done a.reply a.world (series_from c s (v + further) further (done + 1) m a.world))
  first_call = ap (λ (k : ℕ). series_from c s v further done k w) left

  -- a call of a series is accepted
  pub series_from-on : record { reply = reply.Done; world = after } ≡ page_step c w (address_of s v)
      → series_from c s v further done n w ≡ series_from c s (v + further) further (done + 1) m after
  series_from-on told =
      first_call ∙ ap (λ (a : Answered). unless_refused done a.reply a.world (series_from c s (v + further) further (done + 1) m a.world)) (sym told)

  -- a call of a series is refused
  pub series_from-ends : (number : ℕ) → record { reply = reply.Refused number; world = after } ≡ page_step c w (address_of s v)
      → series_from c s v further done n w ≡ says (reply.DoneUntil done number) after
  series_from-ends number told =
      first_call ∙ ap (λ (a : Answered). unless_refused done a.reply a.world (series_from c s (v + further) further (done + 1) m a.world)) (sym told)

-- no space has such a page
no_page : (s v : ℕ) → 4096 ≤ v → address_of s v ≡ None
no_page s v far =
    let page : Bool → Option Address = λ is. if is then Some (record { space = s; vpage = v }) else None in
    ap (λ (is : Bool). page (nat_lt s 8 && is)) (le-ltb v 4096 far) ∙ ap page (and-false (nat_lt s 8))

-- so a series that goes on beyond the pages of a space ends at once, at whatever number
beyond : (c : Repeated) (s v other further done n : ℕ) (w : WorldState) → 4096 ≤ v → 4096 ≤ other
    → series_from c s v further done n w ≡ series_from c s other further done n w
beyond c s v other further done zero w far far_too = refl
beyond c s v other further done (suc n) w far far_too =
    series_from-ends c s v further done (suc n) n w w refl 1 (ap (page_step c w) (sym (no_page s v far)))
    ∙ sym (series_from-ends c s other further done (suc n) n w w refl 1 (ap (page_step c w) (sym (no_page s other far_too))))

-- the largest number of the type stands for a next page that doesn't fit
pub series_from-saturated : (c : Repeated) (s v further done n page : ℕ) (w : WorldState) → page ≡ min (v + further) (2 ^ 64 - 1)
    → series_from c s page further done n w ≡ series_from c s (v + further) further done n w
series_from-saturated c s v further done n page w is = elim (leb_tells (v + further) (2 ^ 64 - 1)) [
  | inl fits ↦ ap (λ (next : ℕ). series_from c s next further done n w) (omega (arith, is, fits.1))
  | inr large ↦ beyond c s page (v + further) further done n w (omega (arith, is, large.1)) (omega (arith, large.1))
]
