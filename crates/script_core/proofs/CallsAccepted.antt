-- What an accepted call found in a valid zone.
use Rattle.std.proofs.Common.{◌≡◌, ℕ, Bool, refl, ap, Option, Some, None}
use Rattle.std.specs.Prelude.{IsSome, unwrap_or}
use Rattle.std.specs.FinMap as map
use Rattle.frame_core.specs.declared.place.Address.{Address}
use Rattle.frame_core.specs.History.{page_at}
use Rattle.state_core.specs.declared.placement.Placement.TheVariants.{At}
use Rattle.state_core.specs.Access.{access_refusal}
use Rattle.state_core.specs.Valid.{IsValidZone}
use Rattle.state_core.specs.Mapping.{mapped, placed}
use Rattle.state_core.specs.ZoneState.{ZoneState, lowest_free_frame, lowest_unused_page}
use Rattle.state_core.proofs.Accepted.{at_address}
use Rattle.state_core.proofs.Facts.{page_named}
use Rattle.state_core.proofs.Finding.{unused_is, unused_left}

-- the number of a fresh page, which names no page yet
pub record Fresh (z : ZoneState) (page : ℕ) : Type 0 where
  pub is : lowest_unused_page z ≡ Some page
  pub unused : map.get z.placement page ≡ None

pub fresh_number : (z : ZoneState) → IsValidZone z → IsSome (lowest_free_frame z) → (page : ℕ) × Fresh z page
fresh_number z law free = by_page (lowest_unused_page z) refl where
  by_page : (o : Option ℕ) → lowest_unused_page z ≡ o → (page : ℕ) × Fresh z page
  by_page None none = absurd (unused_left z law free none)
  by_page (Some page) is = (page, record { is = is; unused = (unused_is z page is).1 })

pub mapped_is : (z : ZoneState) (address : Address) (unmovable : Bool) (frame page : ℕ) → Fresh z page → mapped z 0 address unmovable frame ≡ placed z 0 address unmovable page frame
mapped_is z address unmovable frame page fresh = ap (λ (o : Option ℕ). placed z 0 address unmovable (unwrap_or o 0) frame) fresh.is

-- the page that an accepted load finds
pub accessed_page : (z : ZoneState) (address : Address) → access_refusal z address ≡ None → (page : ℕ) × (page_at z.records address ≡ Some page)
accessed_page z address accepted =
    let at = at_address z address _ accepted in
    let page = page_named z address (At at.0) at.1 in
    (page.0, page.1)
