-- Requests for many pages: each has its turn, one after the other, and gets the answer of the call that it stands for.
use Rattle.std.specs.Prelude.{◌≡◌, ℕ, not, ◌&&◌, nat_eq, is_some, if◌then◌else◌, unwrap_or, List, [], ◌∷◌, Option, Some, None}
use Rattle.std.specs.List.{fold}
use Rattle.frame_core.specs.declared.place.Address.{Address}
use Rattle.state_core.specs.Mapping.{map_refusal, mapped}
use Rattle.state_core.specs.Unmapping.{unmap_refusal, unmapped}
use Rattle.state_core.specs.ZoneState.{ZoneState, frame_for}
use Rattle.state_core.specs.declared.error.ZoneError.{ZoneError}
use Rattle.compactd_c.specs.Answers.{left, number_for}
use Rattle.compactd_c.specs.Ranges.{address_of, is_address, is_client, ranged}
use Rattle.compactd_c.specs.declared.batches.Change.{Change}
use Rattle.compactd_c.specs.declared.batches.Change.TheVariants.{Map, Unmap}
use Rattle.compactd_c.specs.declared.batches.PageRequest.{PageRequest}

-- the address of a request
abbrev pub address_in : PageRequest → Address
address_in request = address_of request.space request.vpage

-- the frame that a request gets for a fresh page
abbrev pub fresh_frame : ZoneState → PageRequest → ℕ
fresh_frame z request = unwrap_or (frame_for z (not (nat_eq request.unmovable 0))) 0

-- why a change is refused, if it is
abbrev pub change_refusal : Change → ZoneState → PageRequest → Option ZoneError
change_refusal Map z request = map_refusal z (address_in request)
change_refusal Unmap z request = unmap_refusal z (address_in request)

-- the zone after a change, and the frame that the request has then
abbrev pub changed : ℕ → Change → ZoneState → PageRequest → ZoneState
changed client Map z request = mapped z client (address_in request) (not (nat_eq request.unmovable 0)) (fresh_frame z request)
changed client Unmap z request = unmapped z client (address_in request)

abbrev pub frame_after : Change → ZoneState → PageRequest → ℕ
frame_after Map z request = fresh_frame z request
frame_after Unmap z request = request.frame

-- why a request is refused, if it is
abbrev pub refusal_at : ℕ → Change → ZoneState → PageRequest → Option ZoneError
refusal_at client change z request = ranged (is_client client && is_address request.space request.vpage) (change_refusal change z request)

-- the zone after the turn of a request: as it was where this is refused
abbrev pub after_turn : ℕ → Change → ZoneState → PageRequest → ZoneState
after_turn client change z request =
    if is_some (refusal_at client change z request) then z else changed client change z request

-- the zone after the turns of all
abbrev pub after_turns : ℕ → Change → ZoneState → List PageRequest → ZoneState
after_turns client change z requests = fold (after_turn client change) z requests

-- the frame that a request has after its turn: that of the page that was mapped, and else what was there before
abbrev pub frame_at : ℕ → Change → ZoneState → PageRequest → ℕ
frame_at client change z request =
    if is_some (refusal_at client change z request) then request.frame else frame_after change z request

-- a request with its answer
abbrev pub answered : ℕ → Change → ZoneState → PageRequest → PageRequest
answered client change z request =
    record request { frame = frame_at client change z request; status = number_for (refusal_at client change z request) }

-- all requests with their answers, each by the zone at its turn
abbrev pub all_answered : ℕ → Change → ZoneState → List PageRequest → List PageRequest
all_answered client change z [] = []
all_answered client change z (request ∷ requests) =
    answered client change z request ∷ all_answered client change (after_turn client change z request) requests

-- the number of the first refusal, or 0 where there is none
abbrev pub first_refusal : List PageRequest → ℕ
first_refusal [] = 0
first_refusal (request ∷ requests) = if nat_eq request.status 0 then first_refusal requests else request.status

-- all requests to a pool had their turns, and C gets the number of the first refusal; nothing is changed where the pool is closed
pub record IsBatch (client : ℕ) (change : Change) (old new : Option ZoneState) (asked got : List PageRequest) (number : ℕ) : Type 0 where
  pub closed : old ≡ None → (number ≡ 51) × (got ≡ asked)
  pub answer : (z : ZoneState) → old ≡ Some z → number ≡ first_refusal got
  pub zone : new ≡ left old (λ z. None) (λ z. after_turns client change z asked)
  pub requests : (z : ZoneState) → old ≡ Some z → got ≡ all_answered client change z asked
