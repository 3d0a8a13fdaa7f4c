-- Each call that a client makes leaves a move whose words are lent as it is, and the shape of the zone too.
use Rattle.std.proofs.Common.{◌≡◌, ℕ, Bool, true, false, cond, refl, Option, Some, None}
use Rattle.std.specs.Prelude.{IsSome, unwrap_or}
use Rattle.frame_core.specs.declared.place.Address.{Address}
use Rattle.frame_core.specs.Moves.{isolated}
use Rattle.state_core.specs.declared.call.ZoneCall.{ZoneCall}
use Rattle.state_core.specs.declared.call.ZoneCall.TheVariants.{Map, MapAt, Store, Unmap}
use Rattle.state_core.specs.Calls.{refusal_of, after}
use Rattle.state_core.specs.LentMoves.{LentMove, IsLentMove}
use Rattle.state_core.specs.Mapping.{mapped, placed}
use Rattle.state_core.specs.Unmapping.{is_last}
use Rattle.state_core.specs.Valid.{IsValidZone}
use Rattle.state_core.specs.ZoneState.{ZoneState, lowest_free_frame, lowest_unused_page}
use Rattle.state_core.proofs.Accepted.{at_address, frame_left, frame_left_at}
use Rattle.state_core.proofs.Finding.{unused_is, unused_left}
use Rattle.state_core.proofs.LentMoves.{lent_kept, lent_placed, lent_stored, lent_unmapped}

module _ (z : ZoneState) (law : IsValidZone z) (m : LentMove) (its : IsLentMove z m) (client : ℕ) where
  lent_mapped : (address : Address) (unmovable : Bool) (frame : ℕ) → IsSome (lowest_free_frame z) → IsLentMove (mapped z client address unmovable frame) m
  lent_mapped address unmovable frame free = by_page (lowest_unused_page z) refl where
    by_page : (o : Option ℕ) → lowest_unused_page z ≡ o → IsLentMove (placed z client address unmovable (unwrap_or o 0) frame) m
    by_page None none = absurd (unused_left z law free none)
    by_page (Some page) unused = lent_placed z m its client address unmovable page frame (unused_is z page unused).1

  pub lent_called : {W : ℕ} (call : ZoneCall W) → refusal_of call z ≡ None → IsLentMove (after call client z) m
  lent_called (Map address unmovable) accepted = lent_mapped address unmovable _ (frame_left z address accepted)
  lent_called (MapAt address unmovable frame) accepted = lent_mapped address unmovable frame (frame_left_at z address frame accepted)
  lent_called (Store address word value) accepted = let at = at_address z address _ accepted in lent_stored z m its client address word value at.0 at.1
  lent_called (Unmap address) accepted = let at = at_address z address _ accepted in lent_unmapped z m its client address at.0 at.1
  lent_called call accepted = lent_kept z (after call client z) m refl refl refl refl (λ w. refl) its

-- where the memory of the zone is, how large its pages are, and how many were isolated
pub record IsShaped (z next : ZoneState) : Type 0 where
  pub memory : next.memory ≡ z.memory
  pub page_size : next.page_size ≡ z.page_size
  pub isolated : isolated next.records ≡ isolated z.records

by_last : (P : ZoneState → Type 0) (b : Bool) (gone still : ZoneState) → P gone → P still → P (cond b gone still)
by_last P true gone still last more = last
by_last P false gone still last more = more

pub shape_called : {W : ℕ} (call : ZoneCall W) (client : ℕ) (z : ZoneState) → IsShaped z (after call client z)
shape_called (Unmap address) client z = by_last (IsShaped z) (is_last z address) _ _ (record { memory = refl; page_size = refl; isolated = refl }) (record { memory = refl; page_size = refl; isolated = refl })
shape_called call client z = record { memory = refl; page_size = refl; isolated = refl }
