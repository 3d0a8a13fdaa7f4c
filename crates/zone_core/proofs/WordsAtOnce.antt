-- A read and a write of several words leave the identity of a zone as it was.
use Rattle.std.proofs.Common.{◌≡◌, ℕ, zero, suc, ◌+◌, List, [], ◌∷◌, ap}
use Rattle.frame_core.specs.declared.place.Address.{Address}
use Rattle.state_core.specs.Access.{loaded, stored}
use Rattle.state_core.specs.Bulk.{loaded_all, stored_all}
use Rattle.state_core.specs.ZoneState.{ZoneState}
use Rattle.zone_core.specs.ZoneIdentity.{HasIdentity}

pub shape_loaded : (number blocks : ℕ) (z : ZoneState) (client : ℕ) (address : Address) (from count : ℕ) → HasIdentity number blocks z → HasIdentity number blocks (loaded_all z client address from count)
shape_loaded number blocks z client address from zero identity = identity
shape_loaded number blocks z client address from (suc count) identity = shape_loaded number blocks (loaded z client address from) client address (from + 1) count identity

pub shape_stored : (number blocks : ℕ) (z : ZoneState) (client : ℕ) (address : Address) (from : ℕ) (values : List ℕ) → HasIdentity number blocks z → HasIdentity number blocks (stored_all z client address from values)
shape_stored number blocks z client address from [] identity = identity
shape_stored number blocks z client address from (value ∷ values) identity = shape_stored number blocks (stored z client address from value) client address (from + 1) values identity

pub same_shape : (z w : ZoneState) → z ≡ w → HasIdentity w.number w.blocks z
same_shape z w same = (ap (λ (v : ZoneState). v.number) same, ap (λ (v : ZoneState). v.blocks) same)
