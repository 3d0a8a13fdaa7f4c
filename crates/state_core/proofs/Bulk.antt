-- A read and a write of several words make no pair.
use Rattle.std.proofs.Common.{ℕ, zero, suc, ◌+◌, List, [], ◌∷◌}
use Rattle.frame_core.specs.declared.place.Address.{Address}
use Rattle.state_core.specs.Access.{loaded, stored}
use Rattle.state_core.specs.Bulk.{loaded_all, stored_all}
use Rattle.state_core.specs.Pairs.{HaveMet}
use Rattle.state_core.specs.ZoneState.{ZoneState}
use Rattle.state_core.proofs.StaysMet.{met_loaded, met_stored}

pub met_loaded_all : (v : ZoneState) (client : ℕ) (address : Address) (from count : ℕ) → HaveMet v → HaveMet (loaded_all v client address from count)
met_loaded_all v client address from zero met = met
met_loaded_all v client address from (suc count) met = met_loaded_all (loaded v client address from) client address (from + 1) count (met_loaded v client address from met)

pub met_stored_all : (v : ZoneState) (client : ℕ) (address : Address) (from : ℕ) (values : List ℕ) → HaveMet v → HaveMet (stored_all v client address from values)
met_stored_all v client address from [] met = met
met_stored_all v client address from (value ∷ values) met = met_stored_all (stored v client address from value) client address (from + 1) values (met_stored v client address from value met)
