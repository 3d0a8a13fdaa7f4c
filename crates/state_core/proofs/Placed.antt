-- The names under which other crates cite the facts about a fresh page that was placed.
pub use Rattle.std.proofs.lemmas.Bool.{both_ways as untrue}
pub use Rattle.state_core.proofs.Mapping.{CanPlace, clash, placed_valid, at_page, at_other, named_here, named_there, maps_one, maps_others, pins_none, pins_others}
