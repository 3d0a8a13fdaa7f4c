-- The items of a list that exists in the proofs alone.
use Rattle.std.specs.Prelude.{List, [], ◌∷◌}
use Rattle.frame_core.specs.declared.ghost_list.Past.{Past, Nothing, After', Same'}

-- the items of a list, by how it came to be, the newest first
abbrev pub items_of : {T : Type 0} → Past T → List T
items_of Nothing = []
items_of (After' item marker before) = item.value ∷ items_of before
items_of (Same' marker within before) = items_of before
