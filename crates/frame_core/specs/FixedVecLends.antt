-- What a fixed vector is after it lent its items to be written.
use Rattle.std.specs.Prelude.{ℕ, List}
use Rattle.std.specs.Borrow.{Lends, Fml, RattleType, MutBor, Array}
use Rattle.frame_core.specs.FixedVec.{FixedVec, with_item, with_items}
use Rattle.frame_core.specs.contracts.fixed_vec.FixedVec.{the_row}

module _ (T : RattleType) (v : MutBor (FixedVec T.Denot)) where
  -- the item at a place is the last one that was written through r
  abbrev pub lends_item : ℕ → MutBor T.Denot → Fml
  lends_item place r = Lends (the_row T) T v r (with_item v.now place)

  -- its items are the last ones that r shows
  abbrev pub lends_slice : MutBor (List T.Denot) → Fml
  lends_slice r = Lends (the_row T) (Array T 0) v r (with_items v.now)
