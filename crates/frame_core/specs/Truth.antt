-- What it means that the loads of a journal are true.
use Rattle.std.specs.Prelude.{◌≡◌, List, [], ◌∷◌, ⊤, IsSomeAnd}
use Rattle.frame_core.specs.declared.record.Record.{Record}
use Rattle.frame_core.specs.declared.record.Record.TheVariants.{Load}
use Rattle.frame_core.specs.History.{page_at, last}

-- each load gave the last value that was stored in that word of the page that its address named
abbrev pub IsTruthful : List Record → Type 0
IsTruthful [] = ⊤
IsTruthful (Load client address word value ∷ older) =
    IsSomeAnd (page_at older address) (λ page. value ≡ last older page word) × IsTruthful older
IsTruthful (_ ∷ older) = IsTruthful older
