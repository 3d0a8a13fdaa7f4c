-- Runs of frames that workers empty.
use Rattle.std.specs.Prelude.{◌≡◌, refl, ℕ, true, List, All}
use Rattle.std.specs.Coded.{Coded, code_by, coded×, coded_list, coded_ℕ}
use Rattle.state_core.specs.HandingOut.{is_block_start}

-- runs of an order that are to be emptied, by their first frames, the next one first
pub record Runs : Type 0 where
  pub order : ℕ
  pub left : List ℕ

-- it is stored as the pair of its fields
abbrev pub runs_code : Coded Runs
runs_code = code_by (ℕ × List ℕ) (coded× coded_ℕ (coded_list coded_ℕ)) (λ r. (r.order, r.left)) (λ p. record { order = p.0; left = p.1 }) (λ _. refl)

-- a block of their order may begin at each of these runs, in a zone of so many frames
abbrev pub AreBlocks : ℕ → Runs → Type 0
AreBlocks frames runs = All (λ first. is_block_start frames runs.order first ≡ true) runs.left
