-- What contracts see of a ground, of a row and of a half.
use Rattle.std.specs.Prelude.{refl, ℕ, Bool, List}
use Rattle.std.specs.Coded.{Coded, code_by, coded×, coded_list, coded_ℕ, coded_bool}
use denote.RawPtr.{Ptr, coded_ptr}

-- of a ground: where its words lie, the words, which of them are here (of one that is lent out it has some value), and whether its
-- memory is a row that was given
pub record Ground : Type 0 where
  pub at : Ptr
  pub words : List ℕ
  pub here : List Bool
  pub given : Bool

-- of a row: where its words lie, and the words
pub record Row : Type 0 where
  pub at : Ptr
  pub words : List ℕ

-- of a half: where the words lie, the words, and whether it is the first half of the right to them
pub record Half : Type 0 where
  pub at : Ptr
  pub words : List ℕ
  pub is_first : Bool

-- each is stored as the pair of its fields
abbrev pub ground_code : Coded Ground
ground_code = code_by (Ptr × (List ℕ × (List Bool × Bool))) (coded× coded_ptr (coded× (coded_list coded_ℕ) (coded× (coded_list coded_bool) coded_bool))) (λ g. (g.at, (g.words, (g.here, g.given)))) (λ p. record { at = p.0; words = p.1.0; here = p.1.1.0; given = p.1.1.1 }) (λ _. refl)

abbrev pub row_code : Coded Row
row_code = code_by (Ptr × List ℕ) (coded× coded_ptr (coded_list coded_ℕ)) (λ r. (r.at, r.words)) (λ p. record { at = p.0; words = p.1 }) (λ _. refl)

abbrev pub half_code : Coded Half
half_code = code_by (Ptr × (List ℕ × Bool)) (coded× coded_ptr (coded× (coded_list coded_ℕ) coded_bool)) (λ h. (h.at, (h.words, h.is_first))) (λ p. record { at = p.0; words = p.1.0; is_first = p.1.1 }) (λ _. refl)
