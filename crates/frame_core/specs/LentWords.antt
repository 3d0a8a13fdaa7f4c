-- What contracts see of the words of a zone's frames, some of which may be lent.
use Rattle.std.specs.Prelude.{◌≡◌, refl, ℕ, ◌*◌, Bool, false, List}
use Rattle.std.specs.Coded.{Coded, code_by, coded×, coded_list, coded_ℕ, coded_bool}
use denote.RawPtr.{Ptr, coded_ptr, ◌+ₚ◌}
use Rattle.frame_core.specs.FrameSet.{has_frame, HasEach}

-- where the words of frame 0 begin, a row of words for each frame, which frames are lent, and whether their memory was given; a frame
-- that is lent keeps the row that it had until its words come back
pub record Words : Type 0 where
  pub at : Ptr
  pub rows : List (List ℕ)
  pub lent : List Bool
  pub given : Bool

-- they are stored as the tuple of their fields
abbrev pub words_code : Coded Words
words_code = code_by (Ptr × (List (List ℕ) × (List Bool × Bool))) (coded× coded_ptr (coded× (coded_list (coded_list coded_ℕ)) (coded× (coded_list coded_bool) coded_bool))) (λ w. (w.at, (w.rows, (w.lent, w.given)))) (λ p. record { at = p.0; rows = p.1.0; lent = p.1.1.0; given = p.1.1.1 }) (λ _. refl)

-- no frame is lent
abbrev pub NoneLent : Words → Type 0
NoneLent words = (frame : ℕ) → has_frame words.lent frame ≡ false

-- none of so many frames, from a first one on, is lent
abbrev pub IsHere : Words → ℕ → ℕ → Type 0
IsHere words first frames = HasEach words.lent first frames false

-- the words lie where they lay, in the same memory, and the same frames are lent
abbrev pub LentStays : Words → Words → Type 0
LentStays old new = (new.at ≡ old.at) × (new.lent ≡ old.lent) × (new.given ≡ old.given)

-- other rows, and the rest as it was
abbrev pub with_rows : Words → List (List ℕ) → Words
with_rows words rows = record words { rows = rows }

-- where the words of a frame begin, of so many words each
abbrev pub place_of : ℕ → Words → ℕ → Ptr
place_of size words frame = words.at +ₚ frame * size * 8
