-- Which frames are known to be blank.
use Rattle.std.specs.Prelude.{◌≡◌, ℕ, Bool, true, List}
use Rattle.frame_core.specs.FrameSet.{has_frame}
use Rattle.frame_core.specs.Page.{blank_words}
use Rattle.frame_core.specs.Words.{words_of}

-- each frame that is known to be blank has words of 0 alone
abbrev pub AreBlank : ℕ → List Bool → List (List ℕ) → Type 0
AreBlank size known rows = (frame : ℕ) → has_frame known frame ≡ true → words_of rows frame ≡ blank_words size
