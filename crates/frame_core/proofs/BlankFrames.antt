-- Which frames stay known to be blank.
use Rattle.std.proofs.Common.{◌≡◌, ℕ, ◌+◌, ◌<◌, ◌≤◌, Bool, true, false, true≢false, ◌⊎◌, inl, inr, List, [], length, get_or, replicate, refl, sym, ap, ◌∙◌, arith}
use Rattle.std.specs.Prelude.{slice_set}
use Rattle.std.proofs.lemmas.List.{get_or_past, get_or-replicate, get_or-set_other, set-get_or, length-replicate}
use Rattle.std.proofs.lemmas.Grind.{get_or-set_at}
use Rattle.std.proofs.lemmas.Option.{unwrap_or-slice_get}
use Rattle.std.proofs.lemmas.Bool.{cases_lt}
use Rattle.row_core.specs.Parts.{spliced}
use Rattle.frame_core.specs.FrameSet.{HasNow}
use Rattle.frame_core.proofs.FrameSets.{changed_long, has_now, same_after, same_before}
use Rattle.frame_core.specs.Page.{blank_words}
use Rattle.frame_core.specs.Words.{words_of, with_words, HasBlock}
use Rattle.frame_core.specs.BlankFrames.{AreBlank}

-- so many frames are no longer known to be blank
module _ (known : List Bool) (first frames : ℕ) (within : first + frames ≤ length known) where
  abbrev left : List Bool
  left = spliced known first frames (replicate frames false)

  forgotten : HasNow known left first frames false
  forgotten = has_now known first frames within false left refl

  pub left_long : length left ≡ length known
  left_long = changed_long known first frames within false

  -- those frames got other words, and the rest are as they were
  pub blank_beside : (size : ℕ) (old new : List (List ℕ)) (words : List ℕ) → HasBlock old new first frames words → AreBlank size known old → AreBlank size left new
  blank_beside size old new words is blank frame told = by_place (cases_lt frame first) (cases_lt frame (first + frames))
    where
      kept : (frame < first) ⊎ (first + frames ≤ frame) → get_or new frame [] ≡ get_or old frame [] → words_of new frame ≡ blank_words size
      kept beside row = unwrap_or-slice_get new frame [] ∙ row ∙ sym (unwrap_or-slice_get old frame [])
          ∙ blank frame (sym (forgotten.others frame beside) ∙ told)

      by_place : (frame < first) ⊎ (first ≤ frame) → (frame < first + frames) ⊎ (first + frames ≤ frame) → words_of new frame ≡ blank_words size
      by_place (inl before) other = kept (inl before) (same_before new old [] first frame is.before before)
      by_place (inr least) (inr after) = kept (inr after) (same_after new old [] (first + frames) frame is.after after)
      by_place (inr least) (inl most) = absurd (true≢false (sym told ∙ forgotten.each frame least most))

-- a frame is known to be blank from now on
pub blank_too : (size : ℕ) (known : List Bool) (rows : List (List ℕ)) (frame : ℕ) → words_of rows frame ≡ blank_words size → AreBlank size known rows → AreBlank size (slice_set known frame true) rows
blank_too size known rows frame row blank other told = by_order (cases_lt other frame) (cases_lt frame other)
  where
    kept : get_or (slice_set known frame true) other false ≡ get_or known other false → words_of rows other ≡ blank_words size
    kept same = blank other (unwrap_or-slice_get known other false ∙ sym same ∙ sym (unwrap_or-slice_get (slice_set known frame true) other false) ∙ told)

    by_order : (other < frame) ⊎ (frame ≤ other) → (frame < other) ⊎ (other ≤ frame) → words_of rows other ≡ blank_words size
    by_order (inl less) more = kept (get_or-set_other known frame other true false (omega (arith, less)))
    by_order (inr least) (inl less) = kept (get_or-set_other known frame other true false (omega (arith, less)))
    by_order (inr least) (inr most) = let same : other ≡ frame = omega (arith, least, most) in ap (words_of rows) same ∙ row

-- frames that were never written
pub all_blank : (size n : ℕ) → AreBlank size (replicate n true) (replicate n (blank_words size))
all_blank size n frame told = by_order (cases_lt frame n)
  where
    by_order : (frame < n) ⊎ (n ≤ frame) → words_of (replicate n (blank_words size)) frame ≡ blank_words size
    by_order (inl below) = unwrap_or-slice_get (replicate n (blank_words size)) frame [] ∙ get_or-replicate n frame (blank_words size) [] below
    by_order (inr past) = absurd (true≢false (sym told ∙ unwrap_or-slice_get (replicate n true) frame false ∙ get_or_past (replicate n true) frame false (omega (arith, past, length-replicate n true))))

-- a frame that is given words has them
pub words_given : (rows new : List (List ℕ)) (frame : ℕ) (words : List ℕ) → new ≡ with_words rows frame words → frame < length rows → words_of new frame ≡ words
words_given rows new frame words is within =
    ap (λ (rs : List (List ℕ)). words_of rs frame) is ∙ unwrap_or-slice_get (with_words rows frame words) frame []
    ∙ get_or-set_at rows frame frame words [] refl within

-- a frame that is given its own words stays as it is
pub words_kept : (rows : List (List ℕ)) (frame : ℕ) (words : List ℕ) → words_of rows frame ≡ words → rows ≡ with_words rows frame words
words_kept rows frame words is = sym (set-get_or rows frame []) ∙ ap (with_words rows frame) (sym (unwrap_or-slice_get rows frame []) ∙ is)
