-- The rows of frames whose words stand one after the other.
use Rattle.std.proofs.Common.{◌≡◌, ◌≢◌, ◌⊎◌, inl, inr, ℕ, zero, suc, ◌+◌, ◌-◌, ◌*◌, ◌<◌, ◌≤◌, Bool, true, false, true≢false, List, [], ◌∷◌, ◌++◌, length, take, drop, get_or, replicate, refl, sym, ap, subst, ◌∙◌, arith}
use Rattle.std.specs.Prelude.{not, slice_set}
use Rattle.std.specs.List.{All}
use Rattle.std.proofs.lemmas.List.{append_assoc, append-nil, drop_all, drop_at, drop-append-le, drop-drop, length-append, length-drop, length-replicate, length-take-le, replicate-append-replicate, take_at, take-append-drop, take-append-le, take-set-le}
use Rattle.std.proofs.lemmas.List.Concat.{flat_map-cons}
use Rattle.std.proofs.lemmas.Grind.{drop-set_at}
use Rattle.std.proofs.lemmas.Option.{unwrap_or-slice_get}
use Rattle.std.proofs.lemmas.Bool.{cases_lt}
use Rattle.std.proofs.Math.Seq.{take-append-add, drop-append-add, drop-cons}
use Rattle.row_core.specs.Parts.{part as part_of, spliced, AreHere}
use denote.RawPtr.{Ptr, ◌+ₚ◌}
use Rattle.row_core.proofs.Lists.{part_here, spliced_long}
use Rattle.frame_core.specs.BlankFrames.{AreBlank}
use Rattle.frame_core.proofs.BlankFrames.{all_blank, blank_beside, left_long}
use Rattle.frame_core.specs.FrameSet.{has_frame, HasEach, HasNow}
use Rattle.frame_core.specs.LentInside.{here_of}
use Rattle.frame_core.specs.LentWords.{IsHere, Words, place_of}
use Rattle.frame_core.proofs.FrameSets.{has_now, none_in}
use Rattle.frame_core.proofs.LentFrames.{part_taken, words_here, words_out, words_put}
use Rattle.frame_core.specs.Words.{joined, block_words, rows_of, with_words, words_of, HasBlock, put_from}

-- each row has this many words
abbrev pub AreSized : ℕ → List (List ℕ) → Type 0
AreSized size rows = All (λ row. length row ≡ size) rows

joined-cons : (row : List ℕ) (rows : List (List ℕ)) → joined (row ∷ rows) ≡ row ++ joined rows
joined-cons row rows = flat_map-cons (λ (r : List ℕ). r) row rows

pub rows_of-append : (size k m : ℕ) (a b : List ℕ) → length a ≡ k * size → rows_of size (k + m) (a ++ b) ≡ rows_of size k a ++ rows_of size m b
rows_of-append size zero m [] b long = ap (λ (n : ℕ). rows_of size n b) (omega arith)
rows_of-append size zero m (x ∷ a) b long = absurd (omega (arith, long))
rows_of-append size (suc k) m a b long =
    let least : size ≤ length a = omega (arith, long) in
    let sum : suc k + m ≡ suc (k + m) = omega arith in
    ap (λ (n : ℕ). rows_of size n (a ++ b)) sum
    ∙ ap (λ (row : List ℕ). row ∷ rows_of size (k + m) (drop size (a ++ b))) (take-append-le size a b least)
    ∙ ap (λ (rest : List ℕ). take size a ∷ rows_of size (k + m) rest) (drop-append-le size a b least)
    ∙ ap (λ (rows : List (List ℕ)). take size a ∷ rows) (rows_of-append size k m (drop size a) b (length-drop size a ∙ omega (arith, long, least)))

pub length-rows_of : (size n : ℕ) (words : List ℕ) → length (rows_of size n words) ≡ n
length-rows_of size zero words = refl
length-rows_of size (suc n) words = ap suc (length-rows_of size n (drop size words))

pub rows_sized : (size n : ℕ) (words : List ℕ) → length words ≡ n * size → AreSized size (rows_of size n words)
rows_sized size zero words long k d h = absurd (omega (arith, h))
rows_sized size (suc n) words long zero d h = length-take-le size words (omega (arith, long))
rows_sized size (suc n) words long (suc k) d h = rows_sized size n (drop size words) (length-drop size words ∙ omega (arith, long)) k d (omega (arith, h))

pub joined-rows_of : (size n : ℕ) (words : List ℕ) → length words ≡ n * size → joined (rows_of size n words) ≡ words
joined-rows_of size zero [] long = refl
joined-rows_of size zero (word ∷ words) long = absurd (omega (arith, long))
joined-rows_of size (suc n) words long =
    joined-cons (take size words) (rows_of size n (drop size words))
    ∙ ap (λ (ws : List ℕ). take size words ++ ws) (joined-rows_of size n (drop size words) (length-drop size words ∙ omega (arith, long)))
    ∙ take-append-drop size words

-- the words of frames are among those of all frames
pub words_within : (size first frames n : ℕ) → first + frames ≤ n → first * size + frames * size ≤ n * size
words_within size first frames n within =
    let rest : n ≡ first + frames + (n - (first + frames)) = omega arith in
    let all : n * size ≡ (first + frames + (n - (first + frames))) * size = ap (λ (m : ℕ). m * size) rest in
    omega (arith, all)

module _ (size n : ℕ) (words : List ℕ) (long : length words ≡ n * size) (first frames : ℕ) (within : first + frames ≤ n) where
  abbrev pub front : List ℕ
  front = take (first * size) words

  abbrev pub part : List ℕ
  part = take (frames * size) (drop (first * size) words)

  abbrev pub back : List ℕ
  back = drop (first * size + frames * size) words

  abbrev others : ℕ
  others = n - (first + frames)

  long_front : length front ≡ first * size
  long_front = length-take-le (first * size) words (omega (arith, long, words_within size first frames n within))

  pub long_part : length part ≡ frames * size
  long_part =
      length-take-le (frames * size) (drop (first * size) words)
      (omega (arith, long, words_within size first frames n within, length-drop (first * size) words))

  parts : words ≡ front ++ (part ++ back)
  parts =
      sym (take-append-drop (first * size) words)
      ∙ ap (λ (ws : List ℕ). front ++ ws) (sym (take-append-drop (frames * size) (drop (first * size) words)))
      ∙ ap (λ (ws : List ℕ). front ++ (part ++ ws)) (drop-drop (frames * size) (first * size) words)

  abbrev rows : List ℕ → List (List ℕ)
  rows ws = rows_of size first front ++ (rows_of size frames ws ++ rows_of size others back)

  built : (ws : List ℕ) → length ws ≡ frames * size → rows_of size n (front ++ (ws ++ back)) ≡ rows ws
  built ws same =
      let sum : n ≡ first + (frames + others) = omega arith in
      ap (λ (k : ℕ). rows_of size k (front ++ (ws ++ back))) sum
      ∙ rows_of-append size first (frames + others) front (ws ++ back) long_front
      ∙ ap (λ (rest : List (List ℕ)). rows_of size first front ++ rest) (rows_of-append size frames others ws back same)

  seen : rows_of size n words ≡ rows part
  seen = ap (rows_of size n) parts ∙ built part long_part

  here : (ws : List ℕ) → length ws ≡ frames * size → block_words (rows ws) first frames ≡ ws
  here ws same =
      ap (λ (rs : List (List ℕ)). joined (take frames rs)) (drop_at (rows_of size first front) (rows_of size frames ws ++ rows_of size others back) first (length-rows_of size first front))
      ∙ ap joined (take_at (rows_of size frames ws) (rows_of size others back) frames (length-rows_of size frames ws))
      ∙ joined-rows_of size frames ws same

  after : (ws : List ℕ) → drop (first + frames) (rows ws) ≡ rows_of size others back
  after ws =
      ap (drop (first + frames)) (sym (append_assoc (rows_of size first front) (rows_of size frames ws) (rows_of size others back)))
      ∙ drop_at (rows_of size first front ++ rows_of size frames ws) (rows_of size others back) (first + frames)
      (length-append (rows_of size first front) (rows_of size frames ws) ∙ omega (arith, length-rows_of size first front, length-rows_of size frames ws))

  before : (ws : List ℕ) → take first (rows ws) ≡ rows_of size first front
  before ws = take_at (rows_of size first front) (rows_of size frames ws ++ rows_of size others back) first (length-rows_of size first front)

  -- the words of the frames
  pub part_is : block_words (rows_of size n words) first frames ≡ part
  part_is = ap (λ (rs : List (List ℕ)). block_words rs first frames) seen ∙ here part long_part

  -- the frames got other words
  pub has_words : (ws : List ℕ) → length ws ≡ frames * size → HasBlock (rows_of size n words) (rows_of size n (front ++ (ws ++ back))) first frames ws
  has_words ws same = record {
    here = ap (λ (rs : List (List ℕ)). block_words rs first frames) (built ws same) ∙ here ws same;
    before = ap (take first) (built ws same) ∙ before ws ∙ sym (before part) ∙ ap (take first) (sym seen);
    after = ap (drop (first + frames)) (built ws same) ∙ after ws ∙ sym (after part) ∙ ap (drop (first + frames)) (sym seen);
    count = length-rows_of size n (front ++ (ws ++ back)) ∙ sym (length-rows_of size n words);
  }

  length-put : (from : ℕ) (values : List ℕ) → from + length values ≤ frames * size → length (put_from part from values) ≡ frames * size
  length-put from values small =
      length-append (take from part ++ values) (drop (from + length values) part)
      ∙ omega (arith, small, long_part, length-append (take from part) values, length-take-le from part (omega (arith, small, long_part)), length-drop (from + length values) part)

  -- values that are put among all words are put among those of the frames
  pub put_among : (from : ℕ) (values : List ℕ) → from + length values ≤ frames * size
      → take (first * size + from) words ++ (values ++ drop (first * size + from + length values) words) ≡ front ++ (put_from part from values ++ back)
  put_among from values small =
      let begin : first * size + from ≡ length front + from = omega (arith, long_front) in
      let end : first * size + from + length values ≡ length front + (from + length values) = omega (arith, long_front) in
      ap (λ (ws : List ℕ). take (first * size + from) ws ++ (values ++ drop (first * size + from + length values) ws)) parts
      ∙ ap (λ (k : ℕ). take k (front ++ (part ++ back)) ++ (values ++ drop (first * size + from + length values) (front ++ (part ++ back)))) begin
      ∙ ap (λ (k : ℕ). take (length front + from) (front ++ (part ++ back)) ++ (values ++ drop k (front ++ (part ++ back)))) end
      ∙ ap (λ (ws : List ℕ). ws ++ (values ++ drop (length front + (from + length values)) (front ++ (part ++ back)))) (take-append-add front (part ++ back) from)
      ∙ ap (λ (ws : List ℕ). (front ++ take from (part ++ back)) ++ (values ++ ws)) (drop-append-add front (part ++ back) (from + length values))
      ∙ ap (λ (ws : List ℕ). (front ++ ws) ++ (values ++ drop (from + length values) (part ++ back))) (take-append-le from part back (omega (arith, small, long_part)))
      ∙ ap (λ (ws : List ℕ). (front ++ take from part) ++ (values ++ ws)) (drop-append-le (from + length values) part back (omega (arith, small, long_part)))
      ∙ append_assoc front (take from part) (values ++ (drop (from + length values) part ++ back))
      ∙ ap (λ (ws : List ℕ). front ++ ws)
      (sym (append_assoc (take from part) values (drop (from + length values) part ++ back))
      ∙ sym (append_assoc (take from part ++ values) (drop (from + length values) part) back))

-- the words of frames are lent from this place on, and come back
module _ (size n : ℕ) (words : List ℕ) (long : length words ≡ n * size) {at : Ptr} {lent : List Bool} {given : Bool} (seen : Words) (seen_is : record { at = at; rows = rows_of size n words; lent = lent; given = given } ≡ seen) (first frames : ℕ) (enough : first + frames ≤ length seen.rows) (place : ℕ) (place_is : place ≡ first) where
  rows_is : rows_of size n words ≡ seen.rows
  rows_is = ap (λ (s : Words). s.rows) seen_is

  within : first + frames ≤ n
  within = omega (arith, enough, ap length rows_is, length-rows_of size n words)

  at_is : place * size ≡ first * size
  at_is = ap (λ (f : ℕ). f * size) place_is

  pub ends : place * size + frames * size ≤ length words
  ends = omega (arith, at_is, long, words_within size first frames n within)

  pub lent_words : part_of words (place * size) (frames * size) ≡ block_words seen.rows first frames
  lent_words =
      ap (λ (k : ℕ). take (frames * size) (drop k words)) at_is
      ∙ sym (part_is size n words long first frames within)
      ∙ ap (λ (rs : List (List ℕ)). block_words rs first frames) rows_is

  pub lent_at : at +ₚ place * size * 8 ≡ place_of size seen first
  lent_at = ap (λ (k : ℕ). at +ₚ k * 8) at_is ∙ ap (λ (s : Words). place_of size s first) seen_is

  pub lent_count : length (part_of words (place * size) (frames * size)) ≡ frames * size
  lent_count = length-take-le (frames * size) (drop (place * size) words) (omega (arith, ends, length-drop (place * size) words))

  -- the words of frames that aren't lent are here
  module _ (here : List Bool) (kept : here ≡ here_of size lent) (listed : length lent ≡ n) where
    among_lent : first + frames ≤ length lent
    among_lent = omega (arith, within, listed)

    pub lent_here : IsHere seen first frames → AreHere (part_of here (place * size) (frames * size)) (frames * size)
    lent_here is_here =
        ap (λ (k : ℕ). part_of here k (frames * size)) at_is
        ∙ words_here size lent first frames among_lent here kept (subst (λ (s : Words). IsHere s first frames) (sym seen_is) is_here)

    -- they are lent, or come back
    pub here_after : (new : List Bool) (are_lent : Bool) → new ≡ spliced here (place * size) (frames * size) (replicate (frames * size) (not are_lent)) → (now : List Bool) → now ≡ spliced lent first frames (replicate frames are_lent) → (new ≡ here_of size now) × (length now ≡ n)
    here_after new are_lent is now now_is = (
      is ∙ ap (λ (k : ℕ). spliced here k (frames * size) (replicate (frames * size) (not are_lent))) at_is
          ∙ words_put size lent first frames among_lent here kept are_lent ∙ ap (here_of size) (sym now_is),
      ap length now_is ∙ spliced_long lent first frames among_lent (replicate frames are_lent) (length-replicate frames are_lent) ∙ listed,
    )

    pub lent_after : (are_lent : Bool) (now : List Bool) → now ≡ spliced lent first frames (replicate frames are_lent) → HasNow seen.lent now first frames are_lent
    lent_after are_lent now now_is = subst (λ (s : Words). HasNow s.lent now first frames are_lent) seen_is (has_now lent first frames among_lent are_lent now now_is)

    -- frames whose words were out were lent
    pub were_lent : 0 < size → part_of here (place * size) (frames * size) ≡ replicate (frames * size) false → HasEach seen.lent first frames true
    were_lent some out =
        subst (λ (s : Words). HasEach s.lent first frames true) seen_is
        (words_out size lent first frames among_lent here kept some (ap (λ (k : ℕ). part_of here k (frames * size)) (sym at_is) ∙ out))

  pub came_back : (new ws : List ℕ) → new ≡ spliced words (place * size) (frames * size) ws → length ws ≡ frames * size → HasBlock seen.rows (rows_of size n new) first frames ws
  came_back new ws is same =
      subst (λ (rs : List (List ℕ)). HasBlock rs (rows_of size n new) first frames ws) rows_is
      (subst (λ (xs : List ℕ). HasBlock (rows_of size n words) (rows_of size n xs) first frames ws) (sym (is ∙ ap (λ (k : ℕ). spliced words k (frames * size) ws) at_is))
      (has_words size n words long first frames within ws same))

  -- there are as many words as before, and the rows are as long
  pub came_long : (new ws : List ℕ) → new ≡ spliced words (place * size) (frames * size) ws → length ws ≡ frames * size → length new ≡ n * size
  came_long new ws is same = ap length is ∙ spliced_long words (place * size) (frames * size) ends ws same ∙ long

  pub came_sized : (new ws : List ℕ) → new ≡ spliced words (place * size) (frames * size) ws → length ws ≡ frames * size → AreSized size (rows_of size n new)
  came_sized new ws is same = rows_sized size n new (came_long new ws is same)

  -- they are no longer known to be blank
  module _ (known : List Bool) (listed : length known ≡ n) where
    pub among_listed : first + frames ≤ length known
    among_listed = omega (arith, within, listed)

    pub came_blank : AreBlank size known (rows_of size n words) → (left : List Bool) → left ≡ spliced known first frames (replicate frames false)
        → (new ws : List ℕ) → HasBlock seen.rows (rows_of size n new) first frames ws → (length left ≡ n) × AreBlank size left (rows_of size n new)
    came_blank blank left left_is new ws is = (
      ap length left_is ∙ left_long known first frames among_listed ∙ listed,
      subst (λ (frames : List Bool). AreBlank size frames (rows_of size n new)) (sym left_is)
          (blank_beside known first frames among_listed size seen.rows (rows_of size n new) ws is (subst (AreBlank size known) rows_is blank)),
    )

  -- values are put among them
  module _ (from : ℕ) (values : List ℕ) (small : from + length values ≤ frames * size) where
    pub values_end : place * size + from + length values ≤ length words
    values_end = omega (arith, ends, small)

    pub values_here : (here : List Bool) → here ≡ here_of size lent → length lent ≡ n → IsHere seen first frames → AreHere (part_of here (place * size + from) (length values)) (length values)
    values_here here kept listed is_here =
        ap (take (length values)) (sym (drop-drop from (place * size) here))
        ∙ sym (part_taken (drop (place * size) here) (frames * size) from (length values) small)
        ∙ part_here (part_of here (place * size) (frames * size)) (frames * size) from (length values) (lent_here here kept listed is_here) small

    module _ (new : List ℕ) (is : new ≡ spliced words (place * size + from) (length values) values) where
      abbrev among : List ℕ
      among = put_from (part size n words long first frames within) from values

      built_among : new ≡ front size n words long first frames within ++ (among ++ back size n words long first frames within)
      built_among =
          is ∙ ap (λ (k : ℕ). spliced words (k + from) (length values) values) at_is
          ∙ put_among size n words long first frames within from values small

      pub values_put : HasBlock seen.rows (rows_of size n new) first frames (put_from (block_words seen.rows first frames) from values)
      values_put =
          subst (λ (rs : List (List ℕ)). HasBlock rs (rows_of size n new) first frames (put_from (block_words rs first frames) from values)) rows_is
          (subst (λ (xs : List ℕ). HasBlock (rows_of size n words) (rows_of size n xs) first frames (put_from (block_words (rows_of size n words) first frames) from values)) (sym built_among)
          (subst (λ (xs : List ℕ). HasBlock (rows_of size n words) (rows_of size n (front size n words long first frames within ++ (among ++ back size n words long first frames within))) first frames (put_from xs from values)) (sym (part_is size n words long first frames within))
          (has_words size n words long first frames within among (length-put size n words long first frames within from values small))))

      pub values_long : length new ≡ n * size
      values_long = ap length is ∙ spliced_long words (place * size + from) (length values) values_end values refl ∙ long

      pub values_sized : AreSized size (rows_of size n new)
      values_sized = rows_sized size n new values_long

-- one frame is a block
pub one_row : (rows : List (List ℕ)) (frame : ℕ) → frame < length rows → block_words rows frame 1 ≡ words_of rows frame
one_row rows frame within =
    ap (λ (rs : List (List ℕ)). joined (take 1 rs)) (drop-cons rows frame [] within)
    ∙ joined-cons (get_or rows frame []) [] ∙ append-nil (get_or rows frame []) ∙ sym (unwrap_or-slice_get rows frame [])

pub one_changed : (old new : List (List ℕ)) (frame : ℕ) (words : List ℕ) → frame < length old → HasBlock old new frame 1 words → new ≡ with_words old frame words
one_changed old new frame words within is =
    let inside : frame < length new = omega (arith, within, is.count) in
    let row : get_or new frame [] ≡ words = sym (unwrap_or-slice_get new frame []) ∙ sym (one_row new frame inside) ∙ is.here in
    let next : suc frame ≡ frame + 1 = omega arith in
    sym (take-append-drop frame new)
    ∙ ap (λ (rs : List (List ℕ)). rs ++ drop frame new) (is.before ∙ sym (take-set-le frame old frame words (omega arith)))
    ∙ ap (λ (rs : List (List ℕ)). take frame (with_words old frame words) ++ rs)
    (drop-cons new frame [] inside ∙ ap (λ (w : List ℕ). w ∷ drop (suc frame) new) row ∙ ap (λ (k : ℕ). words ∷ drop k new) next ∙ ap (λ (rs : List (List ℕ)). words ∷ rs) is.after
    ∙ sym (drop-set_at old frame frame words refl within))
    ∙ take-append-drop frame (with_words old frame words)

-- as many values as there are words take the place of all
pub put_all : (row values : List ℕ) → length row ≡ length values → put_from row 0 values ≡ values
put_all row values same =
    let all : 0 + length values ≡ length values = omega arith in
    ap (λ (k : ℕ). values ++ drop k row) all ∙ ap (λ (ws : List ℕ). values ++ ws) (drop_all (length values) row (omega (arith, same))) ∙ append-nil values

-- one value is put at its place
pub put_one : (row : List ℕ) (word value : ℕ) → word < length row → put_from row word (value ∷ []) ≡ slice_set row word value
put_one row word value within =
    let next : word + length (value ∷ []) ≡ word + 1 = omega arith in
    ap (λ (k : ℕ). (take word row ++ value ∷ []) ++ drop k row) next
    ∙ append_assoc (take word row) (value ∷ []) (drop (word + 1) row)
    ∙ ap (λ (ws : List ℕ). ws ++ (value ∷ drop (word + 1) row)) (sym (take-set-le word row word value (omega arith)))
    ∙ ap (λ (ws : List ℕ). take word (slice_set row word value) ++ ws) (sym (drop-set_at row word word value refl within))
    ∙ take-append-drop word (slice_set row word value)

pub one_stored : (old new : List (List ℕ)) (frame from : ℕ) (values : List ℕ) → frame < length old → HasBlock old new frame 1 (put_from (block_words old frame 1) from values) → new ≡ with_words old frame (put_from (words_of old frame) from values)
one_stored old new frame from values within is =
    one_changed old new frame (put_from (block_words old frame 1) from values) within is
    ∙ ap (λ (row : List ℕ). with_words old frame (put_from row from values)) (one_row old frame within)

-- the words of a frame are copied into another
module _ (size n : ℕ) (words : List ℕ) (long : length words ≡ n * size) {at : Ptr} {lent : List Bool} {given : Bool} (seen : Words) (seen_is : record { at = at; rows = rows_of size n words; lent = lent; given = given } ≡ seen) (from to : ℕ) (least : from < length seen.rows) (enough : to < length seen.rows) (source : ℕ) (source_is : source ≡ from) (target : ℕ) (target_is : target ≡ to) where
  one : size ≡ 1 * size
  one = omega arith

  pub target_ends : target * size + size ≤ length words
  target_ends = omega (arith, ends size n words long seen seen_is to 1 (omega (arith, enough)) target target_is)

  pub source_ends : source * size + size ≤ length words
  source_ends = omega (arith, ends size n words long seen seen_is from 1 (omega (arith, least)) source source_is)

  -- neither lies over the other
  pub rows_beside : from ≢ to → (source * size + size ≤ target * size) ⊎ (target * size + size ≤ source * size)
  rows_beside apart = by_order (cases_lt from to) (cases_lt to from)
    where
      by_order : (from < to) ⊎ (to ≤ from) → (to < from) ⊎ (from ≤ to) → (source * size + size ≤ target * size) ⊎ (target * size + size ≤ source * size)
      by_order (inl upward) other = inl (omega (arith, ap (λ (k : ℕ). k * size) source_is, ap (λ (k : ℕ). k * size) target_is, words_within size from 1 to (omega (arith, upward))))
      by_order (inr least) (inl downward) = inr (omega (arith, ap (λ (k : ℕ). k * size) source_is, ap (λ (k : ℕ). k * size) target_is, words_within size to 1 from (omega (arith, downward))))
      by_order (inr least) (inr most) = absurd (apart (omega (arith, least, most)))

  module _ (here : List Bool) (kept : here ≡ here_of size lent) (listed : length lent ≡ n) where
    pub source_here : IsHere seen from 1 → AreHere (part_of here (source * size) size) size
    source_here is_here =
        subst (λ (k : ℕ). AreHere (part_of here (source * size) k) k) (sym one)
        (lent_here size n words long seen seen_is from 1 (omega (arith, least)) source source_is here kept listed is_here)

    pub target_here : IsHere seen to 1 → AreHere (part_of here (target * size) size) size
    target_here is_here =
        subst (λ (k : ℕ). AreHere (part_of here (target * size) k) k) (sym one)
        (lent_here size n words long seen seen_is to 1 (omega (arith, enough)) target target_is here kept listed is_here)

  pub copied_long : (new : List ℕ) → new ≡ spliced words (target * size) size (part_of words (source * size) size) → length new ≡ n * size
  copied_long new is =
      ap length is ∙ spliced_long words (target * size) size target_ends (part_of words (source * size) size)
      (length-take-le size (drop (source * size) words) (omega (arith, source_ends, length-drop (source * size) words))) ∙ long

  -- the other one has those words
  copied_here : (new : List ℕ) → new ≡ spliced words (target * size) size (part_of words (source * size) size) → HasBlock seen.rows (rows_of size n new) to 1 (part_of words (source * size) size)
  copied_here new is =
      let below : from + 1 ≤ length seen.rows = omega (arith, least) in
      let ws = part_of words (source * size) size in
      let ws_is : ws ≡ part_of words (source * size) (1 * size) = ap (λ (k : ℕ). take k (drop (source * size) words)) one in
      let same : length ws ≡ 1 * size = ap length ws_is ∙ lent_count size n words long seen seen_is from 1 below source source_is in
      came_back size n words long seen seen_is to 1 (omega (arith, enough)) target target_is new ws (is ∙ ap (λ (k : ℕ). spliced words (target * size) k ws) one) same

  pub target_listed : (known : List Bool) → length known ≡ n → to + 1 ≤ length known
  target_listed known listed = among_listed size n words long seen seen_is to 1 (omega (arith, enough)) target target_is known listed

  pub copied_blank : (known : List Bool) → length known ≡ n → AreBlank size known (rows_of size n words) → (left : List Bool) → left ≡ spliced known to 1 (replicate 1 false)
      → (new : List ℕ) → new ≡ spliced words (target * size) size (part_of words (source * size) size) → (length left ≡ n) × AreBlank size left (rows_of size n new)
  copied_blank known listed blank left left_is new is =
      came_blank size n words long seen seen_is to 1 (omega (arith, enough)) target target_is known listed blank left left_is new (part_of words (source * size) size) (copied_here new is)

  pub copied_over : (new : List ℕ) → new ≡ spliced words (target * size) size (part_of words (source * size) size) → rows_of size n new ≡ with_words seen.rows to (words_of seen.rows from)
  copied_over new is =
      let ws_is : part_of words (source * size) size ≡ part_of words (source * size) (1 * size) = ap (λ (k : ℕ). take k (drop (source * size) words)) one in
      one_changed seen.rows (rows_of size n new) to (part_of words (source * size) size) enough (copied_here new is)
      ∙ ap (with_words seen.rows to) (ws_is ∙ lent_words size n words long seen seen_is from 1 (omega (arith, least)) source source_is ∙ one_row seen.rows from least)

-- rows of zeros
pub blank_rows : (size n : ℕ) (words : List ℕ) → words ≡ replicate (n * size) 0 → rows_of size n words ≡ replicate n (replicate size 0)
blank_rows size n words is = ap (rows_of size n) is ∙ zeros n
  where
    zeros : (m : ℕ) → rows_of size m (replicate (m * size) 0) ≡ replicate m (replicate size 0)
    zeros zero = refl
    zeros (suc m) =
        let sum : suc m * size ≡ size + m * size = omega arith in
        let cut : replicate (suc m * size) 0 ≡ replicate size 0 ++ replicate (m * size) 0 = ap (λ (k : ℕ). replicate k 0) sum ∙ sym (replicate-append-replicate size (m * size) 0) in
        ap (rows_of size (suc m)) cut
        ∙ ap (λ (row : List ℕ). row ∷ rows_of size m (drop size (replicate size 0 ++ replicate (m * size) 0))) (take_at (replicate size 0) (replicate (m * size) 0) size (length-replicate size 0))
        ∙ ap (λ (ws : List ℕ). replicate size 0 ∷ rows_of size m ws) (drop_at (replicate size 0) (replicate (m * size) 0) size (length-replicate size 0))
        ∙ ap (λ (rows : List (List ℕ)). replicate size 0 ∷ rows) (zeros m)

-- frames that were never written are known to be blank
pub opened_blank : (size n : ℕ) (words : List ℕ) → words ≡ replicate (n * size) 0 → (known : List Bool) → known ≡ replicate n true → AreBlank size known (rows_of size n words)
opened_blank size n words is known known_is =
    subst (λ (frames : List Bool). AreBlank size frames (rows_of size n words)) (sym known_is)
    (subst (AreBlank size (replicate n true)) (sym (blank_rows size n words is)) (all_blank size n))

-- and so are the frames of memory that is given, where it is blank
pub given_blank : (size n : ℕ) (words : List ℕ) (blank : Bool) → length words ≡ n * size → (blank ≡ true → words ≡ replicate (length words) 0)
    → (known : List Bool) → known ≡ replicate n blank → AreBlank size known (rows_of size n words)
given_blank size n words true long zeros known known_is frame told = opened_blank size n words (zeros refl ∙ ap (λ (k : ℕ). replicate k 0) long) known known_is frame told
given_blank size n words false long zeros known known_is frame told = absurd (true≢false (sym told ∙ ap (λ (l : List Bool). has_frame l frame) known_is ∙ none_in n frame))
