-- The right to a part of words comes out of the right to all of them, and goes back. Assumes `Logic`.
use Rattle.std.proofs.Common.{◌≡◌, ℕ, zero, suc, ◌+◌, ◌*◌, ◌≤◌, Bool, true, false, List, [], ◌∷◌, ◌++◌, length, take, drop as drop_l, replicate, refl, sym, ap, ◌∙◌, subst, arith}
use lib.Dec.{T}
use lib.ListN.{length-replicate}
use seplogic.Ra.Ura.{Ura}
use base.Fraction.{full_share}
use base.Logic.{SProp, ent, sep, emp, never, id⊢, via, mono_r, mono∗, assoc∗, assoc', fst∗, snd∗, emp∗, never_e}
use base.Fml.{Lft, Share, Fml, feq, fsep}
use contract.Conj.{top}
use contract.Monad.{fact, fact_i}
use mir.Syntax.{w64, ty_int}
use mir.Val.{vint}
use prog.Model.{Model}
use types.Logic.{Logic, sem}
use types.Kit.{‵, raw, ◌⊛◌, ◌$◌, ◌∵◌, !, qed, by, move, drop, use1, use2, split, fsplit, fjoin, feq_i, rewrite, done}
use types.Share.{parts}
use denote.Array.{Array}
use denote.ArrayMemory.{Array-apart, Array-whole}
use denote.Builtin.{u64}
use denote.Memory.{mem, shares, part_at, shared_of}
use denote.Plain.{uint_out}
use denote.Slice.{elements_shared}
use denote.Steps.{nothing, heard}
use Rattle.row_core.specs.Owned.{word_owned, words_owned, word_lent, words_lent}
use Rattle.row_core.specs.Parts.{part, spliced, AreHere}
use Rattle.row_core.proofs.Lists.{unspliced, part_long, front_long}

-- a share of words that are all here
abbrev pub words : Share → List ℕ → ℕ → ℕ → Fml
words = parts (mem u64) (shares u64)

-- the words of an array, as they are owned where all are here
abbrev pub all_owned : Share → List ℕ → ℕ → ℕ → Fml
all_owned q xs b o = words_owned q xs (replicate (length xs) true) b o

abbrev first : List Bool → Bool
first [] = false
first (h ∷ hs) = h

module _ {M : Type 1} {𝓤 : Ura M} (𝓛 : Logic 𝓤) (b : ℕ) where
  abbrev ◌⊢◌ : SProp 𝓤 → SProp 𝓤 → Type 1
  P ⊢ Q = ent 𝓤 P Q

  abbrev ◌∗◌ : SProp 𝓤 → SProp 𝓤 → SProp 𝓤
  P ∗ Q = sep 𝓤 P Q

  abbrev ⟦◌⟧ : Fml → SProp 𝓤
  ⟦ P ⟧ = sem 𝓛 P

  infix 26 ◌⊢◌
  infixr 35 ◌∗◌
  module _ (q : Share) where
    pub words_cut : (xs ys : List ℕ) (fs gs : List Bool) (o : ℕ) → length fs ≡ length xs → ⟦ words_owned q (xs ++ ys) (fs ++ gs) b o ⟧ ⊢ ⟦ words_owned q xs fs b o ⟧ ∗ ⟦ words_owned q ys gs b (o + length xs * 8) ⟧
    words_cut [] ys [] gs o e =
        let k : o ≡ o + 0 * 8 = omega arith in
        subst (λ (j : ℕ). ⟦ words_owned q ys gs b o ⟧ ⊢ emp 𝓤 ∗ ⟦ words_owned q ys gs b j ⟧) k (emp∗ 𝓤 ⟦ words_owned q ys gs b o ⟧)
    words_cut [] ys (f ∷ fs) gs o e = absurd (omega (arith, e))
    words_cut (x ∷ xs) ys [] gs o e = absurd (omega (arith, e))
    words_cut (x ∷ xs) ys (f ∷ fs) gs o e =
        let k : o + 8 + length xs * 8 ≡ o + suc (length xs) * 8 = omega arith in
        via 𝓤 (⟦ word_owned q f x b o ⟧ ∗ (⟦ words_owned q xs fs b (o + 8) ⟧ ∗ ⟦ words_owned q ys gs b (o + suc (length xs) * 8) ⟧))
        (mono_r 𝓤 ⟦ word_owned q f x b o ⟧ (subst (λ (j : ℕ). ⟦ words_owned q (xs ++ ys) (fs ++ gs) b (o + 8) ⟧ ⊢ ⟦ words_owned q xs fs b (o + 8) ⟧ ∗ ⟦ words_owned q ys gs b j ⟧) k (words_cut xs ys fs gs (o + 8) (omega (arith, e)))))
        (assoc' 𝓤 ⟦ word_owned q f x b o ⟧ ⟦ words_owned q xs fs b (o + 8) ⟧ ⟦ words_owned q ys gs b (o + suc (length xs) * 8) ⟧)

    pub words_glue : (xs ys : List ℕ) (fs gs : List Bool) (o : ℕ) → length fs ≡ length xs → ⟦ words_owned q xs fs b o ⟧ ∗ ⟦ words_owned q ys gs b (o + length xs * 8) ⟧ ⊢ ⟦ words_owned q (xs ++ ys) (fs ++ gs) b o ⟧
    words_glue [] ys [] gs o e =
        let k : o ≡ o + 0 * 8 = omega arith in
        subst (λ (j : ℕ). emp 𝓤 ∗ ⟦ words_owned q ys gs b j ⟧ ⊢ ⟦ words_owned q ys gs b o ⟧) k (snd∗ 𝓤 (emp 𝓤) ⟦ words_owned q ys gs b o ⟧)
    words_glue [] ys (f ∷ fs) gs o e = absurd (omega (arith, e))
    words_glue (x ∷ xs) ys [] gs o e = absurd (omega (arith, e))
    words_glue (x ∷ xs) ys (f ∷ fs) gs o e =
        let k : o + 8 + length xs * 8 ≡ o + suc (length xs) * 8 = omega arith in
        via 𝓤 (⟦ word_owned q f x b o ⟧ ∗ (⟦ words_owned q xs fs b (o + 8) ⟧ ∗ ⟦ words_owned q ys gs b (o + suc (length xs) * 8) ⟧))
        (assoc∗ 𝓤 ⟦ word_owned q f x b o ⟧ ⟦ words_owned q xs fs b (o + 8) ⟧ ⟦ words_owned q ys gs b (o + suc (length xs) * 8) ⟧)
        (mono_r 𝓤 ⟦ word_owned q f x b o ⟧ (subst (λ (j : ℕ). ⟦ words_owned q xs fs b (o + 8) ⟧ ∗ ⟦ words_owned q ys gs b j ⟧ ⊢ ⟦ words_owned q (xs ++ ys) (fs ++ gs) b (o + 8) ⟧) k (words_glue xs ys fs gs (o + 8) (omega (arith, e)))))

    pub to_words : (xs : List ℕ) (o : ℕ) → ⟦ all_owned q xs b o ⟧ ⊢ ⟦ words q xs b o ⟧
    to_words [] o = id⊢ 𝓤 (emp 𝓤)
    to_words (x ∷ xs) o = mono_r 𝓤 ⟦ part_at u64 q x b o ⟧ (to_words xs (o + 8))

    pub of_words : (xs : List ℕ) (o : ℕ) → ⟦ words q xs b o ⟧ ⊢ ⟦ all_owned q xs b o ⟧
    of_words [] o = id⊢ 𝓤 (emp 𝓤)
    of_words (x ∷ xs) o = mono_r 𝓤 ⟦ part_at u64 q x b o ⟧ (of_words xs (o + 8))

    pub of_array : (xs : List ℕ) (o : ℕ) → ⟦ part_at (Array u64 (length xs)) q xs b o ⟧ ⊢ ⟦ all_owned q xs b o ⟧
    of_array xs o =
        qed 𝓛 (‵ (part_at (Array u64 (length xs)) q xs b o) ∷ []) ∵ use1 𝓛 (‵ (fsep (feq ℕ (length xs) (length xs)) (words q xs b o))) (Array-apart 𝓛 u64 q tt (length xs) xs b o) $ fsplit ! $ drop ! $
        by ! (of_words xs o)

    pub to_array : (xs : List ℕ) (o : ℕ) → ⟦ all_owned q xs b o ⟧ ⊢ ⟦ part_at (Array u64 (length xs)) q xs b o ⟧
    to_array xs o =
        qed 𝓛 (‵ (all_owned q xs b o) ∷ []) ∵ use1 𝓛 (‵ (words q xs b o)) (to_words xs o) $ feq_i ! ℕ (length xs) (length xs) refl $ fjoin ! $
        by ! (Array-whole 𝓛 u64 q (length xs) xs b o)

    -- words that are all here, cut in two and joined
    pub cut_at : (mid : ℕ) (xs : List ℕ) (o : ℕ) → mid ≤ length xs → ⟦ all_owned q xs b o ⟧ ⊢ ⟦ all_owned q (take mid xs) b o ⟧ ∗ ⟦ all_owned q (drop_l mid xs) b (o + mid * 8) ⟧
    cut_at zero xs o fits =
        let k : o ≡ o + 0 * 8 = omega arith in
        subst (λ (j : ℕ). ⟦ all_owned q xs b o ⟧ ⊢ emp 𝓤 ∗ ⟦ all_owned q xs b j ⟧) k (emp∗ 𝓤 ⟦ all_owned q xs b o ⟧)
    cut_at (suc mid) [] o fits = absurd (omega (arith, fits))
    cut_at (suc mid) (x ∷ xs) o fits =
        let k : o + 8 + mid * 8 ≡ o + suc mid * 8 = omega arith in
        via 𝓤 (⟦ part_at u64 q x b o ⟧ ∗ (⟦ all_owned q (take mid xs) b (o + 8) ⟧ ∗ ⟦ all_owned q (drop_l mid xs) b (o + suc mid * 8) ⟧))
        (mono_r 𝓤 ⟦ part_at u64 q x b o ⟧ (subst (λ (j : ℕ). ⟦ all_owned q xs b (o + 8) ⟧ ⊢ ⟦ all_owned q (take mid xs) b (o + 8) ⟧ ∗ ⟦ all_owned q (drop_l mid xs) b j ⟧) k (cut_at mid xs (o + 8) (omega (arith, fits)))))
        (assoc' 𝓤 ⟦ part_at u64 q x b o ⟧ ⟦ all_owned q (take mid xs) b (o + 8) ⟧ ⟦ all_owned q (drop_l mid xs) b (o + suc mid * 8) ⟧)

    pub join_at : (xs ys : List ℕ) (o : ℕ) → ⟦ all_owned q xs b o ⟧ ∗ ⟦ all_owned q ys b (o + length xs * 8) ⟧ ⊢ ⟦ all_owned q (xs ++ ys) b o ⟧
    join_at [] ys o =
        let k : o ≡ o + 0 * 8 = omega arith in
        subst (λ (j : ℕ). emp 𝓤 ∗ ⟦ all_owned q ys b j ⟧ ⊢ ⟦ all_owned q ys b o ⟧) k (snd∗ 𝓤 (emp 𝓤) ⟦ all_owned q ys b o ⟧)
    join_at (x ∷ xs) ys o =
        let k : o + 8 + length xs * 8 ≡ o + suc (length xs) * 8 = omega arith in
        via 𝓤 (⟦ part_at u64 q x b o ⟧ ∗ (⟦ all_owned q xs b (o + 8) ⟧ ∗ ⟦ all_owned q ys b (o + suc (length xs) * 8) ⟧))
        (assoc∗ 𝓤 ⟦ part_at u64 q x b o ⟧ ⟦ all_owned q xs b (o + 8) ⟧ ⟦ all_owned q ys b (o + suc (length xs) * 8) ⟧)
        (mono_r 𝓤 ⟦ part_at u64 q x b o ⟧ (subst (λ (j : ℕ). ⟦ all_owned q xs b (o + 8) ⟧ ∗ ⟦ all_owned q ys b j ⟧ ⊢ ⟦ all_owned q (xs ++ ys) b (o + 8) ⟧) k (join_at xs ys (o + 8))))

  none_owned : (q : Share) (xs : List ℕ) (o : ℕ) → emp 𝓤 ⊢ ⟦ words_owned q xs (replicate (length xs) false) b o ⟧
  none_owned q [] o = id⊢ 𝓤 (emp 𝓤)
  none_owned q (x ∷ xs) o = via 𝓤 (emp 𝓤 ∗ emp 𝓤) (emp∗ 𝓤 (emp 𝓤)) (mono_r 𝓤 (emp 𝓤) (none_owned q xs (o + 8)))

  module _ (q : Share) (xs : List ℕ) (fs : List Bool) (same : length fs ≡ length xs) (from n o : ℕ) (fits : from + n ≤ length xs) where
    abbrev mid : ℕ
    mid = o + from * 8

    abbrev past : ℕ
    past = mid + n * 8

    abbrev Around : Fml
    Around = fsep (words_owned q (take from xs) (take from fs) b o) (words_owned q (drop_l (from + n) xs) (drop_l (from + n) fs) b past)

    fronts : length (take from fs) ≡ length (take from xs)
    fronts = front_long fs from n (omega (arith, same, fits)) ∙ sym (front_long xs from n fits)

    apart : ⟦ words_owned q xs fs b o ⟧ ⊢ ⟦ words_owned q (part xs from n) (part fs from n) b mid ⟧ ∗ ⟦ Around ⟧
    apart =
        let xrest = part xs from n ++ drop_l (from + n) xs in
        let frest = part fs from n ++ drop_l (from + n) fs in
        qed 𝓛 (‵ (words_owned q xs fs b o) ∷ []) ∵ rewrite ! 0 (λ (l : List ℕ). ‵ (words_owned q l fs b o)) (sym (unspliced xs from n)) refl $
        rewrite ! 0 (λ (l : List Bool). ‵ (words_owned q (spliced xs from n (part xs from n)) l b o)) (sym (unspliced fs from n)) refl $
        use1 𝓛 (‵ (words_owned q (take from xs) (take from fs) b o) ⊛ ‵ (words_owned q xrest frest b (o + length (take from xs) * 8))) (words_cut q (take from xs) _ (take from fs) _ o fronts) $
        split ! $ move ! (1 ∷ []) $ rewrite ! 0 (λ (k : ℕ). ‵ (words_owned q xrest frest b (o + k * 8))) (front_long xs from n fits) refl $
        use1 𝓛 (‵ (words_owned q (part xs from n) (part fs from n) b mid) ⊛ ‵ (words_owned q (drop_l (from + n) xs) (drop_l (from + n) fs) b (mid + length (part xs from n) * 8)))
        (words_cut q (part xs from n) _ (part fs from n) _ mid (part_long fs from n (omega (arith, same, fits)) ∙ sym (part_long xs from n fits))) $ split ! $ move ! (1 ∷ []) $
        rewrite ! 0 (λ (k : ℕ). ‵ (words_owned q (drop_l (from + n) xs) (drop_l (from + n) fs) b (mid + k * 8))) (part_long xs from n fits) refl $
        move ! (2 ∷ 0 ∷ []) $ fjoin ! $ move ! (1 ∷ 0 ∷ []) $ done !

    together : (ws : List ℕ) (gs : List Bool) → length ws ≡ n → length gs ≡ n → ⟦ words_owned q ws gs b mid ⟧ ∗ ⟦ Around ⟧ ⊢ ⟦ words_owned q (spliced xs from n ws) (spliced fs from n gs) b o ⟧
    together ws gs p r =
        let xrest = ws ++ drop_l (from + n) xs in
        let frest = gs ++ drop_l (from + n) fs in
        qed 𝓛 (‵ (words_owned q ws gs b mid) ∷ ‵ Around ∷ []) ∵ move ! (1 ∷ []) $ fsplit ! $ move ! (2 ∷ 1 ∷ []) $
        rewrite ! 1 (λ (k : ℕ). ‵ (words_owned q (drop_l (from + n) xs) (drop_l (from + n) fs) b (mid + k * 8))) (sym p) refl $
        use2 𝓛 (‵ (words_owned q xrest frest b mid)) (words_glue q ws _ gs _ mid (r ∙ sym p)) $ move ! (1 ∷ 0 ∷ []) $
        rewrite ! 1 (λ (k : ℕ). ‵ (words_owned q xrest frest b (o + k * 8))) (sym (front_long xs from n fits)) refl $
        by ! (words_glue q (take from xs) _ (take from fs) _ o fronts)

    pub take_out : AreHere (part fs from n) n → ⟦ words_owned q xs fs b o ⟧ ⊢ ⟦ words_owned q (part xs from n) (replicate n true) b mid ⟧ ∗ ⟦ words_owned q xs (spliced fs from n (replicate n false)) b o ⟧
    take_out here =
        let long = part_long xs from n fits in
        qed 𝓛 (‵ (words_owned q xs fs b o) ∷ []) ∵ use1 𝓛 (‵ (words_owned q (part xs from n) (part fs from n) b mid) ⊛ ‵ Around) apart $ split ! $
        rewrite ! 0 (λ (l : List Bool). ‵ (words_owned q (part xs from n) l b mid)) here refl $ move ! (1 ∷ []) $
        nothing ! $ use1 𝓛 (‵ (words_owned q (part xs from n) (replicate (length (part xs from n)) false) b mid)) (none_owned q (part xs from n) mid) $
        rewrite ! 0 (λ (k : ℕ). ‵ (words_owned q (part xs from n) (replicate k false) b mid)) long refl $
        use2 𝓛 (‵ (words_owned q (spliced xs from n (part xs from n)) (spliced fs from n (replicate n false)) b o)) (together (part xs from n) (replicate n false) long (length-replicate n false)) $
        rewrite ! 0 (λ (l : List ℕ). ‵ (words_owned q l (spliced fs from n (replicate n false)) b o)) (unspliced xs from n) refl $ move ! (1 ∷ 0 ∷ []) $ done !

    pub put_back : (ws : List ℕ) → length ws ≡ n → ⟦ words_owned q ws (replicate n true) b mid ⟧ ∗ ⟦ words_owned q xs fs b o ⟧ ⊢ ⟦ words_owned q (spliced xs from n ws) (spliced fs from n (replicate n true)) b o ⟧
    put_back ws p =
        qed 𝓛 (‵ (words_owned q ws (replicate n true) b mid) ∷ ‵ (words_owned q xs fs b o) ∷ []) ∵ move ! (1 ∷ []) $
        use1 𝓛 (‵ (words_owned q (part xs from n) (part fs from n) b mid) ⊛ ‵ Around) apart $ split ! $ drop ! $ move ! (1 ∷ 0 ∷ []) $
        by ! (together ws (replicate n true) p (length-replicate n true))

  -- no word has two owners
  module _ (𝓜 : Model 𝓤 𝓛.H) where
    open 𝓛 use {H}

    word_alone : (x y o : ℕ) → ⟦ part_at u64 full_share x b o ⟧ ∗ ⟦ part_at u64 full_share y b o ⟧ ⊢ never 𝓤
    word_alone x y o =
        via 𝓤 (H.room (ty_int w64) b o ∗ H.at full_share (ty_int w64) b o (vint w64 y))
        (mono∗ 𝓤 (via 𝓤 (H.at full_share (ty_int w64) b o (vint w64 x)) (uint_out 𝓛 full_share w64 x b o) (𝓜.at_room (ty_int w64) b o (vint w64 x))) (uint_out 𝓛 full_share w64 y b o))
        (𝓜.room_at (ty_int w64) (ty_int w64) b o o o full_share (vint w64 y) (omega arith, omega arith) (omega arith, omega arith))

    others_out : (ws xs : List ℕ) (fs : List Bool) (o : ℕ) → length xs ≡ length ws → length fs ≡ length ws → ⟦ all_owned full_share ws b o ⟧ ∗ ⟦ words_owned full_share xs fs b o ⟧ ⊢ fact 𝓤 (fs ≡ replicate (length ws) false)
    others_out [] xs [] o e f = fact_i 𝓤 _ _ refl
    others_out [] xs (g ∷ fs) o e f = absurd (omega (arith, f))
    others_out (w ∷ ws) [] fs o e f = absurd (omega (arith, e))
    others_out (w ∷ ws) (x ∷ xs) [] o e f = absurd (omega (arith, f))
    others_out (w ∷ ws) (x ∷ xs) (true ∷ fs) o e f =
        via 𝓤 (⟦ part_at u64 full_share w b o ⟧ ∗ ⟦ part_at u64 full_share x b o ⟧)
        (mono∗ 𝓤 (fst∗ 𝓤 ⟦ part_at u64 full_share w b o ⟧ ⟦ all_owned full_share ws b (o + 8) ⟧) (fst∗ 𝓤 ⟦ part_at u64 full_share x b o ⟧ ⟦ words_owned full_share xs fs b (o + 8) ⟧))
        (via 𝓤 (never 𝓤) (word_alone w x o) (never_e 𝓤 _))
    others_out (w ∷ ws) (x ∷ xs) (false ∷ fs) o e f =
        qed 𝓛 (‵ (all_owned full_share (w ∷ ws) b o) ∷ ‵ (words_owned full_share (x ∷ xs) (false ∷ fs) b o) ∷ []) ∵ fsplit ! $ drop ! $ move ! (1 ∷ []) $ fsplit ! $ drop ! $ move ! (1 ∷ 0 ∷ []) $
        use2 𝓛 (raw (fact 𝓤 (fs ≡ replicate (length ws) false))) (others_out ws xs fs (o + 8) (omega (arith, e)) (omega (arith, f))) $
        heard ! (fs ≡ replicate (length ws) false) (λ rest. by ! (fact_i 𝓤 _ _ (ap (λ (l : List Bool). false ∷ l) rest)))

    -- a part to which somebody else has the right isn't here
    pub was_out : (xs : List ℕ) (fs : List Bool) (from o : ℕ) (ws : List ℕ) → length fs ≡ length xs → from + length ws ≤ length xs
        → ⟦ all_owned full_share ws b (o + from * 8) ⟧ ∗ ⟦ words_owned full_share xs fs b o ⟧ ⊢ fact 𝓤 (part fs from (length ws) ≡ replicate (length ws) false)
    was_out xs fs from o ws same fits =
        let n = length ws in
        qed 𝓛 (‵ (all_owned full_share ws b (o + from * 8)) ∷ ‵ (words_owned full_share xs fs b o) ∷ []) ∵ move ! (1 ∷ []) $
        use1 𝓛 (‵ (words_owned full_share (part xs from n) (part fs from n) b (o + from * 8)) ⊛ ‵ (Around full_share xs fs same from n o fits)) (apart full_share xs fs same from n o fits) $ split ! $ move ! (1 ∷ []) $ drop ! $ move ! (1 ∷ 0 ∷ []) $
        by ! (others_out ws (part xs from n) (part fs from n) (o + from * 8) (part_long xs from n fits) (part_long fs from n (omega (arith, same, fits))))

  -- what is lent of words is lent of a part of them
  module _ (κ : Lft) where
    lent_drop : (n : ℕ) (xs : List ℕ) (fs : List Bool) (o p : ℕ) → p ≡ o + n * 8 → length fs ≡ length xs → ⟦ words_lent xs fs b o κ ⟧ ⊢ ⟦ words_lent (drop_l n xs) (drop_l n fs) b p κ ⟧
    lent_drop zero xs fs o p e same = let at : o ≡ p = omega (arith, e) in subst (λ (k : ℕ). ⟦ words_lent xs fs b o κ ⟧ ⊢ ⟦ words_lent xs fs b k κ ⟧) at (id⊢ 𝓤 _)
    lent_drop (suc n) [] fs o p e same = top 𝓤 _
    lent_drop (suc n) (x ∷ xs) [] o p e same = absurd (omega (arith, same))
    lent_drop (suc n) (x ∷ xs) (f ∷ fs) o p e same = via 𝓤 _ (snd∗ 𝓤 ⟦ word_lent f x b o κ ⟧ ⟦ words_lent xs fs b (o + 8) κ ⟧) (lent_drop n xs fs (o + 8) p (omega (arith, e)) (omega (arith, same)))

    lent_take : (n : ℕ) (xs : List ℕ) (fs : List Bool) (o : ℕ) → AreHere (take n fs) n → ⟦ words_lent xs fs b o κ ⟧ ⊢ ⟦ elements_shared u64 (take n xs) b o κ ⟧
    lent_take zero xs fs o here = top 𝓤 _
    lent_take (suc n) [] fs o here = top 𝓤 _
    lent_take (suc n) (x ∷ xs) [] o here = absurd (subst T (sym (ap first here)) tt)
    lent_take (suc n) (x ∷ xs) (false ∷ fs) o here = absurd (subst T (sym (ap first here)) tt)
    lent_take (suc n) (x ∷ xs) (true ∷ fs) o here = mono_r 𝓤 ⟦ shared_of u64 x b o κ ⟧ (lent_take n xs fs (o + 8) (ap (drop_l 1) here))

    pub lent_part : (xs : List ℕ) (fs : List Bool) (from n o : ℕ) → length fs ≡ length xs → AreHere (part fs from n) n → ⟦ words_lent xs fs b o κ ⟧ ⊢ ⟦ elements_shared u64 (part xs from n) b (o + from * 8) κ ⟧
    lent_part xs fs from n o same here = via 𝓤 ⟦ words_lent (drop_l from xs) (drop_l from fs) b (o + from * 8) κ ⟧ (lent_drop from xs fs o (o + from * 8) refl same) (lent_take n (drop_l from xs) (drop_l from fs) (o + from * 8) here)
