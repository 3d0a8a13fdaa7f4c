-- Halves of the right to words: how it is parted and put together, and that both show the same words. Assumes `Logic` and its model.
use Rattle.std.proofs.Common.{◌≡◌, ℕ, zero, ◌+◌, List, [], ◌∷◌, length, refl, ap, ap₂, arith}
use seplogic.Ra.Ura.{Ura}
use seplogic.Bi.Basic.{and, and_intro}
use base.Logic.{SProp, ent, sep, emp, guard, guard_e, via, mono∗, fst∗, snd∗, emp∗}
use base.Fml.{Share}
use base.Share
use base.Share.{halves}
use contract.Monad.{fact, fact_i}
use mir.Syntax.{w64, ty_int}
use mir.Val.{Val, vint, as_int}
use prog.Model.{Model}
use types.Logic.{Logic, sem}
use types.Kit.{‵, raw, ◌⊛◌, ◌$◌, ◌∵◌, !, qed, by, move, use1, use2, split, fsplit, fjoin, done}
use denote.Builtin.{u64}
use denote.Memory.{part_at}
use denote.Plain.{uint_out, uint_in}
use denote.Steps.{heard}
use Rattle.row_core.proofs.Words.{all_owned}

abbrev number : Val → ℕ
number v = as_int zero v (λ w n. n)

module _ {M : Type 1} {𝓤 : Ura M} (𝓛 : Logic 𝓤) (𝓜 : Model 𝓤 𝓛.H) (q r : Share) where
  open 𝓛 use {H}

  abbrev cell : Share → ℕ → ℕ → ℕ → SProp 𝓤
  cell s x b o = H.at s (ty_int w64) b o (vint w64 x)

  word_agrees : (x y b o : ℕ) → ent 𝓤 (sep 𝓤 (sem 𝓛 (part_at u64 q x b o)) (sem 𝓛 (part_at u64 r y b o))) (fact 𝓤 (x ≡ y))
  word_agrees x y b o =
      via 𝓤 (sep 𝓤 (cell q x b o) (cell r y b o)) (mono∗ 𝓤 (uint_out 𝓛 q w64 x b o) (uint_out 𝓛 r w64 y b o))
      (via 𝓤 (and 𝓤.op (cell q x b o) (cell r y b o)) (and_intro 𝓤.op (fst∗ 𝓤 (cell q x b o) (cell r y b o)) (snd∗ 𝓤 (cell q x b o) (cell r y b o)))
      (via 𝓤 (guard 𝓤 (vint w64 x ≡ vint w64 y) (emp 𝓤)) (𝓜.at_agree q r (ty_int w64) b o (vint w64 x) (vint w64 y))
      (guard_e 𝓤 (vint w64 x ≡ vint w64 y) (emp 𝓤) (λ e. fact_i 𝓤 (x ≡ y) (emp 𝓤) (ap number e)))))

  -- two shares of the words at one place show the same words
  pub words_agree : (xs ys : List ℕ) (b o : ℕ) → length xs ≡ length ys → ent 𝓤 (sep 𝓤 (sem 𝓛 (all_owned q xs b o)) (sem 𝓛 (all_owned r ys b o))) (fact 𝓤 (xs ≡ ys))
  words_agree [] [] b o e = fact_i 𝓤 _ _ refl
  words_agree [] (y ∷ ys) b o e = absurd (omega (arith, e))
  words_agree (x ∷ xs) [] b o e = absurd (omega (arith, e))
  words_agree (x ∷ xs) (y ∷ ys) b o e =
      qed 𝓛 (‵ (all_owned q (x ∷ xs) b o) ∷ ‵ (all_owned r (y ∷ ys) b o) ∷ []) ∵ fsplit ! $ move ! (2 ∷ []) $ fsplit ! $ move ! (2 ∷ 0 ∷ []) $
      use2 𝓛 (raw (fact 𝓤 (x ≡ y))) (word_agrees x y b o) $ heard ! (x ≡ y) (λ same. move ! (1 ∷ 0 ∷ []) $
      use2 𝓛 (raw (fact 𝓤 (xs ≡ ys))) (words_agree xs ys b (o + 8) (omega (arith, e))) $ heard ! (xs ≡ ys) (λ rest. by ! (fact_i 𝓤 _ _ (ap₂ (λ a l. a ∷ l) same rest))))

module _ {M : Type 1} {𝓤 : Ura M} (𝓛 : Logic 𝓤) (q : Share) where
  open 𝓛 use {H}

  abbrev l : Share
  l = Share.left q

  abbrev r : Share
  r = Share.right q

  word_parted : (x b o : ℕ) → ent 𝓤 (sem 𝓛 (part_at u64 q x b o)) (sep 𝓤 (sem 𝓛 (part_at u64 l x b o)) (sem 𝓛 (part_at u64 r x b o)))
  word_parted x b o =
      via 𝓤 (H.at q (ty_int w64) b o (vint w64 x)) (uint_out 𝓛 q w64 x b o)
      (via 𝓤 (sep 𝓤 (H.at l (ty_int w64) b o (vint w64 x)) (H.at r (ty_int w64) b o (vint w64 x))) (𝓛.laws.at_split q l r (halves q) (ty_int w64) b o (vint w64 x))
      (mono∗ 𝓤 (uint_in 𝓛 l w64 x b o) (uint_in 𝓛 r w64 x b o)))

  word_whole : (x b o : ℕ) → ent 𝓤 (sep 𝓤 (sem 𝓛 (part_at u64 l x b o)) (sem 𝓛 (part_at u64 r x b o))) (sem 𝓛 (part_at u64 q x b o))
  word_whole x b o =
      via 𝓤 (sep 𝓤 (H.at l (ty_int w64) b o (vint w64 x)) (H.at r (ty_int w64) b o (vint w64 x))) (mono∗ 𝓤 (uint_out 𝓛 l w64 x b o) (uint_out 𝓛 r w64 x b o))
      (via 𝓤 (H.at q (ty_int w64) b o (vint w64 x)) (𝓛.laws.at_join q l r (halves q) (ty_int w64) b o (vint w64 x)) (uint_in 𝓛 q w64 x b o))

  pub words_parted : (xs : List ℕ) (b o : ℕ) → ent 𝓤 (sem 𝓛 (all_owned q xs b o)) (sep 𝓤 (sem 𝓛 (all_owned l xs b o)) (sem 𝓛 (all_owned r xs b o)))
  words_parted [] b o = emp∗ 𝓤 (emp 𝓤)
  words_parted (x ∷ xs) b o =
      qed 𝓛 (‵ (all_owned q (x ∷ xs) b o) ∷ []) ∵ fsplit ! $ use1 𝓛 (‵ (part_at u64 l x b o) ⊛ ‵ (part_at u64 r x b o)) (word_parted x b o) $ split ! $ move ! (2 ∷ []) $
      use1 𝓛 (‵ (all_owned l xs b (o + 8)) ⊛ ‵ (all_owned r xs b (o + 8))) (words_parted xs b (o + 8)) $ split ! $ move ! (2 ∷ 0 ∷ []) $ fjoin ! $ move ! (2 ∷ 1 ∷ []) $ fjoin ! $ move ! (1 ∷ 0 ∷ []) $ done !

  pub words_whole : (xs : List ℕ) (b o : ℕ) → ent 𝓤 (sep 𝓤 (sem 𝓛 (all_owned l xs b o)) (sem 𝓛 (all_owned r xs b o))) (sem 𝓛 (all_owned q xs b o))
  words_whole [] b o = fst∗ 𝓤 (emp 𝓤) (emp 𝓤)
  words_whole (x ∷ xs) b o =
      qed 𝓛 (‵ (all_owned l (x ∷ xs) b o) ∷ ‵ (all_owned r (x ∷ xs) b o) ∷ []) ∵ fsplit ! $ move ! (2 ∷ []) $ fsplit ! $ move ! (2 ∷ 0 ∷ []) $
      use2 𝓛 (‵ (part_at u64 q x b o)) (word_whole x b o) $ move ! (2 ∷ 1 ∷ []) $ use2 𝓛 (‵ (all_owned q xs b (o + 8))) (words_whole xs b (o + 8)) $ move ! (1 ∷ 0 ∷ []) $ fjoin ! $ done !
