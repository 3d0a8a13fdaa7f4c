-- A vector of words is the right to them and what waits for it. Assumes `Logic`.
use Rattle.std.proofs.Common.{◌≡◌, ℕ, ◌*◌, ◌^◌, ◌<◌, Bool, true, false, List, [], ◌∷◌, length, refl, sym, subst, arith, Vec}
use Rattle.std.proofs.lemmas.List.{with_items_is}
use mathlib.Core.Bool.{not}
use lib.Dec.{T, eqb, eqb→eq}
use seplogic.Ra.Ura.{Ura}
use mir.Val.{Val}
use base.Fraction.{full_share}
use base.Logic.{ent, sep, wand, emp, never, id⊢, all_e, apply∗}
use base.Fml.{Fml, ftrue, fsep, feq, fall, fwand}
use contract.Monad.{fact, fact_i}
use types.Logic.{Logic, sem}
use types.Kit.{‵, raw, ◌⊛◌, ◌$◌, ◌∵◌, !, qed, move, drop, use0, use1, use2, split, frame, each, assume, show, fsplit, fjoin, feq_l, feq_i, flt_l, flt_i, rewrite, done}
use denote.Array.{Array}
use denote.Builtin.{u64}
use denote.Memory.{part_at}
use denote.RattleType.{RattleType}
use denote.RawPtr.{block_ptr, block_of, count_of, in_block, in_a_block}
use denote.Steps.{nothing}
use Rattle.std.specs.Allocator.{block_with_items}
use Rattle.std.specs.Vec.{with_items}
use Rattle.std_alloc.specs.Vec.Ownership.{owns_if, has_block}
use Rattle.std_alloc.specs.contracts.vec.Vec as V
use Rattle.std_alloc.proofs.vec.Vec.TheLaws.{the_row_laws}
use Rattle.std_heap.specs.contracts.Global as Global
use Rattle.std_heap.proofs.Global.TheLaws as global
use denote.Param.Laws.{Laws}
use Rattle.std_heap.specs.contracts.GlobalAllocator.TheImpl.{ghosts}
use Rattle.row_core.specs.contracts.allocation.Allocation as Allocation
use Rattle.row_core.proofs.Lodging.{none, word_laws}
use Rattle.row_core.proofs.Walks.{plainly, one, one_made}
use Rattle.row_core.proofs.Words.{all_owned, of_array, to_array}

abbrev pub Words : RattleType
Words = V.the_row u64 Global.the_row ghosts

abbrev pub vec-laws : Laws Words
vec-laws = the_row_laws u64 Global.the_row ghosts word_laws global.the_row_laws

module _ {M : Type 1} {𝓤 : Ura M} (𝓛 : Logic 𝓤) (v : Vec ℕ Global.the_row.Denot) (u : Val) where
  abbrev block : ℕ → ℕ → List ℕ → Fml
  block b o xs = block_with_items (ghosts.dealloc_token v.alloc) u64 (block_ptr b o) v.len v.cap xs

  abbrev given : ℕ → ℕ → List ℕ → Fml
  given b o xs = fsep (feq ℕ (length xs) v.len) (all_owned full_share xs b o)

  -- what waits for the right to the words
  abbrev waiting : Bool → ℕ → ℕ → List ℕ → Fml
  waiting full b o xs = fwand (given b o xs) (owns_if full (block b o (with_items v xs).items))

  block_apart : (empty : Bool) → (T empty → v.cap ≡ 0) → (b o : ℕ) → ent 𝓤 (sem 𝓛 (owns_if (not empty) (block b o v.items))) (sep 𝓤 (sem 𝓛 (all_owned full_share v.items b o)) (sem 𝓛 (fall (List ℕ) (waiting (not empty) b o))))
  block_apart false z b o =
      qed 𝓛 (‵ (block b o v.items) ∷ []) ∵ fsplit ! $ rewrite ! 0 (λ k. ‵ (part_at (Array u64 k) full_share v.items b o)) v.ok.0 refl $
      use1 𝓛 (‵ (all_owned full_share v.items b o)) (of_array 𝓛 b full_share v.items o) $ frame ! $
      each ! (λ xs. sem 𝓛 (waiting true b o xs)) (λ xs. assume ! (‵ (given b o xs)) $ fsplit ! $ feq_l ! (λ long.
      use1 𝓛 (‵ (part_at (Array u64 (length xs)) full_share xs b o)) (to_array 𝓛 b full_share xs o) $
      rewrite ! 0 (λ k. ‵ (part_at (Array u64 k) full_share xs b o)) long refl $ fjoin ! $
      rewrite ! 0 (λ ys. ‵ (block b o ys)) (sym (with_items_is v xs long)) refl $ done !))
  block_apart true z b o =
      let nil : v.items ≡ [] = none v.items (omega (arith, v.ok.0, v.ok.1, z tt)) in
      subst (λ (xs : List ℕ). ent 𝓤 (sem 𝓛 ftrue) (sep 𝓤 (sem 𝓛 (all_owned full_share xs b o)) (sem 𝓛 (fall (List ℕ) (waiting false b o))))) (sym nil)
      (qed 𝓛 (‵ ftrue ∷ []) ∵ frame ! $ each ! (λ xs. sem 𝓛 (waiting false b o xs)) (λ xs. assume ! (‵ (given b o xs)) $ drop ! $ nothing ! $ done !))

  pub carve : ent 𝓤 (sem 𝓛 (Words.own_val v (u ∷ []))) (sep 𝓤 (sem 𝓛 (in_block v.ptr (all_owned full_share v.items (block_of v.ptr) (count_of v.ptr))))
      (sep 𝓤 (fact 𝓤 (v.len < 2 ^ 60)) (sem 𝓛 (Allocation.the_own (record { ptr = v.ptr; len = v.len }) (one u ∷ [])))))
  carve =
      let Given = λ (ys : List ℕ). fsep (feq ℕ (length ys) v.len) (all_owned full_share ys (block_of v.ptr) (count_of v.ptr)) in
      let Whole = λ (ys : List ℕ). (plainly (Words ∷ [])).own_val (with_items v ys, tt) (one u ∷ []) in
      let full = has_block v.cap in
      qed 𝓛 (‵ (Words.own_val v (u ∷ [])) ∷ []) ∵ fsplit ! $ move ! (1 ∷ []) $ fsplit ! $ flt_l ! (λ fit.
      in_a_block ! v.ptr (λ p. in_block p (owns_if full (block_with_items (ghosts.dealloc_token v.alloc) u64 p v.len v.cap v.items))) (id⊢ 𝓤 (never 𝓤)) (λ b o at.
      use1 𝓛 (‵ (all_owned full_share v.items b o) ⊛ ‵ (fall (List ℕ) (waiting full b o))) (block_apart (eqb v.cap 0) (eqb→eq v.cap 0) b o) $ split ! $
      rewrite ! 0 (λ p. ‵ (in_block p (all_owned full_share v.items (block_of p) (count_of p)))) (sym at) refl $ frame ! $
      use0 𝓛 (raw (fact 𝓤 (v.len < 2 ^ 60))) (fact_i 𝓤 (v.len < 2 ^ 60) (emp 𝓤) (omega (arith, fit, v.ok.1))) $ frame ! $
      -- [what waits; the fields]
      show ! (λ i. sem 𝓛 (fsep (feq ℕ i.list.len v.len) (fall (List ℕ) (λ ys. fwand (Given ys) ((plainly (Words ∷ [])).own_val (with_items i.list ys, tt) (one u ∷ [])))))) (record { list = v }) $
      feq_i ! ℕ v.len v.len refl $ frame ! $ each ! (λ ys. wand 𝓤 (sem 𝓛 (Given ys)) (sem 𝓛 (Whole ys))) (λ ys. assume ! (‵ (Given ys)) $
      let zs = (with_items v ys).items in
      rewrite ! 0 (λ p. ‵ (fsep (feq ℕ (length ys) v.len) (all_owned full_share ys (block_of p) (count_of p)))) at refl $ move ! (1 ∷ []) $
      use1 𝓛 (‵ (waiting full b o ys)) (all_e 𝓤 (λ (xs : List ℕ). sem 𝓛 (waiting full b o xs)) ys) $ move ! (1 ∷ 0 ∷ []) $
      use2 𝓛 (‵ (owns_if full (block b o zs))) (apply∗ 𝓤 (sem 𝓛 (given b o ys)) (sem 𝓛 (owns_if full (block b o zs)))) $
      rewrite ! 0 (λ p. ‵ (in_block p (owns_if full (block_with_items (ghosts.dealloc_token v.alloc) u64 p v.len v.cap zs)))) (sym at) refl $
      flt_i ! (v.cap * 8) (2 ^ 63) fit $ fjoin ! $ move ! (1 ∷ 0 ∷ []) $ fjoin ! $ one_made ! Words (with_items v ys) u $ done !)))
