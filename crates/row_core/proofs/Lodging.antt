-- `lodge` and `dislodge` at a call, for words. Assumes `Logic`.
use Rattle.std.proofs.Common.{◌≡◌, ℕ, ◌+◌, ◌-◌, ◌*◌, ◌^◌, ◌<◌, ◌≤◌, Bool, true, false, List, [], ◌∷◌, length, refl, sym, ap, ◌∙◌, subst, arith, Vec}
use mathlib.Core.Bool.{not}
use lib.Dec.{T, eqb, eqb→eq}
use seplogic.Ra.Ura.{Ura}
use contract.Conj.{top}
use mir.Syntax.{w64, ty_int, ty_array}
use mir.Val.{Val, vint, vptr}
use base.Fraction.{full_share}
use base.Logic.{SProp, ent, ex, guard, emp, never, id⊢}
use base.Fml.{ftrue, fsep, flft, froom}
use prog.Memory.{Memory}
use prog.Routine.{Routine}
use contract.Monad.{Fun, fact, fact_i}
use contract.BorrowLft.{◌⊑◌, ⊑_refl}
use types.Logic.{Logic, sem}
use types.Kit.{‵, raw, ◌⊛◌, some, later, ◌$◌, ◌∵◌, !, qed, by, move, keep, use0, use1, drop, split, split3, join, pick, fsplit, fjoin, fjoin3, feq_l, feq_i, flt_l, flt_i, rewrite, check, show, await, updating, now, done}
use denote.Exit.{no, left}
use denote.RattleType.{RattleType}
use denote.Builtin.{u64, usize}
use denote.Array.{Array}
use denote.Memory.{part_at}
use denote.Param.{param}
use denote.Param.Laws.{Laws, of_field}
use denote.Param.Shared.{copy_shared}
use denote.RawPtr.{Ptr, block_ptr, block_of, count_of, in_block, in_a_block}
use denote.Steps.{only, nothing, heard}
use denote.Struct.Field.{u64-field}
use denote.Struct.Laws.{u64-laws, u64-copy}
use denote.Triple.Spec.{triple_of}
use denote.Triple.Statement.{Contract}
use Rattle.std.specs.Allocator.{block_with_items}
use Rattle.std_alloc.specs.Vec.Ownership.{lodged, owns_if, has_block}
use Rattle.std_alloc.specs.declared.vec.lodged.Lodged.{Lodged}
use Rattle.std_alloc.specs.contracts.vec.Vec as V
use Rattle.std_alloc.specs.contracts.vec.lodged.Lodged as L
use Rattle.std_alloc.specs.contracts.vec.lodged.LodgedAllocator.TheImpl.{ghosts}
use Rattle.std_alloc.specs.contracts.vec.lodge as LG
use Rattle.std_alloc.specs.contracts.vec.lodged.Vec+T+Lodged.dislodge as DL
use Rattle.std_alloc.proofs.vec.Vec.TheLaws as vec_laws
use Rattle.std_alloc.proofs.vec.lodged.Lodged.TheLaws as lodged-laws
use Rattle.row_core.proofs.Words.{all_owned, of_array, to_array}

abbrev pub word_laws : Laws u64
word_laws = of_field u64-field u64-laws refl (copy_shared u64-field u64-copy)

abbrev pub Lodging : RattleType
Lodging = V.the_row u64 L.the_row ghosts

abbrev pub lodging-laws : Laws Lodging
lodging-laws = vec_laws.the_row_laws u64 L.the_row ghosts word_laws lodged-laws.the_row_laws

pub none : (xs : List ℕ) → length xs ≡ 0 → xs ≡ []
none [] e = refl
none (x ∷ xs) e = absurd (omega (arith, e))

module _ {M : Type 1} {𝓤 : Ura M} (𝓛 : Logic 𝓤) (at_mem : Memory → SProp 𝓤) (run : Routine → Fun 𝓤) where
  open 𝓛 use {H}

  abbrev pub Lodges : Contract 𝓤
  Lodges = triple_of 𝓛 (LG.signature u64) (LG.spec u64 𝓛 at_mem run)

  abbrev pub Dislodges : Contract 𝓤
  Dislodges = triple_of 𝓛 (DL.signature u64) (DL.spec u64 𝓛 at_mem run)

  module _ (b o n : ℕ) (xs : List ℕ) where
    abbrev pub at_lodge : Lodges.Ghost
    at_lodge = ((([], tt), (full_share, tt), tt, (block_ptr b o, (n, (n, tt))), (vptr b o ∷ [], (vint w64 n ∷ [], (vint w64 n ∷ [], tt)))), xs)

    abbrev pub IsLodged : Vec ℕ Lodged → Type 0
    IsLodged r = (r.items ≡ xs) × (r.len ≡ n) × (r.cap ≡ n) × (r.ptr ≡ block_ptr b o)

    as_block : (full : Bool) → length xs ≡ n → ent 𝓤 (sem 𝓛 (all_owned full_share xs b o)) (sem 𝓛 (owns_if full (block_with_items (λ _ _. ftrue) u64 (block_ptr b o) n n xs)))
    as_block false long = top 𝓤 _
    as_block true long =
        let none_spare : 0 ≡ n - n = omega arith in
        qed 𝓛 (‵ (all_owned full_share xs b o) ∷ []) ∵ use1 𝓛 (‵ (part_at (Array u64 (length xs)) full_share xs b o)) (to_array 𝓛 b full_share xs o) $
        rewrite ! 0 (λ k. ‵ (part_at (Array u64 k) full_share xs b o)) long refl $
        nothing ! $ use0 𝓛 (‵ (froom (ty_array (ty_int w64) 0) b (o + n * 8))) (𝓛.laws.room_nil (ty_int w64) b (o + n * 8)) $
        rewrite ! 0 (λ k. ‵ (froom (ty_array (ty_int w64) k) b (o + n * 8))) none_spare refl $ move ! (2 ∷ 0 ∷ 1 ∷ []) $ fjoin3 ! $ done !

    pub lodge_goes : length xs ≡ n → n < 2 ^ 60 → ent 𝓤 (sem 𝓛 (all_owned full_share xs b o)) (Lodges.pre at_lodge)
    lodge_goes long small =
        let Asked : Type 0 = (n ≡ length xs) × (n ≤ n) × (n < 2 ^ 63) in
        qed 𝓛 (‵ (all_owned full_share xs b o) ∷ []) ∵ use1 𝓛 (‵ (owns_if (has_block n) (block_with_items (λ _ _. ftrue) u64 (block_ptr b o) n n xs))) (as_block (has_block n) long) $
        flt_i ! (n * 8) (2 ^ 63) (omega (arith, small)) $ fjoin ! $
        use0 𝓛 (raw (fact 𝓤 Asked)) (fact_i 𝓤 Asked (emp 𝓤) (sym long, omega arith, omega (arith, small))) $ join ! $
        use0 𝓛 (raw (fact 𝓤 ([] ⊑ []))) (fact_i 𝓤 ([] ⊑ []) (emp 𝓤) (⊑_refl [])) $ join ! $
        nothing ! $ flt_i ! n (2 ^ 64) (omega (arith, small)) $ feq_i ! (List Val) (vint w64 n ∷ []) (vint w64 n ∷ []) refl $ fjoin ! $ fjoin ! $
        flt_i ! n (2 ^ 64) (omega (arith, small)) $ feq_i ! (List Val) (vint w64 n ∷ []) (vint w64 n ∷ []) refl $ fjoin ! $ fjoin ! $
        feq_i ! (List Val) (vptr b o ∷ []) (vptr b o ∷ []) refl $ fjoin ! $ nothing ! $ use0 𝓛 (‵ (flft [] full_share)) (𝓛.lfts.lft-nil full_share) $ join ! $ join ! $ done !

    pub lodge_gives : (v : Val) → ent 𝓤 (Lodges.post at_lodge v) (H.⇛ (ex 𝓤 (λ (r : Vec ℕ Lodged). guard 𝓤 (IsLodged r) (sem 𝓛 (Lodging.own_val r (v ∷ []))))))
    lodge_gives v =
        qed 𝓛 (raw (Lodges.post at_lodge v) ∷ []) ∵ updating ! $
        use1 𝓛 (later (some (λ (r : Vec ℕ Lodged). ((‵ (flft [] full_share) ⊛ ‵ ftrue) ⊛ ‵ (Lodging.own_val r (v ∷ [])))
        ⊛ some (λ (ws : Unit {0} × (Unit {0} × (Unit {0} × Unit {0}))). ‵ (fsep ftrue (fsep ftrue (fsep ftrue ftrue))) ⊛ raw (fact 𝓤 (IsLodged r)))))) (id⊢ 𝓤 _) $ await ! tt $ pick ! (λ r.
        split ! $ move ! (1 ∷ []) $ pick ! (λ ws. split ! $ drop ! $ heard ! (IsLodged r) (λ is. split ! $ drop ! $ now ! $
        show ! (λ (z : Vec ℕ Lodged). guard 𝓤 (IsLodged z) (sem 𝓛 (Lodging.own_val z (v ∷ [])))) r $ check ! is $ done !)))

  module _ (d : Vec ℕ Lodged) (u : Val) where
    abbrev pub at_dislodge : Dislodges.Ghost
    at_dislodge = ((([], tt), (full_share, tt), tt, (d, tt), (u ∷ [], tt)), tt)

    pub dislodge_goes : ent 𝓤 (sem 𝓛 (Lodging.own_val d (u ∷ []))) (Dislodges.pre at_dislodge)
    dislodge_goes =
        qed 𝓛 (‵ (Lodging.own_val d (u ∷ [])) ∷ []) ∵ nothing ! $ use0 𝓛 (raw (fact 𝓤 ([] ⊑ []))) (fact_i 𝓤 ([] ⊑ []) (emp 𝓤) (⊑_refl [])) $ join ! $
        nothing ! $ move ! (2 ∷ 0 ∷ []) $ fjoin ! $ nothing ! $ use0 𝓛 (‵ (flft [] full_share)) (𝓛.lfts.lft-nil full_share) $ join ! $ join ! $ done !

    abbrev Block : ℕ → ℕ → Type 0
    Block b o = d.ptr ≡ block_ptr b o

    of_block : (empty : Bool) → (T empty → d.cap ≡ 0) → (b o : ℕ) → ent 𝓤 (sem 𝓛 (owns_if (not empty) (block_with_items (λ _ _. ftrue) u64 (block_ptr b o) d.len d.cap d.items))) (sem 𝓛 (all_owned full_share d.items b o))
    of_block false z b o =
        qed 𝓛 (‵ (block_with_items (λ _ _. ftrue) u64 (block_ptr b o) d.len d.cap d.items) ∷ []) ∵ fsplit ! $ keep ! (0 ∷ []) $
        rewrite ! 0 (λ k. ‵ (part_at (Array u64 k) full_share d.items b o)) d.ok.0 refl $ by ! (of_array 𝓛 b full_share d.items o)
    of_block true z b o =
        let nil : d.items ≡ [] = none d.items (omega (arith, d.ok.0, d.ok.1, z tt)) in
        subst (λ (xs : List ℕ). ent 𝓤 (sem 𝓛 ftrue) (sem 𝓛 (all_owned full_share xs b o))) (sym nil) (id⊢ 𝓤 _)

    pub dislodge_gives : (v : Val) → ent 𝓤 (Dislodges.post at_dislodge v) (H.⇛ (guard 𝓤 ((v ≡ vint w64 d.len) × (d.len < 2 ^ 64)) (sem 𝓛 (in_block d.ptr (all_owned full_share d.items (block_of d.ptr) (count_of d.ptr))))))
    dislodge_gives v =
        let Blk = λ (p : Ptr). block_with_items (λ _ _. ftrue) u64 p d.len d.cap d.items in
        qed 𝓛 (raw (Dislodges.post at_dislodge v) ∷ []) ∵ updating ! $
        use1 𝓛 (later (some (λ (r : ℕ). ((‵ (flft [] full_share) ⊛ ‵ ftrue) ⊛ ‵ (usize.own_val r (v ∷ [])))
        ⊛ some (λ (ws : Unit {0} × Unit {0}). ‵ (fsep (left ((V.the_row (param 0 u64) L.the_row ghosts).exit no) d ws.0) ftrue) ⊛ raw (fact 𝓤 (r ≡ d.len)) ⊛ ‵ (lodged u64 d.ptr d.len d.cap d.items))))) (id⊢ 𝓤 _) $ await ! tt $ pick ! (λ r.
        split ! $ move ! (1 ∷ []) $ pick ! (λ ws. split3 ! $ drop ! $ heard ! (r ≡ d.len) (λ is. move ! (1 ∷ []) $ split ! $ drop ! $ fsplit ! $ feq_l ! (λ e. flt_l ! (λ f. now ! $
        check ! (ap only e ∙ ap (vint w64) is, omega (arith, f, is)) $ fsplit ! $ drop ! $
        in_a_block ! d.ptr (λ p. in_block p (owns_if (has_block d.cap) (Blk p))) (id⊢ 𝓤 (never 𝓤)) (λ b o at.
        use1 𝓛 (‵ (all_owned full_share d.items b o)) (of_block (eqb d.cap 0) (eqb→eq d.cap 0) b o) $
        rewrite ! 0 (λ p. ‵ (in_block p (all_owned full_share d.items (block_of p) (count_of p)))) (sym at) refl $ keep ! (0 ∷ []) $ done !))))))
