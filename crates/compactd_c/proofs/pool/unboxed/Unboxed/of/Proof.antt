-- `of` asks the box for its pointer, with what lies there.
use Rattle.compactd_c.proofs.Walks.{◌≡◌, refl, ap, List, [], ◌∷◌, ◌++◌, inst_fn, Fn, Args, a_type, dcons, dnil, Val, vstruct, vcons, vnil, full_share, id⊢, emp, ftrue, flft, Incl-refl, WpFn, ◌⊑◌, fact, fact_i, tables, Item, ‵, raw, prop, later, some, ◌⊛◌, ◌$◌, ◌∵◌, !, qed, by, move, drop, use0, use1, split, join, pick, await, regoal, fsplit, fjoin, feq_i, feq_l, fpack, agg, of_opd, no_more, and_then, returns, enter, alloc_all, pass_all, free_all, look_at, get, sets, lands_as, no, and_tt, bounded, param, Valss, owns, Ptr, RawPtr, ptr_val, rawptr_Lawful, plain, nothing, only, shape, within, calls_at, Lasts, lasts, framed, heap_token, triple_of, Stays, stay_dropped, walk_of, Goes-blank, proved_at, leaves, box_owns, word, box_typed, box_out, box_in}
use Rattle.std_alloc.specs.contracts.boxed.Box.into_raw as callee
use Rattle.std_alloc.proofs.boxed.Box.into_raw.Met.{met}
use Rattle.std_heap.specs.contracts.GlobalAllocator.TheImpl.{ghosts, dict}
use Rattle.std_heap.proofs.GlobalAllocator.TheImpl.Met.{passed}
use Rattle.compactd_c.proofs.Boxed.{BoxOf, Heap, heap_laws, boxed, heap_drops}
use Rattle.compactd_c.proofs.Destruct++none.drop.Symbol.{glues}
use Rattle.compactd_c.specs.contracts.pool.unboxed.Unboxed as unboxed
use Rattle.compactd_c.specs.contracts.pool.unboxed.Unboxed.of as f
use Rattle.compactd_c.proofs.pool.unboxed.Unboxed.of.Statement.{statement}
use Rattle.compactd_c.proofs.pool.unboxed.Unboxed.of.Code as code

pub of_spec : {M : Type 1} → statement M
of_spec {M = M} 𝓤 𝓛 𝓜 𝓡 wired T L drops glue =
    let E = boxed T L in let X = param 0 T in let γ = 𝓡.env in
    let at : Args = bounded (a_type ∷ []) (T, tt) (dcons drops dnil) in
    let fn : Fn = inst_fn at code.function in let 𝓣 = tables 𝓤 𝓛.H 𝓜 𝓡 γ in
    let ended = f.ended T drops in let c = f.clauses T drops 𝓛 𝓜.mem 𝓡.returns in
    let stayed : Stays ended.signature.params ended.kept = (stay_dropped (plain (λ _. BoxOf X)) no, tt) in
    proved_at 𝓛 ended stayed c 𝓜 𝓡 (Goes-blank 𝓛 1 (plain (λ _. BoxOf X)) no (λ κs x w. tt), tt) (f.Key.name at) fn (code.unfolded 𝓤 𝓛.H 𝓜 𝓡 wired (T, tt) drops) (λ z are.
    let κ = z.0.0.0 in let q = z.0.1.0 in let v = z.0.3.0 in let Post = (walk_of 𝓛 ended stayed c).post z in let To = unboxed.the_row X in
    let G = triple_of 𝓛 (callee.signature T Heap ghosts dict heap_drops drops) (callee.spec T Heap ghosts dict heap_drops drops 𝓛 𝓜.mem 𝓡.returns) in
    let Gone = callee.ended T Heap ghosts dict heap_drops drops in
    let kept : Item 𝓤 = ‵ (flft κ q) ⊛ ‵ ftrue in
    qed 𝓛 ((kept ⊛ ‵ (owns (BoxOf X ∷ []) z.0.3 z.0.4)) ∷ (raw (fact 𝓤 (κ ⊑ T.lives)) ⊛ ‵ ftrue) ∷ []) ∵ split ! $ move ! (1 ∷ []) $ fsplit ! $
    box_out E ! v z.0.4.0 (λ b o hv at_b is fits. box_in E ! v b o v.value at_b refl $
    let w = word E hv b o in let typed = box_typed E hv b o fits in
    let y : G.Ghost = (((κ, ([], tt)), (q, (full_share, tt)), tt, (v, tt), (w ∷ [], tt)), tt) in
    regoal ! (λ us. prop (WpFn 𝓤 𝓛.H 𝓣.C 𝓣.Λ fn (us ++ []) Post)) is refl $
    enter ! 𝓣.C 𝓣.Λ fn (w ∷ []) Post $ alloc_all ! (λ l. pass_all ! refl (typed, tt) $
    sets ! (of_opd ! (get ! refl)) refl typed $
    -- [the box; nothing; the token; the fact]
    fjoin ! $ move ! (1 ∷ []) $ split ! $ move ! (1 ∷ []) $ use0 𝓛 (‵ (flft [] full_share)) (𝓛.lfts.lft-nil full_share) $ join ! $ move ! (1 ∷ 0 ∷ []) $ join ! $ join ! $
    move ! (1 ∷ []) $ split ! $ move ! (1 ∷ []) $ use0 𝓛 (raw (fact 𝓤 ([] ⊑ Heap.lives))) (fact_i 𝓤 ([] ⊑ Heap.lives) (emp 𝓤) (Incl-refl [])) $ join ! $ move ! (1 ∷ 0 ∷ []) $ join ! $
    move ! (1 ∷ 0 ∷ []) $ join ! $ use1 𝓛 (raw (G.pre y)) (id⊢ 𝓤 _) $
    calls_at ! (framed 𝓤 𝓛.H 𝓜 𝓣) G (met 𝓤 𝓛 𝓜 𝓡 (code.calls-std_alloc::boxed::Box::into_raw γ wired) T Heap L heap_laws ghosts dict heap_drops drops
    (passed γ (code.calls-std_heap::GlobalAllocator::allocate γ wired) (code.calls-std_heap::GlobalAllocator::deallocate γ wired) (code.calls-std_heap::GlobalAllocator::grow γ wired) (code.calls-std_heap::GlobalAllocator::shrink γ wired) M 𝓤 𝓛 𝓜 𝓡)
    (glues γ (code.calls-compactd_c::Destruct++none::drop γ wired) Heap heap_laws M 𝓤 𝓛 𝓜 𝓡) glue) y (and_then ! (get ! refl) (no_more !)) (λ u.
    use1 𝓛 (later (some (λ (p : Ptr). ((‵ (flft κ q) ⊛ ‵ (flft [] full_share) ⊛ ‵ ftrue) ⊛ ‵ (RawPtr.own_val p (u ∷ []))) ⊛ some (λ (ls : Lasts Gone y.0.0 y.0.3). ‵ (lasts Gone y.0.0 y.0.3 ls) ⊛ ‵ (box_owns heap_token X p v.value))))) (id⊢ 𝓤 _) $
    await ! tt $ pick ! (λ p. split ! $ split ! $ move ! (1 ∷ []) $ feq_l ! (λ at_p. let good = ((rawptr_Lawful 𝓛).typed p _ refl).0 in let made : Val = vstruct (vcons (ptr_val p) vnil) in let r : To.Denot = record { at = p; value = v.value } in
    lands_as ! (ap only at_p) refl good $ sets ! (agg ! (and_then ! (get ! refl) (no_more !))) refl (and_tt _ good.0, (good.1, tt)) $ returns ! (look_at ! 0 refl) $ free_all ! refl $
    split ! $ move ! (1 ∷ []) $ drop ! $ move ! (1 ∷ []) $ pick ! (λ ls. split ! $ drop ! $
    -- [what lies at the pointer; the token]
    nothing ! $ feq_i ! (List Val) (ptr_val p ∷ []) (ptr_val p ∷ []) refl $ fjoin ! $ feq_i ! (List Val) (made ∷ []) (made ∷ []) refl $ fjoin ! $
    fpack ! (Valss (RawPtr ∷ [])) (within (shape (unboxed.the_type X)) (p, tt) (made ∷ [])) (ptr_val p ∷ [], tt) $ fjoin ! $ use1 𝓛 (‵ (To.own_val r (made ∷ []))) (id⊢ 𝓤 _) $
    use0 𝓛 (raw (fact 𝓤 (v.value ≡ v.value))) (fact_i 𝓤 (v.value ≡ v.value) (emp 𝓤) refl) $ nothing ! $ nothing ! $ fjoin ! $ nothing ! $ move ! (4 ∷ 0 ∷ []) $ join ! $ move ! (0 ∷ 1 ∷ 3 ∷ 2 ∷ []) $
    by ! (leaves 𝓛 ended stayed c z made r (tt, tt) (tt, tt)))))))))
