-- `into_zone` tests the pointer, and makes the box again where it isn't null.
use Rattle.compactd_c.proofs.Walks.{◌≡◌, refl, sym, ap, subst, ◌∙◌, List, [], ◌∷◌, ◌++◌, T, lit<, Val, has_ty, WT, vptr, vstruct, vcons, vnil, of_list, full_share, SProp, id⊢, emp, ftrue, flft, Incl-refl, WpFn, ◌⊑◌, fact, fact_i, tables, ‵, raw, prop, at_ret, later, some, ◌⊛◌, ◌$◌, ◌∵◌, !, qed, by, move, keep, drop, use0, use1, split, join, pick, await, rewrite, regoal, fsplit, fjoin, feq_i, feq_l, fpick, live, whole, sub, agg, stop, fld, lit, bin, of_opd, no_more, and_then, first, blocks, branches, skips, exec, returns, returns_within, enter, alloc_all, pass_all, free_all, look_at, get, get_in, sets, lands_last, env, yes, layout, RattleType, owns, Ptr, ptr_val, block_ptr, tests_null, plain, type_at, nothing, only, heard, calls_at_last, Lasts, lasts, triple_of, framed, Stays, stay_dropped, walk_of, Goes-dropped, handle_tells, Some-of, none_of, Some, None, proved_at, leaves, and_tt, B, D, box_ty, box_typed, box_out, box_in}
use Rattle.std_alloc.specs.contracts.boxed.Box.from_raw as callee
use Rattle.std_alloc.proofs.boxed.Box.from_raw.Met.{met}
use Rattle.std_heap.specs.contracts.Global
use Rattle.std_heap.specs.contracts.GlobalAllocator.TheImpl.{ghosts, dict}
use Rattle.std_heap.proofs.GlobalAllocator.TheImpl.Met.{passed}
use Rattle.compactd_c.specs.contracts.zone.Zone
use Rattle.compactd_c.proofs.Boxed.{BoxOf, Heap, heap_laws, Passed, passed_laws, boxed, heap_drops}
use Rattle.compactd_c.proofs.Either.{either}
use Rattle.compactd_c.proofs.Destruct++none.drop.Symbol.{glues}
use Rattle.compactd_c.specs.contracts.pool.Pool
use Rattle.compactd_c.specs.contracts.pool.Pool.into_zone as f
use Rattle.compactd_c.proofs.pool.Pool.into_zone.Statement.{statement}
use Rattle.compactd_c.proofs.pool.Pool.into_zone.Code as code

abbrev stayed : Stays f.ended.signature.params f.ended.kept
stayed = (stay_dropped (plain (λ _. Pool.the_row)) yes, (stay_dropped (plain (λ _. Global.the_row)) yes, tt))

pub into_zone_spec : {M : Type 1} → statement M
into_zone_spec {M = M} 𝓤 𝓛 𝓜 𝓡 wired =
    let c = f.clauses 𝓛 𝓜.mem 𝓡.returns in let 𝓣 = tables 𝓤 𝓛.H 𝓜 𝓡 𝓡.env in let fn = code.function in let γ = 𝓡.env in
    let E = boxed Passed passed_laws in let Box : RattleType = BoxOf Zone.the_row in let Out : RattleType = type_at f.signature.result tt in
    let Gone = callee.ended Passed Heap ghosts dict heap_drops in
    let G = triple_of 𝓛 (callee.signature Passed Heap ghosts dict heap_drops) (callee.spec Passed Heap ghosts dict heap_drops 𝓛 𝓜.mem 𝓡.returns) in
    proved_at 𝓛 f.ended stayed c 𝓜 𝓡 (Goes-dropped 𝓛 0 (plain (λ _. Pool.the_row)) yes (λ κs x w. refl), (Goes-dropped 𝓛 0 (plain (λ _. Global.the_row)) yes (λ κs x w. refl), tt))
    f.Key.name fn (code.unfolded 𝓤 𝓛.H 𝓜 𝓡 wired) (λ z are.
    let p = z.0.3.0.at in let a = z.0.3.1.0 in let Post : Val → SProp 𝓤 = (walk_of 𝓛 f.ended stayed c).post z in
    qed 𝓛 ((‵ ftrue ⊛ ‵ (owns (Pool.the_row ∷ Global.the_row ∷ []) z.0.3 z.0.4)) ∷ raw (emp 𝓤) ∷ []) ∵ split ! $ drop ! $ fsplit ! $ fsplit ! $
    fpick ! (λ vss. fsplit ! $ feq_l ! (λ at_struct. fsplit ! $ feq_l ! (λ at_field. drop ! $ move ! (1 ∷ []) $ fsplit ! $ handle_tells E.al ! a z.0.4.1.0 (λ hv at_alloc fits.
    regoal ! (λ (us : List Val). prop (WpFn 𝓤 𝓛.H 𝓣.C 𝓣.Λ fn (us ++ (z.0.4.1.0 ++ [])) Post)) (at_struct ∙ ap (λ (us : List Val). vstruct (of_list (us ++ [])) ∷ []) at_field) refl $
    regoal ! (λ (us : List Val). prop (WpFn 𝓤 𝓛.H 𝓣.C 𝓣.Λ fn (vstruct (vcons (ptr_val p) vnil) ∷ (us ++ [])) Post)) at_alloc refl $
    keep ! (2 ∷ 0 ∷ []) $ either ! a z.0.3.0.zone p
    -- [the handle]
    (λ at_null closed. regoal ! (λ (q : Ptr). prop (WpFn 𝓤 𝓛.H 𝓣.C 𝓣.Λ fn (vstruct (vcons (ptr_val q) vnil) ∷ hv ∷ []) Post)) at_null refl $ drop ! $
    enter ! 𝓣.C 𝓣.Λ fn _ Post $ alloc_all ! (λ l. pass_all ! refl ((tt, (record { fits = lit< tt }, tt)), (fits, tt)) $
    sets ! (of_opd ! (get_in ! (fld ! refl (stop !)) (sub ! 0 refl (whole !)))) refl (tt, record { fits = lit< tt }) $
    sets ! (bin ! (get ! refl) (lit ! tt) tt) refl (tt, tt) $ first ! $ branches ! (get ! refl)
    (λ _. sets ! (agg ! (and_then ! (lit ! tt) (no_more !))) refl (tt, (record { fits = lit< tt }, tt)) $ returns_within ! Post refl (look_at ! 0 refl) $ free_all ! refl $
    use0 𝓛 (raw (fact 𝓤 (z.0.3.0.zone ≡ None))) (fact_i 𝓤 (z.0.3.0.zone ≡ None) (emp 𝓤) closed) $ use0 𝓛 (‵ (Out.own_val None (live 0 vnil ∷ []))) (none_of 𝓛 Box) $
    nothing ! $ nothing ! $ fjoin ! $ nothing ! $ fjoin ! $ nothing ! $ by ! (leaves 𝓛 f.ended stayed c z (live 0 vnil) None (tt, (tt, tt)) (tt, (tt, tt))))
    (λ wrong. absurd wrong)))
    -- [what lies at the pointer; the handle]
    (λ b o x at_block has ok. regoal ! (λ (q : Ptr). prop (WpFn 𝓤 𝓛.H 𝓣.C 𝓣.Λ fn (vstruct (vcons (ptr_val q) vnil) ∷ hv ∷ []) Post)) at_block refl $
    enter ! 𝓣.C 𝓣.Λ fn _ Post $ alloc_all ! (λ l. pass_all ! refl ((tt, (tt, tt)), (fits, tt)) $ let Ev = env fn.locals l in
    sets ! (of_opd ! (get_in ! (fld ! refl (stop !)) (sub ! 0 refl (whole !)))) refl (tt, tt) $
    sets ! (bin ! (get ! refl) (lit ! tt) (tests_null (block_ptr b o) ok)) refl (tt, tt) $ first ! $ branches ! (get ! refl) (λ wrong. absurd wrong)
    (λ _. skips ! $ exec ! 𝓣.C 𝓣.Λ Ev code.Mir.t-4 (at_ret Ev Post) $ first ! $ blocks ! $ sets ! (of_opd ! (get ! refl)) refl (tt, tt) $
    use0 𝓛 (raw (fact 𝓤 ([] ⊑ Heap.lives))) (fact_i 𝓤 ([] ⊑ Heap.lives) (emp 𝓤) (Incl-refl [])) $ join ! $ use0 𝓛 (raw (fact 𝓤 ([] ⊑ Passed.lives))) (fact_i 𝓤 ([] ⊑ Passed.lives) (emp 𝓤) (Incl-refl [])) $ join ! $
    nothing ! $ feq_i ! (List Val) (vptr b o ∷ []) (vptr b o ∷ []) refl $ fjoin ! $ move ! (2 ∷ 0 ∷ []) $ fjoin ! $
    nothing ! $ use0 𝓛 (‵ (flft [] full_share)) (𝓛.lfts.lft-nil full_share) $ join ! $ use0 𝓛 (‵ (flft [] full_share)) (𝓛.lfts.lft-nil full_share) $ join ! $ join ! $ join ! $
    let y : G.Ghost = ((([], ([], tt)), (full_share, (full_share, tt)), tt, (a, (block_ptr b o, tt)), (hv ∷ [], (vptr b o ∷ [], tt))), x) in use1 𝓛 (raw (G.pre y)) (id⊢ 𝓤 _) $
    calls_at_last ! (framed 𝓤 𝓛.H 𝓜 𝓣) G (met 𝓤 𝓛 𝓜 𝓡 (code.calls-std_alloc::boxed::Box::from_raw γ wired) Passed Heap passed_laws heap_laws ghosts dict heap_drops
    (passed γ (code.calls-std_heap::GlobalAllocator::allocate γ wired) (code.calls-std_heap::GlobalAllocator::deallocate γ wired) (code.calls-std_heap::GlobalAllocator::grow γ wired) (code.calls-std_heap::GlobalAllocator::shrink γ wired) M 𝓤 𝓛 𝓜 𝓡)
    (glues γ (code.calls-compactd_c::Destruct++none::drop γ wired) Heap heap_laws M 𝓤 𝓛 𝓜 𝓡)) y (and_then ! (get ! refl) (and_then ! (get ! refl) (no_more !))) (λ u.
    use1 𝓛 (later (some (λ (r : D E). ((‵ (flft [] full_share) ⊛ ‵ (flft [] full_share) ⊛ ‵ ftrue) ⊛ ‵ ((B E).own_val r (u ∷ []))) ⊛ some (λ (ls : Lasts Gone y.0.0 y.0.3). ‵ (lasts Gone y.0.0 y.0.3 ls) ⊛ raw (fact 𝓤 (r.value ≡ x)) ⊛ raw (fact 𝓤 (r.alloc ≡ a)))))) (id⊢ 𝓤 _) $
    await ! tt $ pick ! (λ r. split ! $ move ! (1 ∷ []) $ pick ! (λ ls. split ! $ drop ! $ split ! $ heard ! (r.value ≡ x) (λ same. drop ! $ split ! $ drop ! $
    box_out E ! r (u ∷ []) (λ b' o' hv' at_b is fits'. box_in E ! r b' o' r.value at_b refl $ rewrite ! 0 (λ (us : List Val). ‵ ((B E).own_val r us)) (sym is) refl $
    let typed : T (has_ty (box_ty E) u) × WT u = subst (λ (s : Val). T (has_ty (box_ty E) s) × WT s) (sym (ap only is)) (box_typed E hv' b' o' fits') in
    let v : Val = live 1 (vcons u vnil) in let full : T (has_ty (layout Out) v) × WT v = (and_tt _ typed.0, (record { fits = lit< tt }, (typed.1, tt))) in
    lands_last ! refl typed $ exec ! 𝓣.C 𝓣.Λ Ev code.Mir.t-5 (at_ret Ev Post) $
    sets ! (of_opd ! (get ! refl)) refl typed $ sets ! (of_opd ! (get ! refl)) refl typed $ sets ! (agg ! (and_then ! (lit ! tt) (and_then ! (get ! refl) (no_more !)))) refl full $
    returns ! (look_at ! 0 refl) $ free_all ! refl $ keep ! (0 ∷ []) $ use1 𝓛 (‵ (Out.own_val (Some r) (v ∷ []))) (Some-of 𝓛 Box r u) $
    use0 𝓛 (raw (fact 𝓤 (z.0.3.0.zone ≡ Some r.value))) (fact_i 𝓤 (z.0.3.0.zone ≡ Some r.value) (emp 𝓤) (has ∙ ap Some (sym same))) $
    nothing ! $ nothing ! $ fjoin ! $ nothing ! $ fjoin ! $ nothing ! $ move ! (0 ∷ 1 ∷ 3 ∷ 2 ∷ []) $ by ! (leaves 𝓛 f.ended stayed c z v (Some r) (tt, (tt, tt)) (tt, (tt, tt))))))))))))))))
