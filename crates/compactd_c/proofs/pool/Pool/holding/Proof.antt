-- `holding` moves the pointer, and what lies there goes with it.
use Rattle.compactd_c.proofs.Walks.{◌≡◌, refl, ap, ◌∙◌, List, [], ◌∷◌, ◌++◌, Val, vstruct, vcons, vnil, of_list, id⊢, emp, ftrue, WpFn, fact, fact_i, tables, ‵, raw, prop, ◌⊛◌, ◌$◌, ◌∵◌, !, qed, by, move, keep, drop, use0, use1, split, regoal, fsplit, fjoin, feq_i, feq_l, fpick, fpack, whole, sub, agg, stop, fld, of_opd, no_more, and_then, returns, enter, alloc_all, pass_all, free_all, look_at, get, get_in, sets, yes, RattleType, Valss, owns, RawPtr, ptr_val, rawptr_Lawful, plain, nothing, shape, within, Stays, stay_dropped, walk_of, Goes-dropped, Some, proved_at, leaves, and_tt}
use Rattle.compactd_c.specs.contracts.zone.Zone
use Rattle.compactd_c.specs.Owned.{pool_owns}
use Rattle.compactd_c.specs.contracts.pool.Pool
use Rattle.compactd_c.specs.contracts.pool.unboxed.Unboxed
use Rattle.compactd_c.specs.contracts.pool.Pool.holding as f
use Rattle.compactd_c.proofs.pool.Pool.holding.Statement.{statement}
use Rattle.compactd_c.proofs.pool.Pool.holding.Code as code

abbrev From : RattleType
From = Unboxed.the_row Zone.the_row

abbrev stayed : Stays f.ended.signature.params f.ended.kept
stayed = (stay_dropped (plain (λ _. From)) yes, tt)

pub holding_spec : {M : Type 1} → statement M
holding_spec 𝓤 𝓛 𝓜 𝓡 wired =
    let c = f.clauses 𝓛 𝓜.mem 𝓡.returns in let 𝓣 = tables 𝓤 𝓛.H 𝓜 𝓡 𝓡.env in
    proved_at 𝓛 f.ended stayed c 𝓜 𝓡 (Goes-dropped 𝓛 0 (plain (λ _. From)) yes (λ κs x w. refl), tt) f.Key.name code.function (code.unfolded 𝓤 𝓛.H 𝓜 𝓡 wired) (λ z are.
    let p = z.0.3.0.at in let x = z.0.3.0.value in let Post = (walk_of 𝓛 f.ended stayed c).post z in
    let word : Val = vstruct (vcons (ptr_val p) vnil) in let good = ((rawptr_Lawful 𝓛).typed p _ refl).0 in
    qed 𝓛 ((‵ ftrue ⊛ ‵ (owns (From ∷ []) z.0.3 z.0.4)) ∷ raw (emp 𝓤) ∷ []) ∵ split ! $ drop ! $ fsplit ! $ fsplit ! $
    fpick ! (λ vss. fsplit ! $ feq_l ! (λ at_struct. fsplit ! $ feq_l ! (λ at_field. drop ! $
    regoal ! (λ (us : List Val). prop (WpFn 𝓤 𝓛.H 𝓣.C 𝓣.Λ code.function (us ++ []) Post)) (at_struct ∙ ap (λ (us : List Val). vstruct (of_list (us ++ [])) ∷ []) at_field) refl $
    enter ! 𝓣.C 𝓣.Λ code.function (word ∷ []) Post $ alloc_all ! (λ l. pass_all ! refl ((and_tt _ good.0, (good.1, tt)), tt) $
    sets ! (of_opd ! (get_in ! (fld ! refl (stop !)) (sub ! 0 refl (whole !)))) refl good $ sets ! (of_opd ! (get ! refl)) refl good $
    sets ! (agg ! (and_then ! (get ! refl) (no_more !))) refl (and_tt _ good.0, (good.1, tt)) $ returns ! (look_at ! 0 refl) $ free_all ! refl $ keep ! (0 ∷ []) $
    use1 𝓛 (‵ (pool_owns p (Some x))) (id⊢ 𝓤 _) $ nothing ! $ feq_i ! (List Val) (ptr_val p ∷ []) (ptr_val p ∷ []) refl $ fjoin ! $ feq_i ! (List Val) (word ∷ []) (word ∷ []) refl $ fjoin ! $
    fpack ! (Valss (RawPtr ∷ [])) (within (shape Pool.the_type) (p, tt) (word ∷ [])) (ptr_val p ∷ [], tt) $ fjoin ! $
    let r : Pool.the_row.Denot = record { at = p; zone = Some x } in use1 𝓛 (‵ (Pool.the_row.own_val r (word ∷ []))) (id⊢ 𝓤 _) $
    use0 𝓛 (raw (fact 𝓤 (Some x ≡ Some x))) (fact_i 𝓤 (Some x ≡ Some x) (emp 𝓤) refl) $ nothing ! $ nothing ! $ fjoin ! $ nothing ! $ move ! (0 ∷ 1 ∷ 3 ∷ 2 ∷ []) $
    by ! (leaves 𝓛 f.ended stayed c z word r (tt, tt) (tt, tt)))))))
