-- `zone` tests the pointer of the handle, and lends what lies there: the pool becomes what the loan leaves.
use Rattle.compactd_c.proofs.Walks.{◌≡◌, refl, sym, ap, ◌∙◌, List, [], ◌∷◌, ◌++◌, lit<, Val, vptr, vstruct, vcons, vnil, of_list, full_share, SProp, id⊢, emp, ftrue, flft, WpFn, fact, fact_i, tables, ‵, raw, prop, at_ret, later, some, ◌⊛◌, ◌$◌, ◌∵◌, !, qed, by, move, keep, use0, use1, drop, split, join, pick, await, rewrite, regoal, fsplit, fjoin, feq_i, feq_l, fpick, fpack, live, whole, sub, agg, stop, fld, lit, bin, of_opd, no_more, and_then, first, blocks, branches, skips, exec, returns, returns_within, enter, alloc_all, pass_all, free_all, look_at, get, sets, env, no, RattleType, Valss, owns, Ptr, RawPtr, null_ptr, ptr_val, block_ptr, tests_null, plain, nothing, shape, within, Stays, stay_dropped, walk_of, Some-of, none_of, Some, None, proved_at, leaves, box_owns, heap_token}
use base.Fml.{Fml, GName, fsep, fres}
use base.Logic.{ent, sep}
use seplogic.Ra.Ura.{Ura}
use Prim.Native.Nat.{ℕ}
use mir.Raw.{raw as bare}
use mir.Syntax.{named}
use types.Logic.{Logic, sem}
use types.Kit.{fsplit3, split3, group, done}
use types.Part.{look_in}
use types.Run.{load, addr}
use types.ByLocal.{is, through, sets_last}
use denote.Follow.{follows, follows_by, lends_Part}
use denote.Memory.{cell_at, lone, mem, part_at, part_of}
use denote.Ref.{MutBor, MutRef}
use denote.Signature.{mut_ref_to}
use denote.Steps.{opens, closes}
use denote.Triple.Walked.{Goes-spent_ref}
use Rattle.std.specs.Prelude.{Option}
use Rattle.core.specs.contracts.option.Option as option
use Rattle.state_core.specs.ZoneState.{ZoneState}
use Rattle.compactd_c.specs.contracts.zone.Zone
use Rattle.compactd_c.specs.Owned.{heap, pool_owns}
use Rattle.compactd_c.specs.Lent.{LendsZone, with_zone}
use Rattle.compactd_c.proofs.Either.{either}
use Rattle.compactd_c.specs.contracts.pool.Pool
use Rattle.compactd_c.specs.contracts.pool.Pool.zone as f
use Rattle.compactd_c.proofs.pool.Pool.zone.Statement.{statement}
use Rattle.compactd_c.proofs.pool.Pool.zone.Code as code

abbrev stayed : Stays f.ended.signature.params f.ended.kept
stayed = (stay_dropped (mut_ref_to (0 ∷ []) tt (plain (λ _. Pool.the_row))) no, tt)

-- the bytes of a handle with this pointer
abbrev handle : Ptr → Val
handle p = vstruct (vcons (ptr_val p) vnil)

module _ {M : Type 1} {𝓤 : Ura M} (𝓛 : Logic 𝓤) (pool : Pool.the_row.Denot) where
  -- what a pool owns makes it a pool again, over the bytes of its handle
  made_of : (held : Option ZoneState) → ent 𝓤 (sem 𝓛 (pool_owns pool.at held)) (sem 𝓛 (Pool.the_row.own_val (record pool { zone = held }) (handle pool.at ∷ [])))
  made_of held =
      let p = pool.at in
      qed 𝓛 (‵ (pool_owns p held) ∷ []) ∵ nothing ! $ feq_i ! (List Val) (ptr_val p ∷ []) (ptr_val p ∷ []) refl $ fjoin ! $ feq_i ! (List Val) (handle p ∷ []) (handle p ∷ []) refl $ fjoin ! $
      fpack ! (Valss (RawPtr ∷ [])) (within (shape Pool.the_type) (p, tt) (handle p ∷ [])) (ptr_val p ∷ [], tt) $ fjoin ! $
      use1 𝓛 (‵ (Pool.the_row.own_val (record pool { zone = held }) (handle p ∷ []))) (id⊢ 𝓤 _) $ done !

  -- a pool lies at this place, whose zone lies in this block
  module _ (rb ro b o : ℕ) (at_block : pool.at ≡ block_ptr b o) where
    -- all of the pool but its zone: the right to free the block, and the bytes of its handle
    abbrev rest : Fml
    rest = fsep (heap_token (bare (lone Zone.the_row.mir)) (block_ptr b o)) (cell_at full_share Pool.the_row.mir (handle pool.at ∷ []) rb ro)

    -- with any zone in the block it is a pool again
    rejoins : (z : Zone.the_row.Denot) → ent 𝓤 (sep 𝓤 (sem 𝓛 ((mem Zone.the_row).own_at z b o)) (sem 𝓛 rest)) (sem 𝓛 ((mem Pool.the_row).own_at (with_zone pool z) rb ro))
    unfolding part_of
    rejoins z =
        let bytes = handle pool.at ∷ [] in
        qed 𝓛 (‵ (part_at Zone.the_row full_share z b o) ∷ ‵ rest ∷ []) ∵ move ! (1 ∷ []) $ fsplit ! $ move ! (2 ∷ 0 ∷ []) $ fjoin ! $
        use1 𝓛 (‵ (box_owns heap_token Zone.the_row (block_ptr b o) z)) (id⊢ 𝓤 _) $ rewrite ! 0 (λ (p : Ptr). ‵ (box_owns heap_token Zone.the_row p z)) (sym at_block) refl $
        use1 𝓛 (‵ (pool_owns pool.at (Some z))) (id⊢ 𝓤 _) $ use1 𝓛 (‵ (Pool.the_row.own_val (with_zone pool z) bytes)) (made_of (Some z)) $
        move ! (1 ∷ 0 ∷ []) $ fjoin ! $ fpack ! (List Val) (λ vs. fsep (cell_at full_share Pool.the_row.mir vs rb ro) (Pool.the_row.own_val (with_zone pool z) vs)) bytes $ done !

pub zone_spec : {M : Type 1} → statement M
unfolding follows_by
zone_spec {M = M} 𝓤 𝓛 𝓜 𝓡 wired =
    let c = f.clauses 𝓛 𝓜.mem 𝓡.returns in let 𝓣 = tables 𝓤 𝓛.H 𝓜 𝓡 𝓡.env in let fn = code.function in
    proved_at 𝓛 f.ended stayed c 𝓜 𝓡 (Goes-spent_ref 𝓛 1 (0 ∷ []) tt (plain (λ _. Pool.the_row)), tt) f.Key.name fn (code.unfolded 𝓤 𝓛.H 𝓜 𝓡 wired) (λ z are.
    let κ = z.0.0.0 in let q = z.0.1.0 in let ref = z.0.3.0 in let pool = ref.now in let p = pool.at in let rb = ref.ref_ptr.0 in let ro = ref.ref_ptr.1 in let γ = ref.ghost_name in
    let Lent : RattleType = MutRef (named 0) κ Zone.the_row in let Post : Val → SProp 𝓤 = (walk_of 𝓛 f.ended stayed c).post z in
    qed 𝓛 (((‵ (flft κ q) ⊛ ‵ ftrue) ⊛ ‵ (owns (MutRef (named 0) κ Pool.the_row ∷ []) z.0.3 z.0.4)) ∷ raw (emp 𝓤) ∷ []) ∵
    split ! $ split ! $ move ! (2 ∷ []) $ fsplit ! $ fsplit3 ! $ feq_l ! (λ at_ref. keep ! (0 ∷ 1 ∷ 3 ∷ []) $
    regoal ! (λ (us : List Val). prop (WpFn 𝓤 𝓛.H 𝓣.C 𝓣.Λ fn (us ++ []) Post)) at_ref refl $
    enter ! 𝓣.C 𝓣.Λ fn (vptr rb ro ∷ []) Post $ alloc_all ! (λ l. pass_all ! refl ((tt, tt), tt) $ let Ev = env fn.locals l in
    opens ! tt Pool.the_row {h = pool} rb ro (λ vs. move ! (1 ∷ []) $ fsplit ! $ fpick ! (λ vss. fsplit ! $ feq_l ! (λ at_struct. fsplit ! $ feq_l ! (λ at_field. drop ! $
    rewrite ! 1 (λ (us : List Val). ‵ (cell_at full_share Pool.the_row.mir us rb ro)) (at_struct ∙ ap (λ (us : List Val). vstruct (of_list (us ++ [])) ∷ []) at_field) refl $
    either ! heap pool.zone p
    -- closed: [the handle; the open borrow; obs; auth]
    (λ at_null closed.
    sets ! (is ! (of_opd ! (load ! (through ! refl (fld ! refl (stop !))) (look_in ! 0 (sub ! 0 refl (whole !))))) (ap ptr_val at_null)) refl (tt, record { fits = lit< tt }) $
    sets ! (bin ! (get ! refl) (lit ! tt) tt) refl (tt, tt) $ first ! $ branches ! (get ! refl)
    (λ _. sets ! (agg ! (and_then ! (lit ! tt) (no_more !))) refl (tt, (record { fits = lit< tt }, tt)) $
    feq_i ! Ptr p null_ptr at_null $ use1 𝓛 (‵ (pool_owns p None)) (id⊢ 𝓤 _) $ rewrite ! 0 (λ held. ‵ (pool_owns p held)) (sym closed) refl $
    use1 𝓛 (‵ (Pool.the_row.own_val pool (handle p ∷ []))) (made_of 𝓛 pool pool.zone) $
    move ! (1 ∷ 0 ∷ 2 ∷ 3 ∷ 4 ∷ []) $ closes ! tt Pool.the_row pool (handle p ∷ []) rb ro $ use1 𝓛 (‵ (fres γ (Pool.the_row.coded.code pool))) (𝓛.names.obs-res γ (Pool.the_row.coded.code pool)) $
    returns_within ! Post refl (look_at ! 0 refl) $ free_all ! refl $ keep ! (0 ∷ 2 ∷ []) $ use1 𝓛 (‵ (LendsZone ref None)) (id⊢ 𝓤 _) $
    use0 𝓛 (raw (fact 𝓤 (pool.zone ≡ None))) (fact_i 𝓤 (pool.zone ≡ None) (emp 𝓤) closed) $ move ! (1 ∷ 0 ∷ []) $ join ! $
    use0 𝓛 (‵ ((option.the_row Lent).own_val None (live 0 vnil ∷ []))) (none_of 𝓛 Lent) $ nothing ! $ nothing ! $ fjoin ! $ nothing ! $ move ! (4 ∷ 0 ∷ []) $ join ! $
    by ! (leaves 𝓛 f.ended stayed c z (live 0 vnil) None (tt, tt) (tt, tt)))
    (λ wrong. absurd wrong))
    -- open: [what lies at the pointer; the handle; the open borrow; obs; auth]
    (λ b o x at_block has ok. let at : Val = vptr b o in
    sets ! (is ! (of_opd ! (load ! (through ! refl (fld ! refl (stop !))) (look_in ! 1 (sub ! 0 refl (whole !))))) (ap ptr_val at_block)) refl (tt, tt) $
    sets ! (bin ! (get ! refl) (lit ! tt) (tests_null (block_ptr b o) ok)) refl (tt, tt) $ first ! $ branches ! (get ! refl) (λ wrong. absurd wrong)
    (λ _. skips ! $ exec ! 𝓣.C 𝓣.Λ Ev code.Mir.t-4 (at_ret Ev Post) $ first ! $ blocks ! $
    sets ! (is ! (of_opd ! (load ! (through ! refl (fld ! refl (stop !))) (look_in ! 1 (sub ! 0 refl (whole !))))) (ap ptr_val at_block)) refl (tt, tt) $
    sets ! (of_opd ! (get ! refl)) refl (tt, tt) $ sets ! (addr ! (through ! refl (stop !))) refl (tt, tt) $
    sets_last ! (agg ! (and_then ! (lit ! tt) (and_then ! (get ! refl) (no_more !)))) refl (tt, (record { fits = lit< tt }, (tt, tt))) $
    exec ! 𝓣.C 𝓣.Λ Ev code.Mir.t-5 (at_ret Ev Post) $ sets ! (of_opd ! (get ! refl)) refl (tt, (record { fits = lit< tt }, (tt, tt))) $
    fsplit ! $ move ! (1 ∷ 2 ∷ []) $ fjoin ! $ move ! (2 ∷ 3 ∷ 4 ∷ 1 ∷ 0 ∷ []) $ group ! 5 $
    use1 𝓛 (later (some (λ (γ' : GName). ‵ (Lent.own_val (record { ref_ptr = (b, o); ghost_name = γ'; now = x }) (at ∷ [])) ⊛ ‵ (flft κ q) ⊛ ‵ (follows Pool.the_row Zone.the_row γ γ' (with_zone pool)))))
    (lends_Part 𝓛 Pool.the_row Zone.the_row (with_zone pool) (named 0) κ q rb ro b o γ (sem 𝓛 (rest 𝓛 pool rb ro b o at_block)) (rejoins 𝓛 pool rb ro b o at_block) (Pool.the_row.coded.code pool) (Pool.the_row.coded.code pool) x) $ await ! tt $ pick ! (λ γ'.
    let lent : MutBor Zone.the_row.Denot = record { ref_ptr = (b, o); ghost_name = γ'; now = x } in
    split3 ! $ use1 𝓛 (‵ ((option.the_row Lent).own_val (Some lent) (live 1 (vcons at vnil) ∷ []))) (Some-of 𝓛 Lent lent at) $
    returns ! (look_at ! 0 refl) $ free_all ! refl $ move ! (2 ∷ []) $ use1 𝓛 (‵ (LendsZone ref (Some lent))) (id⊢ 𝓤 _) $
    use0 𝓛 (raw (fact 𝓤 (pool.zone ≡ Some x))) (fact_i 𝓤 (pool.zone ≡ Some x) (emp 𝓤) has) $ move ! (1 ∷ 0 ∷ []) $ join ! $
    nothing ! $ nothing ! $ fjoin ! $ nothing ! $ move ! (4 ∷ 0 ∷ []) $ join ! $ move ! (0 ∷ 1 ∷ 3 ∷ 2 ∷ []) $
    by ! (leaves 𝓛 f.ended stayed c z (live 1 (vcons at vnil)) (Some lent) (tt, tt) (tt, tt))))))))))))
