-- `into_vec` hands the right to `lodge`.
use Rattle.row_core.proofs.Walks.{ !, Bool, Goes-blank, Good, List, RawPtr, SProp, Stays, Val, Vec, WpFn, [], alive, alloc_all, and_then, ap, at_ret, await, block_of, blocks, calls_at_last, count_of, done, drop, ends_at, enter, env, exec, fact, feq_l, first, fjoin, flt_l, framed, free_all, fsplit, full_share, get, given, heard, lands_last, later, learn, length, look_at, move, no_more, none, none_had, nothing, of_opd, only, owns, pass_all, pick, plain, prop, proved_at, ptr_val, qed, raw, refl, regoal, replicate, returns, rewrite, says, sets, some, split, stay_dropped, subst, suffices, sym, tables, tells, true, types_at, u64, use1, usize, vint, vptr, w64, walk_of, yes, ‵, ℕ, ◌$◌, ◌++◌, ◌<◌, ◌^◌, ◌∙◌, ◌∵◌, ◌∷◌, ◌≡◌, ◌⊛◌}
use mir.Syntax.{seq, assign, place, rv_opd, copy, return}
use Rattle.std_alloc.specs.declared.vec.lodged.Lodged.{Lodged}
use Rattle.std_alloc.proofs.vec.lodge.Met as callee
use Rattle.row_core.specs.Owned.{share_of, words_owned}
use Rattle.row_core.specs.Parts.{AreHere}
use Rattle.row_core.proofs.Lodging.{Lodging, Lodges, at_lodge, IsLodged, lodge_goes, lodge_gives, lodging-laws, word_laws}
use Rattle.row_core.specs.contracts.right.Right
use Rattle.row_core.specs.contracts.right.Right.into_vec as f
use Rattle.row_core.proofs.right.Right.into_vec.Statement.{statement}
use Rattle.row_core.proofs.right.Right.into_vec.Code as code

abbrev stayed : Stays f.ended.signature.params f.ended.kept
stayed = (stay_dropped (plain (λ _. Right.the_row)) yes, (stay_dropped (plain (λ _. RawPtr)) yes, (stay_dropped (plain (λ _. usize)) yes, tt)))

pub into_vec_spec : {M : Type 1} → statement M
into_vec_spec 𝓤 𝓛 𝓜 𝓡 wired =
    let c = f.clauses 𝓛 𝓜.mem 𝓡.returns in let 𝓣 = tables 𝓤 𝓛.H 𝓜 𝓡 𝓡.env in let fn = code.function in
    proved_at 𝓛 f.ended stayed c 𝓜 𝓡 (Goes-blank 𝓛 0 (plain (λ _. Right.the_row)) yes (λ κs x w. tt), (Goes-blank 𝓛 0 (plain (λ _. RawPtr)) yes (λ κs x w. tt), (Goes-blank 𝓛 0 (plain (λ _. usize)) yes (λ κs x w. tt), tt)))
    f.Key.name fn (code.unfolded 𝓤 𝓛.H 𝓜 𝓡 wired) (λ z are.
    let Post : Val → SProp 𝓤 = (walk_of 𝓛 f.ended stayed c).post z in let vss = z.0.4 in
    let r = z.0.3.0 in let p = z.0.3.1.0 in let n = z.0.3.1.1.0 in let xs = r.items in
    let b = block_of r.ptr in let o = count_of r.ptr in let G = Lodges 𝓛 𝓜.mem 𝓡.returns in let y = at_lodge 𝓛 𝓜.mem 𝓡.returns b o n xs in
    let Asked = (r.ptr ≡ p) × (length xs ≡ n) × (n < 2 ^ 60) × (r.halves ≡ []) × AreHere r.here n in
    qed 𝓛 ((raw (alive 𝓛 f.ended.signature z.0.0 z.0.1) ⊛ ‵ (owns (types_at f.ended.signature.params z.0.0) z.0.3 vss)) ∷ raw (fact 𝓤 Asked) ∷ []) ∵
    move ! (1 ∷ []) $ heard ! Asked (λ asked. split ! $ move ! (1 ∷ []) $
    fsplit ! $ fsplit ! $ none_had ! vss.0 (λ is₀. move ! (1 ∷ []) $ fsplit ! $ feq_l ! (λ is₁. fsplit ! $ fsplit ! $ feq_l ! (λ is₂. flt_l ! (λ fits. drop ! $
    rewrite ! 0 (λ (gs : List Bool). ‵ (words_owned (share_of gs) xs r.here b o)) asked.3 refl $
    rewrite ! 0 (λ (fs : List Bool). ‵ (words_owned full_share xs fs b o)) (asked.4 ∙ ap (λ k. replicate k true) (sym asked.1)) refl $
    regoal ! (λ (us : List Val). prop (WpFn 𝓤 𝓛.H 𝓣.C 𝓣.Λ fn (us ++ (vss.1.0 ++ (vss.1.1.0 ++ []))) Post)) is₀ refl $
    regoal ! (λ (us : List Val). prop (WpFn 𝓤 𝓛.H 𝓣.C 𝓣.Λ fn ((none ∷ []) ++ (us ++ (vss.1.1.0 ++ []))) Post)) (is₁ ∙ ap (λ s. ptr_val s ∷ []) (sym asked.0 ∙ r.placed)) refl $
    regoal ! (λ (us : List Val). prop (WpFn 𝓤 𝓛.H 𝓣.C 𝓣.Λ fn ((none ∷ []) ++ ((vptr b o ∷ []) ++ (us ++ []))) Post)) is₂ refl $
    enter ! 𝓣.C 𝓣.Λ fn (none ∷ vptr b o ∷ vint w64 n ∷ []) Post $ alloc_all ! (λ l. pass_all ! refl ((tt, tt), ((tt, tt), ((tt, record { fits = fits }), tt))) $
    first ! $ blocks ! $ use1 𝓛 (raw (G.pre y)) (lodge_goes 𝓛 𝓜.mem 𝓡.returns b o n xs asked.1 asked.2) $
    calls_at_last ! (framed 𝓤 𝓛.H 𝓜 𝓣) G (callee.met 𝓤 𝓛 𝓜 𝓡 (code.calls-std_alloc::vec::lodge 𝓡.env wired) u64 word_laws) y (and_then ! (get ! refl) (and_then ! (get ! refl) (and_then ! (get ! refl) (no_more !)))) (λ v.
    use1 𝓛 (later (some (λ (d : Vec ℕ Lodged). given (IsLodged 𝓛 𝓜.mem 𝓡.returns b o n xs d) (‵ (Lodging.own_val d (v ∷ [])))))) (lodge_gives 𝓛 𝓜.mem 𝓡.returns b o n xs v) $
    await ! tt $ pick ! (λ d. learn ! (λ is. tells ! Lodging lodging-laws d (v ∷ []) (λ u same good.
    let fine : Good Lodging v = subst (Good Lodging) (sym (ap only same)) good in
    rewrite ! 0 (λ w. ‵ (Lodging.own_val d (w ∷ []))) (sym (ap only same)) refl $ lands_last ! refl fine $
    exec ! 𝓣.C 𝓣.Λ (env fn.locals l) (seq (assign (place 0 []) (rv_opd (copy (place 4 [])))) return) (at_ret (env fn.locals l) Post) $
    sets ! (of_opd ! (get ! refl)) refl fine $
    returns ! (look_at ! 0 refl) $ free_all ! refl $
    suffices ! _ (ends_at 𝓛 f.ended stayed c z v d (tt, (tt, (tt, tt))) (tt, (tt, (tt, tt)))) $ says ! (is.0, is.1, is.2, is.3 ∙ sym r.placed ∙ asked.0) $
    nothing ! $ nothing ! $ fjoin ! $ nothing ! $ fjoin ! $ nothing ! $ fjoin ! $ move ! (2 ∷ 0 ∷ 1 ∷ []) $ done !)))))))))))
