-- `words` shows a part of what a `&` to the right lends.
use Rattle.row_core.proofs.Walks.{ !, Goes-dropped, Lft, List, RawPtr, RefOf, SProp, Stays, Val, WpFn, [], agg, alive, alloc_all, and_then, ap, arith, at_ret, block_of, blocks, count_of, done, drop, ends_at, enter, env, exec, fact, feq_i, feq_l, first, fjoin, flt_i, flt_l, free_all, fsplit, get, heard, length, look_at, move, no_more, nothing, of_opd, owns, pass_all, plain, prop, proved_at, ptr_val, qed, raw, refl, regoal, returns, says, sets, sets_last, split, stay_dropped, suffices, sym, tables, types_at, u64, use1, usize, vint, vptr, w64, walk_of, yes, ‵, ◌$◌, ◌*◌, ◌++◌, ◌+ₚ◌, ◌+◌, ◌<◌, ◌^◌, ◌∙◌, ◌∵◌, ◌∷◌, ◌≡◌, ◌≤◌, ◌⊛◌}
use mir.Syntax.{seq, assign, place, rv_opd, copy, return}
use denote.Opens.{unhide, hide}
use denote.Slice.{slice_val, elements_shared}
use Rattle.row_core.specs.Parts.{part, AreHere}
use Rattle.row_core.proofs.Lists.{part_long}
use Rattle.row_core.proofs.Words.{lent_part}
use Rattle.row_core.specs.contracts.right.Right
use Rattle.row_core.specs.contracts.right.Right.words as f
use Rattle.row_core.proofs.right.Right.words.Statement.{statement}
use Rattle.row_core.proofs.right.Right.words.Code as code

abbrev stayed : Stays f.ended.signature.params f.ended.kept
stayed = (stay_dropped (RefOf (0 ∷ []) tt (plain (λ _. Right.the_row)) (λ _. tt)) yes, (stay_dropped (plain (λ _. RawPtr)) yes, (stay_dropped (plain (λ _. usize)) yes, (stay_dropped (plain (λ _. usize)) yes, tt))))

pub words_spec : {M : Type 1} → statement M
words_spec 𝓤 𝓛 𝓜 𝓡 wired =
    let c = f.clauses 𝓛 𝓜.mem 𝓡.returns in let 𝓣 = tables 𝓤 𝓛.H 𝓜 𝓡 𝓡.env in let fn = code.function in
    proved_at 𝓛 f.ended stayed c 𝓜 𝓡 (Goes-dropped 𝓛 1 (RefOf (0 ∷ []) tt (plain (λ _. Right.the_row)) (λ _. tt)) yes (λ κs x w. refl), (Goes-dropped 𝓛 1 (plain (λ _. RawPtr)) yes (λ κs x w. refl), (Goes-dropped 𝓛 1 (plain (λ _. usize)) yes (λ κs x w. refl), (Goes-dropped 𝓛 1 (plain (λ _. usize)) yes (λ κs x w. refl), tt))))
    f.Key.name fn (code.unfolded 𝓤 𝓛.H 𝓜 𝓡 wired) (λ z are.
    let Post : Val → SProp 𝓤 = (walk_of 𝓛 f.ended stayed c).post z in let vss = z.0.4 in
    let a = z.0.3 in let r = a.0.now in let p = a.1.0 in let i = a.1.1.0 in let n = a.1.1.1.0 in let κ : Lft = z.0.0.0 in
    let b = block_of r.ptr in let o = count_of r.ptr in let far = o + i * 8 in let ys = part r.items i n in let self = vptr a.0.ref_ptr.0 a.0.ref_ptr.1 in
    let Asked = (p ≡ r.ptr +ₚ i * 8) × (i + n ≤ length r.items) × (n < 2 ^ 60) × AreHere (part r.here i n) n in
    qed 𝓛 ((raw (alive 𝓛 f.ended.signature z.0.0 z.0.1) ⊛ ‵ (owns (types_at f.ended.signature.params z.0.0) z.0.3 vss)) ∷ raw (fact 𝓤 Asked) ∷ []) ∵
    move ! (1 ∷ []) $ heard ! Asked (λ asked. split ! $ move ! (1 ∷ []) $
    let long : length ys ≡ n = part_long r.items i n asked.1 in
    fsplit ! $ fsplit ! $ feq_l ! (λ is₀. unhide ! $ fsplit ! $ drop ! $ move ! (1 ∷ []) $
    fsplit ! $ feq_l ! (λ is₁. fsplit ! $ fsplit ! $ feq_l ! (λ is₂. flt_l ! (λ fits₂. fsplit ! $ fsplit ! $ feq_l ! (λ is₃. flt_l ! (λ fits₃. drop ! $
    use1 𝓛 (‵ (elements_shared u64 ys b far κ)) (lent_part 𝓛 b κ r.items r.here i n o r.lengths asked.3) $
    regoal ! (λ (us : List Val). prop (WpFn 𝓤 𝓛.H 𝓣.C 𝓣.Λ fn (us ++ (vss.1.0 ++ (vss.1.1.0 ++ (vss.1.1.1.0 ++ [])))) Post)) is₀ refl $
    regoal ! (λ (us : List Val). prop (WpFn 𝓤 𝓛.H 𝓣.C 𝓣.Λ fn ((self ∷ []) ++ (us ++ (vss.1.1.0 ++ (vss.1.1.1.0 ++ [])))) Post)) (is₁ ∙ ap (λ s. ptr_val s ∷ []) (asked.0 ∙ ap (λ s. s +ₚ i * 8) r.placed)) refl $
    regoal ! (λ (us : List Val). prop (WpFn 𝓤 𝓛.H 𝓣.C 𝓣.Λ fn ((self ∷ []) ++ ((vptr b far ∷ []) ++ (us ++ (vss.1.1.1.0 ++ [])))) Post)) is₂ refl $
    regoal ! (λ (us : List Val). prop (WpFn 𝓤 𝓛.H 𝓣.C 𝓣.Λ fn ((self ∷ []) ++ ((vptr b far ∷ []) ++ ((vint w64 i ∷ []) ++ (us ++ [])))) Post)) is₃ refl $
    enter ! 𝓣.C 𝓣.Λ fn (self ∷ vptr b far ∷ vint w64 i ∷ vint w64 n ∷ []) Post $ alloc_all ! (λ l. pass_all ! refl ((tt, tt), ((tt, tt), ((tt, record { fits = fits₂ }), ((tt, record { fits = fits₃ }), tt)))) $
    first ! $ blocks ! $ sets_last ! (agg ! (and_then ! (get ! refl) (and_then ! (get ! refl) (no_more !)))) refl (tt, (tt, (record { fits = fits₃ }, tt))) $
    exec ! 𝓣.C 𝓣.Λ (env fn.locals l) (seq (assign (place 0 []) (rv_opd (copy (place 5 [])))) return) (at_ret (env fn.locals l) Post) $
    sets ! (of_opd ! (get ! refl)) refl (tt, (tt, (record { fits = fits₃ }, tt))) $ hide ! $
    flt_i ! (length ys * 8) (2 ^ 63) (omega (arith, long, asked.2)) $ flt_i ! (length ys) (2 ^ 64) (omega (arith, long, asked.2)) $ fjoin ! $
    feq_i ! (List Val) (slice_val (b, far) n ∷ []) (slice_val (b, far) (length ys) ∷ []) (ap (λ k. slice_val (b, far) k ∷ []) (sym long)) $ fjoin ! $ fjoin ! $
    returns ! (look_at ! 0 refl) $ free_all ! refl $
    suffices ! _ (ends_at 𝓛 f.ended stayed c z (slice_val (b, far) n) (record { ref_ptr = (b, far); now = ys }) (tt, (tt, (tt, (tt, tt)))) (tt, (tt, (tt, (tt, tt))))) $ says ! refl $
    nothing ! $ nothing ! $ fjoin ! $ nothing ! $ fjoin ! $ nothing ! $ fjoin ! $ nothing ! $ fjoin ! $ move ! (2 ∷ 0 ∷ 1 ∷ []) $ done !)))))))))
