-- `with_right` hands the right to the words to what waits for it.
use Rattle.row_core.proofs.Walks.{ !, Bool, Goes-blank, List, SProp, Stays, Val, WpFn, [], alive, all_e, alloc_all, apply∗, block_of, count_of, done, drop, ends_at, enter, fact, feq, feq_i, feq_l, fjoin, fld, fpick, free_all, fsep, fsplit, full_share, fwand, get, get_in, heard, length, look_at, move, none, none_had, nothing, of_opd, one, one_had, owns, pass_all, plain, plainly, prop, proved_at, qed, raw, refl, regoal, returns, rewrite, says, sem, sets, split, stay_dropped, stop, sub, subst, suffices, sym, tables, types_at, use1, use2, walk_of, whole, yes, ‵, ℕ, ◌$◌, ◌++◌, ◌∙◌, ◌∵◌, ◌∷◌, ◌≡◌, ◌⊛◌}
use denote.Laws.{Typed}
use Rattle.std.specs.Vec.{with_items}
use Rattle.std.proofs.lemmas.List.{with_items_is}
use Rattle.row_core.specs.Owned.{share_of, words_owned}
use Rattle.row_core.specs.Parts.{AreHere}
use Rattle.row_core.proofs.Vectors.{Words, vec-laws}
use Rattle.row_core.proofs.Words.{all_owned}
use Rattle.row_core.specs.contracts.right.Right
use Rattle.row_core.specs.contracts.allocation.Allocation
use Rattle.row_core.specs.contracts.allocation.Allocation.with_right as f
use Rattle.row_core.proofs.allocation.Allocation.with_right.Statement.{statement}
use Rattle.row_core.proofs.allocation.Allocation.with_right.Code as code

abbrev stayed : Stays f.ended.signature.params f.ended.kept
stayed = (stay_dropped (plain (λ _. Allocation.the_row)) yes, (stay_dropped (plain (λ _. Right.the_row)) yes, tt))

pub with_right_spec : {M : Type 1} → statement M
with_right_spec 𝓤 𝓛 𝓜 𝓡 wired =
    let c = f.clauses 𝓛 𝓜.mem 𝓡.returns in let 𝓣 = tables 𝓤 𝓛.H 𝓜 𝓡 𝓡.env in let fn = code.function in
    proved_at 𝓛 f.ended stayed c 𝓜 𝓡 (Goes-blank 𝓛 0 (plain (λ _. Allocation.the_row)) yes (λ κs x w. tt), (Goes-blank 𝓛 0 (plain (λ _. Right.the_row)) yes (λ κs x w. tt), tt))
    f.Key.name fn (code.unfolded 𝓤 𝓛.H 𝓜 𝓡 wired) (λ z are.
    let Post : Val → SProp 𝓤 = (walk_of 𝓛 f.ended stayed c).post z in let vss = z.0.4 in
    let e = z.0.3.0 in let r = z.0.3.1.0 in let xs = r.items in
    let Asked = (r.ptr ≡ e.ptr) × (length xs ≡ e.len) × (r.halves ≡ []) × AreHere r.here (length xs) in
    qed 𝓛 ((raw (alive 𝓛 f.ended.signature z.0.0 z.0.1) ⊛ ‵ (owns (types_at f.ended.signature.params z.0.0) z.0.3 vss)) ∷ raw (fact 𝓤 Asked) ∷ []) ∵
    move ! (1 ∷ []) $ heard ! Asked (λ asked. split ! $ move ! (1 ∷ []) $
    fsplit ! $ fsplit ! $ fpick ! (λ typed. drop ! $ fpick ! (λ v. fsplit ! $ feq_l ! (λ len. move ! (1 ∷ []) $ fsplit ! $ fsplit ! $ none_had ! vss.1.0 (λ is₁. move ! (1 ∷ []) $ drop ! $
    -- [the words; what waits for them; the tokens]
    let Given = λ (ys : List ℕ). fsep (feq ℕ (length ys) e.len) (all_owned full_share ys (block_of e.ptr) (count_of e.ptr)) in
    let Whole = λ (ys : List ℕ). (plainly (Words ∷ [])).own_val (with_items v.list ys, tt) vss.0 in
    rewrite ! 0 (λ p. ‵ (words_owned (share_of r.halves) xs r.here (block_of p) (count_of p))) asked.0 refl $
    rewrite ! 0 (λ (gs : List Bool). ‵ (words_owned (share_of gs) xs r.here (block_of e.ptr) (count_of e.ptr))) asked.2 refl $
    rewrite ! 0 (λ (fs : List Bool). ‵ (words_owned full_share xs fs (block_of e.ptr) (count_of e.ptr))) asked.3 refl $ move ! (1 ∷ []) $
    use1 𝓛 (‵ (fwand (Given xs) (Whole xs))) (all_e 𝓤 (λ (ys : List ℕ). sem 𝓛 (fwand (Given ys) (Whole ys))) xs) $ move ! (1 ∷ 0 ∷ []) $
    feq_i ! ℕ (length xs) e.len asked.1 $ fjoin ! $ use2 𝓛 (‵ (Whole xs)) (apply∗ 𝓤 (sem 𝓛 (Given xs)) (sem 𝓛 (Whole xs))) $
    one_had ! Words vec-laws (with_items v.list xs) vss.0 (λ u is₀ good.
    regoal ! (λ (us : List Val). prop (WpFn 𝓤 𝓛.H 𝓣.C 𝓣.Λ fn (us ++ (vss.1.0 ++ [])) Post)) is₀ refl $
    regoal ! (λ (us : List Val). prop (WpFn 𝓤 𝓛.H 𝓣.C 𝓣.Λ fn ((one u ∷ []) ++ (us ++ [])) Post)) is₁ refl $
    enter ! 𝓣.C 𝓣.Λ fn (one u ∷ none ∷ []) Post $ alloc_all ! (λ l. pass_all ! refl ((subst (Typed Allocation.the_row.mir) is₀ typed).0, ((tt, tt), tt)) $
    sets ! (of_opd ! (get_in ! (fld ! refl (stop !)) (sub ! 0 refl (whole !)))) refl good $ sets ! (of_opd ! (get ! refl)) refl good $
    returns ! (look_at ! 0 refl) $ free_all ! refl $
    suffices ! _ (ends_at 𝓛 f.ended stayed c z u (with_items v.list xs) (tt, (tt, tt)) (tt, (tt, tt))) $ says ! (with_items_is v.list xs (asked.1 ∙ sym len)) $
    nothing ! $ nothing ! $ fjoin ! $ nothing ! $ fjoin ! $ move ! (2 ∷ 0 ∷ 1 ∷ []) $ done !))))))))
