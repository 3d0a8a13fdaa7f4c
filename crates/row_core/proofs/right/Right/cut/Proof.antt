-- `cut` parts the right in two.
use Rattle.row_core.proofs.Walks.{ !, Bool, Goes-blank, List, SProp, Stays, Val, WpFn, [], agg, alive, alloc_all, and_then, ap, block_of, block_ptr, count_of, done, drop, drop_l, ends_at, enter, fact, feq_l, fjoin, flt_l, free_all, fsplit, get, heard, length, length-replicate, look_at, move, no_more, none, none_had, none_made, nothing, owns, pass_all, plain, prop, proved_at, qed, raw, refl, regoal, replicate, returns, rewrite, says, sets, split, stay_dropped, subst, suffices, sym, tables, take, true, two, two_made, types_at, use1, usize, vint, w64, walk_of, yes, ‵, ◌$◌, ◌*◌, ◌++◌, ◌+ₚ◌, ◌+◌, ◌∵◌, ◌∷◌, ◌≡◌, ◌≤◌, ◌⊛◌}
use Rattle.row_core.specs.Owned.{IsPlaced, share_of, words_owned}
use Rattle.row_core.specs.Parts.{AreHere}
use Rattle.row_core.proofs.Words.{all_owned, cut_at}
use Rattle.row_core.specs.contracts.right.Right
use Rattle.row_core.specs.contracts.right.Right.cut as f
use Rattle.row_core.proofs.right.Right.cut.Statement.{statement}
use Rattle.row_core.proofs.right.Right.cut.Code as code

abbrev stayed : Stays f.ended.signature.params f.ended.kept
stayed = (stay_dropped (plain (λ _. Right.the_row)) yes, (stay_dropped (plain (λ _. usize)) yes, tt))

pub cut_spec : {M : Type 1} → statement M
cut_spec 𝓤 𝓛 𝓜 𝓡 wired =
    let c = f.clauses 𝓛 𝓜.mem 𝓡.returns in let 𝓣 = tables 𝓤 𝓛.H 𝓜 𝓡 𝓡.env in let fn = code.function in
    proved_at 𝓛 f.ended stayed c 𝓜 𝓡 (Goes-blank 𝓛 0 (plain (λ _. Right.the_row)) yes (λ κs x w. tt), (Goes-blank 𝓛 0 (plain (λ _. usize)) yes (λ κs x w. tt), tt))
    f.Key.name fn (code.unfolded 𝓤 𝓛.H 𝓜 𝓡 wired) (λ z are.
    let Post : Val → SProp 𝓤 = (walk_of 𝓛 f.ended stayed c).post z in let vss = z.0.4 in
    let r = z.0.3.0 in let m = z.0.3.1.0 in let xs = r.items in
    let q = share_of r.halves in let b = block_of r.ptr in let o = count_of r.ptr in
    let Asked = (m ≤ length xs) × AreHere r.here (length xs) in
    qed 𝓛 ((raw (alive 𝓛 f.ended.signature z.0.0 z.0.1) ⊛ ‵ (owns (types_at f.ended.signature.params z.0.0) z.0.3 vss)) ∷ raw (fact 𝓤 Asked) ∷ []) ∵
    move ! (1 ∷ []) $ heard ! Asked (λ asked. split ! $ move ! (1 ∷ []) $
    fsplit ! $ fsplit ! $ none_had ! vss.0 (λ is₀. move ! (1 ∷ []) $ fsplit ! $ fsplit ! $ feq_l ! (λ is₁. flt_l ! (λ fits. drop ! $
    let front = take m xs in let back = drop_l m xs in
    let moved : r.ptr +ₚ m * 8 ≡ block_ptr b (o + m * 8) = ap (λ p. p +ₚ m * 8) r.placed in
    let before : Right.the_row.Denot = record { ptr = r.ptr; items = front; here = replicate (length front) true; halves = r.halves; lengths = length-replicate (length front) true; placed = r.placed } in
    let after : Right.the_row.Denot = record { ptr = r.ptr +ₚ m * 8; items = back; here = replicate (length back) true; halves = r.halves; lengths = length-replicate (length back) true; placed = subst IsPlaced (sym moved) refl } in
    rewrite ! 0 (λ (fs : List Bool). ‵ (words_owned q xs fs b o)) asked.1 refl $
    use1 𝓛 (‵ (all_owned q front b o) ⊛ ‵ (all_owned q back b (o + m * 8))) (cut_at 𝓛 b q m xs o asked.0) $ split ! $
    rewrite ! 1 (λ p. ‵ (all_owned q back (block_of p) (count_of p))) (sym moved) refl $
    regoal ! (λ (us : List Val). prop (WpFn 𝓤 𝓛.H 𝓣.C 𝓣.Λ fn (us ++ (vss.1.0 ++ [])) Post)) is₀ refl $
    regoal ! (λ (us : List Val). prop (WpFn 𝓤 𝓛.H 𝓣.C 𝓣.Λ fn ((none ∷ []) ++ (us ++ [])) Post)) is₁ refl $
    enter ! 𝓣.C 𝓣.Λ fn (none ∷ vint w64 m ∷ []) Post $ alloc_all ! (λ l. pass_all ! refl ((tt, tt), ((tt, record { fits = fits }), tt)) $
    sets ! (agg ! (no_more !)) refl (tt, tt) $ sets ! (agg ! (no_more !)) refl (tt, tt) $ sets ! (agg ! (and_then ! (get ! refl) (and_then ! (get ! refl) (no_more !)))) refl (tt, (tt, (tt, tt))) $
    none_made ! $ fjoin ! $ move ! (1 ∷ []) $ none_made ! $ fjoin ! $ move ! (1 ∷ 0 ∷ []) $ two_made ! Right.the_row Right.the_row before after none none $
    returns ! (look_at ! 0 refl) $ free_all ! refl $
    suffices ! _ (ends_at 𝓛 f.ended stayed c z (two none none) (before, after) (tt, (tt, tt)) (tt, (tt, tt))) $ says ! (refl, refl, refl, refl, refl, refl, refl, refl) $
    nothing ! $ nothing ! $ fjoin ! $ nothing ! $ fjoin ! $ move ! (2 ∷ 0 ∷ 1 ∷ []) $ done !))))))
