-- `rejoin` puts both halves together, which show the same words.
use Rattle.row_core.proofs.Walks.{ !, Bool, Goes-blank, List, SProp, Stays, Val, WpFn, [], agg, alive, alloc_all, block_of, count_of, done, drop, ends_at, enter, fact, false, fjoin, free_all, fsplit, full_share, heard, learns, length, look_at, move, no_more, none, none_had, none_made, nothing, owns, pass_all, plain, prop, proved_at, qed, raw, refl, regoal, returns, rewrite, says, sets, split, stay_dropped, suffices, sym, tables, true, types_at, use2, walk_of, yes, ‵, ℕ, ◌$◌, ◌++◌, ◌∵◌, ◌∷◌, ◌≡◌, ◌⊛◌}
use Rattle.row_core.specs.Owned.{share_of, words_owned}
use Rattle.row_core.specs.Parts.{AreHere}
use Rattle.row_core.proofs.Agree.{words_agree, words_whole}
use Rattle.row_core.proofs.Words.{all_owned}
use Rattle.row_core.specs.contracts.right.Right
use Rattle.row_core.specs.contracts.right.Right.rejoin as f
use Rattle.row_core.proofs.right.Right.rejoin.Statement.{statement}
use Rattle.row_core.proofs.right.Right.rejoin.Code as code

abbrev stayed : Stays f.ended.signature.params f.ended.kept
stayed = (stay_dropped (plain (λ _. Right.the_row)) yes, (stay_dropped (plain (λ _. Right.the_row)) yes, tt))

pub rejoin_spec : {M : Type 1} → statement M
rejoin_spec 𝓤 𝓛 𝓜 𝓡 wired =
    let c = f.clauses 𝓛 𝓜.mem 𝓡.returns in let 𝓣 = tables 𝓤 𝓛.H 𝓜 𝓡 𝓡.env in let fn = code.function in
    proved_at 𝓛 f.ended stayed c 𝓜 𝓡 (Goes-blank 𝓛 0 (plain (λ _. Right.the_row)) yes (λ κs x w. tt), (Goes-blank 𝓛 0 (plain (λ _. Right.the_row)) yes (λ κs x w. tt), tt))
    f.Key.name fn (code.unfolded 𝓤 𝓛.H 𝓜 𝓡 wired) (λ z are.
    let Post : Val → SProp 𝓤 = (walk_of 𝓛 f.ended stayed c).post z in let vss = z.0.4 in
    let r = z.0.3.0 in let t = z.0.3.1.0 in let xs = r.items in let ys = t.items in
    let b = block_of r.ptr in let o = count_of r.ptr in
    let p = share_of (true ∷ []) in let q = share_of (false ∷ []) in
    let Asked = (r.halves ≡ true ∷ []) × (t.halves ≡ false ∷ []) × (t.ptr ≡ r.ptr) × (length ys ≡ length xs) × AreHere r.here (length xs) × AreHere t.here (length ys) in
    qed 𝓛 ((raw (alive 𝓛 f.ended.signature z.0.0 z.0.1) ⊛ ‵ (owns (types_at f.ended.signature.params z.0.0) z.0.3 vss)) ∷ raw (fact 𝓤 Asked) ∷ []) ∵
    move ! (1 ∷ []) $ heard ! Asked (λ asked. split ! $ move ! (1 ∷ []) $
    fsplit ! $ fsplit ! $ none_had ! vss.0 (λ is₀. move ! (1 ∷ []) $ fsplit ! $ fsplit ! $ none_had ! vss.1.0 (λ is₁. move ! (1 ∷ []) $ drop ! $
    -- [the other half; this half; the tokens]
    let whole_right : Right.the_row.Denot = record r { halves = [] } in
    rewrite ! 0 (λ s. ‵ (words_owned (share_of t.halves) ys t.here (block_of s) (count_of s))) asked.2 refl $
    rewrite ! 0 (λ (gs : List Bool). ‵ (words_owned (share_of gs) ys t.here b o)) asked.1 refl $
    rewrite ! 0 (λ (fs : List Bool). ‵ (words_owned q ys fs b o)) asked.5 refl $ move ! (1 ∷ []) $
    rewrite ! 0 (λ (gs : List Bool). ‵ (words_owned (share_of gs) xs r.here b o)) asked.0 refl $
    rewrite ! 0 (λ (fs : List Bool). ‵ (words_owned p xs fs b o)) asked.4 refl $
    learns ! 2 (xs ≡ ys) (words_agree 𝓛 𝓜 p q xs ys b o (sym asked.3)) (λ same.
    rewrite ! 1 (λ (us : List ℕ). ‵ (all_owned q us b o)) (sym same) refl $
    use2 𝓛 (‵ (all_owned full_share xs b o)) (words_whole 𝓛 full_share xs b o) $
    rewrite ! 0 (λ (fs : List Bool). ‵ (words_owned full_share xs fs b o)) (sym asked.4) refl $
    regoal ! (λ (us : List Val). prop (WpFn 𝓤 𝓛.H 𝓣.C 𝓣.Λ fn (us ++ (vss.1.0 ++ [])) Post)) is₀ refl $
    regoal ! (λ (us : List Val). prop (WpFn 𝓤 𝓛.H 𝓣.C 𝓣.Λ fn ((none ∷ []) ++ (us ++ [])) Post)) is₁ refl $
    enter ! 𝓣.C 𝓣.Λ fn (none ∷ none ∷ []) Post $ alloc_all ! (λ l. pass_all ! refl ((tt, tt), ((tt, tt), tt)) $
    sets ! (agg ! (no_more !)) refl (tt, tt) $ none_made ! $ fjoin ! $
    returns ! (look_at ! 0 refl) $ free_all ! refl $
    suffices ! _ (ends_at 𝓛 f.ended stayed c z none whole_right (tt, (tt, tt)) (tt, (tt, tt))) $ says ! (refl, refl, refl, refl, sym same) $
    nothing ! $ nothing ! $ fjoin ! $ nothing ! $ fjoin ! $ move ! (2 ∷ 0 ∷ 1 ∷ []) $ done !))))))
