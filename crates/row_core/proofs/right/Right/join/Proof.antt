-- `join` puts the rights to words side by side together.
use Rattle.row_core.proofs.Walks.{ !, Bool, Goes-blank, List, SProp, Stays, Val, WpFn, [], agg, alive, alloc_all, ap, block_of, count_of, done, drop, ends_at, enter, fact, fjoin, free_all, fsplit, heard, length, length-replicate, look_at, move, no_more, none, none_had, none_made, nothing, owns, pass_all, plain, prop, proved_at, qed, raw, refl, regoal, replicate, returns, rewrite, says, sets, split, stay_dropped, suffices, tables, true, types_at, use2, walk_of, yes, ‵, ◌$◌, ◌*◌, ◌++◌, ◌+ₚ◌, ◌+◌, ◌∙◌, ◌∵◌, ◌∷◌, ◌≡◌, ◌⊛◌}
use Rattle.row_core.specs.Owned.{share_of, words_owned}
use Rattle.row_core.specs.Parts.{AreHere}
use Rattle.row_core.proofs.Words.{all_owned, join_at}
use Rattle.row_core.specs.contracts.right.Right
use Rattle.row_core.specs.contracts.right.Right.join as f
use Rattle.row_core.proofs.right.Right.join.Statement.{statement}
use Rattle.row_core.proofs.right.Right.join.Code as code

abbrev stayed : Stays f.ended.signature.params f.ended.kept
stayed = (stay_dropped (plain (λ _. Right.the_row)) yes, (stay_dropped (plain (λ _. Right.the_row)) yes, tt))

pub join_spec : {M : Type 1} → statement M
join_spec 𝓤 𝓛 𝓜 𝓡 wired =
    let c = f.clauses 𝓛 𝓜.mem 𝓡.returns in let 𝓣 = tables 𝓤 𝓛.H 𝓜 𝓡 𝓡.env in let fn = code.function in
    proved_at 𝓛 f.ended stayed c 𝓜 𝓡 (Goes-blank 𝓛 0 (plain (λ _. Right.the_row)) yes (λ κs x w. tt), (Goes-blank 𝓛 0 (plain (λ _. Right.the_row)) yes (λ κs x w. tt), tt))
    f.Key.name fn (code.unfolded 𝓤 𝓛.H 𝓜 𝓡 wired) (λ z are.
    let Post : Val → SProp 𝓤 = (walk_of 𝓛 f.ended stayed c).post z in let vss = z.0.4 in
    let r = z.0.3.0 in let t = z.0.3.1.0 in let xs = r.items in let ys = t.items in
    let q = share_of r.halves in let b = block_of r.ptr in let o = count_of r.ptr in
    let Asked = (t.ptr ≡ r.ptr +ₚ length xs * 8) × (t.halves ≡ r.halves) × AreHere r.here (length xs) × AreHere t.here (length ys) in
    qed 𝓛 ((raw (alive 𝓛 f.ended.signature z.0.0 z.0.1) ⊛ ‵ (owns (types_at f.ended.signature.params z.0.0) z.0.3 vss)) ∷ raw (fact 𝓤 Asked) ∷ []) ∵
    move ! (1 ∷ []) $ heard ! Asked (λ asked. split ! $ move ! (1 ∷ []) $
    fsplit ! $ fsplit ! $ none_had ! vss.0 (λ is₀. move ! (1 ∷ []) $ fsplit ! $ fsplit ! $ none_had ! vss.1.0 (λ is₁. move ! (1 ∷ []) $ drop ! $
    -- [the words after; the words; the tokens]
    let both : Right.the_row.Denot = record { ptr = r.ptr; items = xs ++ ys; here = replicate (length (xs ++ ys)) true; halves = r.halves; lengths = length-replicate (length (xs ++ ys)) true; placed = r.placed } in
    rewrite ! 0 (λ p. ‵ (words_owned (share_of t.halves) ys t.here (block_of p) (count_of p))) (asked.0 ∙ ap (λ p. p +ₚ length xs * 8) r.placed) refl $
    rewrite ! 0 (λ (gs : List Bool). ‵ (words_owned (share_of gs) ys t.here b (o + length xs * 8))) asked.1 refl $
    rewrite ! 0 (λ (fs : List Bool). ‵ (words_owned q ys fs b (o + length xs * 8))) asked.3 refl $
    rewrite ! 1 (λ (fs : List Bool). ‵ (words_owned q xs fs b o)) asked.2 refl $ move ! (1 ∷ 0 ∷ []) $
    use2 𝓛 (‵ (all_owned q (xs ++ ys) b o)) (join_at 𝓛 b q xs ys o) $
    regoal ! (λ (us : List Val). prop (WpFn 𝓤 𝓛.H 𝓣.C 𝓣.Λ fn (us ++ (vss.1.0 ++ [])) Post)) is₀ refl $
    regoal ! (λ (us : List Val). prop (WpFn 𝓤 𝓛.H 𝓣.C 𝓣.Λ fn ((none ∷ []) ++ (us ++ [])) Post)) is₁ refl $
    enter ! 𝓣.C 𝓣.Λ fn (none ∷ none ∷ []) Post $ alloc_all ! (λ l. pass_all ! refl ((tt, tt), ((tt, tt), tt)) $
    sets ! (agg ! (no_more !)) refl (tt, tt) $ none_made ! $ fjoin ! $
    returns ! (look_at ! 0 refl) $ free_all ! refl $
    suffices ! _ (ends_at 𝓛 f.ended stayed c z none both (tt, (tt, tt)) (tt, (tt, tt))) $ says ! (refl, refl, refl, refl) $
    nothing ! $ nothing ! $ fjoin ! $ nothing ! $ fjoin ! $ move ! (2 ∷ 0 ∷ 1 ∷ []) $ done !)))))
