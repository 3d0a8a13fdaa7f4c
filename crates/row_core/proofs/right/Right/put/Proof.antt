-- `put` adds the right to a part, which nobody else had.
use Rattle.row_core.proofs.Walks.{ !, Bool, Goes-blank, List, SProp, Stays, Val, WpFn, [], agg, alive, alloc_all, ap, arith, block_of, count_of, done, drop, ends_at, enter, fact, false, feq_l, fjoin, flt_l, free_all, fsplit, full_share, heard, learns, length, length-replicate, look_at, move, no_more, none, none_had, none_made, nothing, owns, pass_all, plain, prop, proved_at, qed, raw, refl, regoal, replicate, returns, rewrite, says, sets, split, stay_dropped, suffices, sym, tables, true, types_at, use2, usize, vint, w64, walk_of, yes, ‵, ◌$◌, ◌*◌, ◌++◌, ◌+ₚ◌, ◌+◌, ◌∙◌, ◌∵◌, ◌∷◌, ◌≡◌, ◌≤◌, ◌⊛◌}
use Rattle.row_core.specs.Owned.{share_of, words_owned}
use Rattle.row_core.specs.Parts.{part, spliced, AreHere}
use Rattle.row_core.proofs.Lists.{spliced_long}
use Rattle.row_core.proofs.Words.{put_back, was_out}
use Rattle.row_core.specs.contracts.right.Right
use Rattle.row_core.specs.contracts.right.Right.put as f
use Rattle.row_core.proofs.right.Right.put.Statement.{statement}
use Rattle.row_core.proofs.right.Right.put.Code as code

abbrev stayed : Stays f.ended.signature.params f.ended.kept
stayed = (stay_dropped (plain (λ _. Right.the_row)) yes, (stay_dropped (plain (λ _. usize)) yes, (stay_dropped (plain (λ _. Right.the_row)) yes, tt)))

pub put_spec : {M : Type 1} → statement M
put_spec 𝓤 𝓛 𝓜 𝓡 wired =
    let c = f.clauses 𝓛 𝓜.mem 𝓡.returns in let 𝓣 = tables 𝓤 𝓛.H 𝓜 𝓡 𝓡.env in let fn = code.function in
    proved_at 𝓛 f.ended stayed c 𝓜 𝓡 (Goes-blank 𝓛 0 (plain (λ _. Right.the_row)) yes (λ κs x w. tt), (Goes-blank 𝓛 0 (plain (λ _. usize)) yes (λ κs x w. tt), (Goes-blank 𝓛 0 (plain (λ _. Right.the_row)) yes (λ κs x w. tt), tt)))
    f.Key.name fn (code.unfolded 𝓤 𝓛.H 𝓜 𝓡 wired) (λ z are.
    let Post : Val → SProp 𝓤 = (walk_of 𝓛 f.ended stayed c).post z in let vss = z.0.4 in
    let r = z.0.3.0 in let i = z.0.3.1.0 in let t = z.0.3.1.1.0 in let ws = t.items in let n = length ws in
    let b = block_of r.ptr in let o = count_of r.ptr in
    let Asked = (i + n ≤ length r.items) × (t.ptr ≡ r.ptr +ₚ i * 8) × AreHere t.here n × (t.halves ≡ []) × (r.halves ≡ []) in
    qed 𝓛 ((raw (alive 𝓛 f.ended.signature z.0.0 z.0.1) ⊛ ‵ (owns (types_at f.ended.signature.params z.0.0) z.0.3 vss)) ∷ raw (fact 𝓤 Asked) ∷ []) ∵
    move ! (1 ∷ []) $ heard ! Asked (λ asked. split ! $ move ! (1 ∷ []) $
    fsplit ! $ fsplit ! $ none_had ! vss.0 (λ is₀. move ! (1 ∷ []) $ fsplit ! $ fsplit ! $ feq_l ! (λ is₁. flt_l ! (λ fits₁. fsplit ! $ fsplit ! $ none_had ! vss.1.1.0 (λ is₂. move ! (1 ∷ []) $ drop ! $
    -- [the words that come back; those that are here; the tokens]
    let ys = spliced r.items i n ws in let hs = spliced r.here i n (replicate n true) in
    let long : length hs ≡ length ys = spliced_long r.here i n (omega (arith, asked.0, r.lengths)) (replicate n true) (length-replicate n true) ∙ r.lengths ∙ sym (spliced_long r.items i n asked.0 ws refl) in
    let whole_right : Right.the_row.Denot = record { ptr = r.ptr; items = ys; here = hs; halves = []; lengths = long; placed = r.placed } in
    rewrite ! 0 (λ p. ‵ (words_owned (share_of t.halves) ws t.here (block_of p) (count_of p))) (asked.1 ∙ ap (λ p. p +ₚ i * 8) r.placed) refl $
    rewrite ! 0 (λ (fs : List Bool). ‵ (words_owned (share_of t.halves) ws fs b (o + i * 8))) asked.2 refl $
    rewrite ! 0 (λ (gs : List Bool). ‵ (words_owned (share_of gs) ws (replicate n true) b (o + i * 8))) asked.3 refl $
    rewrite ! 1 (λ (gs : List Bool). ‵ (words_owned (share_of gs) r.items r.here b o)) asked.4 refl $
    learns ! 2 (part r.here i n ≡ replicate n false) (was_out 𝓛 b 𝓜 r.items r.here i o ws r.lengths asked.0) (λ out.
    use2 𝓛 (‵ (words_owned full_share ys hs b o)) (put_back 𝓛 b full_share r.items r.here r.lengths i n o asked.0 ws refl) $
    regoal ! (λ (us : List Val). prop (WpFn 𝓤 𝓛.H 𝓣.C 𝓣.Λ fn (us ++ (vss.1.0 ++ (vss.1.1.0 ++ []))) Post)) is₀ refl $
    regoal ! (λ (us : List Val). prop (WpFn 𝓤 𝓛.H 𝓣.C 𝓣.Λ fn ((none ∷ []) ++ (us ++ (vss.1.1.0 ++ []))) Post)) is₁ refl $
    regoal ! (λ (us : List Val). prop (WpFn 𝓤 𝓛.H 𝓣.C 𝓣.Λ fn ((none ∷ []) ++ ((vint w64 i ∷ []) ++ (us ++ []))) Post)) is₂ refl $
    enter ! 𝓣.C 𝓣.Λ fn (none ∷ vint w64 i ∷ none ∷ []) Post $ alloc_all ! (λ l. pass_all ! refl ((tt, tt), ((tt, record { fits = fits₁ }), ((tt, tt), tt))) $
    sets ! (agg ! (no_more !)) refl (tt, tt) $ none_made ! $ fjoin ! $
    returns ! (look_at ! 0 refl) $ free_all ! refl $
    suffices ! _ (ends_at 𝓛 f.ended stayed c z none whole_right (tt, (tt, (tt, tt))) (tt, (tt, (tt, tt)))) $ says ! (refl, refl, refl, refl, out) $
    nothing ! $ nothing ! $ fjoin ! $ nothing ! $ fjoin ! $ nothing ! $ fjoin ! $ move ! (2 ∷ 0 ∷ 1 ∷ []) $ done !))))))))
