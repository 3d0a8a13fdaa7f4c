-- `take` parts the right to a part from the rest.
use Rattle.row_core.proofs.Walks.{ !, Goes-blank, List, SProp, Stays, Val, WpFn, [], agg, alive, alloc_all, and_then, ap, arith, block_of, block_ptr, count_of, done, drop, ends_at, enter, fact, false, feq_l, fjoin, flt_l, free_all, fsplit, get, heard, length, length-replicate, look_at, move, no_more, none, none_had, none_made, nothing, owns, pass_all, plain, prop, proved_at, qed, raw, refl, regoal, replicate, returns, rewrite, says, sets, split, stay_dropped, subst, suffices, sym, tables, true, two, two_made, types_at, use1, usize, vint, w64, walk_of, yes, ‵, ◌$◌, ◌*◌, ◌++◌, ◌+ₚ◌, ◌+◌, ◌∙◌, ◌∵◌, ◌∷◌, ◌≡◌, ◌≤◌, ◌⊛◌}
use Rattle.row_core.specs.Owned.{IsPlaced, share_of, words_owned}
use Rattle.row_core.specs.Parts.{part, spliced, AreHere}
use Rattle.row_core.proofs.Lists.{part_long, spliced_long}
use Rattle.row_core.proofs.Words.{take_out}
use Rattle.row_core.specs.contracts.right.Right
use Rattle.row_core.specs.contracts.right.Right.take as f
use Rattle.row_core.proofs.right.Right.take.Statement.{statement}
use Rattle.row_core.proofs.right.Right.take.Code as code

abbrev stayed : Stays f.ended.signature.params f.ended.kept
stayed = (stay_dropped (plain (λ _. Right.the_row)) yes, (stay_dropped (plain (λ _. usize)) yes, (stay_dropped (plain (λ _. usize)) yes, tt)))

pub take_spec : {M : Type 1} → statement M
take_spec 𝓤 𝓛 𝓜 𝓡 wired =
    let c = f.clauses 𝓛 𝓜.mem 𝓡.returns in let 𝓣 = tables 𝓤 𝓛.H 𝓜 𝓡 𝓡.env in let fn = code.function in
    proved_at 𝓛 f.ended stayed c 𝓜 𝓡 (Goes-blank 𝓛 0 (plain (λ _. Right.the_row)) yes (λ κs x w. tt), (Goes-blank 𝓛 0 (plain (λ _. usize)) yes (λ κs x w. tt), (Goes-blank 𝓛 0 (plain (λ _. usize)) yes (λ κs x w. tt), tt)))
    f.Key.name fn (code.unfolded 𝓤 𝓛.H 𝓜 𝓡 wired) (λ z are.
    let Post : Val → SProp 𝓤 = (walk_of 𝓛 f.ended stayed c).post z in let vss = z.0.4 in
    let r = z.0.3.0 in let i = z.0.3.1.0 in let n = z.0.3.1.1.0 in
    let q = share_of r.halves in let b = block_of r.ptr in let o = count_of r.ptr in let part_of = part r.items i n in
    let Asked = (i + n ≤ length r.items) × AreHere (part r.here i n) n in
    qed 𝓛 ((raw (alive 𝓛 f.ended.signature z.0.0 z.0.1) ⊛ ‵ (owns (types_at f.ended.signature.params z.0.0) z.0.3 vss)) ∷ raw (fact 𝓤 Asked) ∷ []) ∵
    move ! (1 ∷ []) $ heard ! Asked (λ asked. split ! $ move ! (1 ∷ []) $
    fsplit ! $ fsplit ! $ none_had ! vss.0 (λ is₀. move ! (1 ∷ []) $ fsplit ! $ fsplit ! $ feq_l ! (λ is₁. flt_l ! (λ fits₁. fsplit ! $ fsplit ! $ feq_l ! (λ is₂. flt_l ! (λ fits₂. drop ! $
    let hs = spliced r.here i n (replicate n false) in
    let long : length hs ≡ length r.items = spliced_long r.here i n (omega (arith, asked.0, r.lengths)) (replicate n false) (length-replicate n false) ∙ r.lengths in
    let left : Right.the_row.Denot = record r { here = hs; lengths = long } in
    let moved : r.ptr +ₚ i * 8 ≡ block_ptr b (o + i * 8) = ap (λ p. p +ₚ i * 8) r.placed in
    let taken : Right.the_row.Denot = record { ptr = r.ptr +ₚ i * 8; items = part_of; here = replicate n true; halves = r.halves; lengths = length-replicate n true ∙ sym (part_long r.items i n asked.0); placed = subst IsPlaced (sym moved) refl } in
    regoal ! (λ (us : List Val). prop (WpFn 𝓤 𝓛.H 𝓣.C 𝓣.Λ fn (us ++ (vss.1.0 ++ (vss.1.1.0 ++ []))) Post)) is₀ refl $
    regoal ! (λ (us : List Val). prop (WpFn 𝓤 𝓛.H 𝓣.C 𝓣.Λ fn ((none ∷ []) ++ (us ++ (vss.1.1.0 ++ []))) Post)) is₁ refl $
    regoal ! (λ (us : List Val). prop (WpFn 𝓤 𝓛.H 𝓣.C 𝓣.Λ fn ((none ∷ []) ++ ((vint w64 i ∷ []) ++ (us ++ []))) Post)) is₂ refl $
    enter ! 𝓣.C 𝓣.Λ fn (none ∷ vint w64 i ∷ vint w64 n ∷ []) Post $ alloc_all ! (λ l. pass_all ! refl ((tt, tt), ((tt, record { fits = fits₁ }), ((tt, record { fits = fits₂ }), tt))) $
    sets ! (agg ! (no_more !)) refl (tt, tt) $ sets ! (agg ! (no_more !)) refl (tt, tt) $ sets ! (agg ! (and_then ! (get ! refl) (and_then ! (get ! refl) (no_more !)))) refl (tt, (tt, (tt, tt))) $
    use1 𝓛 (‵ (words_owned q part_of (replicate n true) b (o + i * 8)) ⊛ ‵ (words_owned q r.items hs b o)) (take_out 𝓛 b q r.items r.here r.lengths i n o asked.0 asked.1) $ split ! $
    rewrite ! 0 (λ p. ‵ (words_owned q part_of (replicate n true) (block_of p) (count_of p))) (sym moved) refl $
    none_made ! $ fjoin ! $ move ! (1 ∷ []) $ none_made ! $ fjoin ! $ two_made ! Right.the_row Right.the_row left taken none none $
    returns ! (look_at ! 0 refl) $ free_all ! refl $
    suffices ! _ (ends_at 𝓛 f.ended stayed c z (two none none) (left, taken) (tt, (tt, (tt, tt))) (tt, (tt, (tt, tt)))) $ says ! (refl, refl, refl, refl, refl, refl, refl, refl) $
    nothing ! $ nothing ! $ fjoin ! $ nothing ! $ fjoin ! $ nothing ! $ fjoin ! $ move ! (2 ∷ 0 ∷ 1 ∷ []) $ done !))))))))
