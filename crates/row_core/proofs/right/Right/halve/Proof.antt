-- `halve` parts the right in two halves.
use Rattle.row_core.proofs.Walks.{ !, Bool, Goes-blank, List, SProp, Stays, Val, WpFn, [], agg, alive, alloc_all, and_then, block_of, count_of, done, drop, ends_at, enter, fact, false, fjoin, free_all, fsplit, get, heard, length, look_at, move, no_more, none, none_had, none_made, nothing, owns, pass_all, plain, prop, proved_at, qed, raw, refl, regoal, returns, rewrite, says, sets, split, stay_dropped, suffices, sym, tables, true, two, two_made, types_at, use1, walk_of, yes, ‵, ◌$◌, ◌++◌, ◌∵◌, ◌∷◌, ◌⊛◌}
use Rattle.row_core.specs.Owned.{share_of, words_owned}
use Rattle.row_core.specs.Parts.{AreHere}
use Rattle.row_core.proofs.Agree.{words_parted}
use Rattle.row_core.proofs.Words.{all_owned}
use Rattle.row_core.specs.contracts.right.Right
use Rattle.row_core.specs.contracts.right.Right.halve as f
use Rattle.row_core.proofs.right.Right.halve.Statement.{statement}
use Rattle.row_core.proofs.right.Right.halve.Code as code

abbrev stayed : Stays f.ended.signature.params f.ended.kept
stayed = (stay_dropped (plain (λ _. Right.the_row)) yes, tt)

pub halve_spec : {M : Type 1} → statement M
halve_spec 𝓤 𝓛 𝓜 𝓡 wired =
    let c = f.clauses 𝓛 𝓜.mem 𝓡.returns in let 𝓣 = tables 𝓤 𝓛.H 𝓜 𝓡 𝓡.env in let fn = code.function in
    proved_at 𝓛 f.ended stayed c 𝓜 𝓡 (Goes-blank 𝓛 0 (plain (λ _. Right.the_row)) yes (λ κs x w. tt), tt)
    f.Key.name fn (code.unfolded 𝓤 𝓛.H 𝓜 𝓡 wired) (λ z are.
    let Post : Val → SProp 𝓤 = (walk_of 𝓛 f.ended stayed c).post z in let vss = z.0.4 in
    let r = z.0.3.0 in let xs = r.items in
    let q = share_of r.halves in let b = block_of r.ptr in let o = count_of r.ptr in
    let Asked = AreHere r.here (length xs) in
    qed 𝓛 ((raw (alive 𝓛 f.ended.signature z.0.0 z.0.1) ⊛ ‵ (owns (types_at f.ended.signature.params z.0.0) z.0.3 vss)) ∷ raw (fact 𝓤 Asked) ∷ []) ∵
    move ! (1 ∷ []) $ heard ! Asked (λ asked. split ! $ move ! (1 ∷ []) $
    fsplit ! $ fsplit ! $ none_had ! vss.0 (λ is₀. move ! (1 ∷ []) $ drop ! $
    let one_half : Right.the_row.Denot = record r { halves = true ∷ r.halves } in
    let other_half : Right.the_row.Denot = record r { halves = false ∷ r.halves } in
    rewrite ! 0 (λ (fs : List Bool). ‵ (words_owned q xs fs b o)) asked refl $
    use1 𝓛 (‵ (all_owned (share_of one_half.halves) xs b o) ⊛ ‵ (all_owned (share_of other_half.halves) xs b o)) (words_parted 𝓛 q xs b o) $ split ! $
    rewrite ! 0 (λ (fs : List Bool). ‵ (words_owned (share_of one_half.halves) xs fs b o)) (sym asked) refl $
    rewrite ! 1 (λ (fs : List Bool). ‵ (words_owned (share_of other_half.halves) xs fs b o)) (sym asked) refl $
    regoal ! (λ (us : List Val). prop (WpFn 𝓤 𝓛.H 𝓣.C 𝓣.Λ fn (us ++ []) Post)) is₀ refl $
    enter ! 𝓣.C 𝓣.Λ fn (none ∷ []) Post $ alloc_all ! (λ l. pass_all ! refl ((tt, tt), tt) $
    sets ! (agg ! (no_more !)) refl (tt, tt) $ sets ! (agg ! (no_more !)) refl (tt, tt) $ sets ! (agg ! (and_then ! (get ! refl) (and_then ! (get ! refl) (no_more !)))) refl (tt, (tt, (tt, tt))) $
    none_made ! $ fjoin ! $ move ! (1 ∷ []) $ none_made ! $ fjoin ! $ move ! (1 ∷ 0 ∷ []) $ two_made ! Right.the_row Right.the_row one_half other_half none none $
    returns ! (look_at ! 0 refl) $ free_all ! refl $
    suffices ! _ (ends_at 𝓛 f.ended stayed c z (two none none) (one_half, other_half) (tt, tt) (tt, tt)) $ says ! (refl, refl, refl, refl, refl, refl, refl, refl) $
    nothing ! $ nothing ! $ fjoin ! $ move ! (2 ∷ 0 ∷ 1 ∷ []) $ done !))))
