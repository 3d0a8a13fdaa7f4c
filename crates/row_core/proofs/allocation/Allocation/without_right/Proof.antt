-- `without_right` takes the right to the words out, and keeps what waits for it.
use Rattle.row_core.proofs.Walks.{ !, Goes-blank, InBlock, List, SProp, Stays, Val, WpFn, [], agg, alive, alloc_all, and_then, ap, as_fields, block_of, block_ptr, count_of, done, drop, ends_at, enter, fact, fjoin, fpack, free_all, fsplit, ftrue, full_share, get, heard, id⊢, in_a_block, in_block, layout, length, length-replicate, look_at, move, never, no_more, none, none_made, nothing, of_opd, one, owns, pass_all, plain, prop, proved_at, qed, raw, refl, regoal, replicate, returns, rewrite, says, sets, split, stay_dropped, subst, suffices, sym, tables, tells, true, two, two_made, types_at, use1, walk_of, yes, ‵, ℕ, ◌$◌, ◌++◌, ◌<◌, ◌^◌, ◌∙◌, ◌∵◌, ◌∷◌, ◌⊛◌}
use denote.Laws.{Typed}
use Rattle.row_core.specs.Owned.{IsPlaced}
use Rattle.row_core.proofs.Vectors.{Words, vec-laws, carve}
use Rattle.row_core.proofs.Words.{all_owned}
use Rattle.row_core.specs.contracts.right.Right
use Rattle.row_core.specs.contracts.allocation.Allocation
use Rattle.row_core.specs.contracts.allocation.Allocation.without_right as f
use Rattle.row_core.proofs.allocation.Allocation.without_right.Statement.{statement}
use Rattle.row_core.proofs.allocation.Allocation.without_right.Code as code

abbrev stayed : Stays f.ended.signature.params f.ended.kept
stayed = (stay_dropped (plain (λ _. Words)) yes, tt)

pub without_right_spec : {M : Type 1} → statement M
without_right_spec 𝓤 𝓛 𝓜 𝓡 wired =
    let c = f.clauses 𝓛 𝓜.mem 𝓡.returns in let 𝓣 = tables 𝓤 𝓛.H 𝓜 𝓡 𝓡.env in let fn = code.function in
    proved_at 𝓛 f.ended stayed c 𝓜 𝓡 (Goes-blank 𝓛 0 (plain (λ _. Words)) yes (λ κs x w. tt), tt)
    f.Key.name fn (code.unfolded 𝓤 𝓛.H 𝓜 𝓡 wired) (λ z are.
    let Post : Val → SProp 𝓤 = (walk_of 𝓛 f.ended stayed c).post z in let vss = z.0.4 in
    let v = z.0.3.0 in
    let e : Allocation.the_row.Denot = record { ptr = v.ptr; len = v.len } in
    qed 𝓛 ((raw (alive 𝓛 f.ended.signature z.0.0 z.0.1) ⊛ ‵ (owns (types_at f.ended.signature.params z.0.0) z.0.3 vss)) ∷ ‵ ftrue ∷ []) ∵
    move ! (1 ∷ []) $ drop ! $ split ! $ move ! (1 ∷ []) $
    fsplit ! $ tells ! Words vec-laws v vss.0 (λ u is good. move ! (1 ∷ []) $ drop ! $
    let inner = as_fields (layout Words ∷ []) (u ∷ []) (good, tt) in
    use1 𝓛 (‵ (in_block v.ptr (all_owned full_share v.items (block_of v.ptr) (count_of v.ptr))) ⊛ (raw (fact 𝓤 (v.len < 2 ^ 60)) ⊛ ‵ (Allocation.the_own e (one u ∷ [])))) (carve 𝓛 v u) $ split ! $
    move ! (1 ∷ []) $ split ! $ heard ! (v.len < 2 ^ 60) (λ small. move ! (1 ∷ []) $
    in_a_block ! v.ptr (λ p. in_block p (all_owned full_share v.items (block_of p) (count_of p))) (id⊢ 𝓤 (never 𝓤)) (λ b o at.
    let placed : IsPlaced v.ptr = at ∙ ap (λ p. block_ptr (block_of p) (count_of p)) (sym at) in
    let r : Right.the_row.Denot = record { ptr = v.ptr; items = v.items; here = replicate (length v.items) true; halves = []; lengths = length-replicate (length v.items) true; placed = placed } in
    rewrite ! 0 (λ p. ‵ (all_owned full_share v.items (block_of p) (count_of p))) (sym at) refl $ none_made ! $ fjoin ! $
    move ! (1 ∷ []) $ nothing ! $ fpack ! (Typed Allocation.the_row.mir (one u ∷ [])) (λ _. ftrue) (inner, tt) $ fjoin ! $
    two_made ! Allocation.the_row Right.the_row e r (one u) none $
    regoal ! (λ (us : List Val). prop (WpFn 𝓤 𝓛.H 𝓣.C 𝓣.Λ fn (us ++ []) Post)) is refl $
    enter ! 𝓣.C 𝓣.Λ fn (u ∷ []) Post $ alloc_all ! (λ l. pass_all ! refl (good, tt) $
    sets ! (of_opd ! (get ! refl)) refl good $ sets ! (agg ! (and_then ! (get ! refl) (no_more !))) refl inner $ sets ! (agg ! (no_more !)) refl (tt, tt) $
    sets ! (agg ! (and_then ! (get ! refl) (and_then ! (get ! refl) (no_more !)))) refl (as_fields (layout Allocation.the_row ∷ layout Right.the_row ∷ []) (one u ∷ none ∷ []) (inner, ((tt, tt), tt))) $
    returns ! (look_at ! 0 refl) $ free_all ! refl $
    suffices ! _ (ends_at 𝓛 f.ended stayed c z (two (one u) none) (e, r) (tt, tt) (tt, tt)) $ says ! (refl, v.ok.0, refl, refl, refl, refl, subst InBlock (sym at) tt, subst (λ (k : ℕ). k < 2 ^ 60) v.ok.0 small) $
    nothing ! $ nothing ! $ fjoin ! $ move ! (2 ∷ 0 ∷ 1 ∷ []) $ done !)))))
