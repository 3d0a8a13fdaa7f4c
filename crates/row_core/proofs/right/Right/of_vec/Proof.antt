-- `of_vec` takes the right from `dislodge`.
use Rattle.row_core.proofs.Walks.{ !, Goes-blank, List, SProp, Stays, Val, WpFn, [], agg, alive, alloc_all, and_then, ap, await, block_of, block_ptr, calls_at, count_of, done, drop, ends_at, enter, fjoin, framed, free_all, fsplit, ftrue, full_share, get, given, id⊢, in_a_block, in_block, lands_as, later, learn, length, length-replicate, look_at, move, never, no_more, none, none_made, nothing, of_opd, owns, pass_all, plain, prop, proved_at, qed, raw, refl, regoal, replicate, returns, rewrite, says, sets, split, stay_dropped, suffices, sym, tables, tells, true, types_at, u64, use1, vint, w64, walk_of, yes, ‵, ◌$◌, ◌++◌, ◌<◌, ◌^◌, ◌∙◌, ◌∵◌, ◌∷◌, ◌≡◌, ◌⊛◌}
use Rattle.row_core.specs.Owned.{IsPlaced}
use Rattle.row_core.proofs.Lodging.{Lodging, Dislodges, at_dislodge, dislodge_goes, dislodge_gives, lodging-laws, word_laws}
use Rattle.row_core.proofs.Words.{all_owned}
use Rattle.std_alloc.proofs.vec.lodged.Vec+T+Lodged.dislodge.Met as callee
use Rattle.row_core.specs.contracts.right.Right
use Rattle.row_core.specs.contracts.right.Right.of_vec as f
use Rattle.row_core.proofs.right.Right.of_vec.Statement.{statement}
use Rattle.row_core.proofs.right.Right.of_vec.Code as code

abbrev stayed : Stays f.ended.signature.params f.ended.kept
stayed = (stay_dropped (plain (λ _. Lodging)) yes, tt)

pub of_vec_spec : {M : Type 1} → statement M
of_vec_spec 𝓤 𝓛 𝓜 𝓡 wired =
    let c = f.clauses 𝓛 𝓜.mem 𝓡.returns in let 𝓣 = tables 𝓤 𝓛.H 𝓜 𝓡 𝓡.env in let fn = code.function in
    proved_at 𝓛 f.ended stayed c 𝓜 𝓡 (Goes-blank 𝓛 0 (plain (λ _. Lodging)) yes (λ κs x w. tt), tt)
    f.Key.name fn (code.unfolded 𝓤 𝓛.H 𝓜 𝓡 wired) (λ z are.
    let Post : Val → SProp 𝓤 = (walk_of 𝓛 f.ended stayed c).post z in let vss = z.0.4 in
    let v = z.0.3.0 in
    let G = Dislodges 𝓛 𝓜.mem 𝓡.returns in
    qed 𝓛 ((raw (alive 𝓛 f.ended.signature z.0.0 z.0.1) ⊛ ‵ (owns (types_at f.ended.signature.params z.0.0) z.0.3 vss)) ∷ ‵ ftrue ∷ []) ∵
    move ! (1 ∷ []) $ drop ! $ split ! $ move ! (1 ∷ []) $
    fsplit ! $ tells ! Lodging lodging-laws v vss.0 (λ u is good. move ! (1 ∷ []) $ drop ! $
    let y = at_dislodge 𝓛 𝓜.mem 𝓡.returns v u in
    regoal ! (λ (us : List Val). prop (WpFn 𝓤 𝓛.H 𝓣.C 𝓣.Λ fn (us ++ []) Post)) is refl $
    enter ! 𝓣.C 𝓣.Λ fn (u ∷ []) Post $ alloc_all ! (λ l. pass_all ! refl (good, tt) $
    sets ! (of_opd ! (get ! refl)) refl good $ use1 𝓛 (raw (G.pre y)) (dislodge_goes 𝓛 𝓜.mem 𝓡.returns v u) $
    calls_at ! (framed 𝓤 𝓛.H 𝓜 𝓣) G (callee.met 𝓤 𝓛 𝓜 𝓡 (code.calls-std_alloc::vec::lodged::Vec+T+Lodged::dislodge 𝓡.env wired) u64 word_laws) y (and_then ! (get ! refl) (no_more !)) (λ w.
    use1 𝓛 (later (given ((w ≡ vint w64 v.len) × (v.len < 2 ^ 64)) (‵ (in_block v.ptr (all_owned full_share v.items (block_of v.ptr) (count_of v.ptr)))))) (dislodge_gives 𝓛 𝓜.mem 𝓡.returns v u w) $ await ! tt $ learn ! (λ got.
    lands_as ! got.0 refl (tt, record { fits = got.1 }) $
    in_a_block ! v.ptr (λ p. in_block p (all_owned full_share v.items (block_of p) (count_of p))) (id⊢ 𝓤 (never 𝓤)) (λ b o at.
    let placed : IsPlaced v.ptr = at ∙ ap (λ p. block_ptr (block_of p) (count_of p)) (sym at) in
    let r : Right.the_row.Denot = record { ptr = v.ptr; items = v.items; here = replicate (length v.items) true; halves = []; lengths = length-replicate (length v.items) true; placed = placed } in
    rewrite ! 0 (λ p. ‵ (all_owned full_share v.items (block_of p) (count_of p))) (sym at) refl $
    sets ! (agg ! (no_more !)) refl (tt, tt) $ none_made ! $ fjoin ! $
    returns ! (look_at ! 0 refl) $ free_all ! refl $
    suffices ! _ (ends_at 𝓛 f.ended stayed c z none r (tt, tt) (tt, tt)) $ says ! (refl, refl, refl, refl) $
    nothing ! $ nothing ! $ fjoin ! $ move ! (2 ∷ 0 ∷ 1 ∷ []) $ done !))))))
