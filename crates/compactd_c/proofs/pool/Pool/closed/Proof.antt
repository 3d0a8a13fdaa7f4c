-- `closed` makes a pool at null, which owns nothing.
use Rattle.compactd_c.proofs.Walks.{◌≡◌, refl, List, [], ◌∷◌, lit<, Val, vnull, vstruct, vcons, vnil, id⊢, emp, ftrue, fact, fact_i, tables, ‵, raw, ◌⊛◌, ◌$◌, ◌∵◌, !, qed, by, move, drop, use0, use1, fjoin, feq_i, fpack, agg, lit, no_more, and_then, returns, enter, alloc_all, pass_all, free_all, look_at, sets, Valss, Ptr, RawPtr, null_ptr, nothing, shape, within, Stays, walk_of, None, proved_at, leaves}
use Rattle.compactd_c.specs.contracts.pool.Pool
use Rattle.compactd_c.specs.contracts.pool.Pool.closed as f
use Rattle.compactd_c.proofs.pool.Pool.closed.Statement.{statement}
use Rattle.compactd_c.proofs.pool.Pool.closed.Code as code

abbrev stayed : Stays f.ended.signature.params f.ended.kept
stayed = tt

pub closed_spec : {M : Type 1} → statement M
closed_spec 𝓤 𝓛 𝓜 𝓡 wired =
    let c = f.clauses 𝓛 𝓜.mem 𝓡.returns in let 𝓣 = tables 𝓤 𝓛.H 𝓜 𝓡 𝓡.env in
    proved_at 𝓛 f.ended stayed c 𝓜 𝓡 tt f.Key.name code.function (code.unfolded 𝓤 𝓛.H 𝓜 𝓡 wired) (λ z are.
    let word : Val = vstruct (vcons vnull vnil) in let r : Pool.the_row.Denot = record { at = null_ptr; zone = None } in let Post = (walk_of 𝓛 f.ended stayed c).post z in
    qed 𝓛 ((‵ ftrue ⊛ ‵ ftrue) ∷ raw (emp 𝓤) ∷ []) ∵ drop ! $ drop ! $
    enter ! 𝓣.C 𝓣.Λ code.function [] Post $ alloc_all ! (λ l. pass_all ! refl tt $
    sets ! (agg ! (and_then ! (lit ! tt) (no_more !))) refl (tt, (record { fits = lit< tt }, tt)) $ returns ! (look_at ! 0 refl) $ free_all ! refl $
    feq_i ! Ptr null_ptr null_ptr refl $ nothing ! $ feq_i ! (List Val) (vnull ∷ []) (vnull ∷ []) refl $ fjoin ! $ feq_i ! (List Val) (word ∷ []) (word ∷ []) refl $ fjoin ! $
    fpack ! (Valss (RawPtr ∷ [])) (within (shape Pool.the_type) (null_ptr, tt) (word ∷ [])) (vnull ∷ [], tt) $ fjoin ! $ use1 𝓛 (‵ (Pool.the_row.own_val r (word ∷ []))) (id⊢ 𝓤 _) $
    use0 𝓛 (raw (fact 𝓤 (r.zone ≡ None))) (fact_i 𝓤 (r.zone ≡ None) (emp 𝓤) refl) $ nothing ! $ nothing ! $ move ! (0 ∷ 1 ∷ 3 ∷ 2 ∷ []) $
    by ! (leaves 𝓛 f.ended stayed c z word r tt tt)))
