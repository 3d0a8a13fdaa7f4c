-- `none` makes a handle of no words, which owns nothing.
use Rattle.row_core.proofs.Walks.{ !, List, RawPtr, Stays, Val, [], agg, alloc_all, and_then, by, drop, emp, enter, fact, fact_i, feq_i, fjoin, flt_i, free_all, ftrue, id⊢, look_at, move, no_more, nothing, pass_all, proved_at, qed, raw, refl, returns, sets, tables, two, two_made, use0, use1, usize, vint, w64, walk_of, ‵, ℕ, ◌$◌, ◌^◌, ◌∵◌, ◌∷◌, ◌≡◌, ◌⊛◌}
use Rattle.std.proofs.Common.{lit<}
use Rattle.std.proofs.raw_atomic.Walks.{leaves}
use Rattle.std.specs.Prelude.{None}
use denote.RawPtr.{null_ptr}
use mir.Val.{vnull}
use types.Run.{lit}
use Rattle.row_core.specs.contracts.held_words.HeldWords
use Rattle.row_core.specs.contracts.held_words.HeldWords.none as f
use Rattle.row_core.proofs.held_words.HeldWords.none.Statement.{statement}
use Rattle.row_core.proofs.held_words.HeldWords.none.Code as code

abbrev stayed : Stays f.ended.signature.params f.ended.kept
stayed = tt

pub none_spec : {M : Type 1} → statement M
none_spec 𝓤 𝓛 𝓜 𝓡 wired =
    let c = f.clauses 𝓛 𝓜.mem 𝓡.returns in let 𝓣 = tables 𝓤 𝓛.H 𝓜 𝓡 𝓡.env in
    proved_at 𝓛 f.ended stayed c 𝓜 𝓡 tt f.Key.name code.function (code.unfolded 𝓤 𝓛.H 𝓜 𝓡 wired) (λ z are.
    let u = two vnull (vint w64 0) in let held : HeldWords.the_row.Denot = record { at = null_ptr; len = 0; row = None } in let Post = (walk_of 𝓛 f.ended stayed c).post z in
    qed 𝓛 ((‵ ftrue ⊛ ‵ ftrue) ∷ raw (emp 𝓤) ∷ []) ∵ drop ! $ drop ! $
    enter ! 𝓣.C 𝓣.Λ code.function [] Post $ alloc_all ! (λ l. pass_all ! refl tt $
    sets ! (agg ! (and_then ! (lit ! tt) (and_then ! (lit ! tt) (no_more !)))) refl (tt, (record { fits = lit< tt }, (record { fits = lit< tt }, tt))) $ returns ! (look_at ! 0 refl) $ free_all ! refl $
    feq_i ! ℕ 0 0 refl $ flt_i ! 0 (2 ^ 64) (lit< tt) $ feq_i ! (List Val) (vint w64 0 ∷ []) (vint w64 0 ∷ []) refl $ fjoin ! $ feq_i ! (List Val) (vnull ∷ []) (vnull ∷ []) refl $
    two_made ! RawPtr usize null_ptr 0 vnull (vint w64 0) $ fjoin ! $ use1 𝓛 (‵ (HeldWords.the_row.own_val held (u ∷ []))) (id⊢ 𝓤 _) $
    use0 𝓛 (raw (fact 𝓤 (held.row ≡ None))) (fact_i 𝓤 (held.row ≡ None) (emp 𝓤) refl) $ nothing ! $ nothing ! $ move ! (0 ∷ 1 ∷ 3 ∷ 2 ∷ []) $
    by ! (leaves 𝓛 f.ended stayed c z u held tt tt)))
