-- What is made has no bytes, and its ghost field is what the reference shows.
use Rattle.std.proofs.Common.{[], ◌∷◌, refl}
use Rattle.std.proofs.raw_atomic.Walks.{proved}
use mir.MapTy.{inst_fn}
use mir.Syntax.{a_type}
use mir.Val.{vnil, vcons, vstruct}
use types.ByLocal.{alloc_all, free_all, get, look_at, pass_all, sets}
use types.Kit.{‵, raw, ◌⊛◌, ◌$◌, ◌∵◌, !, done, fjoin, join, keep, move, qed, split, suffices, use0}
use types.Part.{agg}
use types.Run.{and_then, enter, no_more, returns}
use denote.Builtin.{RefOf}
use denote.Exit.{yes}
use denote.Param.{layouts, param}
use denote.Ref.{shr_vals}
use denote.Shadow.{makes_shadow}
use denote.RattleType.{owns}
use denote.Signature.{plain, type_at, types_at}
use denote.Steps.{nothing}
use denote.Triple.Entry.{Res, alive}
use denote.Triple.Walked.{Goes-dropped, Stays, ends_at, says, stay_dropped, walk_of}
use Rattle.frame_core.specs.contracts.seen.Seen.of as contract
use Rattle.frame_core.proofs.seen.Seen.of.Code as code
use Rattle.frame_core.proofs.seen.Seen.of.Statement.{statement}

pub of_spec : {M : Type 1} → statement M
of_spec 𝓤 𝓛 𝓜 𝓡 wired T laws =
    let ended = contract.ended T in let types = layouts (a_type ∷ []) (T, tt) in
    let shown = RefOf (0 ∷ []) tt (plain (λ _. param 0 T)) (λ _. tt) in
    let stayed : Stays ended.signature.params ended.kept = (stay_dropped shown yes, tt) in
    let clauses = contract.clauses T 𝓛 𝓜.mem 𝓡.returns in let W = walk_of 𝓛 ended stayed clauses in
    proved 𝓛 ended stayed clauses 𝓜 𝓡 (Goes-dropped 𝓛 2 shown yes (λ κs x w. refl), tt)
    (contract.Key.name types) (inst_fn types code.function) (code.unfolded 𝓤 𝓛.H 𝓜 𝓡 wired (T, tt))
    (λ κs. (shr_vals, tt)) (λ κs. ((λ at values is. is.0), tt)) (λ κs qs bounds a ghost are.
    let y : W.Ghost = ((κs, qs, bounds, a, (shr_vals a.0, tt)), ghost) in
    let no_bytes = vstruct (vcons (vstruct vnil) vnil) in
    let made : Res ended.signature κs = record { marker = record {}; value = a.0.now } in
    let owned = (type_at ended.signature.result κs).own_val made (no_bytes ∷ []) in
    qed 𝓛 ((raw (alive 𝓛 ended.signature κs qs) ⊛ ‵ (owns (types_at ended.signature.params κs) a y.0.4)) ∷ raw ((clauses κs a).requires ghost) ∷ []) ∵
    split ! $ keep ! (0 ∷ []) $
    enter ! _ _ _ _ _ $ alloc_all ! (λ l. pass_all ! refl ((tt, tt), tt) $
    sets ! (agg ! (no_more !)) refl (tt, tt) $ sets ! (agg ! (and_then ! (get ! refl) (no_more !))) refl (tt, (tt, tt)) $
    returns ! (look_at ! 0 refl) $ free_all ! refl $
    use0 𝓛 (‵ owned) (makes_shadow 𝓛 owned ((λ vss. (tt, ((λ uss. (tt, tt)), tt))), tt) (((vstruct vnil ∷ [], tt), (refl, ((tt, (refl, tt)), tt))), tt)) $
    suffices ! _ (ends_at 𝓛 ended stayed clauses y no_bytes made (tt, tt) (tt, tt)) $ says ! refl $
    nothing ! $ nothing ! $ fjoin ! $ join ! $ move ! (1 ∷ 0 ∷ []) $ join ! $ done !))
