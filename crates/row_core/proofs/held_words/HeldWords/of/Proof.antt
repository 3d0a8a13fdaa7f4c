-- `of` takes a row apart, and keeps the right to its words behind the handle.
use Rattle.row_core.proofs.Walks.{ !, agg, done, ends_at, flt_i, says, subst, suffices, two, two_made, Bool, Goes-blank, List, Ptr, RattleType, RawPtr, SProp, Stays, Val, WpFn, [], alive, alloc_all, and_then, ap, await, block_of, block_ptr, calls_at, count_of, drop, enter, fact, feq_i, feq_l, fjoin, fld, flt_l, fpick, framed, free_all, fsplit, ftrue, full_share, get, get_in, heard, id⊢, join, lands_as, later, length, look_at, move, no_more, none, none_had, nothing, of_opd, only, owns, pass_all, pick, plain, prop, proved_at, ptr_val, qed, raw, refl, regoal, returns, rewrite, sem, sets, some, split, stay_dropped, stop, sub, sym, tables, tells, three, triple_of, types_at, use1, usize, vint, vptr, vstruct, w64, walk_of, whole, yes, ‵, ℕ, ◌$◌, ◌++◌, ◌<◌, ◌^◌, ◌∙◌, ◌∵◌, ◌∷◌, ◌≡◌, ◌⊛◌}
use base.Logic.{ex_e, snd∗}
use denote.RawPtr.{InBlock}
use denote.Struct.Tuple.{Tuple}
use denote.Triple.Clauses.{ensured, lasts}
use mir.Val.{of_list}
use Rattle.std.specs.Prelude.{Some}
use Rattle.row_core.specs.Owned.{share_of, words_at, words_owned}
use Rattle.row_core.specs.Parts.{AreHere}
use Rattle.row_core.proofs.Words.{to_array}
use Rattle.row_core.specs.contracts.right.Right
use Rattle.row_core.specs.contracts.row.Row
use Rattle.row_core.proofs.row.Row.TheLaws.{the_row_laws}
use Rattle.row_core.specs.contracts.row.Row.into_parts as g
use Rattle.row_core.proofs.row.Row.into_parts.Met as callee
use Rattle.row_core.specs.contracts.held_words.HeldWords
use Rattle.row_core.specs.contracts.held_words.HeldWords.of as f
use Rattle.row_core.proofs.held_words.HeldWords.of.Statement.{statement}
use Rattle.row_core.proofs.held_words.HeldWords.of.Code as code

abbrev stayed : Stays f.ended.signature.params f.ended.kept
stayed = (stay_dropped (plain (λ _. Row.the_row)) yes, tt)

abbrev Parts : RattleType
Parts = Tuple (Right.the_row ∷ RawPtr ∷ usize ∷ [])

pub of_spec : {M : Type 1} → statement M
of_spec 𝓤 𝓛 𝓜 𝓡 wired =
    let c = f.clauses 𝓛 𝓜.mem 𝓡.returns in let 𝓣 = tables 𝓤 𝓛.H 𝓜 𝓡 𝓡.env in let fn = code.function in
    proved_at 𝓛 f.ended stayed c 𝓜 𝓡 (Goes-blank 𝓛 0 (plain (λ _. Row.the_row)) yes (λ κs x w. tt), tt)
    f.Key.name fn (code.unfolded 𝓤 𝓛.H 𝓜 𝓡 wired) (λ z are.
    let Post : Val → SProp 𝓤 = (walk_of 𝓛 f.ended stayed c).post z in let vss = z.0.4 in
    let row = z.0.3.0 in let xs = row.words in
    let G = triple_of 𝓛 g.signature (g.spec 𝓛 𝓜.mem 𝓡.returns) in
    qed 𝓛 ((raw (alive 𝓛 f.ended.signature z.0.0 z.0.1) ⊛ ‵ (owns (types_at f.ended.signature.params z.0.0) z.0.3 vss)) ∷ raw (fact 𝓤 (0 < length xs)) ∷ []) ∵
    move ! (1 ∷ []) $ heard ! (0 < length xs) (λ some_words. split ! $ move ! (1 ∷ []) $
    fsplit ! $ tells ! Row.the_row the_row_laws row vss.0 (λ u is good. move ! (1 ∷ []) $ drop ! $
    let y : G.Ghost = ((tt, tt, tt, (row, tt), (u ∷ [], tt)), tt) in
    regoal ! (λ (us : List Val). prop (WpFn 𝓤 𝓛.H 𝓣.C 𝓣.Λ fn (us ++ []) Post)) is refl $
    enter ! 𝓣.C 𝓣.Λ fn (u ∷ []) Post $ alloc_all ! (λ l. pass_all ! refl (good, tt) $
    sets ! (of_opd ! (get ! refl)) refl good $
    nothing ! $ nothing ! $ move ! (2 ∷ 0 ∷ []) $ fjoin ! $ nothing ! $ join ! $ join ! $ use1 𝓛 (raw (G.pre y)) (id⊢ 𝓤 (G.pre y)) $
    calls_at ! (framed 𝓤 𝓛.H 𝓜 𝓣) G (callee.met 𝓤 𝓛 𝓜 𝓡 (code.calls-row_core::row::Row::into_parts 𝓡.env wired)) y (and_then ! (get ! refl) (no_more !)) (λ w.
    use1 𝓛 (later (some (λ (r : Parts.Denot). (‵ ftrue ⊛ ‵ (Parts.own_val r (w ∷ []))) ⊛ raw (ensured 𝓛 g.ended (g.clauses 𝓛 𝓜.mem 𝓡.returns) tt (row, tt) tt r)))) (id⊢ 𝓤 _) $
    await ! tt $ pick ! (λ r. split ! $ move ! (1 ∷ []) $
    let right = r.0 in let b = block_of right.ptr in let o = count_of right.ptr in
    let Told = (right.ptr ≡ row.at) × (right.items ≡ xs) × (right.halves ≡ []) × AreHere right.here (length xs) × (r.1 ≡ row.at) × InBlock row.at × (r.2 ≡ length xs) × (length xs < 2 ^ 60) in
    use1 𝓛 (raw (fact 𝓤 Told)) (ex_e 𝓤 _ (λ ws. snd∗ 𝓤 (sem 𝓛 (lasts g.ended tt (row, tt) ws)) (fact 𝓤 Told))) $ heard ! Told (λ told. split ! $ drop ! $
    -- [the parts; the tokens]
    fpick ! (λ uss. fsplit ! $ feq_l ! (λ e. fsplit ! $ fsplit ! $ none_had ! uss.0 (λ is₀. move ! (1 ∷ []) $ fsplit ! $ feq_l ! (λ is₁. fsplit ! $ fsplit ! $ feq_l ! (λ is₂. flt_l ! (λ fits. drop ! $
    let at : block_ptr b o ≡ row.at = sym right.placed ∙ told.0 in
    let here₁ : uss.1.0 ≡ vptr b o ∷ [] = is₁ ∙ ap (λ p. ptr_val p ∷ []) (told.4 ∙ sym at) in
    let same : w ≡ three none (vptr b o) (vint w64 r.2) = ap only e ∙ (λ i. vstruct (of_list (is₀ i ++ (here₁ i ++ (is₂ i ++ []))))) in
    lands_as ! same refl (tt, (tt, (tt, (record { fits = fits }, tt)))) $
    sets ! (of_opd ! (get_in ! (fld ! refl (stop !)) (sub ! 0 refl (whole !)))) refl (tt, tt) $
    sets ! (of_opd ! (get_in ! (fld ! refl (stop !)) (sub ! 1 refl (whole !)))) refl (tt, tt) $
    sets ! (of_opd ! (get_in ! (fld ! refl (stop !)) (sub ! 2 refl (whole !)))) refl (tt, record { fits = fits }) $
    sets ! (agg ! (and_then ! (get ! refl) (and_then ! (get ! refl) (no_more !)))) refl (tt, (tt, (record { fits = fits }, tt))) $
    returns ! (look_at ! 0 refl) $ free_all ! refl $
    -- [the words; the tokens]
    rewrite ! 0 (λ (gs : List Bool). ‵ (words_owned (share_of gs) right.items right.here b o)) told.2 refl $
    rewrite ! 0 (λ (ys : List ℕ). ‵ (words_owned full_share ys right.here b o)) told.1 refl $
    rewrite ! 0 (λ (fs : List Bool). ‵ (words_owned full_share xs fs b o)) told.3 refl $
    use1 𝓛 (‵ (words_at (block_ptr b o) xs)) (to_array 𝓛 b full_share xs o) $
    let n = r.2 in let long : n ≡ length xs = told.6 in let u₂ = two (vptr b o) (vint w64 n) in
    let held : HeldWords.the_row.Denot = record { at = block_ptr b o; len = n; row = Some row } in
    flt_i ! n (2 ^ 60) (subst (λ (k : ℕ). k < 2 ^ 60) (sym long) told.7) $ fjoin ! $ flt_i ! 0 n (subst (λ (k : ℕ). 0 < k) (sym long) some_words) $ fjoin ! $
    feq_i ! ℕ (length xs) n (sym long) $ fjoin ! $ feq_i ! Ptr row.at (block_ptr b o) (sym at) $ fjoin ! $
    flt_i ! n (2 ^ 64) fits $ feq_i ! (List Val) (vint w64 n ∷ []) (vint w64 n ∷ []) refl $ fjoin ! $ feq_i ! (List Val) (vptr b o ∷ []) (vptr b o ∷ []) refl $
    two_made ! RawPtr usize (block_ptr b o) n (vptr b o) (vint w64 n) $ fjoin ! $ use1 𝓛 (‵ (HeldWords.the_row.own_val held (u₂ ∷ []))) (id⊢ 𝓤 _) $
    suffices ! _ (ends_at 𝓛 f.ended stayed c z u₂ held (tt, tt) (tt, tt)) $ says ! refl $
    nothing ! $ nothing ! $ fjoin ! $ move ! (2 ∷ 0 ∷ 1 ∷ []) $ done !)))))))))))))
