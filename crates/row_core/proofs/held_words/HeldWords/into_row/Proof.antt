-- `into_row` tests whether there are words, and makes the row again of those that there are.
use Rattle.row_core.proofs.Walks.{ !, Goes-blank, List, Ptr, SProp, Stays, Val, WpFn, [], agg, alive, alloc_all, and_then, ap, arith, at_ret, await, block_ptr, by, calls_at, drop, emp, enter, env, exec, fact, fact_i, feq_i, feq_l, first, fjoin, fld, flt_i, flt_l, fpick, framed, free_all, fsplit, ftrue, full_share, get, get_in, heard, id⊢, in_a_block, join, lands_as, layout, later, length, length-replicate, look_at, move, never, no_more, none, none_made, nothing, of_opd, only, owns, pass_all, pick, plain, prop, proved_at, ptr_val, qed, raw, refl, regoal, replicate, returns, sem, sets, some, split, stay_dropped, stop, sub, sym, tables, tells, triple_of, true, two, types_at, use0, use1, vint, vptr, vstruct, w64, walk_of, whole, yes, ‵, ℕ, ◌$◌, ◌++◌, ◌<◌, ◌^◌, ◌∙◌, ◌∵◌, ◌∷◌, ◌≡◌, ◌⊛◌}
use lib.Dec.{T, eqb→eq, lit<}
use mir.Val.{of_list, vcons, vnil, has_ty, WT}
use base.Logic.{ex_e, snd∗}
use denote.RattleType.{RattleType}
use denote.RawPtr.{InBlock, rawptr_Lawful}
use denote.Signature.{type_at}
use denote.Triple.Clauses.{ensured, lasts}
use seplogic.Ra.Ura.{Ura}
use types.Kit.{Goal, Item, Seq}
use types.Logic.{Logic}
use types.Match.{live}
use types.Run.{bin, branches, lit, returns_within, skips}
use Rattle.std.proofs.raw_atomic.Walks.{leaves}
use Rattle.std.specs.Prelude.{Option, Some, None, IfSome}
use Rattle.core.proofs.option.Made.{Some-of, none_of}
use Rattle.std_alloc.proofs.ResultValues.{and_tt}
use Rattle.row_core.specs.Held.{held_at}
use Rattle.row_core.specs.Owned.{words_at}
use Rattle.row_core.specs.Parts.{AreHere}
use Rattle.row_core.specs.Seen.{Row as Seen}
use Rattle.row_core.proofs.Words.{all_owned, of_array}
use Rattle.row_core.specs.contracts.right.Right
use Rattle.row_core.specs.contracts.row.Row
use Rattle.row_core.proofs.row.Row.TheLaws.{the_row_laws}
use Rattle.row_core.specs.contracts.row.Row.of as g
use Rattle.row_core.proofs.row.Row.of.Met as callee
use Rattle.row_core.specs.contracts.held_words.HeldWords
use Rattle.row_core.specs.contracts.held_words.HeldWords.into_row as f
use Rattle.row_core.proofs.held_words.HeldWords.into_row.Statement.{statement}
use Rattle.row_core.proofs.held_words.HeldWords.into_row.Code as code

abbrev stayed : Stays f.ended.signature.params f.ended.kept
stayed = (stay_dropped (plain (λ _. HeldWords.the_row)) yes, tt)

module _ {M : Type 1} {𝓤 : Ura M} {𝓛 : Logic 𝓤} {K : Type 0} {Γ : List (Item 𝓤)} {G : Goal 𝓤 𝓛.H} where
  -- there are no words, or they are those of a row
  either : K → (p : Ptr) (n : ℕ) (held : Option Seen) → (n ≡ 0 → held ≡ None → Seq K 𝓛 Γ G)
      → ((b o : ℕ) (row : Seen) → p ≡ block_ptr b o → held ≡ Some row → row.at ≡ p → length row.words ≡ n → 0 < n → n < 2 ^ 60 → Seq K 𝓛 (‵ (words_at (block_ptr b o) row.words) ∷ Γ) G)
      → Seq K 𝓛 (‵ (held_at p n held) ∷ Γ) G
  either t p n None shut has = feq_l t (λ is. shut is refl)
  either t p n (Some row) shut has =
      fsplit t $ feq_l t (λ at. fsplit t $ feq_l t (λ long. fsplit t $ flt_l t (λ pos. fsplit t $ flt_l t (λ small.
      in_a_block t p (λ (q : Ptr). words_at q row.words) (id⊢ 𝓤 (never 𝓤)) (λ b o is. has b o row is refl at long pos small)))))

pub into_row_spec : {M : Type 1} → statement M
into_row_spec 𝓤 𝓛 𝓜 𝓡 wired =
    let c = f.clauses 𝓛 𝓜.mem 𝓡.returns in let 𝓣 = tables 𝓤 𝓛.H 𝓜 𝓡 𝓡.env in let fn = code.function in let Out : RattleType = type_at f.signature.result tt in
    proved_at 𝓛 f.ended stayed c 𝓜 𝓡 (Goes-blank 𝓛 0 (plain (λ _. HeldWords.the_row)) yes (λ κs x w. tt), tt)
    f.Key.name fn (code.unfolded 𝓤 𝓛.H 𝓜 𝓡 wired) (λ z are.
    let Post : Val → SProp 𝓤 = (walk_of 𝓛 f.ended stayed c).post z in let vss = z.0.4 in
    let held = z.0.3.0 in let p = held.at in let n = held.len in
    let Promised = λ (told : Option Seen). (told ≡ held.row) × IfSome told (λ row. 0 < length row.words) in
    let G = triple_of 𝓛 g.signature (g.spec 𝓛 𝓜.mem 𝓡.returns) in
    qed 𝓛 ((raw (alive 𝓛 f.ended.signature z.0.0 z.0.1) ⊛ ‵ (owns (types_at f.ended.signature.params z.0.0) z.0.3 vss)) ∷ ‵ ftrue ∷ []) ∵
    move ! (1 ∷ []) $ drop ! $ split ! $ move ! (1 ∷ []) $
    fsplit ! $ fsplit ! $ fpick ! (λ uss. fsplit ! $ feq_l ! (λ e. fsplit ! $ feq_l ! (λ is₀. fsplit ! $ fsplit ! $ feq_l ! (λ is₁. flt_l ! (λ fits. drop ! $ move ! (1 ∷ []) $ drop ! $
    -- [what the handle holds; the tokens]
    regoal ! (λ (us : List Val). prop (WpFn 𝓤 𝓛.H 𝓣.C 𝓣.Λ fn (us ++ []) Post)) (e ∙ (λ i. vstruct (of_list (is₀ i ++ (is₁ i ++ []))) ∷ [])) refl $
    either ! p n held.row
    (λ is closed. let good = ((rawptr_Lawful 𝓛).typed p _ refl).0 in
    regoal ! (λ (k : ℕ). prop (WpFn 𝓤 𝓛.H 𝓣.C 𝓣.Λ fn (two (ptr_val p) (vint w64 k) ∷ []) Post)) is refl $
    enter ! 𝓣.C 𝓣.Λ fn (two (ptr_val p) (vint w64 0) ∷ []) Post $ alloc_all ! (λ l. pass_all ! refl ((and_tt _ good.0, (good.1, (record { fits = lit< tt }, tt))), tt) $
    sets ! (of_opd ! (get_in ! (fld ! refl (stop !)) (sub ! 0 refl (whole !)))) refl good $
    sets ! (of_opd ! (get_in ! (fld ! refl (stop !)) (sub ! 1 refl (whole !)))) refl (tt, record { fits = lit< tt }) $
    sets ! (bin ! (get ! refl) (lit ! tt) tt) refl (tt, tt) $ first ! $ branches ! (get ! refl)
    (λ _. sets ! (agg ! (and_then ! (lit ! tt) (no_more !))) refl (tt, (record { fits = lit< tt }, tt)) $ returns_within ! Post refl (look_at ! 0 refl) $ free_all ! refl $
    use0 𝓛 (raw (fact 𝓤 (Promised None))) (fact_i 𝓤 (Promised None) (emp 𝓤) (sym closed, tt)) $ use0 𝓛 (‵ (Out.own_val None (live 0 vnil ∷ []))) (none_of 𝓛 Row.the_row) $
    nothing ! $ nothing ! $ fjoin ! $ move ! (3 ∷ []) $ by ! (leaves 𝓛 f.ended stayed c z (live 0 vnil) None (tt, tt) (tt, tt)))
    (λ wrong. absurd wrong)))
    -- [the words; the tokens]
    (λ b o row is has at long pos small. let xs = row.words in use1 𝓛 (‵ (all_owned full_share xs b o)) (of_array 𝓛 b full_share xs o) $
    let r : Right.the_row.Denot = record { ptr = block_ptr b o; items = xs; here = replicate (length xs) true; halves = []; lengths = length-replicate (length xs) true; placed = refl } in
    let y : G.Ghost = ((tt, tt, tt, (r, (block_ptr b o, (n, tt))), (none ∷ [], (vptr b o ∷ [], (vint w64 n ∷ [], tt)))), tt) in
    let Demands = (r.ptr ≡ block_ptr b o) × (length r.items ≡ n) × (n < 2 ^ 60) × (r.halves ≡ []) × AreHere r.here n × InBlock (block_ptr b o) in
    regoal ! (λ (q : Ptr). prop (WpFn 𝓤 𝓛.H 𝓣.C 𝓣.Λ fn (two (ptr_val q) (vint w64 n) ∷ []) Post)) is refl $
    enter ! 𝓣.C 𝓣.Λ fn (two (vptr b o) (vint w64 n) ∷ []) Post $ alloc_all ! (λ l. pass_all ! refl ((tt, (tt, (record { fits = fits }, tt))), tt) $
    sets ! (of_opd ! (get_in ! (fld ! refl (stop !)) (sub ! 0 refl (whole !)))) refl (tt, tt) $
    sets ! (of_opd ! (get_in ! (fld ! refl (stop !)) (sub ! 1 refl (whole !)))) refl (tt, record { fits = fits }) $
    sets ! (bin ! (get ! refl) (lit ! tt) tt) refl (tt, tt) $ first ! $ branches ! (get ! refl)
    (λ none_there. absurd (omega (arith, pos, eqb→eq n 0 none_there)))
    (λ _. skips ! $ exec ! 𝓣.C 𝓣.Λ (env fn.locals l) code.Mir.t-5 (at_ret (env fn.locals l) Post) $
    sets ! (agg ! (no_more !)) refl (tt, tt) $ none_made ! $ fjoin ! $
    nothing ! $ flt_i ! n (2 ^ 64) fits $ feq_i ! (List Val) (vint w64 n ∷ []) (vint w64 n ∷ []) refl $ fjoin ! $ fjoin ! $
    feq_i ! (List Val) (vptr b o ∷ []) (vptr b o ∷ []) refl $ fjoin ! $ move ! (1 ∷ []) $ fjoin ! $
    use0 𝓛 (raw (fact 𝓤 Demands)) (fact_i 𝓤 Demands (emp 𝓤) (refl, long, small, refl, ap (λ k. replicate k true) long, tt)) $
    move ! (1 ∷ []) $ nothing ! $ join ! $ join ! $ use1 𝓛 (raw (G.pre y)) (id⊢ 𝓤 (G.pre y)) $
    calls_at ! (framed 𝓤 𝓛.H 𝓜 𝓣) G (callee.met 𝓤 𝓛 𝓜 𝓡 (code.calls-row_core::row::Row::of 𝓡.env wired)) y (and_then ! (get ! refl) (and_then ! (get ! refl) (and_then ! (get ! refl) (no_more !)))) (λ v.
    use1 𝓛 (later (some (λ (d : Row.the_row.Denot). (‵ ftrue ⊛ ‵ (Row.the_row.own_val d (v ∷ []))) ⊛ raw (ensured 𝓛 g.ended (g.clauses 𝓛 𝓜.mem 𝓡.returns) tt (r, (block_ptr b o, (n, tt))) tt d)))) (id⊢ 𝓤 _) $
    await ! tt $ pick ! (λ d. split ! $ move ! (1 ∷ []) $
    let Told = (d.at ≡ block_ptr b o) × (d.words ≡ xs) in
    use1 𝓛 (raw (fact 𝓤 Told)) (ex_e 𝓤 _ (λ ws. snd∗ 𝓤 (sem 𝓛 (lasts g.ended tt (r, (block_ptr b o, (n, tt))) ws)) (fact 𝓤 Told))) $ heard ! Told (λ told. split ! $ drop ! $
    tells ! Row.the_row the_row_laws d (v ∷ []) (λ u same good. lands_as ! (ap only same) refl good $
    let w : Val = live 1 (vcons u vnil) in let full : T (has_ty (layout Out) w) × WT w = (and_tt _ good.0, (record { fits = lit< tt }, (good.1, tt))) in
    let back : Some d ≡ held.row = (λ i. Some (record { at = ((told.0 ∙ sym is) ∙ sym at) i; words = told.1 i })) ∙ sym has in
    let some : 0 < length d.words = omega (arith, pos, long, ap (λ (l : List ℕ). length l) told.1) in
    sets ! (agg ! (and_then ! (lit ! tt) (and_then ! (get ! refl) (no_more !)))) refl full $
    returns ! (look_at ! 0 refl) $ free_all ! refl $ use1 𝓛 (‵ (Out.own_val (Some d) (w ∷ []))) (Some-of 𝓛 Row.the_row d u) $
    use0 𝓛 (raw (fact 𝓤 (Promised (Some d)))) (fact_i 𝓤 (Promised (Some d)) (emp 𝓤) (back, some)) $
    nothing ! $ nothing ! $ fjoin ! $ move ! (3 ∷ 0 ∷ 2 ∷ 1 ∷ []) $ by ! (leaves 𝓛 f.ended stayed c z w (Some d) (tt, tt) (tt, tt)))))))))))))))
