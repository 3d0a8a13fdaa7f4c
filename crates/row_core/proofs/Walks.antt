-- The names and the steps that the walks share. Assumes `Logic`.
pub use Rattle.std.proofs.Common.{◌≡◌, ℕ, zero, suc, ◌+◌, ◌*◌, ◌^◌, ◌<◌, ◌≤◌, Bool, true, false, List, [], ◌∷◌, ◌++◌, length, take, replicate, refl, sym, ap, ◌∙◌, subst, arith, Bor, Vec}
pub use Rattle.std.proofs.alloc.Calls.{handle_tells, Goes-blank}
pub use Rattle.std.proofs.raw_atomic.Walks.{proved_at}
pub use base.Fraction.{full_share}
pub use base.Fml.{Lft, Fml, ftrue, fsep, feq, flft, fwand}
pub use base.Logic.{SProp, ent, id⊢, emp, never, via, fst∗, all_e, apply∗}
pub use contract.Monad.{fact, fact_i, fact_use}
pub use contract.Running.{tables}
pub use denote.Builtin.{u64, usize, RefOf}
pub use denote.Exit.{yes, no}
pub use denote.Param.{layout, layouts}
pub use denote.RattleType.{RattleType, Valss, owns}
pub use denote.RawPtr.{Ptr, RawPtr, InBlock, block_ptr, block_of, count_of, at_block, in_block, in_a_block, ptr_val, ◌+ₚ◌}
pub use denote.Signature.{plain, types_at}
pub use denote.Steps.{nothing, heard, only}
pub use denote.Struct.Struct.{Struct, within, as_fields}
pub use denote.Triple.Call.{calls_at, calls_at_last}
pub use denote.Triple.Entry.{alive}
pub use denote.Triple.Spec.{triple_of}
pub use denote.Triple.Table.{framed}
pub use denote.Triple.Walked.{says, Stays, stay_dropped, walk_of, ends_at, Goes-dropped}
pub use lib.ListN.{length-replicate}
pub use lib.ListN.{drop as drop_l}
pub use mir.Syntax.{w64, a_type}
pub use mir.Val.{Val, vint, vptr, vstruct, vcons, vnil}
pub use prog.Wp.{WpFn}
pub use types.ByLocal.{alloc_all, pass_all, free_all, look_at, get, get_in, sets, sets_last, lands_last, lands_as, env}
pub use types.Kit.{‵, raw, ◌⊛◌, some, later, given, prop, at_ret, ◌$◌, ◌∵◌, !, qed, by, move, keep, drop, use0, use1, use2, split, join, pick, learn, await, fsplit, fjoin, fpick, fpack, feq_l, feq_i, flt_l, flt_i, rewrite, regoal, suffices, done}
pub use types.Logic.{sem}
pub use types.Part.{agg, whole, sub}
pub use types.Run.{enter, returns, of_opd, and_then, no_more, first, blocks, exec, fld, stop}
use Rattle.std.proofs.Common.{take-append-drop}
use lib.Dec.{T}
use seplogic.Ra.Ura.{Ura}
use mir.Syntax.{given as dict_at}
use mir.Val.{has_ty, WT}
use types.Logic.{Logic}
use types.Kit.{⋆, ⊢++, Goal, Seq, Step, step, Item}
use denote.Param.Laws.{Laws}

abbrev pub Good : RattleType → Val → Type 0
Good R v = T (has_ty (layout R) v) × WT v

-- a struct by its fields alone: what it owns does not read its name
abbrev pub plainly : List RattleType → RattleType
plainly Rs = Struct (record { name = []; args = []; types = []; fields = Rs })

abbrev pub none : Val
none = vstruct vnil

abbrev pub one : Val → Val
one u = vstruct (vcons u vnil)

abbrev pub two : Val → Val → Val
two u v = vstruct (vcons u (vcons v vnil))

abbrev pub three : Val → Val → Val → Val
three u v w = vstruct (vcons u (vcons v (vcons w vnil)))

module _ {M : Type 1} {𝓤 : Ura M} {𝓛 : Logic 𝓤} {K : Type 0} {Γ : List (Item 𝓤)} {G : Goal 𝓤 𝓛.H} where
  -- what is owned is one machine value, of its type
  pub tells : K → (R : RattleType) → Laws R → (x : R.Denot) (vs : List Val) → ((v : Val) → vs ≡ v ∷ [] → Good R v → Seq K 𝓛 (‵ (R.own_val x (v ∷ [])) ∷ Γ) G) → Seq K 𝓛 (‵ (R.own_val x vs) ∷ Γ) G
  tells t R L = handle_tells (record { row = R; laws = L; g = record { dealloc_token = λ a τ p. ftrue }; d = dict_at 0; drops = dict_at 0 }) t

  pub none_made : K → Step K 𝓛 (‵ ((plainly []).own_val tt (none ∷ [])) ∷ Γ) G Γ G
  none_made t = step (λ s.
      nothing t $ feq_i t (List Val) (none ∷ []) (none ∷ []) refl $ fjoin t $
      fpack t (Valss []) (within (record { name = []; args = []; types = []; fields = [] }) tt (none ∷ [])) tt $ s)

  pub one_made : K → (R : RattleType) (x : R.Denot) (u : Val) → Step K 𝓛 (‵ ((plainly (R ∷ [])).own_val (x, tt) (one u ∷ [])) ∷ Γ) G (‵ (R.own_val x (u ∷ [])) ∷ Γ) G
  one_made t R x u = step (λ s.
      nothing t $ move t (1 ∷ 0 ∷ []) $ fjoin t $ feq_i t (List Val) (one u ∷ []) (one u ∷ []) refl $ fjoin t $
      fpack t (Valss (R ∷ [])) (within (record { name = []; args = []; types = []; fields = R ∷ [] }) (x, tt) (one u ∷ [])) (u ∷ [], tt) $ s)

  pub two_made : K → (R S : RattleType) (x : R.Denot) (y : S.Denot) (u v : Val)
      → Step K 𝓛 (‵ ((plainly (R ∷ S ∷ [])).own_val (x, (y, tt)) (two u v ∷ [])) ∷ Γ) G (‵ (R.own_val x (u ∷ [])) ∷ ‵ (S.own_val y (v ∷ [])) ∷ Γ) G
  two_made t R S x y u v = step (λ s.
      nothing t $ move t (2 ∷ 0 ∷ []) $ fjoin t $ move t (1 ∷ 0 ∷ []) $ fjoin t $ feq_i t (List Val) (two u v ∷ []) (two u v ∷ []) refl $ fjoin t $
      fpack t (Valss (R ∷ S ∷ [])) (within (record { name = []; args = []; types = []; fields = R ∷ S ∷ [] }) (x, (y, tt)) (two u v ∷ [])) (u ∷ [], (v ∷ [], tt)) $ s)

  -- a struct of one field, taken apart
  pub one_had : K → (R : RattleType) → Laws R → (x : R.Denot) (vs : List Val) → ((u : Val) → vs ≡ one u ∷ [] → Good R u → Seq K 𝓛 (‵ (R.own_val x (u ∷ [])) ∷ Γ) G)
      → Seq K 𝓛 (‵ ((plainly (R ∷ [])).own_val (x, tt) vs) ∷ Γ) G
  one_had t R L x vs k =
      fpick t (λ vss. fsplit t $ feq_l t (λ e. fsplit t $ move t (1 ∷ []) $ drop t $ tells t R L x vss.0 (λ u is good.
      k u (rw is at e) good)))

  pub none_had : K → (vs : List Val) → (vs ≡ none ∷ [] → Seq K 𝓛 Γ G) → Seq K 𝓛 (‵ ((plainly []).own_val tt vs) ∷ Γ) G
  none_had t vs k = fpick t (λ vss. fsplit t $ feq_l t (λ e. drop t $ k e))

module _ {M : Type 1} {𝓤 : Ura M} {𝓛 : Logic 𝓤} {K : Type 0} {Γ : List (Item 𝓤)} {G : Goal 𝓤 𝓛.H} where
  -- a fact is learned from the first n entries, which stay
  pub learns : K → (n : ℕ) (φ : Type 0) → ent 𝓤 (⋆ 𝓛 (take n Γ)) (fact 𝓤 φ) → (φ → Seq K 𝓛 Γ G) → Seq K 𝓛 Γ G
  learns t n φ shown k = record {
    prf = fact_use 𝓤 φ (via 𝓤 (⋆ 𝓛 (take n Γ)) (subst (λ (Δ : List (Item 𝓤)). ent 𝓤 (⋆ 𝓛 Δ) (⋆ 𝓛 (take n Γ))) (take-append-drop n Γ)
        (via 𝓤 _ (⊢++ 𝓛 (take n Γ) (drop_l n Γ)) (fst∗ 𝓤 (⋆ 𝓛 (take n Γ)) (⋆ 𝓛 (drop_l n Γ))))) shown) (λ x. (k x).prf);
  }
