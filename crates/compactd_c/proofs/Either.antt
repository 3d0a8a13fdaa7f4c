-- A pool is closed, or it has a zone.
use mathlib.Core.Path.{◌≡◌, refl}
use mathlib.Core.List.{List, ◌∷◌}
use Prim.Native.Nat.{ℕ}
use seplogic.Ra.Ura.{Ura}
use mir.Raw.{raw as bare}
use base.Logic.{ent, via, fst∗, snd∗, guard_i, never}
use contract.Monad.{fact, fact_use}
use types.Logic.{Logic, sem}
use types.Kit.{Goal, Seq, Item, ‵, given, ◌$◌, use1, learn, feq_l}
use denote.Memory.{lone}
use denote.RawPtr.{Ptr, Testable, block_ptr, null_ptr, in_a_block}
use Rattle.core.specs.Ptr.{points_to}
use Rattle.std.specs.Prelude.{Option, Some, None}
use Rattle.std_alloc.specs.Box.Ownership.{box_owns}
use Rattle.std_heap.proofs.GlobalToken.{dealloc_token-Testable}
use Rattle.std_heap.specs.declared.Global.{Global}
use Rattle.compactd_c.specs.contracts.zone.Zone.{the_row as Z}
use Rattle.compactd_c.specs.Owned.{heap_token, pool_owns}

module _ {M : Type 1} {𝓤 : Ura M} (𝓛 : Logic 𝓤) (alloc : Global) (p : Ptr) (x : Z.Denot) where
  -- what lies at a pointer with the right to free it lies at the start of a block
  testable : ent 𝓤 (sem 𝓛 (box_owns heap_token Z p x)) (fact 𝓤 (Testable p))
  testable = via 𝓤 _ (snd∗ 𝓤 (sem 𝓛 (points_to Z p x)) (sem 𝓛 (heap_token (bare (lone Z.mir)) p))) (dealloc_token-Testable 𝓛 alloc (bare (lone Z.mir)) p)

module _ {M : Type 1} {𝓤 : Ura M} {𝓛 : Logic 𝓤} {K : Type 0} {Γ : List (Item 𝓤)} {G : Goal 𝓤 𝓛.H} where
  pub either : K → Global → (held : Option Z.Denot) (p : Ptr) → (p ≡ null_ptr → held ≡ None → Seq K 𝓛 Γ G)
      → ((b o : ℕ) (x : Z.Denot) → p ≡ block_ptr b o → held ≡ Some x → Testable (block_ptr b o) → Seq K 𝓛 (‵ (box_owns heap_token Z (block_ptr b o) x) ∷ Γ) G)
      → Seq K 𝓛 (‵ (pool_owns p held) ∷ Γ) G
  either t alloc None p shut has = feq_l t (λ is. shut is refl)
  either t alloc (Some x) p shut has =
      in_a_block t p (λ q. box_owns heap_token Z q x) (fst∗ 𝓤 (never 𝓤) (sem 𝓛 (heap_token (bare (lone Z.mir)) null_ptr))) (λ b o is. let q = block_ptr b o in
      use1 𝓛 (given (Testable q) (‵ (box_owns heap_token Z q x))) (fact_use 𝓤 (Testable q) (testable 𝓛 alloc q x) (λ ok. guard_i 𝓤 (Testable q) (sem 𝓛 (box_owns heap_token Z q x)) ok)) $
      learn t (λ ok. has b o x is refl ok))
