-- A box at the heap, as lemmas on boxes take it.
use mathlib.Core.List.{[], ◌∷◌}
use mir.Syntax.{Dict, impl, tnil, tcons, dnil}
use mathlib.Core.Path.{refl}
use mir.Raw.{raw as bare}
use denote.Exit.{no}
use denote.Param.{layout, arg}
use denote.Param.Laws.{Laws, arg_laws}
use denote.RattleType.{RattleType}
use Rattle.std_alloc.proofs.BoxSteps.Form.{Bx}
use Rattle.std_alloc.specs.contracts.boxed.Box as box
use Rattle.std_heap.specs.contracts.Global
use Rattle.std_heap.specs.contracts.GlobalAllocator.TheImpl.{ghosts, dict}
use Rattle.std_heap.proofs.Global.TheLaws as global
use Rattle.compactd_c.specs.contracts.zone.Zone
use Rattle.compactd_c.proofs.zone.Zone.TheLaws as zone
use Rattle.compactd_c.specs.contracts.Destruct++none.drop.Key as none

-- the handle of the heap, as a call passes it for a type parameter
abbrev pub Heap : RattleType
Heap = arg (bare (layout Global.the_row)) no Global.the_row

pub heap_laws : Laws Heap
heap_laws = arg_laws (bare (layout Global.the_row)) no Global.the_row global.the_row_laws refl

-- a zone, in the same way
abbrev pub Passed : RattleType
Passed = arg (bare (layout Zone.the_row)) no Zone.the_row

pub passed_laws : Laws Passed
passed_laws = arg_laws (bare (layout Zone.the_row)) no Zone.the_row zone.the_row_laws refl

-- how a handle of the heap is let go: nothing is done
abbrev pub heap_drops : Dict
heap_drops = impl (none.symbol ∷ []) (tcons (layout Heap) tnil) dnil

module _ (T : RattleType) where
  abbrev pub BoxOf : RattleType
  BoxOf = box.the_row T Global.the_row ghosts

  abbrev pub boxed : Laws T → Bx
  boxed L = record { row = T; laws = L; al = record { row = Heap; laws = heap_laws; g = ghosts; d = dict; drops = heap_drops } }
