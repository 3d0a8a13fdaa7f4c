use Rattle.std.proofs.Common.{◌≡◌, ◌≢◌, ◌+◌, ◌*◌, List, [], ◌∷◌, ◌++◌, ap, subst, sym, ◌∙◌, arith, rules}
use Rattle.std.proofs.lemmas.List.{length_push}
use Rattle.arrayvec.specs.ArrayVec.{ArrayVec}
use Rattle.frame_core.specs.declared.place.Address.{Address}
use Rattle.frame_core.specs.Address.{InTable}
use Rattle.table_core.specs.declared.size.Size.{Size}
use Rattle.table_core.specs.Tables.{place_of}
use Rattle.table_core.proofs.Places.{read_at}
use Rattle.table_core.proofs.Walking.{Walked, walk_none, walk_found, walk_on, walk_all}
use Rattle.table_core.proofs.walks.walk.Goals as goal
use Rattle.table_core.proofs.walks.walk.Goals.{then-eq+in-Some, then-eq+in_default, else-eq}

pub loop-place-init : goal.loop-place-init
loop-place-init c = subst (λ (found : List Address). Walked c.args.entries.now.entries c.args.entry.now found 0) (sym c.new-found.ensures) (walk_none c.args.entries.now.entries c.args.entry.now)

pub push-requires : goal.push-requires
push-requires c =
    let entries = c.args.entries.now.entries in
    let found = c.loop-place.found.items in
    let x = c.in-Some.address in
    let same : c.get.result ≡ c.args.entry.now = search rules in
    let is = read_at entries c.size-size.result c.loop-place.place c.get.result c.size-size.ensures.value c.get.ensures x c.in-Some.ensures.some.1 c.in-Some.ensures.some.2 in
    let more = walk_found entries c.args.entry.now found c.loop-place.place c.requires.named c.loop-place.invariant x c.in-Some.ensures.some.0
    (ap (λ (s : Size). place_of s.pages x) (sym c.size-size.ensures.value) ∙ c.in-Some.ensures.some.2) (is ∙ same) in
    let few = c.requires.few (found ++ x ∷ []) more.rising more.passed in
    (omega arith, omega (arith, few, length_push found x))

pub loop-place-preserved : goal.loop-place-preserved
loop-place-preserved c =
    let entries = c.args.entries.now.entries in
    let entry = c.args.entry.now in
    let found = c.loop-place.found.items in
    let place = c.loop-place.place in
    let read = read_at entries c.size-size.result place c.get.result c.size-size.ensures.value c.get.ensures in
    let size = c.size-size.ensures.value in
    elim c.if-eq.branch [
      | then-eq+in-Some w ↦ (let same : c.get.result ≡ entry = search rules in
          let x = w.in-Some.address in
          let at = w.in-Some.ensures.some in
          subst (λ (xs : List Address). Walked entries entry xs (place + 1)) (sym (ap (λ (v : ArrayVec Address). v.items) w.found-is ∙ w.push.ensures.items))
          (walk_found entries entry found place c.requires.named c.loop-place.invariant x at.0 (ap (λ (s : Size). place_of s.pages x) (sym size) ∙ at.2) (read x at.1 at.2 ∙ same)))
      | then-eq+in_default w ↦
          subst (λ (xs : List Address). Walked entries entry xs (place + 1)) (sym (ap (λ (v : ArrayVec Address). v.items) w.found-is))
          (walk_on entries entry found place c.requires.named c.loop-place.invariant
          (λ a range inside at e. w.in_default.ensures.none a range (subst (λ (s : Size). InTable s.spaces s.pages a) (sym size) inside)
          (ap (λ (s : Size). place_of s.pages a) size ∙ at)))
      | else-eq w ↦ (let other : c.get.result ≢ entry = search rules in
          subst (λ (xs : List Address). Walked entries entry xs (place + 1)) (sym (ap (λ (v : ArrayVec Address). v.items) w.found-is))
          (walk_on entries entry found place c.requires.named c.loop-place.invariant
          (λ a range inside at e. other (sym (read a (subst (λ (s : Size). InTable s.spaces s.pages a) (sym size) inside) (ap (λ (s : Size). place_of s.pages a) size ∙ at)) ∙ e))))
    ]

pub returns : goal.returns
returns c = walk_all c.args.entries.now.entries c.args.entry.now c.loop-place.found.items c.loop-place.place c.requires.named c.loop-place.invariant
    (omega (arith, c.loop-place-test.false, c.addresses-place-end.ensures, ap (λ (s : Size). s.spaces * s.pages) c.size-size.ensures.value))
