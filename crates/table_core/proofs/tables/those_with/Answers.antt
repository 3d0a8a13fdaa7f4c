use Rattle.std.proofs.Common.{◌≡◌, ◌≢◌, suc, ◌+◌, ◌<◌, List, ◌∷◌, length, drop, sym, ap, subst, ◌∙◌, arith, rules}
use Rattle.arrayvec.specs.ArrayVec.{ArrayVec}
use Rattle.std.specs.Prelude.{Some}
use Rattle.std.proofs.lemmas.List.{drop_all}
use Rattle.std.proofs.lemmas.Option.{slice_get-get_or}
use Rattle.std.proofs.Math.Seq.{drop-cons}
use Rattle.frame_core.specs.declared.place.Address.{Address}
use Rattle.frame_core.specs.Address.{InTable}
use Rattle.table_core.specs.Tables.{place_of, entry_at}
use Rattle.table_core.proofs.Places.{place_in, entry_got}
use Rattle.table_core.proofs.Passing.{in_at, Found, find_none, find_more, find_same, find_all}
use Rattle.table_core.proofs.tables.those_with.Goals as goal
use Rattle.table_core.proofs.tables.those_with.Goals.{After-place_of, Joined-eq, then-eq, else-eq}

pub loop-name-init : goal.loop-name-init
loop-name-init c = record {
  few = omega (arith, ap length c.new-found.ensures);
  found = subst (λ (found : List Address). Found c.args.entries.now.entries c.args.names.now c.args.entry.now found c.args.names.now) (sym c.new-found.ensures)
      (find_none c.args.entries.now.entries c.args.names.now c.args.entry.now c.requires.rising);
}

next : (c : Joined-eq) → drop c.loop-name.name-index c.args.names.now ≡ c.name-item.result ∷ drop (c.loop-name.name-index + 1) c.args.names.now
next c =
    let more : suc c.loop-name.name-index ≡ c.loop-name.name-index + 1 = omega arith in
    drop-cons c.args.names.now c.loop-name.name-index c.name-item.result c.loop-name-test.true ∙ (λ i. sym c.name-item.is i ∷ drop (more i) c.args.names.now)

inside : (c : After-place_of) → InTable c.args.entries.now.entries.size.spaces c.args.entries.now.entries.size.pages c.name-item.result
inside c = c.requires.inside c.name-item.result (in_at c.args.names.now c.loop-name.name-index c.name-item.result
    (slice_get-get_or c.args.names.now c.loop-name.name-index c.name-item.result c.loop-name-test.true ∙ ap Some (sym c.name-item.is)))

place : (c : After-place_of) → (c.place_of.result ≡ place_of c.args.entries.now.entries.size.pages c.name-item.result) × (c.place_of.result < length c.args.entries.now.entries.list)
place c = place_in c.args.entries.now.entries c.size-size.result c.name-item.result c.place_of.result c.size-size.ensures.value c.size-size.ensures.count (inside c) c.place_of.ensures.place

pub get-requires : goal.get-requires
get-requires c = (place c).1

entry_is : (c : Joined-eq) → entry_at c.args.entries.now.entries c.name-item.result ≡ c.get.result
entry_is c = entry_got c.args.entries.now.entries c.name-item.result c.place_of.result c.get.result (inside c.before.before.before.before) (place c.before.before.before.before).0 c.get.ensures

known : (c : Joined-eq) → Found c.args.entries.now.entries c.args.names.now c.args.entry.now c.loop-name.found.items (c.name-item.result ∷ drop (c.loop-name.name-index + 1) c.args.names.now)
known c = subst (Found c.args.entries.now.entries c.args.names.now c.args.entry.now c.loop-name.found.items) (next c) c.loop-name.invariant.found

pub loop-name-preserved : goal.loop-name-preserved
loop-name-preserved c =
    let rest = drop (c.loop-name.name-index + 1) c.args.names.now in
    elim c.if-eq.branch [
      | then-eq w ↦ (let same : c.get.result ≡ c.args.entry.now = search rules in
          let items = ap (λ (v : ArrayVec Address). v.items) w.found-is ∙ w.push.ensures.items in
          record {
            few = omega (arith, c.loop-name.invariant.few, ap (λ (v : ArrayVec Address). length v.items) w.found-is, w.push.ensures.len);
            found = subst (λ (found : List Address). Found c.args.entries.now.entries c.args.names.now c.args.entry.now found rest) (sym items)
                (find_more c.args.entries.now.entries c.args.names.now c.args.entry.now c.loop-name.found.items rest c.name-item.result (known c) (entry_is c ∙ same));
          })
      | else-eq w ↦ (let other : c.get.result ≢ c.args.entry.now = search rules in
          let items = ap (λ (v : ArrayVec Address). v.items) w.found-is in
          record {
            few = omega (arith, c.loop-name.invariant.few, ap (λ (v : ArrayVec Address). length v.items) w.found-is);
            found = subst (λ (found : List Address). Found c.args.entries.now.entries c.args.names.now c.args.entry.now found rest) (sym items)
                (find_same c.args.entries.now.entries c.args.names.now c.args.entry.now c.loop-name.found.items rest c.name-item.result (known c) (λ e. other (sym (entry_is c) ∙ e)));
          })
    ]

pub returns-clause-rising : goal.returns-clause-rising
returns-clause-rising c = c.loop-name.invariant.found.rising

pub returns-clause-each : goal.returns-clause-each
returns-clause-each c =
    find_all c.args.entries.now.entries c.args.names.now c.args.entry.now c.loop-name.found.items
    (subst (Found c.args.entries.now.entries c.args.names.now c.args.entry.now c.loop-name.found.items)
    (drop_all c.loop-name.name-index c.args.names.now c.loop-name-test.false) c.loop-name.invariant.found)
