use Rattle.std.proofs.Common.{◌≡◌, ◌+◌, ◌++◌, length, ap, sym, ◌∙◌, subst, append_assoc, length-append, arith}
use Rattle.frame_core.specs.Serials.{HasSerialsFrom}
use Rattle.hand_core.specs.PageEnds.{Giver}
use Rattle.hand_core.proofs.Serials.{serials_front, serials_after}
use Rattle.round_core.proofs.scanner.give_all.Goals as goal

pub give_all-requires-clause-next : goal.give_all-requires-clause-next
give_all-requires-clause-next g c =
    let giver = c.loop-batch.giver in
    let next = giver.base + length giver.given in
    serials_front next c.in-Some.batch.items c.first_of.new.pages.items (subst (HasSerialsFrom next) c.in-Some.ensures.first c.loop-batch.invariant.serials)

pub loop-batch-preserved : goal.loop-batch-preserved
loop-batch-preserved g c =
    let giver = c.loop-batch.giver in
    let new = c.give_all.new.self in
    let first = c.args.giver.now in
    let items = c.in-Some.batch.items in
    let rest = c.first_of.new.pages.items in
    let next = giver.base + length giver.given in
    let old = c.loop-batch.invariant in
    let split = c.in-Some.ensures.first in
    let ok = c.in_default-give_all.ensures.ok in
    let base = ap (λ (v : Giver). v.base) ok in
    let given = ap (λ (v : Giver). v.given) ok in
    let long = ap (λ l. length l) given in
    let longer = length-append giver.given items in
    let following = serials_after next items rest (subst (HasSerialsFrom next) split old.serials) in
    record {
      serials = subst (λ n. HasSerialsFrom n rest) (let e : next + length items ≡ new.base + length new.given = omega arith in e) following;
      giver = ok ∙ ap (λ (v : Giver). record v { given = giver.given ++ items }) old.giver ∙ ap (λ l. record first { given = l }) (sym given);
      given = ap (λ l. l ++ rest) given ∙ append_assoc giver.given items rest ∙ ap (λ l. giver.given ++ l) (sym split) ∙ old.given;
      count = (let before = old.count in let parted = ap length split in omega (arith, before, parted, long, longer, length-append items rest));
      room = c.in-Some.ensures.room ∙ old.room;
    }

pub returns-in-Err-clause-count : goal.returns-in-Err-clause-count
returns-in-Err-clause-count g c =
    let before = c.loop-batch.invariant.count in
    let put = ap length c.put_in_front.ensures.pages in
    let refused : length c.in-Err.refused.items ≡ length c.in-Some.batch.items = (λ i. length (c.in-Err.ensures.back i).items) in
    let given = ap (λ (v : Giver). length v.given) c.in-Err.ensures.err in
    let first = ap length c.in-Some.ensures.first in
    omega (
      arith,
      before,
      put,
      refused,
      given,
      first,
      length-append c.in-Err.refused.items c.first_of.new.pages.items,
      length-append c.in-Some.batch.items c.first_of.new.pages.items,
    )
