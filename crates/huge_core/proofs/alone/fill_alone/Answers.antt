use Rattle.std.proofs.Common.{None, refl, sym, rules, arith}
use Rattle.std.proofs.lemmas.Grind.{common_steps}
use Rattle.huge_core.proofs.ByHand.{filled_more, rest_block}
use Rattle.huge_core.proofs.alone.fill_alone.Goals as goal

pub loop-order-init : goal.loop-order-init
loop-order-init g c = record {
  most = omega arith;
  got = c.requires.got;
  filled = λ ran none. refl;
  rest = λ rest. rest;
  valid = λ more. absurd (omega arith);
  identity = (refl, refl);
}

pub returns-in_err-take-clause-filled : goal.returns-in_err-take-clause-filled
returns-in_err-take-clause-filled g c = rw c.in_err-take.ensures.err c.loop-order.invariant.filled

pub loop-order-preserved : goal.loop-order-preserved
loop-order-preserved g c =
    let order = c.args.order in
    let was = c.loop-order in
    let now = c.take.new.zone in
    let huge = c.in_ok-take.field-0 in
    let took = c.in_ok-take.ensures in
    record {
      most = search rules;
      got = grind (arith, common_steps);
      filled = filled_more order c.args.n was.zone now huge (sym {a = None} took.refused) took.lowest took.ok c.args.zone.now
          c.args.got.now.items was.got.items c.push.new.self.items (omega arith) c.push.ensures.items was.invariant.filled;
      rest = λ rest. rest_block was.zone now huge.frame order took.ok took.valid (was.invariant.rest rest);
      valid = λ more. took.valid;
      identity = search rules;
    }
