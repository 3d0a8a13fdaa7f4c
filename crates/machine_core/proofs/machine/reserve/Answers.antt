use Rattle.std.proofs.Common.{◌≡◌, ◌∙◌, ◌+◌, ◌-◌, ◌++◌, ◌∷◌, [], ℕ, List, suc, sym, ap, arith}
use Rattle.std.specs.Result.{result_err}
use Rattle.arrayvec.specs.ArrayVec.{array_vec_len}
use Rattle.machine_core.specs.World.{WorldState, with_zone}
use Rattle.state_core.specs.HandingOut.{block_taken, lowest_run, take_order_refusal}
use Rattle.text_core.specs.Pool.{told_as}
use Rattle.machine_core.specs.Machine.{pool_from, pooled, says, stopped_by}
use Rattle.machine_core.proofs.Pooling.{pool_from-ends, pool_from-on}
use Rattle.machine_core.proofs.machine.reserve.Goals as goal

-- a block was handed out, and those that are left give the same answer
pub loop-world-preserved : goal.loop-world-preserved
loop-world-preserved g c =
    let l = c.loop-world in
    let blocks = c.args.blocks in
    let had = array_vec_len l.got in
    let m = c.get-wanted.result - (had + 1) in
    let left : c.get-wanted.result - had ≡ suc m = omega (arith, c.loop-world-test.true) in
    let accepted = ap (take_order_refusal l.world.zone) (sym c.order.ensures) ∙ sym c.take_order.ensures.refused ∙ ap result_err c.in-Ok.is in
    let lowest = ap (lowest_run l.world.zone) (sym c.order.ensures) ∙ c.in-Ok.ensures.first in
    let after = c.in-Ok.ensures.ok ∙ ap (λ (k : ℕ). with_zone l.world (block_taken l.world.zone c.in-Ok.first k)) c.order.ensures in
    let more : c.push.new.self.items ≡ l.got.items ++ told_as blocks c.in-Ok.first ∷ [] = c.push.ensures.items ∙ ap (λ (n : ℕ). l.got.items ++ n ∷ []) c.told_as.ensures in
    let longer : array_vec_len c.push.new.self ≡ had + 1 = omega (arith, c.push.ensures.len) in
    record {
      most = omega (arith, longer, c.loop-world-test.true);
      left = ap (λ (items : List ℕ). pool_from blocks items (c.get-wanted.result - array_vec_len c.push.new.self) c.take_order.new.self) more
          ∙ ap (λ (k : ℕ). pool_from blocks (l.got.items ++ told_as blocks c.in-Ok.first ∷ []) k c.take_order.new.self) (omega (arith, longer))
          ∙ sym (pool_from-on blocks l.got.items (c.get-wanted.result - had) l.world m c.in-Ok.first c.take_order.new.self left accepted lowest after)
          ∙ l.invariant.left;
    }

pub returns-in-Err : goal.returns-in-Err
returns-in-Err g c =
    let l = c.loop-world in
    let blocks = c.args.blocks in
    let had = array_vec_len l.got in
    let left : c.get-wanted.result - had ≡ suc (c.get-wanted.result - (had + 1)) = omega (arith, c.loop-world-test.true) in
    let refused = ap (take_order_refusal l.world.zone) (sym c.order.ensures) ∙ sym c.take_order.ensures.refused ∙ ap result_err c.in-Err.is in
    ap (λ why. says (pooled blocks l.got.items why) c.take_order.new.self) c.stopped_by.ensures
    ∙ ap (λ (w : WorldState). says (pooled blocks l.got.items (stopped_by c.in-Err.error)) w) c.in-Err.ensures.err
    ∙ sym (pool_from-ends blocks l.got.items (c.get-wanted.result - had) l.world _ c.in-Err.error left refused)
    ∙ l.invariant.left
    ∙ ap (λ (k : ℕ). pool_from blocks [] k c.args.world.now) c.get-wanted.ensures.value

pub returns : goal.returns
returns g c =
    let l = c.loop-world in
    let none : 0 ≡ c.get-wanted.result - array_vec_len l.got = omega (arith, c.loop-world-test.false) in
    ap (λ (k : ℕ). pool_from c.args.blocks l.got.items k l.world) none
    ∙ l.invariant.left
    ∙ ap (λ (k : ℕ). pool_from c.args.blocks [] k c.args.world.now) c.get-wanted.ensures.value
