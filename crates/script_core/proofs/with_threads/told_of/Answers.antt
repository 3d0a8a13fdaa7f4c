use Rattle.std.proofs.Common.{◌∙◌, ◌+◌, ◌++◌, ◌∷◌, [], ℕ, List, ap, sym, append-nil, drop, length, arith}
use Rattle.std.proofs.lemmas.List.{at_drop_all, length_push}
use Rattle.arrayvec.specs.ArrayVec.{ArrayVec}
use Rattle.text_core.specs.Pool.{told_as}
use Rattle.script_core.specs.WithThreads.{told_of}
use Rattle.script_core.proofs.Pools.{told_at, told_more}
use Rattle.script_core.proofs.with_threads.told_of.Goals as goal
use Rattle.script_core.proofs.with_threads.told_of.Goals.{in-Some, in_default}

pub loop-block-preserved : goal.loop-block-preserved
loop-block-preserved c =
    let blocks = c.args.blocks.now in
    let got = c.args.got.now in
    let l = c.loop-block in
    let rest = drop (l.block-index + 1) got in
    let at = told_at blocks got l.block-index c.block-item.result c.loop-block-test.true c.block-item.is in
    elim c.match-block.branch [
      | in-Some w ↦ record {
        few = omega (arith, l.invariant.few, ap length (ap (λ (v : ArrayVec ℕ). v.items) w.told-is ∙ w.push.ensures.items), length_push l.told.items w.told_as.result);
        told = told_more blocks l.told.items _ w.in-Some.huge rest
            (ap (λ (v : ArrayVec ℕ). v.items) w.told-is ∙ w.push.ensures.items ∙ ap (λ (n : ℕ). l.told.items ++ n ∷ []) (w.told_as.ensures ∙ ap (told_as blocks) w.frame.ensures.value))
            ∙ ap (λ b. l.told.items ++ told_of blocks (b ∷ rest)) (sym w.in-Some.is)
            ∙ ap (λ (r : List ℕ). l.told.items ++ r) (sym at)
            ∙ l.invariant.told;
      }
      | in_default w ↦ record {
        few = omega (arith, l.invariant.few, ap (λ (v : ArrayVec ℕ). length v.items) w.told-is);
        told = ap (λ (v : ArrayVec ℕ). v.items ++ told_of blocks rest) w.told-is
            ∙ ap (λ b. l.told.items ++ told_of blocks (b ∷ rest)) (sym w.in_default.is)
            ∙ ap (λ (r : List ℕ). l.told.items ++ r) (sym at)
            ∙ l.invariant.told;
      }
    ]

pub returns : goal.returns
returns c =
    let l = c.loop-block in
    sym (append-nil l.told.items)
    ∙ ap (λ (r : List ℕ). l.told.items ++ r) (sym (at_drop_all (told_of c.args.blocks.now) c.args.got.now l.block-index c.loop-block-test.false))
    ∙ l.invariant.told
