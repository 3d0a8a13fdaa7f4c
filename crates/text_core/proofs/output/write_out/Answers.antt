use Rattle.std.proofs.Common.{◌≡◌, ◌+◌, ◌-◌, ◌++◌, ◌∙◌, List, ℕ, length, take, drop, sym, ap, length-drop, arith}
use Rattle.std.proofs.lemmas.List.{take_all}
use Rattle.std.proofs.Math.Seq.{take-add}
use Rattle.text_core.proofs.Waiting.{appends_on}
use Rattle.text_core.proofs.output.write_out.Goals as goal

-- n more bytes of a list
more : (xs : List ℕ) (i n : ℕ) → take i xs ++ take n (take (length xs - i) (drop i xs)) ≡ take (i + n) xs
more xs i n =
    ap (λ (r : List ℕ). take i xs ++ take n r) (take_all (length xs - i) (drop i xs) (omega (arith, length-drop i xs))) ∙ sym (take-add i n xs)

pub loop-taken-preserved : goal.loop-taken-preserved
loop-taken-preserved g c =
    let xs = c.args.bytes.now in
    let i = c.loop-taken.taken in
    record {
      within = omega (arith, c.in-Ok.ensures.bound, length-drop i xs, ap length (take_all (length xs - i) (drop i xs) (omega (arith, length-drop i xs))));
      written = appends_on _ _ _ _ _ _ c.loop-taken.invariant.written c.in-Ok.ensures.bytes (more xs i c.in-Ok.count);
    }
