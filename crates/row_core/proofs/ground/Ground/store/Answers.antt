use Rattle.std.proofs.Common.{◌≡◌, ◌+◌, ◌≤◌, length, refl, sym, ap, ◌∙◌, arith}
use Rattle.std.specs.List.{length_refill}
use Rattle.row_core.specs.Owned.{count_out}
use Rattle.row_core.specs.Parts.{part}
use Rattle.row_core.proofs.Lists.{here_again, spliced_long}
use Rattle.row_core.proofs.ground.Ground.store.Goals as goal

pub invariant_of-self : goal.invariant_of-self
invariant_of-self c =
    let right = c.self.inside.right in let from = c.args.from in let count = length c.args.values.now in let back = c.of_vec.result.items in
    let fits : from + count ≤ length right.items = omega (arith, c.requires.within, ap (λ s. length s.words) c.self.view_is) in
    let same : length back ≡ count =
    ap length c.of_vec.ensures.1 ∙ sym (length_refill c.into_vec-words.result.len c.into_vec-words.result.items _ c.into_vec-words.result.ok.0) ∙ c.into_vec-words.ensures.1 in
    let here : c.replace_with-2.new.dest.here ≡ right.here =
    here_again right.here c.replace_with.new.dest.here c.replace_with-2.new.dest.here from count (length back)
    (ap (λ s. part s.here from count) c.self.view_is ∙ c.requires.here) c.replace_with.ensures.0.3 same c.replace_with-2.ensures.3 in
    let long : length c.replace_with-2.new.dest.items ≡ length right.items =
    ap length c.replace_with-2.ensures.1
    ∙ spliced_long c.replace_with.new.dest.items from (length back) (omega (arith, fits, same, ap length c.replace_with.ensures.0.1)) back refl
    ∙ ap length c.replace_with.ensures.0.1 in (
      c.replace_with-2.ensures.0 ∙ c.replace_with.ensures.0.0 ∙ c.self.invariant.0,
      c.replace_with-2.ensures.2,
      c.self.invariant.2,
      long ∙ c.self.invariant.3,
      c.self.invariant.4 ∙ ap count_out (sym here),
      c.replace_with-2.new.dest.lengths,
      c.self.invariant.6,
      c.self.invariant.7,
    )

pub returns-clause-here : goal.returns-clause-here
returns-clause-here c =
    let right = c.self.inside.right in let from = c.args.from in let count = length c.args.values.now in let back = c.of_vec.result.items in
    let same : length back ≡ count =
    ap length c.of_vec.ensures.1 ∙ sym (length_refill c.into_vec-words.result.len c.into_vec-words.result.items _ c.into_vec-words.result.ok.0) ∙ c.into_vec-words.ensures.1 in
    here_again right.here c.replace_with.new.dest.here c.replace_with-2.new.dest.here from count (length back)
    (ap (λ s. part s.here from count) c.self.view_is ∙ c.requires.here) c.replace_with.ensures.0.3 same c.replace_with-2.ensures.3
    ∙ ap (λ s. s.here) c.self.view_is
