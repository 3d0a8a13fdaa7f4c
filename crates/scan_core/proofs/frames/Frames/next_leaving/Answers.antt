use Rattle.std.proofs.Common.{ℕ, length, refl, sym, subst, arith}
use Rattle.std.specs.Prelude.{Option, MatchOption}
use Rattle.std.proofs.lemmas.Option.{slice_get_read}
use Rattle.number_set.specs.Finds.{IsFrom, NoneFrom}
use Rattle.scan_core.specs.Frames.{leaving_at}
use Rattle.scan_core.proofs.Found.{some_is}
use Rattle.scan_core.proofs.Leaving.{all_left, left_here, none_left, not_here, within_kept}
use Rattle.scan_core.proofs.frames.Frames.next_leaving.Goals as goal

pub returns-in_err-frame-clause-next : goal.returns-in_err-frame-clause-next
returns-in_err-frame-clause-next c =
    let leaving = leaving_at c.args.self.now.states in
    let none = none_left c.self.inside c.self.invariant c.args.self.now c.self.view_is c.numbers-free.result.now.members c.numbers-free.ensures.members c.args.from c.loop-next.next c.len-end.result c.len-end.ensures.len c.loop-next.invariant.before c.in_err-frame.ensures in
    subst (λ (o : Option ℕ). MatchOption o (NoneFrom leaving c.args.from) (IsFrom leaving c.args.from)) (sym c.from_residual.ensures) none

pub returns-then-is_source-clause-next : goal.returns-then-is_source-clause-next
returns-then-is_source-clause-next c =
    let z = c.self.inside in
    let leaving = leaving_at c.args.self.now.states in
    let frame = c.in_ok-frame.frame in
    let low = within_kept z c.self.invariant c.args.self.now c.self.view_is c.numbers-free.result.now.members c.numbers-free.ensures.members c.len-end.result frame c.len-end.ensures.len c.in_ok-frame.ensures.passes in
    let read = slice_get_read z.kept.items (length z.kept.items) frame c.index.result.now refl low c.index.ensures in
    let here = left_here z c.self.invariant c.args.self.now c.self.view_is c.numbers-free.result.now.members c.numbers-free.ensures.members c.args.from c.loop-next.next c.len-end.result c.len-end.ensures.len c.loop-next.invariant.before
    frame c.in_ok-frame.ensures c.index.result.now read c.is_source.result c.is_source.ensures c.loop-next.invariant.low c.if-is_source.true in
    subst (λ (o : Option ℕ). MatchOption o (NoneFrom leaving c.args.from) (IsFrom leaving c.args.from))
    (sym (some_is c.in_any_zone.result frame (c.in_any_zone.ensures.valid.1 (omega (arith, low, c.self.invariant.few))) c.in_any_zone.ensures.value)) here

pub loop-next-preserved : goal.loop-next-preserved
loop-next-preserved c =
    let z = c.self.inside in
    let frame = c.in_ok-frame.frame in
    let low = within_kept z c.self.invariant c.args.self.now c.self.view_is c.numbers-free.result.now.members c.numbers-free.ensures.members c.len-end.result frame c.len-end.ensures.len c.in_ok-frame.ensures.passes in
    let read = slice_get_read z.kept.items (length z.kept.items) frame c.index.result.now refl low c.index.ensures in
    record {
      low = omega (arith, c.in_ok-frame.ensures.least, c.loop-next.invariant.low);
      before = not_here z c.self.invariant c.args.self.now c.self.view_is c.numbers-free.result.now.members c.numbers-free.ensures.members c.args.from c.loop-next.next c.len-end.result c.len-end.ensures.len c.loop-next.invariant.before
          frame c.in_ok-frame.ensures c.index.result.now read c.is_source.result c.is_source.ensures c.if-is_source.false;
    }

pub returns-clause-next : goal.returns-clause-next
returns-clause-next c =
    all_left c.self.inside c.self.invariant c.args.self.now c.self.view_is c.numbers-free.result.now.members c.numbers-free.ensures.members c.args.from c.loop-next.next c.len-end.result c.len-end.ensures.len c.loop-next.invariant.before (omega (arith, c.loop-next-test.false))
