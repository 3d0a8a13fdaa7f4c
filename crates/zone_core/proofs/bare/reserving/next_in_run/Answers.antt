use Rattle.std.proofs.Common.{◌∙◌, ◌^◌, max, ap, arith}
use Rattle.std.proofs.lemmas.Nat.{pow_pos}
use Rattle.zone_core.proofs.NextIn.{next_in_one, none_in_one}
use Rattle.zone_core.proofs.bare.reserving.next_in_run.Goals as goal

pub returns-then-from-get : goal.returns-then-from-get
returns-then-from-get c = none_in_one c.args.first (2 ^ c.args.order) c.args.from (omega (arith, c.if-from-get.true, c.get.ensures.value, c.frames.ensures.value))

pub returns : goal.returns
returns c =
    next_in_one c.args.first (2 ^ c.args.order) c.args.from c.max.result (omega (arith, c.if-from-get.false, c.get.ensures.value, c.frames.ensures.value))
    (c.max.ensures ∙ ap (max c.args.from) c.get-2.ensures.value) (pow_pos c.args.order)
