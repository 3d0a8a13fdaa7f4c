use Rattle.std.proofs.Common.{◌≡◌, ◌∙◌, ◌<◌, ◌^◌, ◌||◌, ℕ, ℤ, Some, ap, ap₂, pos, arith, Bool}
use Rattle.std.specs.Int.{int_min}
use Rattle.std.proofs.lemmas.Int.{ints, clamps}
use Rattle.std.proofs.lemmas.Result.{IfOk-weaker}
use Rattle.clap.specs.Words.{NarrowsTo, app_of, signed_between, with_rule}
use Rattle.clap.specs.declared.builder.value_parser.ValueParser.{ValueParser}
use Rattle.clap.specs.declared.builder.value_parser.ValueParser.TheVariants.{Signed}
use Rattle.clap.proofs.CallerLemmas.{added_plain}
use Rattle.script_core.proofs.options.with_number.Goals as goal

-- a parser of numbers of 32 bits, within the range from 1 to `most`
narrowed : (most : ℕ) (old new : ValueParser) (start end : ℤ) → most < 2 ^ 32 → old ≡ Signed (pos 0) (pos 4294967295) → start ≡ pos 1 → end ≡ pos most
    → NarrowsTo old (Some start) (Some end) new → new ≡ Signed (pos 1) (pos most)
narrowed most old new start end fits is one last narrows =
    let within : int_min (pos 4294967295) (pos most) ≡ pos most = omega (arith, ints, clamps) in
    (rw (is, one, last) at narrows) ∙ ap (signed_between (pos 1)) within

pub returns : goal.returns
returns g c =
    let fits : g.row.MOST < 2 ^ 32 = omega arith in
    let from : c.from.result ≡ pos g.row.MOST = c.from.ensures in
    let last = c.new.ensures.end ∙ (omega (arith, ints)) in
    let numbers = narrowed g.row.MOST c.value_parser.result c.range-numbers.result _ _ fits c.value_parser.ensures c.new.ensures.start last c.range-numbers.ensures in
    let option = c.number_option.ensures in
    IfOk-weaker c.arg.result _ _ (λ command added. record {
      app = added.shape option.local ∙ ap (with_rule (app_of c.args.command)) (option.rule g.row.MOST numbers);
      plain = λ plain. added_plain c.args.command command c.number_option.result added plain option.plain;
      local = λ local. added.globals ∙ ap₂ (λ (a b : Bool). a || b) local option.local;
    }) c.arg.ensures
