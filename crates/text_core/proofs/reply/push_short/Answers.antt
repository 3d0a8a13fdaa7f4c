use Rattle.std.proofs.Common.{◌^◌, ◌<◌, ◌≤◌, ℕ, length, ap, decimal, arith}
use Rattle.std.proofs.lemmas.Fmt.{length-decimal-le}
use Rattle.text_core.proofs.reply.push_short.Goals as goal

-- a number that fits 32 bits has ten digits at most
short : (n : ℕ) → n < 2 ^ 32 → length (decimal n) ≤ 10
short n fits = length-decimal-le 10 n (omega arith) (omega (arith, fits)) (omega (arith, fits))

pub push_str-requires : goal.push_str-requires
push_str-requires g c = omega (arith, c.requires, ap length c.format.ensures.text, short c.args.number c.ranges.number.fits)

pub returns-clause-len : goal.returns-clause-len
returns-clause-len g c = omega (arith, c.push_str.ensures.len, ap length c.format.ensures.text, short c.args.number c.ranges.number.fits)
