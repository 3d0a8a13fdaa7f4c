-- Newlines in texts.
use Rattle.std.proofs.Common.{◌≡◌, ◌∙◌, ℕ, zero, suc, ◌+◌, ◌/◌, ◌%◌, ◌==◌, List, [], ◌∷◌, ◌++◌, append_assoc, Bool, true, false, refl, subst, arith, rules}
use Rattle.std.specs.Fmt.{digit_glyph, digits, digits_onto}
use Rattle.std.specs.Prelude.{codes, decimal, nat_lt, if◌then◌else◌}
use Rattle.std.proofs.lemmas.Bool.Decides.{nat_tests}
use Rattle.std.proofs.lemmas.List.Sums.{sum_by-append}
use Rattle.state_core.specs.declared.information.Info.{Info}
use Rattle.state_core.specs.declared.information.Look.{Look}
use Rattle.state_core.specs.declared.information.Look.TheVariants.{At, Moving}
use Rattle.text_core.specs.declared.pool.PoolBlocks.{PoolBlocks}
use Rattle.text_core.specs.declared.pool.PoolBlocks.TheVariants.{Pageblocks, OfOrder}
use Rattle.text_core.specs.declared.pool.PoolStopped.{PoolStopped}
use Rattle.text_core.specs.declared.pool.PoolStopped.TheVariants as pool
use Rattle.text_core.specs.declared.reply.Reply.{Reply}
use Rattle.text_core.specs.declared.reply.Reply.TheVariants as reply
use Rattle.text_core.specs.declared.reply.Stopped.{Stopped}
use Rattle.text_core.specs.declared.reply.Stopped.TheVariants as stopped
use Rattle.text_core.specs.Reply.{IsOneLine, after_commas, counts_text, look_text, newlines, numbers_text, pool_name, pool_stopped_text, pool_text, round_text, stopped_text, text_of}

pub newlines-append : (xs ys : List ℕ) → newlines (xs ++ ys) ≡ newlines xs + newlines ys
newlines-append xs ys = sum_by-append _ xs ys

-- the digit for a number is no newline
digit_none : (d : ℕ) (more : List ℕ) → newlines (digit_glyph false d ∷ more) ≡ newlines more
digit_none d more = by_test (nat_lt d 10) where
  by_test : (b : Bool) → newlines ((if b then 48 + d else 87 + d) ∷ more) ≡ newlines more
  by_test true = grind (arith, nat_tests)
  by_test false = grind (arith, nat_tests)

after_digit : (b : Bool) (one all more : List ℕ) → newlines one ≡ newlines more → newlines all ≡ newlines one → newlines (if b then one else all) ≡ newlines more
after_digit true one all more first rest = first
after_digit false one all more first rest = rest ∙ first

digits_none : (k n : ℕ) (more : List ℕ) → newlines (digits_onto k 10 false n more) ≡ newlines more
digits_none zero n more = refl
digits_none (suc k) n more =
    after_digit (n / 10 == 0) (digit_glyph false (n % 10) ∷ more) _ more (digit_none (n % 10) more) (digits_none k (n / 10) (digit_glyph false (n % 10) ∷ more))

-- the digits of a number have no newline
newlines-decimal : (n : ℕ) → newlines (decimal n) ≡ 0
newlines-decimal n = unfold digits in digits_none 64 n []

-- two texts without a newline, one after the other, have none
join_none : (text more : List ℕ) → newlines text ≡ 0 → newlines more ≡ 0 → newlines (text ++ more) ≡ 0
join_none text more before after = omega (arith, before, after, newlines-append text more)

ruleset unbroken = (rules, join_none, newlines-decimal)

counts_none : (i : Info) → newlines (counts_text i) ≡ 0
counts_none i = search unbroken

look_none : (l : Look) → newlines (look_text l) ≡ 0
look_none (At frame flags pins maps) = search unbroken
look_none (Moving serial pins maps) = search unbroken

stopped_none : (why : Stopped) → newlines (stopped_text why) ≡ 0
stopped_none stopped.Met = refl
stopped_none stopped.JournalFull = refl

pool_stopped_none : (why : PoolStopped) → newlines (pool_stopped_text why) ≡ 0
pool_stopped_none pool.Enough = refl
pool_stopped_none pool.NoBlock = refl
pool_stopped_none pool.Rounds = refl
pool_stopped_none pool.JournalFull = refl
pool_stopped_none (pool.Refused k) = newlines-decimal k

name_none : (blocks : PoolBlocks) → newlines (pool_name blocks) ≡ 0
name_none Pageblocks = refl
name_none (OfOrder order) = refl

commas_none : (numbers : List ℕ) → newlines (after_commas numbers) ≡ 0
commas_none [] = refl
commas_none (n ∷ more) = search (unbroken, commas_none more)

numbers_none : (numbers : List ℕ) → newlines (numbers_text numbers) ≡ 0
numbers_none [] = refl
numbers_none (first ∷ more) = search (unbroken, commas_none more)

one_line : (body : List ℕ) → newlines body ≡ 0 → IsOneLine (body ++ codes "\n")
one_line body none = record { body = body; ends = refl; one = none }

-- the line of a reply is one line
pub text_lines : (r : Reply) → IsOneLine (text_of r)
text_lines reply.Done = one_line (codes "ok") refl
text_lines (reply.Value x) = one_line (codes "value=" ++ decimal x) (search unbroken)
text_lines (reply.Info i) = one_line (counts_text i) (counts_none i)
text_lines (reply.InfoWithHeld i) = one_line (counts_text i ++ codes " held=" ++ decimal i.held) (search (unbroken, counts_none))
text_lines (reply.Serial n) = one_line (codes "serial=" ++ decimal n) (search unbroken)
text_lines reply.Met = one_line (codes "met") refl
text_lines (reply.Moved n) = one_line (codes "moved serial=" ++ decimal n) (search unbroken)
text_lines (reply.PutBack n) =
    let back : List ℕ = codes "back serial=" ++ decimal n in
    subst IsOneLine (append_assoc back (codes " cause=1") (codes "\n")) (one_line (back ++ codes " cause=1") (search unbroken))
text_lines (reply.Shut n) = one_line (codes "back=" ++ decimal n) (search unbroken)
text_lines (reply.Looked l) = one_line (look_text l) (look_none l)
text_lines (reply.Block b) = one_line (codes "block=" ++ decimal b) (search unbroken)
text_lines (reply.HandedOut f k) = one_line (codes "frame=" ++ decimal f ++ codes " order=" ++ decimal k) (search unbroken)
text_lines (reply.AllDone m) = one_line (codes "done=" ++ decimal m) (search unbroken)
text_lines (reply.DoneUntil m k) = one_line (codes "done=" ++ decimal m ++ codes " refused=" ++ decimal k) (search unbroken)
text_lines (reply.Round i m b s) = one_line (round_text i m b s) (search (unbroken, stopped_none))
text_lines (reply.Pool blocks got rounds s) = one_line (pool_text blocks got.items rounds s) (search (unbroken, pool_stopped_none, name_none, numbers_none))
text_lines (reply.Refused k) = one_line (codes "refused " ++ decimal k) (search unbroken)
