use Rattle.std.proofs.Common.{◌≡◌, ◌+◌, ◌*◌, ◌≤◌, ◌++◌, length, take}
use Rattle.text_core.specs.Reply.{after_commas}
use Rattle.text_core.proofs.reply.push_after_commas.Given as goal

-- the text so far ends with the numbers so far, a comma before each
abbrev pub invariant-loop-number : goal.invariant-loop-number
invariant-loop-number g l = record {
  text : l.text.bytes ≡ l.fn.text.bytes ++ after_commas (take l.number-index l.numbers);
  len : length l.text.bytes ≤ length l.fn.text.bytes + 11 * l.number-index;
}
