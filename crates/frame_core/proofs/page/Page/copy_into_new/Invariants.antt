use Rattle.std.proofs.Common.{◌≡◌, length, take}
use Rattle.frame_core.proofs.page.Page.copy_into_new.Given as goal

abbrev pub invariant-loop-word : goal.invariant-loop-word
invariant-loop-word g l = record {
  size : length l.words ≡ g.row.W;
  copied : take l.word l.words ≡ take l.word l.self-inside.words;
}
