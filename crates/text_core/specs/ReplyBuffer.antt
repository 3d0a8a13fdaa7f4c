-- What contracts see of the replies that wait to be written.
use Rattle.std.specs.Prelude.{◌≡◌, ℕ, ◌<◌, List, [], ◌++◌, length, map, take, Option}
use Rattle.std.specs.List.{AllByRecursion}
use Rattle.std.specs.Io.KnownBytes.{Appends}
use Rattle.text_core.specs.Reply.{IsOneLine, newlines, text_of}
use Rattle.text_core.specs.Script.{Answer, texts}

-- the text of the replies that wait, and the number of the line that each of them answers
pub record ReplyBuffer : Type 0 where
  pub bytes : List ℕ
  pub lines : List ℕ

-- no reply waits
abbrev pub empty : ReplyBuffer
empty = record { bytes = []; lines = [] }

-- there is a line for each reply, and each byte belongs to a reply
pub record IsMarked (bytes lines : List ℕ) : Type 0 where
  pub counted : newlines bytes ≡ length lines
  pub within : (n : ℕ) → n < length bytes → newlines (take n bytes) < length lines

-- these answers wait, and no others
pub record Holds (box : ReplyBuffer) (answers : List Answer) : Type 0 where
  pub bytes : box.bytes ≡ texts answers
  pub lines : box.lines ≡ map (λ a. a.line) answers
  pub one_line : AllByRecursion (λ a. IsOneLine (text_of a.reply)) answers

-- of these answers the first ones were written, and the others wait
pub record Owes (box : ReplyBuffer) (answers : List Answer) (first now : Option (List ℕ)) : Type 0 where
  pub gone : List Answer
  pub waiting : List Answer
  pub all : gone ++ waiting ≡ answers
  pub written : Appends first now (texts gone)
  pub holds : Holds box waiting
