-- Answers that wait to be written.
use Rattle.std.proofs.Common.{◌≡◌, ℕ, ◌+◌, ◌-◌, ◌<◌, List, [], ◌∷◌, ◌++◌, length, take, drop, get_or, map, refl, sym, ap, subst, ◌∙◌, append_assoc, append-nil, inl, inr, length-append, length-drop, arith, Option}
use Rattle.std.specs.List.{AllByRecursion}
use Rattle.std.specs.Io.KnownBytes.{Appends}
use Rattle.std.proofs.KnownBytes.{Appends-trans}
use Rattle.std.proofs.lemmas.Bool.{cases_lt}
use Rattle.std.proofs.lemmas.Grind.{flat_map-append}
use Rattle.std.proofs.lemmas.List.{length-map, map-append, take-append-le, take-append-drop}
use Rattle.std.proofs.Math.Seq.{take-append-add, get_or-append_seam}
use Rattle.text_core.specs.Reply.{IsOneLine, newlines, text_of}
use Rattle.text_core.specs.Script.{Answer, texts, StopsIn}
use Rattle.text_core.specs.ReplyBuffer.{ReplyBuffer, IsMarked, Owes, empty}
use Rattle.text_core.proofs.Newlines.{newlines-append}

abbrev pub AreOneLine : List Answer → Type 0
AreOneLine answers = AllByRecursion (λ a. IsOneLine (text_of a.reply)) answers

-- the first n bytes of answers end within the text of one of them
pub record Cut (answers : List Answer) (n : ℕ) : Type 0 where
  pub before : List Answer
  pub answer : Answer
  pub later : List Answer
  pub order : answers ≡ before ++ answer ∷ later
  pub taken : List ℕ
  pub left : List ℕ
  pub text : text_of answer.reply ≡ taken ++ left
  pub some : 0 < length left
  pub here : take n (texts answers) ≡ texts before ++ taken
  pub count : newlines (take n (texts answers)) ≡ length before

-- a part of a reply's text that lacks its newline has none
newlines-part : (text : List ℕ) (n : ℕ) → IsOneLine text → n < length text → newlines (take n text) ≡ 0
newlines-part text n one h =
    let len : length text ≡ length one.body + 1 = ap length one.ends ∙ length-append one.body (10 ∷ []) in
    let front : take n text ≡ take n one.body = ap (take n) one.ends ∙ take-append-le n one.body (10 ∷ []) (omega arith) in
    omega (arith, ap newlines front, one.one, newlines-append (take n one.body) (drop n one.body), ap newlines (take-append-drop n one.body))

newlines_one : (text : List ℕ) → IsOneLine text → newlines text ≡ 1
newlines_one text one = omega (arith, ap newlines one.ends, newlines-append one.body (10 ∷ []), one.one)

cut_first : (a : Answer) (answers : List Answer) (n : ℕ) → IsOneLine (text_of a.reply) → n < length (text_of a.reply) → Cut (a ∷ answers) n
cut_first a answers n one within =
    let front : take n (text_of a.reply ++ texts answers) ≡ take n (text_of a.reply) = take-append-le n (text_of a.reply) (texts answers) (omega arith) in
    record {
      before = [];
      answer = a;
      later = answers;
      order = refl;
      taken = take n (text_of a.reply);
      left = drop n (text_of a.reply);
      text = sym (take-append-drop n (text_of a.reply));
      some = omega (arith, length-drop n (text_of a.reply));
      here = front;
      count = ap newlines front ∙ newlines-part (text_of a.reply) n one within;
    }

cut_later : (a : Answer) (answers : List Answer) (m : ℕ) → IsOneLine (text_of a.reply) → Cut answers m → Cut (a ∷ answers) (length (text_of a.reply) + m)
cut_later a answers m one rest =
    let front : take (length (text_of a.reply) + m) (text_of a.reply ++ texts answers) ≡ text_of a.reply ++ take m (texts answers) = take-append-add (text_of a.reply) (texts answers) m in
    record {
      before = a ∷ rest.before;
      answer = rest.answer;
      later = rest.later;
      order = ap (λ (r : List Answer). a ∷ r) rest.order;
      taken = rest.taken;
      left = rest.left;
      text = rest.text;
      some = rest.some;
      here = front ∙ ap (λ (r : List ℕ). text_of a.reply ++ r) rest.here ∙ sym (append_assoc (text_of a.reply) (texts rest.before) rest.taken);
      count = omega (arith, ap newlines front, newlines-append (text_of a.reply) (take m (texts answers)), newlines_one (text_of a.reply) one, rest.count);
    }

pub cut_at : (answers : List Answer) (n : ℕ) → AreOneLine answers → n < length (texts answers) → Cut answers n
cut_at [] n one h = absurd (omega arith)
cut_at (a ∷ answers) n one h = elim (cases_lt n (length (text_of a.reply))) [
  | inl within ↦ cut_first a answers n one.0 within
  | inr past ↦
      (let m = n - length (text_of a.reply) in
      let is : length (text_of a.reply) + m ≡ n = omega arith in
      subst (Cut (a ∷ answers)) is (cut_later a answers m one.0 (cut_at answers m one.1 (omega (arith, length-append (text_of a.reply) (texts answers))))))
]

pub appends_on : (a b c : Option (List ℕ)) (xs ys all : List ℕ) → Appends a b xs → Appends b c ys → xs ++ ys ≡ all → Appends a c all
appends_on a b c xs ys all p q e = let A : List ℕ → Type 0 = λ zs. Appends a c zs in subst A e (Appends-trans a b c xs ys p q)

-- where all that waits was written, nothing is owed
pub owes_none : (box : ReplyBuffer) (answers : List Answer) (first now after : Option (List ℕ)) → Owes box answers first now → Appends now after box.bytes → Appends first after (texts answers)
owes_none box answers first now after owes written =
    appends_on first now after (texts owes.gone) box.bytes (texts answers) owes.written written
    (ap (λ (r : List ℕ). texts owes.gone ++ r) owes.holds.bytes ∙ sym (flat_map-append _ owes.gone owes.waiting) ∙ ap texts owes.all)

-- an empty box owes nothing
pub owes_empty : (answers : List Answer) (first now : Option (List ℕ)) → Appends first now (texts answers) → Owes empty answers first now
owes_empty answers first now written = record {
  gone = answers;
  waiting = [];
  all = append-nil answers;
  written = written;
  holds = record { bytes = refl; lines = refl; one_line = tt };
}

-- a writer that took n of the bytes stopped within an answer
pub owes_stops : (box : ReplyBuffer) (answers : List Answer) (first now after : Option (List ℕ)) (n : ℕ) → Owes box answers first now → n < length box.bytes → Appends now after (take n box.bytes) → StopsIn answers first after (get_or box.lines (newlines (take n box.bytes)) 0)
owes_stops box answers first now after n owes less written =
    let cut = cut_at owes.waiting n owes.holds.one_line (omega (arith, ap length owes.holds.bytes)) in
    let part : take n box.bytes ≡ texts cut.before ++ cut.taken = ap (take n) owes.holds.bytes ∙ cut.here in
    let count : newlines (take n box.bytes) ≡ length cut.before = ap (λ (r : List ℕ). newlines (take n r)) owes.holds.bytes ∙ cut.count in
    let lines : box.lines ≡ map (λ a. a.line) cut.before ++ cut.answer.line ∷ map (λ a. a.line) cut.later = owes.holds.lines ∙ ap (map (λ a. a.line)) cut.order ∙ map-append (λ (a : Answer). a.line) cut.before (cut.answer ∷ cut.later) in
    record {
      before = owes.gone ++ cut.before;
      answer = cut.answer;
      later = cut.later;
      order = sym owes.all ∙ ap (λ (r : List Answer). owes.gone ++ r) cut.order ∙ sym (append_assoc owes.gone cut.before (cut.answer ∷ cut.later));
      taken = cut.taken;
      left = cut.left;
      text = cut.text;
      some = cut.some;
      written = appends_on first now after (texts owes.gone) (take n box.bytes) _ owes.written written
          (ap (λ (r : List ℕ). texts owes.gone ++ r) part ∙ sym (append_assoc (texts owes.gone) (texts cut.before) cut.taken) ∙ ap (λ (r : List ℕ). r ++ cut.taken) (sym (flat_map-append _ owes.gone cut.before)));
      at = ap (λ (k : ℕ). get_or box.lines k 0) (count ∙ sym (length-map cut.before (λ (a : Answer). a.line)))
          ∙ ap (λ (r : List ℕ). get_or r (length (map (λ a. a.line) cut.before)) 0) lines
          ∙ get_or-append_seam (map (λ a. a.line) cut.before) cut.answer.line (map (λ a. a.line) cut.later) 0;
    }

one_line_more : (answers : List Answer) (a : Answer) → AreOneLine answers → IsOneLine (text_of a.reply) → AreOneLine (answers ++ a ∷ [])
one_line_more [] a all one = (one, tt)
one_line_more (b ∷ answers) a all one = (all.0, one_line_more answers a all.1 one)

-- one more answer waits
pub owes_more : (box : ReplyBuffer) (answers : List Answer) (first now : Option (List ℕ)) (a : Answer) → Owes box answers first now → IsOneLine (text_of a.reply) → Owes (record { bytes = box.bytes ++ text_of a.reply; lines = box.lines ++ a.line ∷ [] }) (answers ++ a ∷ []) first now
owes_more box answers first now a owes one = record {
  gone = owes.gone;
  waiting = owes.waiting ++ a ∷ [];
  all = sym (append_assoc owes.gone owes.waiting (a ∷ [])) ∙ ap (λ (r : List Answer). r ++ a ∷ []) owes.all;
  written = owes.written;
  holds = record {
    bytes = ap (λ (r : List ℕ). r ++ text_of a.reply) owes.holds.bytes ∙ ap (λ (r : List ℕ). texts owes.waiting ++ r) (sym (append-nil (text_of a.reply))) ∙ sym (flat_map-append _ owes.waiting (a ∷ []));
    lines = ap (λ (r : List ℕ). r ++ a.line ∷ []) owes.holds.lines ∙ sym (map-append (λ (b : Answer). b.line) owes.waiting (a ∷ []));
    one_line = one_line_more owes.waiting a owes.holds.one_line one;
  };
}

-- one more reply has its line
pub marked_more : (bytes lines text : List ℕ) (line : ℕ) → IsMarked bytes lines → IsOneLine text → IsMarked (bytes ++ text) (lines ++ line ∷ [])
marked_more bytes lines text line m one =
    record {
      counted = omega (arith, newlines-append bytes text, newlines_one text one, m.counted, length-append lines (line ∷ []));
      within = λ n h. elim (cases_lt n (length bytes)) [
        | inl below ↦ omega (arith, ap newlines (take-append-le n bytes text (omega arith)), m.within n below, length-append lines (line ∷ []))
        | inr past ↦
            (let k = n - length bytes in
            let is : length bytes + k ≡ n = omega arith in
            let part : take n (bytes ++ text) ≡ bytes ++ take k text = ap (λ (j : ℕ). take j (bytes ++ text)) (sym is) ∙ take-append-add bytes text k in
            omega (arith, ap newlines part, newlines-append bytes (take k text), newlines-part text k one (omega (arith, length-append bytes text)), m.counted, length-append lines (line ∷ [])))
      ];
    }

-- a writer that stopped within some answers stopped within more of them
pub stops_more : (answers more : List Answer) (old new : Option (List ℕ)) (line : ℕ) → StopsIn answers old new line → StopsIn (answers ++ more) old new line
stops_more answers more old new line stops = record {
  before = stops.before;
  answer = stops.answer;
  later = stops.later ++ more;
  order = ap (λ (a : List Answer). a ++ more) stops.order ∙ append_assoc stops.before (stops.answer ∷ stops.later) more;
  taken = stops.taken;
  left = stops.left;
  text = stops.text;
  some = stops.some;
  written = stops.written;
  at = stops.at;
}
