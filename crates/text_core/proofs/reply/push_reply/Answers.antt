use Rattle.std.proofs.Common.{◌≡◌, ◌∙◌, ◌++◌, [], List, ℕ, append_assoc, append-nil, refl, sym, ap, decimal, arith}
use Rattle.std.specs.Prelude.{codes}
use Rattle.text_core.specs.Reply.{counts_text, look_text, pool_text, round_text, text_of}
use Rattle.text_core.proofs.Newlines.{text_lines}
use Rattle.text_core.proofs.reply.push_reply.Goals as goal
use Rattle.text_core.proofs.reply.push_reply.Goals.{in-Value, in-Info, in-InfoWithHeld, in-Serial, in-Met, in-Moved, in-PutBack, in-Shut, in-Looked, in-Block, in-HandedOut, in-AllDone, in-DoneUntil, in-Round, in-Pool, in-Refused}

-- the text with one more field
field_more : (old text before after name : List ℕ) (n m : ℕ) → before ≡ old ++ text → after ≡ before ++ name ++ decimal n → n ≡ m → after ≡ old ++ (text ++ name ++ decimal m)
field_more old text before after name n m so_far more same =
    more ∙ ap (λ (k : ℕ). before ++ name ++ decimal k) same
    ∙ ap (λ (r : List ℕ). r ++ name ++ decimal m) so_far ∙ ap (λ (r : List ℕ). r ++ decimal m) (append_assoc old text name) ∙ append_assoc old (text ++ name) (decimal m)

-- one field and what comes after it
one_field : (old after name rest : List ℕ) (n m : ℕ) → after ≡ old ++ name ++ decimal n → n ≡ m → after ++ rest ≡ old ++ (name ++ decimal m ++ rest)
one_field old after name rest n m more same =
    ap (λ (r : List ℕ). r ++ rest) (field_more old [] old after name n m (sym (append-nil old)) more same) ∙ append_assoc old (name ++ decimal m) rest

pub returns-clause-text : goal.returns-clause-text
returns-clause-text g c =
    let old = c.args.text.now.bytes in
    let all = c.push_str-2.ensures.bytes in
    elim c.match-reply.branch [
      | in-Value w ↦
          all ∙ ap (λ t. t.bytes ++ codes "\n") w.text-is
          ∙ one_field old (w.push_field.new.text.bytes) (codes "value=") (codes "\n") w.in-Value.value w.in-Value.value w.push_field.ensures.text refl
          ∙ ap (λ r. old ++ text_of r) (sym w.in-Value.is)
      | in-Info w ↦
          all ∙ ap (λ t. t.bytes ++ codes "\n") w.text-is
          ∙ ap (λ (r : List ℕ). r ++ codes "\n") w.push_counts.ensures.text ∙ append_assoc old (counts_text w.in-Info.info) (codes "\n") ∙ ap (λ r. old ++ text_of r) (sym w.in-Info.is)
      | in-InfoWithHeld w ↦
          let i = w.in-InfoWithHeld.info in
          let counts : List ℕ = counts_text i in
          let held : List ℕ = counts ++ codes " held=" ++ decimal i.held in
          let to_held : w.push_field-in-InfoWithHeld.new.text.bytes ≡ old ++ held = field_more old counts (w.push_counts-in-InfoWithHeld.new.text.bytes) (w.push_field-in-InfoWithHeld.new.text.bytes) (codes " held=") w.from.result i.held w.push_counts-in-InfoWithHeld.ensures.text w.push_field-in-InfoWithHeld.ensures.text (omega (arith, w.from.ensures)) in
          all ∙ ap (λ t. t.bytes ++ codes "\n") w.text-is ∙ ap (λ (r : List ℕ). r ++ codes "\n") to_held ∙ append_assoc old held (codes "\n") ∙ ap (λ r. old ++ text_of r) (sym w.in-InfoWithHeld.is)
      | in-Serial w ↦
          all ∙ ap (λ t. t.bytes ++ codes "\n") w.text-is
          ∙ one_field old (w.push_field-in-Serial.new.text.bytes) (codes "serial=") (codes "\n") w.in-Serial.serial w.in-Serial.serial w.push_field-in-Serial.ensures.text refl
          ∙ ap (λ r. old ++ text_of r) (sym w.in-Serial.is)
      | in-Met w ↦
          all ∙ ap (λ t. t.bytes ++ codes "\n") w.text-is
          ∙ ap (λ (r : List ℕ). r ++ codes "\n") w.push_str-in-Met.ensures.bytes ∙ append_assoc old (codes "met") (codes "\n") ∙ ap (λ r. old ++ text_of r) (sym w.in-Met.is)
      | in-Moved w ↦
          all ∙ ap (λ t. t.bytes ++ codes "\n") w.text-is
          ∙ one_field old (w.push_field-in-Moved.new.text.bytes) (codes "moved serial=") (codes "\n") w.in-Moved.serial w.in-Moved.serial w.push_field-in-Moved.ensures.text refl
          ∙ ap (λ r. old ++ text_of r) (sym w.in-Moved.is)
      | in-PutBack w ↦
          let told = w.push_field-in-PutBack.new.text.bytes in
          all ∙ ap (λ t. t.bytes ++ codes "\n") w.text-is ∙ ap (λ (r : List ℕ). r ++ codes "\n") w.push_str-in-PutBack.ensures.bytes ∙ append_assoc told (codes " cause=1") (codes "\n")
          ∙ one_field old told (codes "back serial=") (codes " cause=1\n") w.in-PutBack.serial w.in-PutBack.serial w.push_field-in-PutBack.ensures.text refl
          ∙ ap (λ r. old ++ text_of r) (sym w.in-PutBack.is)
      | in-Shut w ↦
          all ∙ ap (λ t. t.bytes ++ codes "\n") w.text-is
          ∙ one_field old (w.push_field-in-Shut.new.text.bytes) (codes "back=") (codes "\n") w.from-in-Shut.result w.in-Shut.count w.push_field-in-Shut.ensures.text (omega (arith, w.from-in-Shut.ensures))
          ∙ ap (λ r. old ++ text_of r) (sym w.in-Shut.is)
      | in-Looked w ↦
          all ∙ ap (λ t. t.bytes ++ codes "\n") w.text-is
          ∙ ap (λ (r : List ℕ). r ++ codes "\n") w.push_look.ensures.text ∙ append_assoc old (look_text w.in-Looked.look) (codes "\n") ∙ ap (λ r. old ++ text_of r) (sym w.in-Looked.is)
      | in-Block w ↦
          all ∙ ap (λ t. t.bytes ++ codes "\n") w.text-is
          ∙ one_field old (w.push_field-in-Block.new.text.bytes) (codes "block=") (codes "\n") w.from-in-Block.result w.in-Block.block w.push_field-in-Block.ensures.text (omega (arith, w.from-in-Block.ensures, w.get.ensures.value))
          ∙ ap (λ r. old ++ text_of r) (sym w.in-Block.is)
      | in-HandedOut w ↦
          let first : List ℕ = codes "frame=" ++ decimal w.in-HandedOut.first in
          let to_first : w.push_field-in-HandedOut.new.text.bytes ≡ old ++ first = field_more old [] old (w.push_field-in-HandedOut.new.text.bytes) (codes "frame=") w.from-in-HandedOut.result w.in-HandedOut.first (sym (append-nil old)) w.push_field-in-HandedOut.ensures.text (omega (arith, w.from-in-HandedOut.ensures, w.get-in-HandedOut.ensures.value)) in
          let order : List ℕ = first ++ codes " order=" ++ decimal w.in-HandedOut.order in
          let to_order : w.push_field-in-HandedOut-2.new.text.bytes ≡ old ++ order = field_more old first (w.push_field-in-HandedOut.new.text.bytes) (w.push_field-in-HandedOut-2.new.text.bytes) (codes " order=") w.from-in-HandedOut-2.result w.in-HandedOut.order to_first w.push_field-in-HandedOut-2.ensures.text (omega (arith, w.from-in-HandedOut-2.ensures, w.get-in-HandedOut-2.ensures.value)) in
          all ∙ ap (λ t. t.bytes ++ codes "\n") w.text-is ∙ ap (λ (r : List ℕ). r ++ codes "\n") to_order ∙ append_assoc old order (codes "\n") ∙ ap (λ r. old ++ text_of r) (sym w.in-HandedOut.is)
      | in-AllDone w ↦
          all ∙ ap (λ t. t.bytes ++ codes "\n") w.text-is
          ∙ one_field old (w.push_field-in-AllDone.new.text.bytes) (codes "done=") (codes "\n") w.from-in-AllDone.result w.in-AllDone.done w.push_field-in-AllDone.ensures.text (omega (arith, w.from-in-AllDone.ensures))
          ∙ ap (λ r. old ++ text_of r) (sym w.in-AllDone.is)
      | in-DoneUntil w ↦
          let done : List ℕ = codes "done=" ++ decimal w.in-DoneUntil.done in
          let to_done : w.push_field-in-DoneUntil.new.text.bytes ≡ old ++ done = field_more old [] old (w.push_field-in-DoneUntil.new.text.bytes) (codes "done=") w.from-in-DoneUntil.result w.in-DoneUntil.done (sym (append-nil old)) w.push_field-in-DoneUntil.ensures.text (omega (arith, w.from-in-DoneUntil.ensures)) in
          let refused : List ℕ = done ++ codes " refused=" ++ decimal w.in-DoneUntil.refusal in
          let to_refused : w.push_field-in-DoneUntil-2.new.text.bytes ≡ old ++ refused = field_more old done (w.push_field-in-DoneUntil.new.text.bytes) (w.push_field-in-DoneUntil-2.new.text.bytes) (codes " refused=") w.from-in-DoneUntil-2.result w.in-DoneUntil.refusal to_done w.push_field-in-DoneUntil-2.ensures.text (omega (arith, w.from-in-DoneUntil-2.ensures)) in
          all ∙ ap (λ t. t.bytes ++ codes "\n") w.text-is ∙ ap (λ (r : List ℕ). r ++ codes "\n") to_refused ∙ append_assoc old refused (codes "\n") ∙ ap (λ r. old ++ text_of r) (sym w.in-DoneUntil.is)
      | in-Round w ↦
          let told : List ℕ = round_text w.in-Round.isolated w.in-Round.moved w.in-Round.back w.in-Round.stopped in
          all ∙ ap (λ t. t.bytes ++ codes "\n") w.text-is ∙ ap (λ (r : List ℕ). r ++ codes "\n") w.push_round.ensures.text ∙ append_assoc old told (codes "\n") ∙ ap (λ r. old ++ text_of r) (sym w.in-Round.is)
      | in-Pool w ↦
          let told : List ℕ = pool_text w.in-Pool.blocks w.in-Pool.got.items w.in-Pool.rounds w.in-Pool.stopped in
          all ∙ ap (λ t. t.bytes ++ codes "\n") w.text-is ∙ ap (λ (r : List ℕ). r ++ codes "\n") (w.push_pool.ensures.text ∙ ap (λ (got : List ℕ). old ++ pool_text w.in-Pool.blocks got w.in-Pool.rounds w.in-Pool.stopped) w.as_slice.ensures.value)
          ∙ append_assoc old told (codes "\n") ∙ ap (λ r. old ++ text_of r) (sym w.in-Pool.is)
      | in-Refused w ↦
          all ∙ ap (λ t. t.bytes ++ codes "\n") w.text-is
          ∙ one_field old (w.push_field-in-Refused.new.text.bytes) (codes "refused ") (codes "\n") w.from-in-Refused.result w.in-Refused.number w.push_field-in-Refused.ensures.text (omega (arith, w.from-in-Refused.ensures))
          ∙ ap (λ r. old ++ text_of r) (sym w.in-Refused.is)
    ]

pub returns-in-Done-clause-line : goal.returns-in-Done-clause-line
returns-in-Done-clause-line g c = text_lines c.args.reply.now

pub returns-clause-line : goal.returns-clause-line
returns-clause-line g c = text_lines c.args.reply.now
