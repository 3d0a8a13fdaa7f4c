-- What was read so far, and the whole input.
use Rattle.std.proofs.Common.{◌≡◌, ℕ, ◌-◌, ◌<◌, ◌≤◌, Bool, false, List, [], ◌∷◌, ◌++◌, length, take, refl, sym, ap, subst, inl, inr, ◌∙◌, ◌+◌, append-nil, arith, Option, Some, None}
use Rattle.std.specs.Prelude.{IfSome, nat_lt, if◌then◌else◌}
use Rattle.std.proofs.lemmas.Bool.Decides.{nat_tests}
use Rattle.std.specs.Io.KnownBytes.{Consumes, IsAtEnd}
use Rattle.std.proofs.KnownBytes.{Consumes-trans}
use Rattle.text_core.specs.declared.fault.RunError.{RunError}
use Rattle.text_core.specs.declared.fault.Fault.TheVariants.{Syntax, LongLine}
use Rattle.text_core.specs.declared.totals.Totals.{Totals}
use Rattle.text_core.specs.Runs.{Rule, Begins, Replied}
use Rattle.text_core.specs.Reply.{newlines}
use Rattle.text_core.specs.Script.{IsOfEnd, Numbered, Reading, commands_from, commands_of, cut_fault, fault_from, fault_of, open_fault, reading_of}
use Rattle.text_core.specs.ScriptRunner.{ScriptRunner, Finishes, HasRead}
use Rattle.text_core.proofs.Lines.{parts-end, reading-end}
use Rattle.text_core.proofs.Newlines.{newlines-append}
use Rattle.std.specs.Option.{option_or}
use Rattle.text_core.proofs.Reading.{begins_of, whole_is}

pub commands_end : {S : Type 0} (may : Rule S) (start : S) (s : ScriptRunner S) (input : List ℕ) (first now : Option (List ℕ)) → (r : HasRead may start s input first now) → commands_of input ≡ r.before
commands_end may start s input first now r =
    ap commands_of r.split ∙ r.commands s.held ∙ ap (λ (ps : List (List ℕ)). r.before ++ commands_from s.reading s.line ps) (parts-end s.held r.unbroken) ∙ append-nil r.before

pub fault_end : {S : Type 0} (may : Rule S) (start : S) (s : ScriptRunner S) (input : List ℕ) (first now : Option (List ℕ)) → (r : HasRead may start s input first now) → fault_of input ≡ option_or (cut_fault s.line s.held) (open_fault s.reading.block)
fault_end may start s input first now r = ap fault_of r.split ∙ r.fault s.held ∙ ap (fault_from s.reading s.line) (parts-end s.held r.unbroken)

-- how the line after the input would be read
pub reading_end : {S : Type 0} (may : Rule S) (start : S) (s : ScriptRunner S) (input : List ℕ) (first now : Option (List ℕ)) → (r : HasRead may start s input first now) → reading_of input ≡ s.reading
reading_end may start s input first now r = ap reading_of r.split ∙ r.reading s.held ∙ reading-end s.reading s.line s.held r.unbroken

-- replies to commands are replies to the same commands under another name
abbrev pub begins_same : {S : Type 0} (may : Rule S) (start : S) (commands same : List Numbered) → commands ≡ same → Begins may start commands → Begins may start same
begins_same may start commands same is b = record {
  answers = b.answers;
  after = b.after;
  replied = (let R : List Numbered → Type 0 = λ cs. Replied may start cs b.answers b.after in subst R is b.replied);
}

-- the commands of the input were answered where all of it was read
abbrev pub begins_end : {S : Type 0} (may : Rule S) (start : S) (s : ScriptRunner S) (input : List ℕ) (first now : Option (List ℕ)) → HasRead may start s input first now → Begins may start (commands_of input)
begins_end may start s input first now r =
    begins_same may start r.before (commands_of input) (sym (commands_end may start s input first now r)) (begins_of may start s input first now r)

-- an input that ends with this fault, or with none
abbrev pub read_ends : {S : Type 0} (may : Rule S) (start : S) (s : ScriptRunner S) (input : List ℕ) (found : Option RunError) (first now : Option (List ℕ)) → HasRead may start s input first now → option_or (cut_fault s.line s.held) (open_fault s.reading.block) ≡ found → Finishes may start s input found first now
read_ends may start s input found first now r is = record {
  fault = fault_end may start s input first now r ∙ is;
  begins = begins_end may start s input first now r;
  owes = r.owes;
}

pub lines_end : {S : Type 0} (may : Rule S) (start : S) (s : ScriptRunner S) (input : List ℕ) (first now : Option (List ℕ)) → HasRead may start s input first now → s.held ≡ [] → s.line - 1 ≡ newlines input
lines_end may start s input first now r none = omega (arith, r.line, ap newlines (whole_is may start s input first now r none))

pub cut_is : (line : ℕ) (cut : List ℕ) → 0 < length cut → length cut ≤ 200 → cut_fault line cut ≡ Some (record { fault = Syntax; line = line })
cut_is line [] some short = absurd (omega arith)
cut_is line (b ∷ bytes) some short =
    let few : nat_lt 200 (length (b ∷ bytes)) ≡ false = grind (arith, nat_tests) in
    ap (λ (t : Bool). Some (record { fault = if t then LongLine else Syntax; line = line })) few

-- what was read has no fault except those that an end there would make
pub read_clean : {S : Type 0} (may : Rule S) (start : S) (s : ScriptRunner S) (past : List ℕ) (first now : Option (List ℕ)) → HasRead may start s past first now → IfSome (fault_of past) (IsOfEnd past)
read_clean may start s past first now r = by_held s.held refl where
  open_is : open_fault (reading_of past).block ≡ open_fault s.reading.block
  open_is = ap (λ (q : Reading). open_fault q.block) (reading_end may start s past first now r)

  line_is : s.line ≡ newlines past + 1
  line_is = omega (arith, r.line, ap newlines r.split, newlines-append r.whole s.held, r.unbroken)

  by_open : (o : Option RunError) → open_fault (reading_of past).block ≡ o → IfSome o (IsOfEnd past)
  by_open None is = tt
  by_open (Some e) is = inr is

  by_held : (held : List ℕ) → s.held ≡ held → IfSome (fault_of past) (IsOfEnd past)
  by_held [] is = rw (fault_end may start s past first now r ∙ ap (λ h. option_or (cut_fault s.line h) (open_fault s.reading.block)) is) (by_open (open_fault s.reading.block) open_is)
  by_held (b ∷ bytes) is = rw (fault_end may start s past first now r ∙ ap (λ o. option_or o (open_fault s.reading.block)) (cut_is s.line s.held (omega (arith, ap length is)) r.short))
      (inl (ap (λ (n : ℕ). record { fault = Syntax; line = n }) line_is))

pub consumed : (left left_new : Option (List ℕ)) (input past : List ℕ) → left ≡ Some input → Consumes left left_new past → (rest : List ℕ) × (left_new ≡ Some rest) × (input ≡ past ++ rest)
consumed None left_new input past e took = cc
consumed (Some xs) None input past e took = absurd took
consumed (Some xs) (Some ys) input past e took = (ys, refl, (let same : input ≡ xs = cc in same ∙ took))

consumed_all : (left left_new : Option (List ℕ)) (input past : List ℕ) → left ≡ Some input → Consumes left left_new past → IsAtEnd left_new → past ≡ input
consumed_all None left_new input past e took end = cc
consumed_all (Some xs) None input past e took end = absurd took
consumed_all (Some xs) (Some ys) input past e took end = let same : input ≡ xs = cc in sym (append-nil past) ∙ ap (λ (r : List ℕ). past ++ r) (sym end) ∙ sym took ∙ sym same

-- an input that was read to its end
pub end_finishes : {S : Type 0} (may : Rule S) (start : S) (s : ScriptRunner S) (past input : List ℕ) (left mid left_new first now : Option (List ℕ)) → left ≡ Some input → Consumes left mid past → Consumes mid left_new [] → IsAtEnd left_new → HasRead may start s past first now → HasRead may start s input first now
end_finishes may start s past input left mid left_new first now known took none end h =
    let R : List ℕ → Type 0 = λ p. HasRead may start s p first now in
    subst R (sym (append-nil past) ∙ consumed_all left left_new input (past ++ []) known (Consumes-trans left mid left_new past [] took none) end) h

pub took_none : (left left_new : Option (List ℕ)) (n : ℕ) (buffer : List ℕ) → n ≡ 0 → Consumes left left_new (take n buffer) → Consumes left left_new []
took_none left left_new n buffer e took = let P : ℕ → Type 0 = λ k. Consumes left left_new (take k buffer) in subst P e took

pub totals_are : (lines lines' replies replies' : ℕ) → lines ≡ lines' → replies ≡ replies' → ◌≡◌ {A = Totals} (record { lines = lines; replies = replies }) (record { lines = lines'; replies = replies' })
totals_are lines lines' replies replies' l r = ap (λ (n : ℕ). record { lines = n; replies = replies }) l ∙ ap (λ (n : ℕ). record { lines = lines'; replies = n }) r
