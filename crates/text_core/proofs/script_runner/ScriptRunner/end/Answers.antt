use Rattle.std.proofs.Common.{◌≡◌, ◌<◌, ◌-◌, ℕ, List, [], ◌∷◌, length, ap, sym, ◌∙◌, refl, arith, Option, Some, None}
use Rattle.std.specs.Prelude.{option_map}
use Rattle.std.specs.Option.{option_or}
use Rattle.text_core.specs.declared.fault.Fault.TheVariants.{Syntax}
use Rattle.text_core.specs.declared.fault.RunError.{RunError}
use Rattle.text_core.specs.ScriptRunner.{ScriptRunner, Finishes, HasRead}
use Rattle.text_core.specs.Runs.{Rule}
use Rattle.text_core.specs.Script.{Block, cut_fault, open_fault}
use Rattle.text_core.proofs.Inputs.{cut_is, lines_end, read_ends, totals_are}
use Rattle.text_core.proofs.script_runner.ScriptRunner.end.Goals as goal

-- the fault that the end of an input is, given the line at which it is one
module _ {S : Type 0} (may : Rule S) (start : S) (s : ScriptRunner S) (input : List ℕ) (first now : Option (List ℕ)) (r : HasRead may start s input first now)
    (cut : Option ℕ) (held : 0 < length s.held → cut ≡ Some s.line) (block : s.held ≡ [] → cut ≡ option_map (λ b. b.line) s.reading.block) where
  abbrev cut_at : Option ℕ → Option RunError
  cut_at line = option_map (λ n. record { fault = Syntax; line = n }) line

  of_block : (o : Option Block) → open_fault o ≡ cut_at (option_map (λ b. b.line) o)
  of_block None = refl
  of_block (Some b) = refl

  cut_finishes : (line : Option ℕ) → cut ≡ line → Finishes may start s input (cut_at line) first now
  cut_finishes line is = read_ends may start s input (cut_at line) first now r (by_held s.held refl ∙ ap cut_at is) where
    by_held : (h : List ℕ) → s.held ≡ h → option_or (cut_fault s.line s.held) (open_fault s.reading.block) ≡ cut_at cut
    by_held [] none = ap (λ h. option_or (cut_fault s.line h) (open_fault s.reading.block)) none ∙ of_block s.reading.block ∙ ap cut_at (sym (block none))
    by_held (b ∷ bytes) some =
        let long : 0 < length s.held = omega (arith, ap length some) in
        ap (λ o. option_or o (open_fault s.reading.block)) (cut_is s.line s.held long r.short) ∙ ap cut_at (sym (held long))

  none_held : cut ≡ None → s.held ≡ []
  none_held is = by_held s.held refl where
    by_held : (h : List ℕ) → s.held ≡ h → s.held ≡ []
    by_held [] none = none
    by_held (b ∷ bytes) some = (let e = sym (held (omega (arith, ap length some))) ∙ is in cc)

none_of : (o : Option ℕ) → ((n : ℕ) → o ≡ Some n → ⊥) → o ≡ None
none_of None other = refl
none_of (Some n) other = absurd (other n refl)

pub returns-in-Some-clause-err : goal.returns-in-Some-clause-err
returns-in-Some-clause-err g c = λ start input first now read.
    cut_finishes g.A.Respond.may start c.args.self.now input first now read c.cut_line.result c.cut_line.ensures.held c.cut_line.ensures.block (Some c.in-Some.line) c.in-Some.is

pub returns-clause-ok : goal.returns-clause-ok
unfolding cut_finishes
returns-clause-ok g c = λ start input first now read.
    let s = c.args.self.now in
    let may = g.A.Respond.may in
    let cut = c.cut_line.result in
    let is = none_of cut c.in_default.not-Some in (
      cut_finishes may start s input first now read cut c.cut_line.ensures.held c.cut_line.ensures.block None is,
      totals_are _ _ _ _ (ap (λ (t : ScriptRunner _). t.line - 1) c.self.view_is ∙ lines_end may start s input first now read (none_held may start s input first now read cut c.cut_line.ensures.held c.cut_line.ensures.block is)) (ap (λ (t : ScriptRunner _). t.replies) c.self.view_is ∙ read.replies),
    )
