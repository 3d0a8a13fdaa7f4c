use Rattle.std.proofs.Common.{◌≡◌, ℕ, ◌*◌, Bool, List, true, length, replicate, refl, sym, ap, subst, ◌∙◌, arith}
use Rattle.std.proofs.lemmas.List.{length-set}
use Rattle.frame_core.specs.BlankFrames.{AreBlank}
use Rattle.frame_core.specs.Words.{rows_of, with_words}
use Rattle.frame_core.proofs.BlankFrames.{blank_too, words_given, words_kept}
use Rattle.frame_core.proofs.FlatRows.{length-rows_of, one_changed}
use Rattle.frame_core.proofs.LentFrames.{only_rows}
use Rattle.frame_core.proofs.words.Words.blank.Goals as goal

pub contains-requires : goal.contains-requires
contains-requires g c = omega (arith, c.requires.frame, c.self.invariant.3, ap (λ s. length s.rows) c.self.view_is, length-rows_of g.row.W c.self.inside.frames c.self.inside.ground.words)

pub insert-requires : goal.insert-requires
insert-requires g c =
    let after = c.self-then-not-contains in
    omega (arith, c.requires.frame, after.invariant.3, ap (λ s. length s.rows) after.view_is, length-rows_of g.row.W after.inside.frames after.inside.ground.words, c.blank_block.ensures.blank.count)

pub invariant_of-self : goal.invariant_of-self
invariant_of-self g c =
    let after = c.self-then-not-contains in
    let one : 1 * g.row.W ≡ g.row.W = omega arith in
    let rows = rows_of g.row.W after.inside.frames after.inside.ground.words in
    let written = ap (λ s. s.rows) after.view_is
    ∙ one_changed c.args.self.now.rows c.blank_block.new.self.rows c.args.frame _ c.requires.frame c.blank_block.ensures.blank
    ∙ ap (λ (n : ℕ). with_words c.args.self.now.rows c.args.frame (replicate n 0)) one in
    let blank = words_given c.args.self.now.rows rows c.args.frame _ written c.requires.frame in (
      after.invariant.0,
      after.invariant.1,
      after.invariant.2,
      ap length c.insert.ensures ∙ length-set after.inside.blank_frames c.args.frame true ∙ after.invariant.3,
      subst (λ (frames : List Bool). AreBlank g.row.W frames rows) (sym c.insert.ensures) (blank_too g.row.W after.inside.blank_frames rows c.args.frame blank after.invariant.4),
      after.invariant.5,
    )

pub returns-then-not-contains-clause-blank : goal.returns-then-not-contains-clause-blank
returns-then-not-contains-clause-blank g c =
    let one : 1 * g.row.W ≡ g.row.W = omega arith in
    let after = c.self-then-not-contains.view_is in
    let lent = c.blank_block.ensures.lent in
    only_rows c.args.self.now _ _ (ap (λ s. s.at) after ∙ lent.0, ap (λ s. s.lent) after ∙ lent.1, ap (λ s. s.given) after ∙ lent.2)
    (ap (λ s. s.rows) after
    ∙ one_changed c.args.self.now.rows c.blank_block.new.self.rows c.args.frame _ c.requires.frame c.blank_block.ensures.blank
    ∙ ap (λ (n : ℕ). with_words c.args.self.now.rows c.args.frame (replicate n 0)) one)

pub returns-else-not-contains-clause-blank : goal.returns-else-not-contains-clause-blank
returns-else-not-contains-clause-blank g c =
    let known = sym c.contains.ensures ∙ c.if-not-contains.false in
    only_rows c.args.self.now c.args.self.now _ (refl, refl, refl)
    (words_kept c.args.self.now.rows c.args.frame _ (subst (λ s. AreBlank g.row.W c.self.inside.blank_frames s.rows) c.self.view_is c.self.invariant.4 c.args.frame known))
