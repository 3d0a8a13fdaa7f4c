use Rattle.std.proofs.Common.{ℕ, true, length, replicate, sym, ap, subst, ◌*◌, ◌∙◌}
use Rattle.std.proofs.lemmas.Option.{IfSome_then}
use Rattle.frame_core.specs.LentWords.{NoneLent}
use Rattle.frame_core.specs.Words.{rows_of}
use Rattle.frame_core.proofs.FlatRows.{length-rows_of}
use Rattle.frame_core.proofs.LentFrames.{all_here}
use Rattle.frame_core.proofs.words.Words.end.Goals as goal

pub end-requires : goal.end-requires
end-requires g c =
    c.self.invariant.2
    ∙ all_here g.row.W c.self.inside.lent_frames (subst NoneLent (sym c.self.view_is) c.requires)
    ∙ ap (λ (k : ℕ). replicate (k * g.row.W) true) c.self.invariant.5
    ∙ ap (λ (k : ℕ). replicate k true) (sym c.self.invariant.1)

pub returns-clause-count : goal.returns-clause-count
returns-clause-count g c =
    let frames = sym (length-rows_of g.row.W c.self.inside.frames c.self.inside.ground.words) ∙ ap (λ s. length s.rows) c.self.view_is in
    IfSome_then c.end.result c.end.ensures.row (λ row is. ap length is.1 ∙ c.self.invariant.1 ∙ ap (λ (k : ℕ). k * g.row.W) frames)

pub returns-clause-rows : goal.returns-clause-rows
returns-clause-rows g c =
    let frames = sym (length-rows_of g.row.W c.self.inside.frames c.self.inside.ground.words) ∙ ap (λ s. length s.rows) c.self.view_is in
    IfSome_then c.end.result c.end.ensures.row
    (λ row is. ap (λ (k : ℕ). rows_of g.row.W k row.words) (sym frames) ∙ ap (rows_of g.row.W c.self.inside.frames) is.1 ∙ ap (λ s. s.rows) c.self.view_is)
