use Rattle.std.proofs.Common.{◌≡◌, ℕ, Bool, false, subst, sym}
use Rattle.std.specs.Prelude.{◌↔◌, IsTrue}
use Rattle.frame_core.specs.FrameSet.{has_frame}
use Rattle.frame_core.specs.LentWords.{Words, NoneLent}
use Rattle.frame_core.proofs.FrameSets.{none_tells}
use Rattle.frame_core.proofs.words.Words.lends_none.Goals as goal

pub returns : goal.returns
returns g c =
    subst (λ (w : Words). IsTrue c.is_empty.result ↔ NoneLent w) c.self.view_is
    (subst (λ (b : Bool). IsTrue b ↔ ((frame : ℕ) → has_frame c.self.inside.lent_frames frame ≡ false)) (sym c.is_empty.ensures) (none_tells c.self.inside.lent_frames))
