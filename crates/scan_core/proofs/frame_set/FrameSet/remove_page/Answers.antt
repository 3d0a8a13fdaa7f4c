use Rattle.std.proofs.Common.{◌/◌, ap, arith}
use Rattle.scan_core.specs.FrameSet.{FrameNumbers}
use Rattle.scan_core.proofs.SetSteps.{set_paged}
use Rattle.scan_core.proofs.frame_set.FrameSet.remove_page.Goals as goal

pub invariant_of-self : goal.invariant_of-self
invariant_of-self c =
    set_paged c.self.inside c.self.invariant c.remove_page.new.self (c.get-block.result / 512) _ c.get.result (omega (arith, c.get-block.ensures.value, c.requires.within, ap (λ (s : FrameNumbers). s.bound) c.self.view_is)) c.get.ensures.count c.remove_page.ensures.unmovable c.remove_page.ensures.regrouped
