use Rattle.std.proofs.Common.{◌∙◌, ◌≡◌, ℕ, ◌*◌, ◌^◌, List, length, subst, sym}
use Rattle.std.specs.Fn.{FnOnceReturnsAtMut}
use Rattle.state_core.specs.Contents.{contents_of, contents_written}
use Rattle.state_core.specs.Pairs.{HaveMet}
use Rattle.state_core.specs.ZoneState.{ZoneState}
use Rattle.state_core.proofs.Contents.{met_contents_written}
use Rattle.zone_core.proofs.bare.BareZone.with_block.Goals as goal

pub returns-clause-ok : goal.returns-clause-ok
returns-clause-ok g c =
    subst (λ (v : ZoneState). (words : List ℕ) × (length words ≡ 2 ^ c.args.order * v.page_size) × FnOnceReturnsAtMut g.F.FnOnce c.args.change (contents_of v c.args.first) c.with_block.result words × (c.with_block.new.self ≡ contents_written v c.args.first 0 words))
    (c.deref_mut.ensures.value ∙ c.self.view_is) c.with_block.ensures.changed

pub returns-clause-met : goal.returns-clause-met
returns-clause-met g c met =
    let step = c.with_block.ensures.changed.3 in
    subst HaveMet (sym step)
    (met_contents_written c.deref_mut.result.now c.args.first 0 c.with_block.ensures.changed.0 (subst HaveMet (sym (c.deref_mut.ensures.value ∙ c.self.view_is)) met))
