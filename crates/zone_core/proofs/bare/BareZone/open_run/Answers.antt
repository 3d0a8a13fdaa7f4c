use Rattle.std.proofs.Common.{◌∙◌, ap, sym, arith}
use Rattle.std.specs.Prelude.{is_some}
use Rattle.zone_core.proofs.Picking.{told_block, told_cost, told_open}
use Rattle.zone_core.proofs.bare.BareZone.open_run.Goals as goal

pub pages_of-requires : goal.pages_of-requires
pages_of-requires g c = (omega arith, told_block c.args.self.now c.args.order c.args.number c.requires c.deref.result.now (c.deref.ensures ∙ c.self.view_is) c.run_start.result c.run_start.ensures)

pub returns-in_err-pages-clause-open : goal.returns-in_err-pages-clause-open
returns-in_err-pages-clause-open g c =
    ap is_some c.from_residual.ensures ∙ c.in_err-pages.ensures.«open»
    ∙ told_open c.args.self.now c.args.order c.args.number c.requires c.deref.result.now (c.deref.ensures ∙ c.self.view_is) c.run_start.result c.run_start.ensures

pub returns-clause-open : goal.returns-clause-open
returns-clause-open g c =
    c.in_ok-pages.ensures.«open» ∙ told_open c.args.self.now c.args.order c.args.number c.requires c.deref.result.now (c.deref.ensures ∙ c.self.view_is) c.run_start.result c.run_start.ensures

pub returns-clause-run : goal.returns-clause-run
returns-clause-run g c =
    let here = c.deref.ensures ∙ c.self.view_is in
    record {
      within = c.requires;
      opened = sym (c.in_ok-pages.ensures.«open» ∙ told_open c.args.self.now c.args.order c.args.number c.requires c.deref.result.now here c.run_start.result c.run_start.ensures);
      pages = c.in_ok-pages.ensures.pages ∙ told_cost c.args.self.now c.args.order c.args.number c.requires c.deref.result.now here c.run_start.result c.run_start.ensures;
    }
