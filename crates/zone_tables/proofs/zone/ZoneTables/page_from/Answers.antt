use Rattle.std.proofs.Common.{◌≡◌, ◌∙◌, sym, arith}
use Rattle.frame_core.specs.declared.state.FrameState.TheVariants.{Source}
use Rattle.zone_tables.proofs.Facts.{is_sound}
use Rattle.zone_tables.proofs.Tables.{source_of_page, source_seen}
use Rattle.zone_tables.proofs.zone.ZoneTables.page_from.Goals as goal

pub state-requires : goal.state-requires
state-requires g c = omega (arith, c.requires, (is_sound c.self.view_is c.self.invariant).frames.count)

pub returns-in-Source : goal.returns-in-Source
returns-in-Source g c =
    let sound = is_sound c.self.view_is c.self.invariant in
    record {
      some = source_seen c.self.inside.frames.states c.args.self.now sound.frames c.args.source c.in-Source.page c.state.result c.requires c.state.ensures c.in-Source.is;
      none = λ e. cc;
    }

pub returns-in_default : goal.returns-in_default
returns-in_default g c =
    record {
      some = tt;
      none = λ e page serial target at.
          (let two = sym c.state.ensures ∙ source_of_page c.self.inside.frames.states c.args.self.now (is_sound c.self.view_is c.self.invariant).frames page serial c.args.source target at in
          let same : c.state.result ≡ Source page = cc in
          c.in_default.not-Source page same);
    }
