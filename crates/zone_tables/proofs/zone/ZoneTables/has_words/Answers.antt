use Rattle.std.proofs.Common.{◌≡◌, ◌∙◌, sym, arith}
use Rattle.state_core.specs.declared.placement.Placement.TheVariants.{Moving}
use Rattle.state_core.specs.Carrying.{words_now}
use Rattle.frame_core.specs.Words.{words_of}
use Rattle.state_core.proofs.Facts.{frame_within}
use Rattle.zone_tables.proofs.Facts.{is_sound}
use Rattle.zone_tables.proofs.LentBlocks.{source_here}
use Rattle.zone_tables.proofs.Tables.{words_seen}
use Rattle.zone_tables.proofs.zone.ZoneTables.has_words.Goals as goal

pub same-requires : goal.same-requires
same-requires g c =
    let sound = is_sound c.self.view_is c.self.invariant in
    let within = frame_within c.args.self.now sound.valid c.args.way.now.page
    (Moving c.args.way.now.serial c.args.way.now.source c.args.way.now.target) c.requires.placed in
    let here = source_here c.self.inside c.args.self.now sound c.args.way.now.page c.args.way.now.serial c.args.way.now.source c.args.way.now.target c.requires.placed c.requires.here in
    (omega arith, (omega arith, (omega (arith, within, sound.words.count), here)))

pub returns : goal.returns
returns g c =
    let sound = is_sound c.self.view_is c.self.invariant in
    let seen : words_of c.self.inside.words.rows c.args.way.now.source ≡ words_now c.args.self.now c.args.way.now.page =
    words_seen c.self.inside.words.rows c.args.self.now sound.words sound.valid c.args.way.now.page
    (Moving c.args.way.now.serial c.args.way.now.source c.args.way.now.target) c.requires.placed in
    (λ same. sym (c.same.ensures.0 same) ∙ seen, λ same. c.same.ensures.1 (seen ∙ sym same))
