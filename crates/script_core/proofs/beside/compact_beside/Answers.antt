use Rattle.std.proofs.Common.{Some, refl, sym, ap, ◌∙◌}
use Rattle.client_core.proofs.Since.{told_if, told_newer_first}
use Rattle.hand_core.specs.Told.{Told}
use Rattle.round_core.proofs.Beside.{added_none}
use Rattle.script_core.proofs.beside.compact_beside.Goals as goal

pub compact_with_turn-requires-clause-keeps : goal.compact_with_turn-requires-clause-keeps
compact_with_turn-requires-clause-keeps g c = λ lives within. added_none c.args.turn.client.number c.args.zone.records

pub compact_with_turn-requires-clause-told : goal.compact_with_turn-requires-clause-told
compact_with_turn-requires-clause-told g c =
    λ lives within. told_newer_first c.args.stub.pair c.args.turn.client.number c.args.zone.records c.args.stub refl c.requires.pair.1

pub compact_with_turn-requires-clause-slip : goal.compact_with_turn-requires-clause-slip
compact_with_turn-requires-clause-slip g c =
    λ lives within. (ap (λ (t : Told). Some t.pair) (sym c.requires.pair.0), ap (λ (t : Told). t.records) c.requires.pair.0 ∙ c.requires.pair.1)

pub returns-clause-told : goal.returns-clause-told
returns-clause-told g c =
    told_if (λ both. both.client) c.args.stub.pair c.args.zone.records c.compact_with_turn.result.0.records c.args.turn.client
    c.compact_with_turn.ensures.keeps c.compact_with_turn.result.1 c.compact_with_turn.ensures.told
