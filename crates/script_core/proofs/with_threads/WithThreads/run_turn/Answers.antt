use Rattle.std.proofs.Common.{List, ap, subst, sym, ◌∙◌}
use Rattle.std.proofs.lemmas.Option.{MatchOption-at_none, MatchOption-at_some}
use Rattle.client_core.specs.Receipts.{IsToldBeside}
use Rattle.state_core.specs.ZoneState.{ZoneState}
use Rattle.zone_core.specs.Seats.{audit_refusal}
use Rattle.text_core.specs.Script.{Answer}
use Rattle.script_core.specs.Clients.{AreClientAnswers}
use Rattle.script_core.specs.WithThreads.{WithThreads, left_by}
use Rattle.script_core.proofs.Rounds.{nothing_ran, round_over}
use Rattle.script_core.proofs.with_threads.WithThreads.run_turn.Goals as goal

pub returns-in_default-clause-none : goal.returns-in_default-clause-none
returns-in_default-clause-none g c =
    let ran = c.compact_beside-zone in
    nothing_ran c.args.world c.args.self.now c.take_back.new.self _ ran.result.0 _ ran.new.seats c.parts_of-zone.ensures.split (MatchOption-at_none _ _ c.in_default.is ran.ensures.ran)
    c.args.turn.client c.requires.client ran.ensures.added ran.ensures.kept ran.ensures.identity c.take_back.ensures.left

pub returns-clause-played : goal.returns-clause-played
returns-clause-played g c =
    let ran = c.compact_beside-zone in
    let seats = ran.new.seats in
    let both = c.in-Some.both in
    let run = MatchOption-at_some _ _ both c.in-Some.is ran.ensures.ran in
    let split = c.parts_of-zone.ensures.split in
    record {
      over = round_over c.args.world _ ran.result.0 _ seats both.round split ran.ensures.kept ran.ensures.identity run.round run.early c.take_back-2.ensures.exact;
      client_after = both.client;
      added = subst (λ (z : ZoneState). IsToldBeside c.args.turn.client both.client z.records ran.result.0.records) split.same_zone
          (MatchOption-at_some _ _ both c.in-Some.is ran.ensures.told);
      clients = subst (λ (told : List Answer). AreClientAnswers c.args.turn.client c.args.turn.lines.items told both.client) (sym c.settle-told.ensures.answers) run.played;
      settled = c.settle-told.ensures.reply;
      left = c.take_back-2.ensures.left
          ∙ ap (λ (t : WithThreads). left_by t.single.places t.client ran.result.0 seats.scan seats.ends (audit_refusal ran.result.0 seats.ends)) c.settle-told.ensures.client;
    }
