use Rattle.std.proofs.Common.{rules, refl, ap, inl, inr, arith, ◌∙◌}
use Rattle.std.proofs.lemmas.Option.{MatchOption-at_none}
use Rattle.text_core.specs.Script.{command_in_block}
use Rattle.script_core.specs.WithThreads.{WithThreads}
use Rattle.script_core.proofs.ClientAnswers.{length-client_answers}
use Rattle.script_core.proofs.Rounds.{turn_of}
use Rattle.script_core.proofs.with_threads.WithThreads.run_beside.Goals as goal

pub returns-in_default : goal.returns-in_default
returns-in_default g c = inr (record { one = search rules; nothing = MatchOption-at_none _ _ c.in_default.is c.run_turn.ensures.none })

pub new-requires-3 : goal.new-requires-3
new-requires-3 g c =
    let turn = c.in-Some.ensures.played in
    let lines = c.into_parts-lines.result.0 in
    let same = length-client_answers _ turn.client_after lines.items c.in-Some.answers.items turn.clients in
    let most = c.into_parts-lines.ensures.most in
    omega (arith, same, most, c.in-Some.answers.ok.0, lines.ok.0)

pub returns : goal.returns
returns g c = inl (record {
  told = c.in-Some.answers.items;
  own = c.in-Some.own;
  answers_are = search rules;
  turn = turn_of c.args.world c.args.self.now (command_in_block c.args.block) _ c.in_ok-client.client c.into_parts-lines.result.0.items c.in-Some.answers.items c.in-Some.own c.run_turn.new.self
      refl (c.in_ok-client.ensures ∙ ap (λ (t : WithThreads). t.client) c.self.view_is) c.into_parts-lines.ensures.clients
      c.in-Some.ensures.played;
})

pub run_turn-requires-clause-client : goal.run_turn-requires-clause-client
run_turn-requires-clause-client g c = λ lives within. c.in_ok-client.ensures ∙ ap (λ (t : WithThreads). t.client) c.self.view_is
