use Rattle.std.proofs.Common.{◌++◌, ◌∷◌, [], List, take, sym, ap, subst, ◌∙◌, arith, rules}
use Rattle.std.proofs.lemmas.List.{take_more}
use Rattle.state_core.specs.declared.call.ZoneCall.{ZoneCall}
use Rattle.text_core.specs.declared.reply.Reply.{Reply}
use Rattle.std.specs.Prelude.{Option}
use Rattle.script_core.specs.Clients.{AreClientAnswers, IsClientReply}
use Rattle.text_core.specs.Script.{Answer, ClientLine}
use Rattle.script_core.proofs.ClientAnswers.{client_answers_more, still_allowed}
use Rattle.script_core.proofs.beside.play_lines.Goals as goal

pub loop-line-preserved : goal.loop-line-preserved
loop-line-preserved g c =
    let items = c.deref-line-items.result.now in
    let i = c.loop-line.line-index in
    let line = c.line-item.result in
    let old = c.args.turn.client in
    let mid = c.loop-line.client in
    let new = c.reply_to-reply.new.client in
    let here = subst (λ (r : Reply). IsClientReply mid line.call r new) (sym (ap (λ (a : Answer). a.reply) c.new.ensures))
    (subst (λ (k : Option (ZoneCall 8)). IsClientReply mid k c.reply_to-reply.result new) c.call.ensures c.reply_to-reply.ensures) in
    let more = client_answers_more old mid new (take i items) c.loop-line.answers.items line c.new.result c.loop-line.invariant.played
    (ap (λ (a : Answer). a.line) c.new.ensures ∙ c.line.ensures) here in
    let len = c.push_reserved.ensures.len in
    let count = c.loop-line.invariant.count in
    record {
      allowed = still_allowed (λ number. g.K.Keeping.allows number g.J.Telling.pair) mid new _ c.reply_to-reply.result c.reply_to-reply.ensures c.loop-line.invariant.allowed;
      played = subst (λ (ls : List ClientLine). AreClientAnswers old ls c.push_reserved.new.self.items new)
          (sym (take_more items i line c.loop-line-test.true ∙ ap (λ (d : ClientLine). take i items ++ d ∷ []) (sym c.line-item.is)))
          (subst (λ (told : List Answer). AreClientAnswers old (take i items ++ line ∷ []) told new) (sym c.push_reserved.ensures.items) more);
      count = omega (arith, len, count);
      room = search rules;
    }
