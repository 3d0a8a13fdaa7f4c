use Rattle.std.proofs.Common.{◌≡◌, ◌-◌, ◌≤◌, List, length, ap, sym, subst, ◌∙◌, arith}
use Rattle.frame_core.specs.declared.record.Record.{Record}
use Rattle.frame_core.specs.Access.{access_record}
use Rattle.state_core.specs.ZoneState.{is_quiet_since}
use Rattle.zone_tables.specs.History.{History, told_each}
use Rattle.zone_tables.proofs.NotedEach.{each_is, each_quiet, each_begun}
use Rattle.zone_tables.proofs.history.History.note_each.Goals as goal

pub invariant_of-self : goal.invariant_of-self
invariant_of-self c =
    let records = c.push_each.ensures.records in
    let begun = c.self.invariant.begun in
    record {
      begun = λ start e. subst (λ (rs : List Record). start.records ≤ length rs) (sym records) (each_begun c.args.access.now c.self.inside.round c.args.from c.args.values.now c.self.inside.journal.records begun start e);
      quiet = c.self.invariant.quiet
          ∙ sym (ap (λ (rs : List Record). is_quiet_since rs c.self.inside.round) records ∙ each_quiet c.args.access.now c.self.inside.round c.args.from c.args.values.now c.self.inside.journal.records begun);
    }

pub returns : goal.returns
returns c =
    let room : c.push_each.new.self.room ≡ c.self.inside.journal.room - length c.args.values.now = omega (arith, c.push_each.ensures.room) in
    (λ i. record { records = c.push_each.ensures.records i; room = room i; round = c.self.inside.round })
    ∙ sym (each_is (access_record c.args.access.now) _ c.args.from c.args.values.now)
    ∙ ap (λ (h : History). told_each (access_record c.args.access.now) h c.args.from c.args.values.now) c.self.view_is
