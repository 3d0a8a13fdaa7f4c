use Rattle.std.proofs.Common.{◌∙◌, length, List, sym, ap, arith}
use Rattle.std.specs.Prelude.{◌&&◌}
use Rattle.frame_core.specs.declared.record.Record.{Record}
use Rattle.state_core.specs.ZoneState.{keeps_quiet, is_quiet_since}
use Rattle.state_core.proofs.Quiet.{quiet_next}
use Rattle.zone_tables.proofs.history.History.note.Goals as goal
use Rattle.zone_tables.proofs.history.History.note.Goals.{then-self, else-self}

pub invariant_of-self : goal.invariant_of-self
invariant_of-self c =
    let next = ap (λ (rs : List Record). is_quiet_since rs c.self.inside.round) c.push.ensures.records ∙ quiet_next c.self.inside.journal.records c.args.entry c.self.inside.round c.self.invariant.begun in
    record {
      begun = λ start e. let before = c.self.invariant.begun start e in omega (arith, before, ap (λ (rs : List Record). length rs) c.push.ensures.records);
      quiet = elim c.if-self.branch [
        | then-self w ↦ w.self-is ∙ w.keeps_quiet-self-inside.ensures ∙ sym (next ∙ ap (λ b. b && keeps_quiet c.args.entry) (sym c.self.invariant.quiet ∙ w.if-self.true))
        | else-self w ↦ w.self-is ∙ w.if-self.false ∙ sym (next ∙ ap (λ b. b && keeps_quiet c.args.entry) (sym c.self.invariant.quiet ∙ w.if-self.false))
      ];
    }
