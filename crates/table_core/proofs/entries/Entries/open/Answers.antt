use Rattle.std.proofs.Common.{replicate, ap, ◌∙◌}
use Rattle.table_core.proofs.Blank.{blank, kept_blank}
use Rattle.table_core.proofs.entries.Entries.open.Goals as goal

pub invariant_of-result : goal.invariant_of-result
invariant_of-result c = kept_blank c.args.size c.addresses.result c.in_ok-filled-2.field-0.items c.in_ok-filled.field-0.items c.addresses.ensures (c.in_ok-filled.ensures.items ∙ ap (replicate c.addresses.result) c.none.ensures)

pub returns-clause-blank : goal.returns-clause-blank
returns-clause-blank c = blank c.args.size c.addresses.result _ c.in_ok-filled.field-0.items (c.in_ok-filled.ensures.items ∙ ap (replicate c.addresses.result) c.none.ensures)
