use Rattle.std.proofs.Common.{◌≡◌, ◌+◌, length, ap, ◌∙◌, rules, arith}
use Rattle.frame_core.specs.Access.{access_record}
use Rattle.frame_core.specs.Journal.{Journal}
use Rattle.frame_core.proofs.Each.{length_each}
use Rattle.frame_core.proofs.journal.Journal.push_each.Goals as goal

pub invariant_of-self : goal.invariant_of-self
invariant_of-self c =
    let j = c.self.inside in
    let of = access_record c.args.access.now in
    let records = c.push_all.ensures in
    let count : length c.push_all.new.records ≡ length c.args.values.now + length j.records = ap length records ∙ length_each of c.args.from c.args.values.now j.records in
    let room = ap (λ (seen : Journal). seen.room) c.self.view_is in
    record {
      counted = omega (arith, c.self.invariant.counted, count);
      within = omega (arith, c.self.invariant.within, c.requires.room, room);
      kept = search rules;
    }
