use Rattle.std.proofs.Common.{◌≡◌, ◌∙◌, ◌++◌, ◌∷◌, [], replicate, length, List, ap, sym, arith}
use Rattle.std.specs.Prelude.{is_some, is_none, nat_lt, ◌&&◌}
use Rattle.frame_core.proofs.Searches.{count_none}
use Rattle.std.proofs.lemmas.List.{length-replicate, replicate_more}
use Rattle.zone_tables.specs.declared.note.PageNote.{PageNote}
use Rattle.zone_tables.specs.Notes.{placement_of, is_in_use, unused_note}
use Rattle.zone_tables.proofs.Copies.{no_placement}
use Rattle.scan_core.proofs.Masking.{and_true}
use Rattle.zone_tables.proofs.notes.Notes.open.Goals as goal

pub loop-preserved : goal.loop-preserved
loop-preserved c = record {
  unused = c.push.ensures.items ∙ (λ i. c.loop.invariant.unused i ++ (c.of.ensures ∙ c.unused.ensures) i ∷ []) ∙ replicate_more _ unused_note;
  room = omega (arith, c.push.ensures.room, c.loop.invariant.room);
}

pub invariant_of-result : goal.invariant_of-result
invariant_of-result c =
    let items : c.loop.notes.items ≡ replicate c.args.count unused_note = c.loop.invariant.unused ∙ ap (λ n. replicate n unused_note) (omega (arith, c.loop.auto.counter-end, c.loop-test.false)) in
    let count : length c.loop.notes.items ≡ c.args.count = ap length items ∙ length-replicate c.args.count unused_note in
    record {
      few = omega (arith, count, c.requires);
      in_use = sym (count_none (is_in_use c.loop.notes.items) _ (λ page h. ap (λ (notes : List PageNote). is_in_use notes page) items ∙ ap is_some (no_placement c.args.count page)));
      room = omega (arith, count, c.in_ok-unused.ensures.enough);
      unused = λ page. c.in_ok-unused.ensures.all page ∙ sym (and_true (nat_lt page c.args.count))
          ∙ (λ i. nat_lt page (sym count i) && sym (ap is_none (ap (λ (notes : List PageNote). placement_of notes page) items ∙ no_placement c.args.count page)) i);
    }
