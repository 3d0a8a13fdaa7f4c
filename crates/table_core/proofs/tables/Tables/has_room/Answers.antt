use Rattle.std.proofs.Common.{◌≡◌, ◌<◌, ℕ, Decides, ltb, length, ap, subst, ◌∙◌, arith}
use Rattle.std.proofs.lemmas.Bool.Decides.{Decides-ltb}
use Rattle.table_core.specs.Tables.{Tables, count_listed}
use Rattle.table_core.proofs.Counting.{length_list}
use Rattle.table_core.proofs.Listing.{list_read}
use Rattle.table_core.proofs.tables.Tables.has_room.Goals as goal

pub returns : goal.returns
returns c =
    let z = c.self.inside in
    let at = list_read z.lists.items c.args.frame c.get.result c.index.result.now c.get.ensures.value (omega (arith, c.get.ensures.value, c.requires, c.self.invariant.1, ap (λ (t : Tables). t.frames) c.self.view_is)) c.index.ensures in
    let count = length_list z.entries.entries z.lists.items c.self.invariant.0 c.args.frame c.index.result.now (c.self.invariant.0.each c.args.frame c.index.result.now at) ∙ ap (λ (t : Tables). count_listed t.entries c.args.frame) c.self.view_is in
    let same : length c.as_slice.result.now ≡ count_listed c.args.self.now.entries c.args.frame = ap length c.as_slice.ensures.value ∙ count in
    subst (λ (n : ℕ). Decides (ltb (length c.as_slice.result.now) 4) (n < 4)) same (Decides-ltb (length c.as_slice.result.now) 4)
