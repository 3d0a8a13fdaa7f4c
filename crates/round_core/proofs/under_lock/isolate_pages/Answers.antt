use Rattle.std.proofs.Common.{ap, ◌∙◌, ℕ}
use Rattle.round_core.specs.Scanning.{limit_at}
use Rattle.round_core.proofs.Isolated.{isolated_more}
use Rattle.round_core.proofs.Limits.{stopped_at_limit}
use Rattle.round_core.proofs.under_lock.isolate_pages.Goals as goal

pub loop-room-preserved : goal.loop-room-preserved
loop-room-preserved g c =
    let old = c.loop-room.invariant in
    let made = c.in-Ok.ensures in
    let more = isolated_more c.args.scan.now.count c.loop-room.scan.count c.isolate_page.new.scan.count c.loop-room.pages.items c.push_back_reserved.new.self.items
    c.in-Ok.page c.push_back_reserved.ensures.items made.serial made.count old.serials old.count in
    record {
      keeps = made.keeps;
      serials = more.0;
      count = more.1;
      rounds = made.rounds ∙ old.rounds;
      room = c.push_back_reserved.ensures.capacity ∙ old.room;
      limit = ap (λ (n : ℕ). limit_at n c.count_down.new.left) made.count ∙ c.count_down.ensures.limit c.loop-room.scan.count ∙ old.limit;
      left = c.count_down.ensures.more c.if-count_down.false;
    }

pub returns-then-count_down-clause-isolated : goal.returns-then-count_down-clause-isolated
returns-then-count_down-clause-isolated g c =
    let old = c.loop-room.invariant in
    let made = c.in-Ok.ensures in
    let more = isolated_more c.args.scan.now.count c.loop-room.scan.count c.isolate_page.new.scan.count c.loop-room.pages.items c.push_back_reserved.new.self.items
    c.in-Ok.page c.push_back_reserved.ensures.items made.serial made.count old.serials old.count in
    let limit = ap (λ (n : ℕ). limit_at n c.count_down.new.left) made.count ∙ c.count_down.ensures.limit c.loop-room.scan.count ∙ old.limit in
    record {
      serials = more.0;
      count = more.1;
      stopped = stopped_at_limit g.K.Keeping.stops_at _ c.count_down.new.left c.isolate_page.new.scan limit (c.count_down.ensures.last c.if-count_down.true) made.answer;
    }
