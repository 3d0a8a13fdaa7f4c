-- Whether a round begins calm, and what a zone is after a round began.
use Rattle.std.proofs.Common.{◌≡◌, ◌*◌, ℕ, true, length, subst}
use Rattle.std.specs.Prelude.{Some}
use Rattle.zone_tables.specs.declared.zone.ZoneTables.TheInside.{Inside}
use Rattle.state_core.specs.declared.round.RoundStart.{RoundStart}
use Rattle.zone_tables.specs.Sound.{IsSound}
use Rattle.state_core.specs.Valid.{IsValidZone}
use Rattle.state_core.specs.Pairs.{is_calm}
use Rattle.state_core.specs.Swept.{IsSwept}
use Rattle.state_core.specs.ZoneState.{ZoneState, frame_count}
use Rattle.state_core.proofs.Rounds.{begun, valid_from}
use Rattle.state_core.proofs.Sweeping.{swept_begun}

-- the fields after a round began
abbrev pub after_begin : {W : ℕ} → Inside W → RoundStart → Inside W
after_begin z start = record z { fingers = record { migrate = 0; free = 512 * z.size.blocks }; history = record z.history { round = Some start } }

pub begun_sound : {W : ℕ} (z : Inside W) (v : ZoneState) → IsSound z v → (start : RoundStart) → start.records ≡ length v.records → start.calm ≡ is_calm v →
    IsSound (after_begin z start) (begun v start)
begun_sound z v sound start here as_calm = record {
  valid = valid_from v sound.valid start here as_calm;
  orders = sound.orders;
  cleared = sound.cleared;
  lent = sound.lent;
  tables = sound.tables;
  size = sound.size;
  marks = sound.marks;
  claimed = sound.claimed;
  frames = record { count = sound.frames.count; of_page = sound.frames.of_page; of_block = sound.frames.of_block; of_none = sound.frames.of_none };
  entries = record { each = sound.entries.each };
  words = record { count = sound.words.count; sized = sound.words.sized; each = sound.words.each };
  notes = record {
    count = sound.notes.count;
    each = λ page note at used. (let fit = sound.notes.each page note at used in record { dirty = fit.dirty; pins = fit.pins; maps = fit.maps });
  };
  moves = sound.moves;
  movable = record { count = sound.movable.count; each = sound.movable.each };
  unmovable = record { count = sound.unmovable.count; each = sound.unmovable.each; rest = sound.unmovable.rest };
}

-- a calm zone is swept where its fingers are at its ends
pub swept_at_ends : (v : ZoneState) → IsValidZone v → is_calm v ≡ true → (free : ℕ) → frame_count v ≡ free → IsSwept (record v { migrate = 0; free = free })
swept_at_ends v law calm free ends = subst (λ (n : ℕ). IsSwept (record v { migrate = 0; free = n })) ends (record {
  below = begins.below;
  above = begins.above;
  unheld = begins.unheld;
  movable = begins.movable;
  ways = λ page serial source target at.
      let way = begins.ways page serial source target at in
      record { low = way.low; high = way.high; movable = way.movable };
}) where
  begins : IsSwept (begun v (record { records = 0; calm = true }))
  begins = swept_begun v law calm (record { records = 0; calm = true })
