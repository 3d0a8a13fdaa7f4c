-- The code of a zone's state. A type whose value has a zone in it, as a world, is given its code by this one.
use Rattle.std.specs.Prelude.{ℕ, refl, Bool, List, Option}
use Rattle.std.specs.Coded.{Coded, code_by, coded×, coded_ℕ, coded_bool, coded_list, coded_option}
use Rattle.std.specs.FinMap as map
use denote.RawPtr.{Ptr, coded_ptr}
use Rattle.std.specs.FinSet as set
use Rattle.std.specs.Ordering.{nat_cmp}
use Rattle.frame_core.specs.declared.record.Record.{Record}
use Rattle.frame_core.specs.contracts.record.Record as record_row
use Rattle.state_core.specs.declared.placement.Placement.{Placement}
use Rattle.state_core.specs.declared.round.RoundStart.{RoundStart}
use Rattle.state_core.specs.contracts.placement.Placement as placement_row
use Rattle.state_core.specs.contracts.round.RoundStart as round_row
use Rattle.state_core.specs.ZoneState.{ZoneState}

-- the fields of a state, as pairs
abbrev Fields : Type 0
Fields = ℕ × (ℕ × (ℕ × (ℕ × (ℕ × (List Record × (ℕ × (set.FinSet nat_cmp × (set.FinSet nat_cmp × (Bool × (set.FinSet nat_cmp × (map.FinMap nat_cmp ℕ × (map.FinMap nat_cmp (List ℕ) × (set.FinSet nat_cmp × (set.FinSet nat_cmp × (Option Ptr × (map.FinMap nat_cmp Placement × (ℕ × (ℕ × Option RoundStart))))))))))))))))))

abbrev coded_fields : Coded Fields
coded_fields =
    coded× coded_ℕ (coded× coded_ℕ (coded× coded_ℕ (coded× coded_ℕ (coded× coded_ℕ (coded× (coded_list record_row.the_row.coded) (coded× coded_ℕ
    (coded× (set.code {R = nat_cmp} coded_ℕ) (coded× (set.code {R = nat_cmp} coded_ℕ) (coded× coded_bool (coded× (set.code {R = nat_cmp} coded_ℕ)
    (coded× (map.code {R = nat_cmp} coded_ℕ coded_ℕ) (coded× (map.code {R = nat_cmp} coded_ℕ (coded_list coded_ℕ)) (coded× (set.code {R = nat_cmp} coded_ℕ) (coded× (set.code {R = nat_cmp} coded_ℕ)
    (coded× (coded_option coded_ptr) (coded× (map.code {R = nat_cmp} coded_ℕ placement_row.the_row.coded)
    (coded× coded_ℕ (coded× coded_ℕ (coded_option round_row.the_row.coded)))))))))))))))))))

-- a state is coded as its fields are
abbrev pub coded_zone : Coded ZoneState
coded_zone = code_by Fields coded_fields
    (λ z. (z.number, (z.blocks, (z.spaces, (z.vpages, (z.page_size, (z.records, (z.room, (z.unmovable, (z.marked, (z.apart, (z.claimed, (z.handed_out, (z.contents, (z.lent, (z.lent_pages, (z.memory, (z.placement, (z.migrate, (z.free, z.round))))))))))))))))))))
    (λ p. record {
      number = p.0;
      blocks = p.1.0;
      spaces = p.1.1.0;
      vpages = p.1.1.1.0;
      page_size = p.1.1.1.1.0;
      records = p.1.1.1.1.1.0;
      room = p.1.1.1.1.1.1.0;
      unmovable = p.1.1.1.1.1.1.1.0;
      marked = p.1.1.1.1.1.1.1.1.0;
      apart = p.1.1.1.1.1.1.1.1.1.0;
      claimed = p.1.1.1.1.1.1.1.1.1.1.0;
      handed_out = p.1.1.1.1.1.1.1.1.1.1.1.0;
      contents = p.1.1.1.1.1.1.1.1.1.1.1.1.0;
      lent = p.1.1.1.1.1.1.1.1.1.1.1.1.1.0;
      lent_pages = p.1.1.1.1.1.1.1.1.1.1.1.1.1.1.0;
      memory = p.1.1.1.1.1.1.1.1.1.1.1.1.1.1.1.0;
      placement = p.1.1.1.1.1.1.1.1.1.1.1.1.1.1.1.1.0;
      migrate = p.1.1.1.1.1.1.1.1.1.1.1.1.1.1.1.1.1.0;
      free = p.1.1.1.1.1.1.1.1.1.1.1.1.1.1.1.1.1.1.0;
      round = p.1.1.1.1.1.1.1.1.1.1.1.1.1.1.1.1.1.1.1;
    })
    (λ _. refl)
