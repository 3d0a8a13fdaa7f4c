-- What a zone comes to once its moving pages have been moved, and when two zones are the same but for the order of moves.
use Rattle.std.specs.Prelude.{◌≡◌, ℕ, Bool, ◌+◌, ◌-◌, List, [], ◌∷◌, length, Option, Some, None}
use Rattle.std.specs.FinMap as map
use Rattle.std.specs.FinSet as set
use Rattle.std.specs.Ordering.{nat_cmp}
use denote.RawPtr.{Ptr}
use Rattle.frame_core.specs.declared.record.Record.{Record}
use Rattle.frame_core.specs.declared.record.Record.TheVariants.{Moved, Back}
use Rattle.frame_core.specs.Moves.{out, put_back}
use Rattle.state_core.specs.declared.placement.Placement.{Placement}
use Rattle.state_core.specs.declared.placement.Placement.TheVariants.{At, Moving}
use Rattle.state_core.specs.declared.round.RoundStart.{RoundStart}
use Rattle.state_core.specs.ZoneState.{ZoneState}

-- the frame in which a page stands once its move has ended: its target, if it is moving
abbrev pub final_frame : Option Placement → Option ℕ
final_frame None = None
final_frame (Some (At frame)) = Some frame
final_frame (Some (Moving serial source target)) = Some target

-- the records without the ends of moves
abbrev pub without_ends : List Record → List Record
without_ends [] = []
without_ends (Moved serial ∷ older) = without_ends older
without_ends (Back cause serial ∷ older) = without_ends older
without_ends (entry ∷ older) = entry ∷ without_ends older

-- what is left of a zone if it doesn't matter which moving pages have been moved already
pub record Outcome : Type 0 where
  pub number : ℕ
  pub blocks : ℕ
  pub spaces : ℕ
  pub vpages : ℕ
  pub page_size : ℕ
  pub records : List Record
  -- the places that the journal has left once each move has its end
  pub room : ℕ
  -- and all its places
  pub places : ℕ
  pub unmovable : set.FinSet nat_cmp
  pub marked : set.FinSet nat_cmp
  pub apart : Bool
  pub claimed : set.FinSet nat_cmp
  pub handed_out : map.FinMap nat_cmp ℕ
  pub contents : map.FinMap nat_cmp (List ℕ)
  pub lent : set.FinSet nat_cmp
  pub lent_pages : set.FinSet nat_cmp
  pub memory : Option Ptr
  pub frame : ℕ → Option ℕ
  pub migrate : ℕ
  pub free : ℕ
  pub round : Option RoundStart

-- the zone once each page that is moving has been moved
abbrev pub outcome_of : ZoneState → Outcome
outcome_of z = record {
  number = z.number;
  blocks = z.blocks;
  spaces = z.spaces;
  vpages = z.vpages;
  page_size = z.page_size;
  records = without_ends z.records;
  room = z.room - length (out z.records);
  places = length z.records + z.room;
  unmovable = z.unmovable;
  marked = z.marked;
  apart = z.apart;
  claimed = z.claimed;
  handed_out = z.handed_out;
  contents = z.contents;
  lent = z.lent;
  lent_pages = z.lent_pages;
  memory = z.memory;
  frame = λ page. final_frame (map.get z.placement page);
  migrate = z.migrate;
  free = z.free;
  round = z.round;
}

-- the zones are the same but for the order in which moves ended, and for what each round sets as it begins: the fingers, and how the
-- latest round began
pub record IsSame (z w : ZoneState) : Type 0 where
  pub number : z.number ≡ w.number
  pub blocks : z.blocks ≡ w.blocks
  pub spaces : z.spaces ≡ w.spaces
  pub vpages : z.vpages ≡ w.vpages
  pub page_size : z.page_size ≡ w.page_size
  -- each page stands where it stands in the other, or is moving alike
  pub placement : z.placement ≡ w.placement
  pub unmovable : z.unmovable ≡ w.unmovable
  pub marked : z.marked ≡ w.marked
  pub apart : z.apart ≡ w.apart
  pub claimed : z.claimed ≡ w.claimed
  pub handed_out : z.handed_out ≡ w.handed_out
  pub contents : z.contents ≡ w.contents
  pub lent : z.lent ≡ w.lent
  pub lent_pages : z.lent_pages ≡ w.lent_pages
  pub memory : z.memory ≡ w.memory
  -- the same calls in the same order, and as many moves that ended either way
  pub records : without_ends z.records ≡ without_ends w.records
  pub length_is : length z.records ≡ length w.records
  pub back : put_back z.records ≡ put_back w.records
  pub out_is : out z.records ≡ out w.records
  pub room : z.room ≡ w.room
