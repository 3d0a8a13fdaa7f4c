-- A round that begins calm is swept, and each call that leaves it quiet keeps it so.
use Rattle.std.proofs.Common.{◌≡◌, ◌≢◌, ℕ, ◌+◌, ◌<◌, ◌≤◌, Bool, true, false, not, List, length, inl, inr, refl, sym, ap, ◌∙◌, arith, Some, nat_eq, ◌&&◌, ◌||◌}
use Rattle.std.specs.FinMap as map
use Rattle.std.specs.FinSet as set
use Rattle.std.specs.Ordering.{nat_cmp}
use Rattle.std.proofs.lemmas.Bool.{and_parts, eqb-true, false_from_ne_true, not-true, not-false}
use Rattle.std.proofs.lemmas.Bool.Decides.{eqb_tells, leb_tells}
use Rattle.frame_core.proofs.Searches.{some_none}
use Rattle.frame_core.specs.Below.{some_below}
use Rattle.frame_core.specs.declared.place.Address.{Address}
use Rattle.frame_core.specs.declared.record.Record.{Record}
use Rattle.frame_core.specs.declared.record.Record.TheVariants.{Moved}
use Rattle.frame_core.specs.History.{pins}
use Rattle.frame_core.specs.Moves.{isolated, out}
use Rattle.state_core.specs.declared.placement.Placement.{Placement}
use Rattle.state_core.specs.declared.placement.Placement.TheVariants.{At, Moving}
use Rattle.state_core.specs.declared.round.Pair.{Pair}
use Rattle.state_core.specs.declared.round.RoundStart.{RoundStart}
use Rattle.state_core.specs.Access.{loaded, stored}
use Rattle.state_core.specs.Carrying.{relocated}
use Rattle.state_core.specs.Isolating.{isolated_next}
use Rattle.state_core.specs.Valid.{IsValidZone}
use Rattle.state_core.specs.Pairs.{IsPair, is_marked, can_move, holder, stays_if_some, is_stuck, is_calm}
use Rattle.state_core.specs.Swept.{IsSwept}
use Rattle.state_core.specs.ZoneState.{ZoneState, frame_count, is_free, is_held}
use Rattle.state_core.proofs.Ending.{can_move_on, moved_others}
use Rattle.state_core.proofs.Holding.{at_rest, at_takes, holder_at}
use Rattle.state_core.proofs.Isolating.{can_isolate, isolated_others, isolated_target}
use Rattle.state_core.proofs.Places.{at_page, at_other}

-- a round begins calm

abbrev pub begun : ZoneState → RoundStart → ZoneState
begun v start = record v { migrate = 0; free = frame_count v; round = Some start }

-- a frame of an unmarked pageblock that isn't stuck isn't handed out, and its page may be taken
unstuck : (marked held stays : Bool) → marked ≡ false → (not marked && (held || stays)) ≡ false → (held ≡ false) × (stays ≡ false)
unstuck marked held stays e f = grind (arith, e, f)

module _ (v : ZoneState) (law : IsValidZone v) (calm : is_calm v ≡ true) where
  halves : (nat_eq (length (out v.records)) 0 ≡ true) × (not (some_below (is_stuck v) (frame_count v)) ≡ true)
  halves = and_parts (nat_eq (length (out v.records)) 0) (not (some_below (is_stuck v) (frame_count v))) calm

  none_out : length (out v.records) ≡ 0
  none_out = eqb-true (length (out v.records)) 0 halves.0

  loose : (frame : ℕ) → frame < frame_count v → is_marked v frame ≡ false → (is_held v frame ≡ false) × (stays_if_some v (holder v frame) ≡ false)
  loose frame within unmarked = unstuck (is_marked v frame) (is_held v frame) (stays_if_some v (holder v frame)) unmarked (some_none (is_stuck v) (frame_count v) (not-true _ halves.1) frame within)

  pub swept_begun : (start : RoundStart) → IsSwept (begun v start)
  swept_begun start = record {
    below = λ page frame at unmarked. omega arith;
    above = λ frame high within unmarked. absurd (omega arith);
    unheld = λ frame within unmarked. (loose frame within unmarked).0;
    movable = λ page frame at unmarked.
        let stays = (loose frame (law.pages.within page frame (at_takes _ frame at)) unmarked).1 in
        not-false (can_move v page) (ap (stays_if_some v) (sym (holder_at v law page frame at)) ∙ stays);
    ways = λ page serial source target at. absurd (at_rest v law none_out page serial source target at);
  }

-- a swept zone stays swept after records that leave pins as they are, after words of a block that is handed out are written, and after
-- words are lent or come back
pub swept_same : (v : ZoneState) (records : List Record) (room : ℕ) (contents : map.FinMap nat_cmp (List ℕ)) (lent lent_pages : set.FinSet nat_cmp) → ((page : ℕ) → pins records page ≡ pins v.records page) → IsSwept v → IsSwept (record v { records = records; room = room; contents = contents; lent = lent; lent_pages = lent_pages })
swept_same v records room contents lent lent_pages same swept = record {
  below = swept.below;
  above = swept.above;
  unheld = swept.unheld;
  movable = λ page frame at unmarked. still page ∙ swept.movable page frame at unmarked;
  ways = λ page serial source target at.
      let way = swept.ways page serial source target at in
      record { low = way.low; high = way.high; movable = still page ∙ way.movable };
} where
  still : (page : ℕ) → can_move (record v { records = records }) page ≡ can_move v page
  still page = ap (λ n. nat_eq n 0 && not (set.contains v.unmovable page)) (same page)

pub swept_loaded : (v : ZoneState) (client : ℕ) (address : Address) (word : ℕ) → IsSwept v → IsSwept (loaded v client address word)
swept_loaded v client address word = swept_same v _ _ v.contents v.lent v.lent_pages (λ page. refl)

pub swept_stored : (v : ZoneState) (client : ℕ) (address : Address) (word value : ℕ) → IsSwept v → IsSwept (stored v client address word value)
swept_stored v client address word value = swept_same v _ _ v.contents v.lent v.lent_pages (λ page. refl)

-- the next pair is isolated

pub on_its_way_not_at : (serial s t : ℕ) (frame : ℕ) → Some (Moving serial s t) ≡ Some (At frame) → ⊥
on_its_way_not_at serial s t frame e = cc

two_ways : (a s t b source target : ℕ) → Some (Moving a s t) ≡ Some (Moving b source target) → (s ≡ source) × (t ≡ target)
two_ways a s t b source target e = (cc, cc)

module _ (v : ZoneState) (pair : Pair) (law : IsValidZone v) (swept : IsSwept v) (is : IsPair v pair.page pair.source pair.target) where
  abbrev next : ZoneState
  next = isolated_next v pair

  abbrev way_next : Placement
  way_next = Moving (isolated v.records) pair.source pair.target

  on_its_way : map.get next.placement pair.page ≡ Some way_next
  on_its_way = at_page (can_isolate v pair law is)

  others : (page : ℕ) → page ≢ pair.page → map.get next.placement page ≡ map.get v.placement page
  others = at_other (can_isolate v pair law is)

  -- a page that is in a frame afterwards is another page, which was there
  stood : (page frame : ℕ) → map.get next.placement page ≡ Some (At frame) → (page ≢ pair.page) × (map.get v.placement page ≡ Some (At frame))
  stood page frame at = elim (eqb_tells page pair.page) [
    | inl same ↦ absurd (on_its_way_not_at _ _ _ frame (sym on_its_way ∙ ap (map.get next.placement) (sym same.1) ∙ at))
    | inr other ↦ (other.1, sym (others page other.1) ∙ at)
  ]

  pub swept_isolated : IsSwept next
  swept_isolated = record {
    below = λ page frame at unmarked.
        let old = stood page frame at in
        let movable = swept.movable page frame old.1 unmarked in
        let low = swept.below page frame old.1 unmarked in
        elim (leb_tells (pair.source + 1) frame) [
          | inl past ↦ past.1
          | inr under ↦ elim (eqb_tells frame pair.source) [
            | inl here ↦ absurd (old.0 (law.pages.apart page pair.page frame (at_takes _ frame old.1) (at_takes _ frame (is.from.here ∙ ap (λ (f : ℕ). Some (At f)) (sym here.1)))))
            | inr other ↦
                (let high = is.from.high in
                let ne = other.1 in
                let less = under.1 in
                let least : pair.source ≤ frame = is.lowest page frame (record { here = old.1; movable = movable; unmarked = unmarked; low = low; high = omega arith }) in
                absurd (omega arith))
          ]
        ];
    above = λ frame high within unmarked. elim (eqb_tells frame pair.target) [
      | inl here ↦ ap (is_free next) here.1 ∙ isolated_target v pair law is
      | inr other ↦ isolated_others v pair law is frame other.1 ∙ elim (leb_tells v.free frame) [
        | inl past ↦ swept.above frame past.1 within unmarked
        | inr under ↦ false_from_ne_true (is_free v frame) (λ free.
            (let low = is.to.low in
            let ne = other.1 in
            let most : frame ≤ pair.target = is.highest frame (record { free = free; unmarked = unmarked; low = omega arith; high = under.1 }) in
            absurd (omega arith)))
      ]
    ];
    unheld = swept.unheld;
    movable = λ page frame at unmarked. swept.movable page frame (stood page frame at).1 unmarked;
    ways = λ page serial source target at. elim (eqb_tells page pair.page) [
      | inl same ↦
          (let frames = two_ways _ _ _ serial source target (sym on_its_way ∙ ap (map.get next.placement) (sym same.1) ∙ at) in
          let from : pair.source ≡ source = frames.0 in
          let to : pair.target ≡ target = frames.1 in
          record { low = omega arith; high = omega arith; movable = ap (can_move v) same.1 ∙ is.from.movable })
      | inr other ↦
          (let way = swept.ways page serial source target (sym (others page other.1) ∙ at) in
          let low = is.from.low in
          let high = is.to.high in
          record { low = omega (arith, way.low); high = omega (arith, way.high); movable = way.movable })
    ];
  }

-- a move ends

pub one_frame : (f g : ℕ) → Some (At f) ≡ Some (At g) → f ≡ g
one_frame f g e = cc

at_not_on_its_way : (f serial source target : ℕ) → Some (At f) ≡ Some (Moving serial source target) → ⊥
at_not_on_its_way f serial source target e = cc

module _ (v : ZoneState) (page serial source target : ℕ) (law : IsValidZone v) (swept : IsSwept v) (at : map.get v.placement page ≡ Some (Moving serial source target)) where
  abbrev after : ZoneState
  after = relocated v (Moved serial) page (At target)

  pub arrived : map.get after.placement page ≡ Some (At target)
  arrived = at_page (can_move_on v page serial source target law at)

  pub stayed : (q : ℕ) → q ≢ page → map.get after.placement q ≡ map.get v.placement q
  stayed = at_other (can_move_on v page serial source target law at)

  pub swept_arrived : IsSwept after
  swept_arrived =
      let way = swept.ways page serial source target at in
      let low = way.low in
      let high = way.high in
      let fingers = law.fingers.ordered.0 in
      record {
        below = λ q frame here unmarked. elim (eqb_tells q page) [
          | inl same ↦
              (let there : target ≡ frame = one_frame target frame (sym arrived ∙ ap (map.get after.placement) (sym same.1) ∙ here) in
              omega arith)
          | inr other ↦ swept.below q frame (sym (stayed q other.1) ∙ here) unmarked
        ];
        above = λ frame past within unmarked.
            let ne : frame ≢ source = omega arith in
            moved_others v page serial source target law at (Moved serial) frame ne ∙ swept.above frame past within unmarked;
        unheld = swept.unheld;
        movable = λ q frame here unmarked. elim (eqb_tells q page) [
          | inl same ↦ ap (can_move v) same.1 ∙ way.movable
          | inr other ↦ swept.movable q frame (sym (stayed q other.1) ∙ here) unmarked
        ];
        ways = λ q s from to here. elim (eqb_tells q page) [
          | inl same ↦ absurd (at_not_on_its_way target s from to (sym arrived ∙ ap (map.get after.placement) (sym same.1) ∙ here))
          | inr other ↦ (let old = swept.ways q s from to (sym (stayed q other.1) ∙ here) in record { low = old.low; high = old.high; movable = old.movable })
        ];
      }

  -- in a swept zone a moving page has no pin, so each commit moves it
  pub no_pin : pins v.records page ≡ 0
  no_pin = eqb-true (pins v.records page) 0 (and_parts _ _ (swept.ways page serial source target at).movable).0
