-- Where the scanners of a quiet round have met, no call that leaves the round quiet makes a pair.
use Rattle.std.proofs.Common.{◌≡◌, ◌≢◌, ℕ, ◌≤◌, true, not, inl, inr, refl, sym, ap, subst, ◌∙◌, arith, List, Option, Some, nat_eq, ◌&&◌}
use Rattle.std.specs.FinMap as map
use Rattle.std.specs.FinSet as set
use Rattle.std.specs.Ordering.{nat_cmp}
use Rattle.frame_core.specs.declared.record.Record.{Record}
use Rattle.std.proofs.lemmas.Bool.{both_ways, eq-eqb}
use Rattle.std.proofs.lemmas.Bool.Decides.{eqb_tells}
use Rattle.frame_core.specs.declared.place.Address.{Address}
use Rattle.frame_core.specs.declared.record.Record.TheVariants.{Moved}
use Rattle.frame_core.specs.History.{pins}
use Rattle.state_core.specs.declared.placement.Placement.{Placement}
use Rattle.state_core.specs.declared.placement.Placement.TheVariants.{At, Moving}
use Rattle.state_core.specs.Access.{loaded, stored}
use Rattle.state_core.specs.Carrying.{relocated}
use Rattle.state_core.specs.Ending.{moved_to_target, target_of}
use Rattle.state_core.specs.Valid.{IsValidZone}
use Rattle.state_core.specs.Pairs.{IsSource, IsTarget, HaveMet}
use Rattle.state_core.specs.Swept.{IsSwept}
use Rattle.state_core.specs.ZoneState.{ZoneState, is_free, is_quiet}
use Rattle.state_core.proofs.Ending.{moved_others}
use Rattle.state_core.proofs.Sweeping.{no_pin, arrived, stayed, on_its_way_not_at, one_frame}

-- records that leave pins as they are make no pair, nor do the words of blocks that are handed out, nor words that are lent
pub met_same : (v : ZoneState) (records : List Record) (room : ℕ) (contents : map.FinMap nat_cmp (List ℕ)) (lent lent_pages : set.FinSet nat_cmp) → ((page : ℕ) → pins records page ≡ pins v.records page) → HaveMet v → HaveMet (record v { records = records; room = room; contents = contents; lent = lent; lent_pages = lent_pages })
met_same v records room contents lent lent_pages same met page from to is = met page from to (record {
  from = record { here = is.from.here; movable = sym (still page) ∙ is.from.movable; unmarked = is.from.unmarked; low = is.from.low; high = is.from.high };
  lowest = λ q frame s. is.lowest q frame (record { here = s.here; movable = still q ∙ s.movable; unmarked = s.unmarked; low = s.low; high = s.high });
  to = record { free = is.to.free; unmarked = is.to.unmarked; low = is.to.low; high = is.to.high };
  highest = λ frame t. is.highest frame (record { free = t.free; unmarked = t.unmarked; low = t.low; high = t.high });
}) where
  still : (q : ℕ) → (nat_eq (pins records q) 0 && not (set.contains v.unmovable q)) ≡ (nat_eq (pins v.records q) 0 && not (set.contains v.unmovable q))
  still q = ap (λ n. nat_eq n 0 && not (set.contains v.unmovable q)) (same q)

pub met_loaded : (v : ZoneState) (client : ℕ) (address : Address) (word : ℕ) → HaveMet v → HaveMet (loaded v client address word)
met_loaded v client address word = met_same v _ _ v.contents v.lent v.lent_pages (λ page. refl)

pub met_stored : (v : ZoneState) (client : ℕ) (address : Address) (word value : ℕ) → HaveMet v → HaveMet (stored v client address word value)
met_stored v client address word value = met_same v _ _ v.contents v.lent v.lent_pages (λ page. refl)

-- a page whose move ends leaves sources and targets as they were: both its frames are outside the fingers
module _ (v : ZoneState) (page serial source target : ℕ) (law : IsValidZone v) (swept : IsSwept v) (at : map.get v.placement page ≡ Some (Moving serial source target)) where
  abbrev there : ZoneState
  there = relocated v (Moved serial) page (At target)

  source_before : (q frame : ℕ) → IsSource there q frame → IsSource v q frame
  source_before q frame s = elim (eqb_tells q page) [
    | inl same ↦
        (let here : target ≡ frame = one_frame target frame (sym (arrived v page serial source target law swept at) ∙ ap (map.get there.placement) (sym same.1) ∙ s.here) in
        absurd (omega (arith, s.high, (swept.ways page serial source target at).high)))
    | inr other ↦ record { here = sym (stayed v page serial source target law swept at q other.1) ∙ s.here; movable = s.movable; unmarked = s.unmarked; low = s.low; high = s.high }
  ]

  source_after : (q frame : ℕ) → IsSource v q frame → IsSource there q frame
  source_after q frame s = elim (eqb_tells q page) [
    | inl same ↦ absurd (on_its_way_not_at serial source target frame (sym at ∙ ap (map.get v.placement) (sym same.1) ∙ s.here))
    | inr other ↦ record { here = stayed v page serial source target law swept at q other.1 ∙ s.here; movable = s.movable; unmarked = s.unmarked; low = s.low; high = s.high }
  ]

  free_at_rest : (frame : ℕ) → v.migrate ≤ frame → is_free there frame ≡ is_free v frame
  free_at_rest frame h =
      let low = (swept.ways page serial source target at).low in
      let ne : frame ≢ source = omega arith in
      moved_others v page serial source target law at (Moved serial) frame ne

  target_before : (from frame : ℕ) → v.migrate ≤ from → IsTarget there from frame → IsTarget v from frame
  target_before from frame h t = record { free = sym (free_at_rest frame (omega (arith, h, t.low))) ∙ t.free; unmarked = t.unmarked; low = t.low; high = t.high }

  target_after : (from frame : ℕ) → v.migrate ≤ from → IsTarget v from frame → IsTarget there from frame
  target_after from frame h t = record { free = free_at_rest frame (omega (arith, h, t.low)) ∙ t.free; unmarked = t.unmarked; low = t.low; high = t.high }

  met_arrived : HaveMet v → HaveMet there
  met_arrived met q from to is = met q from to (record {
    from = source_before q from is.from;
    lowest = λ other frame s. is.lowest other frame (source_after other frame s);
    to = target_before from to is.from.low is.to;
    highest = λ frame t. is.highest frame (target_after from frame is.from.low t);
  })

  pub met_moved : HaveMet v → HaveMet (moved_to_target v serial page)
  met_moved met = subst (λ (o : Option Placement). HaveMet (relocated v (Moved serial) page (At (target_of o)))) (sym at) (met_arrived met)

-- in a quiet round a moving page has no pin
pub never_pinned : (v : ZoneState) (page serial source target : ℕ) → IsValidZone v → map.get v.placement page ≡ Some (Moving serial source target) → is_quiet v ≡ true → not (nat_eq (pins v.records page) 0) ≡ true → ⊥
never_pinned v page serial source target law at quiet pinned =
    both_ways _ (ap not (eq-eqb (pins v.records page) 0 (no_pin v page serial source target law (law.fingers.swept quiet) at))) pinned
