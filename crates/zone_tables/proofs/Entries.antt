-- One address names something else: the entries still stand for the zone.
use Rattle.std.proofs.Common.{◌≡◌, ◌≢◌, true, false, ◌⊎◌, inl, inr, sym, ap, subst, ◌∙◌, refl, ℕ}
use Rattle.std.specs.FinMap as map
use Rattle.std.specs.Prelude.{nat_eq, ◌&&◌, Option, Some, None}
use Rattle.std.proofs.lemmas.Bool.Decides.{eqb_tells}
use Rattle.frame_core.specs.Address.{InRange, InTable}
use Rattle.frame_core.specs.declared.place.Address.{Address}
use Rattle.frame_core.specs.History.{same_address, page_at}
use Rattle.table_core.specs.declared.entry.Entry.{Entry}
use Rattle.table_core.specs.declared.size.Size.{Size}
use Rattle.table_core.specs.Tables.{EntryTable, entry_at, ChangesOnly}
use Rattle.state_core.specs.ZoneState.{ZoneState, has_address, placement_at}
use Rattle.state_core.proofs.Facts.{in_table}
use Rattle.zone_tables.specs.Fits.{table_size, entry_for, EntriesFit}
use Rattle.std.specs.Option.{option_and_then}

-- an address of a zone is in its tables
pub in_tables : (v : ZoneState) (entries : EntryTable) → entries.size ≡ table_size v → (a : Address) → has_address v a ≡ true → InTable entries.size.spaces entries.size.pages a
in_tables v entries size a known = subst (λ (s : Size). InTable s.spaces s.pages a) (sym size) (in_table v a known)

pub entries_changed : (v w : ZoneState) (old new : EntryTable) (address : Address) (entry : Entry) → EntriesFit old v → ChangesOnly old new address entry → ((a : Address) → same_address a address ≡ true → entry ≡ entry_for (placement_at w a)) → ((a : Address) → same_address a address ≡ false → placement_at w a ≡ placement_at v a) → EntriesFit new w
entries_changed v w old new address entry fit changes here there = record { each = λ b range. by_place b range (eqb_tells b.space address.space) (eqb_tells b.vpage address.vpage) } where
  by_place : (b : Address) → InRange b → ((nat_eq b.space address.space ≡ true) × (b.space ≡ address.space)) ⊎ ((nat_eq b.space address.space ≡ false) × (b.space ≢ address.space)) → ((nat_eq b.vpage address.vpage ≡ true) × (b.vpage ≡ address.vpage)) ⊎ ((nat_eq b.vpage address.vpage ≡ false) × (b.vpage ≢ address.vpage)) → entry_at new b ≡ entry_for (placement_at w b)
  by_place b range (inl space) (inl vpage) = changes.changed b space.1 vpage.1 ∙ here b (λ i. space.0 i && vpage.0 i)
  by_place b range (inr space) other =
      changes.other_spaces b space.1 ∙ fit.each b range ∙ sym (ap entry_for (there b (ap (λ t. t && nat_eq b.vpage address.vpage) space.0)))
  by_place b range (inl space) (inr vpage) =
      changes.other_pages b vpage.1 ∙ fit.each b range ∙ sym (ap entry_for (there b (λ i. space.0 i && vpage.0 i)))

-- an address that names the page that it named, which stays where it is, has the placement that it had
pub placement_same : (v w : ZoneState) (a : Address) → page_at w.records a ≡ page_at v.records a → ((q : ℕ) → page_at v.records a ≡ Some q → map.get w.placement q ≡ map.get v.placement q) → placement_at w a ≡ placement_at v a
placement_same v w a named stays = ap (option_and_then (map.get w.placement)) named ∙ by_name (page_at v.records a) refl where
  by_name : (o : Option ℕ) → page_at v.records a ≡ o → option_and_then (map.get w.placement) (page_at v.records a) ≡ option_and_then (map.get v.placement) (page_at v.records a)
  by_name None is = ap (option_and_then (map.get w.placement)) is ∙ sym (ap (option_and_then (map.get v.placement)) is)
  by_name (Some q) is = ap (option_and_then (map.get w.placement)) is ∙ stays q is ∙ sym (ap (option_and_then (map.get v.placement)) is)
