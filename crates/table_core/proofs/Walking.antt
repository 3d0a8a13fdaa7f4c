-- A walk over all entries finds exactly the addresses that have an entry.
use Rattle.std.proofs.Common.{◌≡◌, ◌≢◌, ℕ, ◌+◌, ◌*◌, ◌<◌, ◌≤◌, true, List, [], ◌∷◌, ◌++◌, length, inl, inr, refl, sym, ap, subst, ◌∙◌, arith}
use Rattle.std.proofs.lemmas.Bool.{eq-eqb}
use Rattle.std.proofs.lemmas.Bool.Decides.{eqb_tells}
use Rattle.std.proofs.lemmas.Option.{slice_get-get_or}
use Rattle.frame_core.specs.Address.{InRange, InTable}
use Rattle.frame_core.specs.declared.place.Address.{Address}
use Rattle.table_core.specs.declared.entry.Entry.{Entry}
use Rattle.table_core.specs.declared.entry.Entry.TheVariants.{Absent, Present, Migration}
use Rattle.table_core.specs.Listed.{AreListed}
use Rattle.table_core.specs.Names.{IsIn, IsRising, AreJust}
use Rattle.table_core.specs.Tables.{EntryTable, place_of, entry_at, is_listed}
use Rattle.table_core.proofs.Places.{same_place, place_within, rising_places, named_inside}
use Rattle.table_core.proofs.Rising.{from_pushed, to_pushed, rising_pushed, no_longer}

-- exactly the addresses before a place that have the entry were found
pub record Walked (entries : EntryTable) (entry : Entry) (found : List Address) (place : ℕ) : Type 0 where
  pub rising : IsRising found
  pub passed : (a : Address) → IsIn found a → InRange a × (entry_at entries a ≡ entry)
  pub before : (a : Address) → IsIn found a → place_of entries.size.pages a < place
  pub all : (a : Address) → InRange a → place_of entries.size.pages a < place → entry_at entries a ≡ entry → IsIn found a

pub walk_none : (entries : EntryTable) (entry : Entry) → Walked entries entry [] 0
walk_none entries entry = record { rising = tt; passed = λ a h. absurd h; before = λ a h. absurd h; all = λ a range low e. absurd (omega (arith, low)) }

module _ (entries : EntryTable) (entry : Entry) (found : List Address) (place : ℕ) (names : entry ≢ Absent) (walked : Walked entries entry found place) where
  -- an address that has the entry is in the table
  inside : (a : Address) → entry_at entries a ≡ entry → InTable entries.size.spaces entries.size.pages a
  inside a e = named_inside entries a (λ none. names (sym e ∙ none))

  pub walk_found : (x : Address) → InRange x → place_of entries.size.pages x ≡ place → entry_at entries x ≡ entry → Walked entries entry (found ++ x ∷ []) (place + 1)
  walk_found x range at is = record {
    rising = rising_pushed found x walked.rising (λ b h. (let was = walked.passed b h in
        rising_places entries.size.pages b x was.0 (inside b was.1).vpage (inside x is).vpage (omega (arith, at, walked.before b h))));
    passed = λ a h. elim (from_pushed found x a h) [
      | inl k ↦ walked.passed a k
      | inr e ↦ (subst InRange e range, ap (entry_at entries) (sym e) ∙ is)
    ];
    before = λ a h. elim (from_pushed found x a h) [
      | inl k ↦ omega (arith, walked.before a k)
      | inr e ↦ omega (arith, at, ap (place_of entries.size.pages) e)
    ];
    all = λ a in_a low e. elim (eqb_tells (place_of entries.size.pages x) (place_of entries.size.pages a)) [
      | inl same ↦ to_pushed found x a (inr (same_place entries.size.pages x a (inside x is).vpage (inside a e).vpage same.1))
      | inr other ↦ to_pushed found x a (inl (walked.all a in_a (omega (arith, low, at, other.1)) e))
    ];
  }

  pub walk_on : ((a : Address) → InRange a → InTable entries.size.spaces entries.size.pages a → place_of entries.size.pages a ≡ place → entry_at entries a ≢ entry) →
      Walked entries entry found (place + 1)
  walk_on isnt = record {
    rising = walked.rising;
    passed = walked.passed;
    before = λ a h. omega (arith, walked.before a h);
    all = λ a in_a low e. elim (eqb_tells place (place_of entries.size.pages a)) [
      | inl same ↦ absurd (isnt a in_a (inside a e) (sym same.1) e)
      | inr other ↦ walked.all a in_a (omega (arith, low, other.1)) e
    ];
  }

  pub walk_all : entries.size.spaces * entries.size.pages ≤ place → AreJust found (λ a. entry_at entries a ≡ entry)
  walk_all end = record {
    rising = walked.rising;
    each = λ a. (walked.passed a, λ h. walked.all a h.0 (omega (arith, end, place_within entries.size.spaces entries.size.pages a (inside a h.1))) h.1);
  }

-- at most four addresses have the same entry
frame_of : (entry : Entry) → entry ≢ Absent → (frame : ℕ) × (is_listed entry frame ≡ true)
frame_of Absent some = absurd (some refl)
frame_of (Present f) some = (f, eq-eqb f f refl)
frame_of (Migration f) some = (f, eq-eqb f f refl)

pub few_have : (entries : EntryTable) (lists : List (List Address)) → AreListed entries lists → (entry : Entry) → entry ≢ Absent →
    (names : List Address) → IsRising names → ((a : Address) → IsIn names a → InRange a × (entry_at entries a ≡ entry)) → length names ≤ 4
few_have entries lists listed entry some [] rising have = omega arith
few_have entries lists listed entry some (x ∷ xs) rising have =
    let frame = frame_of entry some in
    let within = listed.within x frame.0 (ap (λ e. is_listed e frame.0) (have x (inl refl)).1 ∙ frame.1) in
    let list = listed.each frame.0 _ (slice_get-get_or lists frame.0 [] within) in
    let longest = no_longer (x ∷ xs) _ rising list.just.rising (λ a h. (let is = have a h in (list.just.each a).1 (is.0, ap (λ e. is_listed e frame.0) is.1 ∙ frame.1))) in
    let few = list.few in
    omega arith
