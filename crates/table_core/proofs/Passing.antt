-- One more step of a walk over a list of addresses.
use Rattle.std.proofs.Common.{◌≡◌, ◌≢◌, ℕ, zero, suc, ◌+◌, ◌<◌, ◌≤◌, List, [], ◌∷◌, ◌++◌, length, ◌⊎◌, inl, inr, refl, sym, ap, subst, ◌∙◌, arith}
use Rattle.std.specs.Prelude.{Option, Some, slice_get, slice_set}
use Rattle.std.proofs.lemmas.Bool.Decides.{eqb_tells, leb_tells}
use Rattle.frame_core.proofs.Lists.{slice_get_set_same, slice_get_set_other}
use Rattle.frame_core.specs.declared.place.Address.{Address}
use Rattle.table_core.specs.declared.entry.Entry.{Entry}
use Rattle.table_core.specs.Names.{IsIn, IsRising, order_of}
use Rattle.table_core.specs.Tables.{EntryTable, place_of, entry_at}
use Rattle.table_core.proofs.Rising.{from_pushed, to_pushed, rising_pushed}

pub some_index : (names : List Address) (a : Address) → IsIn names a → (k : ℕ) × (k < length names) × (slice_get names k ≡ Some a)
some_index [] a h = absurd h
some_index (x ∷ xs) a (inl e) = (0, omega arith, ap Some e)
some_index (x ∷ xs) a (inr h) = let w = some_index xs a h in (suc w.0, omega (arith, w.1), w.2)

-- the first n addresses of the list are listed under the frame, and each other address is listed as before
pub record Under (pages : ℕ) (old new : List (Option ℕ)) (names : List Address) (frame n : ℕ) : Type 0 where
  pub named : (k : ℕ) (a : Address) → k < n → slice_get names k ≡ Some a → slice_get new (place_of pages a) ≡ Some (Some frame)
  pub other : (place : ℕ) → ((a : Address) → IsIn names a → place_of pages a ≢ place) → slice_get new place ≡ slice_get old place

pub in_at : (names : List Address) (k : ℕ) (a : Address) → slice_get names k ≡ Some a → IsIn names a
in_at [] k a e = cc
in_at (x ∷ xs) zero a e = (let same : x ≡ a = cc in inl same)
in_at (x ∷ xs) (suc k) a e = inr (in_at xs k a e)

pub under_more : (pages : ℕ) (old now : List (Option ℕ)) (names : List Address) (frame n : ℕ) → Under pages old now names frame n → (x : Address) → slice_get names n ≡ Some x →
    (index : ℕ) → index ≡ place_of pages x → index < length now → Under pages old (slice_set now index (Some frame)) names frame (n + 1)
under_more pages old now names frame n under x at index is within = record {
  named = λ k a low e. elim (eqb_tells (place_of pages a) index) [
    | inl same ↦ slice_get_set_same now index (place_of pages a) (Some frame) same.1 within
    | inr apart ↦ slice_get_set_other now index (place_of pages a) (Some frame) apart.1
        ∙ under.named k a (before k a low e apart.1) e
  ];
  other = λ place none. slice_get_set_other now index place (Some frame) (λ e. none x (in_at names n x at) (sym is ∙ sym e)) ∙ under.other place none;
} where
  before : (k : ℕ) (a : Address) → k < n + 1 → slice_get names k ≡ Some a → place_of pages a ≢ index → k < n
  before k a low e apart = elim (leb_tells n k) [
    | inl end ↦ (let same : n ≡ k = omega (arith, end.1) in
        let both : Some x ≡ Some a = sym at ∙ ap (slice_get names) same ∙ e in
        let one : x ≡ a = cc in
        absurd (apart (sym (ap (place_of pages) one) ∙ sym is)))
    | inr low ↦ low.1
  ]

pub under_all : (pages : ℕ) (old new : List (Option ℕ)) (names : List Address) (frame n : ℕ) → Under pages old new names frame n → length names ≤ n →
    (a : Address) → IsIn names a → slice_get new (place_of pages a) ≡ Some (Some frame)
under_all pages old new names frame n under all a h = let w = some_index names a h in under.named w.0 a (omega (arith, w.1)) w.2

-- the addresses that have the entry were found, up to the rest, which comes after them
pub record Found (entries : EntryTable) (names : List Address) (entry : Entry) (found rest : List Address) : Type 0 where
  pub rising : IsRising found
  pub behind : IsRising rest
  pub passed : (a : Address) → IsIn found a → IsIn names a × (entry_at entries a ≡ entry)
  pub before : (a b : Address) → IsIn found a → IsIn rest b → order_of a < order_of b
  pub all : (a : Address) → IsIn names a → entry_at entries a ≡ entry → IsIn found a ⊎ IsIn rest a
  pub inside : (a : Address) → IsIn rest a → IsIn names a

pub find_none : (entries : EntryTable) (names : List Address) (entry : Entry) → IsRising names → Found entries names entry [] names
find_none entries names entry r = record {
  rising = tt;
  behind = r;
  passed = λ a h. absurd h;
  before = λ a b h k. absurd h;
  all = λ a h e. inr h;
  inside = λ a h. h;
}

module _ (entries : EntryTable) (names : List Address) (entry : Entry) (found rest : List Address) (x : Address) (known : Found entries names entry found (x ∷ rest)) where
  pub find_more : entry_at entries x ≡ entry → Found entries names entry (found ++ x ∷ []) rest
  find_more is = record {
    rising = rising_pushed found x known.rising (λ b h. known.before b x h (inl refl));
    behind = known.behind.1;
    passed = λ a h. elim (from_pushed found x a h) [
      | inl k ↦ known.passed a k
      | inr e ↦ (known.inside a (inl e), ap (entry_at entries) (sym e) ∙ is)
    ];
    before = λ a b h k. elim (from_pushed found x a h) [
      | inl l ↦ known.before a b l (inr k)
      | inr e ↦ subst (λ (c : Address). order_of c < order_of b) e (known.behind.0 b k)
    ];
    all = λ a h e. elim (known.all a h e) [
      | inl k ↦ inl (to_pushed found x a (inl k))
      | inr k ↦ elim k [ inl same ↦ inl (to_pushed found x a (inr same)) | inr l ↦ inr l ]
    ];
    inside = λ a k. known.inside a (inr k);
  }

  pub find_same : entry_at entries x ≢ entry → Found entries names entry found rest
  find_same isnt = record {
    rising = known.rising;
    behind = known.behind.1;
    passed = known.passed;
    before = λ a b h k. known.before a b h (inr k);
    all = λ a h e. elim (known.all a h e) [
      | inl k ↦ inl k
      | inr k ↦ elim k [ inl same ↦ absurd (isnt (ap (entry_at entries) same ∙ e)) | inr l ↦ inr l ]
    ];
    inside = λ a k. known.inside a (inr k);
  }

pub find_all : (entries : EntryTable) (names : List Address) (entry : Entry) (found : List Address) → Found entries names entry found [] →
    (a : Address) → (IsIn found a → IsIn names a × (entry_at entries a ≡ entry)) × (IsIn names a × (entry_at entries a ≡ entry) → IsIn found a)
find_all entries names entry found known a = (known.passed a, λ h. elim (known.all a h.0 h.1) [ inl k ↦ k | inr k ↦ absurd k ])
