-- Writes into the frames of addresses, and into the marks of the frames that moving pages left, as changes of the entries.
use Rattle.std.proofs.Common.{◌≡◌, ◌≢◌, ℕ, suc, ◌*◌, ◌<◌, Bool, true, false, List, [], ◌∷◌, length, ◌⊎◌, inl, inr, refl, sym, ap, ◌∙◌, arith}
use Rattle.std.specs.Prelude.{Option, Some, None, ◌↔◌, if◌then◌else◌, option_map, slice_get, slice_set, unwrap_or}
use Rattle.std.proofs.lemmas.Bool.{eq-eqb, both_ways}
use Rattle.std.proofs.lemmas.Bool.Decides.{eqb_tells}
use Rattle.std.proofs.lemmas.List.{map-set, length-set}
use Rattle.std.proofs.lemmas.Option.{slice_get-map, slice_get_within}
use Rattle.frame_core.proofs.Lists.{slice_get_set_same, slice_get_set_other}
use Rattle.frame_core.specs.declared.place.Address.{Address}
use Rattle.frame_core.specs.Address.{InTable, is_in_table}
use Rattle.table_core.specs.declared.entry.Entry.{Entry}
use Rattle.table_core.specs.declared.entry.Entry.TheVariants.{Absent, Present, Migration}
use Rattle.table_core.specs.EntriesInside.{is_left, entry_under, entry_by, entries_of, AreKept}
use Rattle.table_core.specs.Names.{IsIn}
use Rattle.table_core.specs.Tables.{EntryTable, place_of, entry_at, is_listed, Replaces}
use Rattle.table_core.specs.declared.size.Size.{Size}
use Rattle.table_core.proofs.Places.{address_at, place_at, inside_at, is_inside, same_place, table_tells, moving_inside}

-- the entries that the two lists make up
abbrev pub table : Size → List Bool → List (Option ℕ) → EntryTable
table size left frames = record { list = entries_of left frames; size = size }

-- the frame under which an address is listed
abbrev pub frame_at : Size → List (Option ℕ) → Address → Option ℕ
frame_at size frames a = if is_in_table size.spaces size.pages a then unwrap_or (slice_get frames (place_of size.pages a)) None else None

pub frame_inside : (size : Size) (frames : List (Option ℕ)) (a : Address) → InTable size.spaces size.pages a → frame_at size frames a ≡ unwrap_or (slice_get frames (place_of size.pages a)) None
frame_inside size frames a here = ap (λ (b : Bool). if b then unwrap_or (slice_get frames (place_of size.pages a)) None else None) (is_inside size.spaces size.pages a here)

pub frame_outside : (size : Size) (frames : List (Option ℕ)) (a : Address) → is_in_table size.spaces size.pages a ≡ false → frame_at size frames a ≡ None
frame_outside size frames a outside = ap (λ (b : Bool). if b then unwrap_or (slice_get frames (place_of size.pages a)) None else None) outside

by_default : (left : List Bool) (o : Option (Option ℕ)) → unwrap_or (option_map (entry_by left) o) Absent ≡ entry_by left (unwrap_or o None)
by_default left None = refl
by_default left (Some under) = refl

-- what an address names
pub seen : (size : Size) (left : List Bool) (frames : List (Option ℕ)) (a : Address) → entry_at (table size left frames) a ≡ entry_by left (frame_at size frames a)
seen size left frames a = by_test (is_in_table size.spaces size.pages a) where
  by_test : (t : Bool) → (if t then unwrap_or (slice_get (entries_of left frames) (place_of size.pages a)) Absent else Absent)
      ≡ entry_by left (if t then unwrap_or (slice_get frames (place_of size.pages a)) None else None)
  by_test false = refl
  by_test true =
      ap (λ (o : Option Entry). unwrap_or o Absent) (slice_get-map (entry_by left) frames (place_of size.pages a))
      ∙ by_default left (slice_get frames (place_of size.pages a))

-- the mark of a frame that was written, and of each other
pub written : (left : List Bool) (frame : ℕ) (mark : Bool) → frame < length left → is_left (slice_set left frame mark) frame ≡ mark
written left frame mark h = ap (λ (o : Option Bool). unwrap_or o false) (slice_get_set_same left frame frame mark refl h)

pub not_written : (left : List Bool) (frame g : ℕ) (mark : Bool) → g ≢ frame → is_left (slice_set left frame mark) g ≡ is_left left g
not_written left frame g mark ne = ap (λ (o : Option Bool). unwrap_or o false) (slice_get_set_other left frame g mark ne)

-- the entries stay the same where the marks of those frames do that addresses are listed under
pub same_entries : (left more : List Bool) (frames : List (Option ℕ)) → ((place frame : ℕ) → slice_get frames place ≡ Some (Some frame) → is_left more frame ≡ is_left left frame) →
    entries_of more frames ≡ entries_of left frames
same_entries left more [] same = refl
same_entries left more (None ∷ rest) same = ap (λ es. Absent ∷ es) (same_entries left more rest (λ place. same (suc place)))
same_entries left more (Some frame ∷ rest) same =
    λ i. entry_under frame (same 0 frame refl i) ∷ same_entries left more rest (λ place. same (suc place)) i

-- an address that names the page in a frame is listed under it
same_frame : (g frame : ℕ) (mark : Bool) → entry_under g mark ≡ Present frame → g ≡ frame
same_frame g frame false e = cc
same_frame g frame true e = cc

pub under : (frame : ℕ) (mark : Bool) → is_listed (entry_under frame mark) frame ≡ true
under frame false = eq-eqb frame frame refl
under frame true = eq-eqb frame frame refl

-- no page left a frame, as the addresses say that are listed under it
is_resting : (frame : ℕ) (mark : Bool) → entry_under frame mark ≢ Migration frame → mark ≡ false
is_resting frame false rests = refl
is_resting frame true rests = absurd (rests refl)

-- the address at a place names a frame that no page left
module _ (size : Size) (left : List Bool) (frames : List (Option ℕ)) (count : length frames ≡ size.spaces * size.pages) (frame : ℕ) (within : frame < length left)
    (resting : (a : Address) → entry_at (table size left frames) a ≢ Migration frame) where
  resting_at : (place : ℕ) → slice_get frames place ≡ Some (Some frame) → is_left left frame ≡ false
  resting_at place at = is_resting frame (is_left left frame) (λ e. (let a = address_at size.pages place in
      let here = inside_at size.spaces size.pages place (omega (arith, count, slice_get_within frames place (Some frame) at)) in
      resting a
      (seen size left frames a
      ∙ ap (entry_by left) (frame_inside size frames a here)
      ∙ ap (λ (o : Option (Option ℕ)). entry_by left (unwrap_or o None)) (ap (slice_get frames) (place_at size.pages place) ∙ at) ∙ e)))

  cleared : (place g : ℕ) → slice_get frames place ≡ Some (Some g) → is_left (slice_set left frame false) g ≡ is_left left g
  cleared place g at = elim (eqb_tells g frame) [
    | inl same ↦ ap (is_left (slice_set left frame false)) same.1 ∙ written left frame false within
        ∙ sym (ap (is_left left) same.1 ∙ resting_at place (at ∙ ap (λ (k : ℕ). Some (Some k)) same.1))
    | inr other ↦ not_written left frame g false other.1
  ]

  pub entries_set : (place : ℕ) →
      entries_of (slice_set left frame false) (slice_set frames place (Some frame)) ≡ slice_set (entries_of left frames) place (Present frame)
  entries_set place =
      map-set (entry_by (slice_set left frame false)) frames place (Some frame)
      ∙ (λ i. slice_set (same_entries left (slice_set left frame false) frames cleared i) place (entry_under frame (written left frame false within i)))

  -- the page in the frame is isolated
  abbrev more : List Bool
  more = slice_set left frame true

  there_by : (u : Option ℕ) → entry_by left u ≡ Present frame → entry_by more u ≡ Migration frame
  there_by None e = cc
  there_by (Some g) e =
      ap (λ (k : ℕ). entry_by more (Some k)) (same_frame g frame (is_left left g) e)
      ∙ ap (entry_under frame) (written left frame true within)

  both : (g : ℕ) (mark : Bool) → g ≡ frame → entry_under g mark ≢ Migration frame → entry_under g mark ≢ Present frame → ⊥
  both g false same rests ne = ne (ap Present same)
  both g true same rests ne = rests (ap Migration same)

  elsewhere_by : (u : Option ℕ) → entry_by left u ≢ Migration frame → entry_by left u ≢ Present frame → entry_by more u ≡ entry_by left u
  elsewhere_by None rests ne = refl
  elsewhere_by (Some g) rests ne = elim (eqb_tells g frame) [
    | inl same ↦ absurd (both g (is_left left g) same.1 rests ne)
    | inr other ↦ ap (entry_under g) (not_written left frame g true other.1)
  ]

  pub entries_left : Replaces (table size left frames) (table size more frames) (Present frame) (Migration frame)
  entries_left = record {
    there = λ a e. seen size more frames a ∙ there_by (frame_at size frames a) (sym (seen size left frames a) ∙ e);
    elsewhere = λ a ne. seen size more frames a
        ∙ elsewhere_by (frame_at size frames a) (λ e. resting a (seen size left frames a ∙ e)) (λ e. ne (seen size left frames a ∙ e))
        ∙ sym (seen size left frames a);
  }

-- the addresses of a list, which named a migration, are listed under the frame in which it ends
module _ (size : Size) (left : List Bool) (frames new : List (Option ℕ)) (names : List Address) (source frame : ℕ)
    (source_in : source < length left) (frame_in : frame < length left)
    (named : (a : Address) → IsIn names a ↔ (entry_at (table size left frames) a ≡ Migration source))
    (moving : (a : Address) → is_listed (entry_at (table size left frames) a) source ≡ true → entry_at (table size left frames) a ≡ Migration source)
    (unnamed : frame ≢ source → (a : Address) → is_listed (entry_at (table size left frames) a) frame ≡ false)
    (here : (a : Address) → IsIn names a → slice_get new (place_of size.pages a) ≡ Some (Some frame))
    (others : (place : ℕ) → ((a : Address) → IsIn names a → place_of size.pages a ≢ place) → slice_get new place ≡ slice_get frames place) where
  abbrev ended : List Bool
  ended = slice_set (slice_set left source false) frame false

  abbrev old : EntryTable
  old = table size left frames

  come : entry_by ended (Some frame) ≡ Present frame
  come = ap (entry_under frame) (written (slice_set left source false) frame false (omega (arith, length-set left source false)))

  listed_in : (a : Address) (g : ℕ) → frame_at size frames a ≡ Some g → is_listed (entry_at old a) g ≡ true
  listed_in a g at = ap (λ (e : Entry). is_listed e g) (seen size left frames a ∙ ap (entry_by left) at) ∙ under g (is_left left g)

  away : (a : Address) → entry_at old a ≢ Migration source → (g : ℕ) → frame_at size frames a ≡ Some g → is_left ended g ≡ is_left left g
  away a ne g at = elim (eqb_tells g source) [
    | inl same ↦ absurd (ne (moving a (ap (is_listed (entry_at old a)) (sym same.1) ∙ listed_in a g at)))
    | inr off ↦ elim (eqb_tells g frame) [
      | inl same ↦ absurd (both_ways _ (ap (is_listed (entry_at old a)) same.1 ∙ unnamed (λ e. off.1 (same.1 ∙ e)) a) (listed_in a g at))
      | inr other ↦ not_written (slice_set left source false) frame g false other.1 ∙ not_written left source g false off.1
    ]
  ]

  stays_by : (a : Address) (u : Option ℕ) → entry_at old a ≢ Migration source → frame_at size frames a ≡ u → entry_by ended u ≡ entry_by left u
  stays_by a None ne at = refl
  stays_by a (Some g) ne at = ap (entry_under g) (away a ne g at)

  -- an address of the migration is in the table
  inside : (a : Address) → entry_at old a ≡ Migration source → InTable size.spaces size.pages a
  inside a e = moving_inside old a source e

  -- each other address is listed as before
  as_before : (a : Address) → entry_at old a ≢ Migration source → frame_at size new a ≡ frame_at size frames a
  as_before a ne = elim (table_tells size.spaces size.pages a) [
    | inl at ↦ frame_inside size new a at
        ∙ ap (λ (o : Option (Option ℕ)). unwrap_or o None) (others (place_of size.pages a) (λ b h same. (let was = (named b).0 h in
        ne (ap (entry_at old) (sym (same_place size.pages b a (inside b was).vpage at.vpage same)) ∙ was))))
        ∙ sym (frame_inside size frames a at)
    | inr outside ↦ frame_outside size new a outside ∙ sym (frame_outside size frames a outside)
  ]

  pub entries_come : Replaces old (table size ended new) (Migration source) (Present frame)
  entries_come = record {
    there = λ a e. seen size ended new a
        ∙ ap (entry_by ended) (frame_inside size new a (inside a e) ∙ ap (λ (o : Option (Option ℕ)). unwrap_or o None) (here a ((named a).1 e))) ∙ come;
    elsewhere = λ a ne. seen size ended new a ∙ ap (entry_by ended) (as_before a ne)
        ∙ stays_by a (frame_at size frames a) ne refl ∙ sym (seen size left frames a);
  }

-- one of a list's addresses has this place, or none of them has
named_at : (pages : ℕ) (names : List Address) (place : ℕ) → ((a : Address) × IsIn names a × (place_of pages a ≡ place)) ⊎ ((a : Address) → IsIn names a → place_of pages a ≢ place)
named_at pages [] place = inr (λ a h. absurd h)
named_at pages (x ∷ xs) place = elim (eqb_tells (place_of pages x) place) [
  | inl same ↦ inl (x, inl refl, same.1)
  | inr other ↦ elim (named_at pages xs place) [
    | inl one ↦ inl (one.0, inr one.1, one.2)
    | inr none ↦ inr (λ a h. elim h [ inl is ↦ (λ e. other.1 (ap (place_of pages) is ∙ e)) | inr k ↦ none a k ])
  ]
]

-- each address stays listed under a frame of the zone
pub kept_come : (size : Size) (left more : List Bool) (frames new : List (Option ℕ)) (names : List Address) (frame : ℕ) → AreKept size left frames → length more ≡ length left → length new ≡ length frames →
    frame < length left → ((a : Address) → IsIn names a → slice_get new (place_of size.pages a) ≡ Some (Some frame)) →
    ((place : ℕ) → ((a : Address) → IsIn names a → place_of size.pages a ≢ place) → slice_get new place ≡ slice_get frames place) → AreKept size more new
kept_come size left more frames new names frame kept same count within here others = record {
  count = count ∙ kept.count;
  within = λ place g e. elim (named_at size.pages names place) [
    | inl one ↦ (let two : Some (Some frame) ≡ Some (Some g) = sym (here one.0 one.1) ∙ ap (slice_get new) one.2 ∙ e in let is : frame ≡ g = cc in omega arith)
    | inr none ↦ omega (arith, kept.within place g (sym (others place none) ∙ e))
  ];
}
