-- Addresses, their places in a table, and the entries that stand there.
use Rattle.std.proofs.Common.{◌≡◌, ◌≢◌, ℕ, zero, suc, ◌+◌, ◌*◌, ◌/◌, ◌%◌, ◌<◌, ◌≤◌, Bool, true, false, length, ◌⊎◌, inl, inr, refl, sym, ap, subst, ◌∙◌, arith}
use Rattle.std.specs.Prelude.{Option, Some, ◌&&◌, if◌then◌else◌, slice_get, unwrap_or}
use Rattle.std.proofs.lemmas.Bool.{lt-ltb, ltb-true, and_parts}
use Rattle.std.proofs.lemmas.Bool.Decides.{eqb_tells, leb_tells}
use Rattle.std.proofs.lemmas.Nat.{div-mul-add, mod-mul-add, mul-add-lt, div-add-mod'}
use Rattle.std.proofs.Math.Nat.{mod-lt, mul-le-mul_right}
use Rattle.frame_core.proofs.Lists.{slice_get_set_same, slice_get_set_other}
use Rattle.frame_core.specs.Address.{InRange, InTable, is_in_table}
use Rattle.frame_core.specs.declared.place.Address.{Address}
use Rattle.table_core.specs.declared.entry.Entry.{Entry}
use Rattle.table_core.specs.declared.entry.Entry.TheVariants.{Absent, Migration}
use Rattle.table_core.specs.declared.size.Size.{Size}
use Rattle.table_core.specs.Names.{order_of}
use Rattle.table_core.specs.Tables.{EntryTable, place_of, entry_at, is_listed, with_entry, ChangesOnly}

-- two addresses are equal or not
pub address_tells : (a b : Address) → (a ≡ b) ⊎ (a ≢ b)
address_tells a b = elim (eqb_tells a.space b.space) [
  | inl space ↦ elim (eqb_tells a.vpage b.vpage) [
    | inl vpage ↦ inl (λ i. record { space = space.1 i; vpage = vpage.1 i })
    | inr other ↦ inr (λ e. other.1 (ap (λ (x : Address). x.vpage) e))
  ]
  | inr other ↦ inr (λ e. other.1 (ap (λ (x : Address). x.space) e))
]

-- addresses in range that stand at one point of the rising order are equal
pub same_order : (a b : Address) → InRange a → InRange b → order_of a ≡ order_of b → a ≡ b
same_order a b in_a in_b at =
    let space : a.space ≡ b.space = omega (arith, in_a.vpage, in_b.vpage) in
    let vpage : a.vpage ≡ b.vpage = omega (arith, in_a.vpage, in_b.vpage) in
    λ i. record { space = space i; vpage = vpage i }

-- an address is in the table, or not
pub in_table : (spaces pages : ℕ) (a : Address) → is_in_table spaces pages a ≡ true → InTable spaces pages a
in_table spaces pages a is = let two = and_parts _ _ is in record { space = ltb-true a.space spaces two.0; vpage = ltb-true a.vpage pages two.1 }

pub is_inside : (spaces pages : ℕ) (a : Address) → InTable spaces pages a → is_in_table spaces pages a ≡ true
is_inside spaces pages a here = λ i. lt-ltb a.space spaces here.space i && lt-ltb a.vpage pages here.vpage i

pub table_tells : (spaces pages : ℕ) (a : Address) → InTable spaces pages a ⊎ (is_in_table spaces pages a ≡ false)
table_tells spaces pages a = tells (is_in_table spaces pages a) refl where
  tells : (t : Bool) → is_in_table spaces pages a ≡ t → InTable spaces pages a ⊎ (is_in_table spaces pages a ≡ false)
  tells true is = inl (in_table spaces pages a is)
  tells false is = inr is

-- the place of an address of the table, and no other has it
pub place_within : (spaces pages : ℕ) (a : Address) → InTable spaces pages a → place_of pages a < spaces * pages
place_within spaces pages a here = omega (arith, mul-add-lt a.space pages a.vpage spaces here.space here.vpage)

pub same_place : (pages : ℕ) (a b : Address) → a.vpage < pages → b.vpage < pages → place_of pages a ≡ place_of pages b → a ≡ b
same_place pages a b in_a in_b at =
    let space : a.space ≡ b.space = sym (div-mul-add a.space pages a.vpage in_a) ∙ ap (λ (p : ℕ). p / pages) at ∙ div-mul-add b.space pages b.vpage in_b in
    let vpage : a.vpage ≡ b.vpage = sym (mod-mul-add a.space pages a.vpage in_a) ∙ ap (λ (p : ℕ). p % pages) at ∙ mod-mul-add b.space pages b.vpage in_b in
    λ i. record { space = space i; vpage = vpage i }

-- the address of a place
abbrev pub address_at : ℕ → ℕ → Address
address_at pages place = record { space = place / pages; vpage = place % pages }

pub place_at : (pages place : ℕ) → place_of pages (address_at pages place) ≡ place
place_at pages place = div-add-mod' place pages

some_pages : (spaces pages place : ℕ) → place < spaces * pages → 0 < pages
some_pages spaces zero place h = absurd (omega (arith, h))
some_pages spaces (suc n) place h = omega arith

pub inside_at : (spaces pages place : ℕ) → place < spaces * pages → InTable spaces pages (address_at pages place)
inside_at spaces pages place h = record {
  space = elim (leb_tells spaces (place / pages)) [
    | inl past ↦ (let more = mul-le-mul_right pages past.1 in absurd (omega (arith, more, place_at pages place)))
    | inr under ↦ under.1
  ];
  vpage = mod-lt place (some_pages spaces pages place h);
}

-- the places of a table rise as its addresses do
pub rising_places : (pages : ℕ) (a b : Address) → InRange a → a.vpage < pages → b.vpage < pages → place_of pages a < place_of pages b → order_of a < order_of b
rising_places pages a b in_a inside_a inside_b up = elim (leb_tells b.space a.space) [
  | inl low ↦ elim (eqb_tells a.space b.space) [
    | inl same ↦ (let row : a.space * pages ≡ b.space * pages = ap (λ (s : ℕ). s * pages) same.1 in omega (arith, same.1, row))
    | inr other ↦ (let rows : (b.space + 1) * pages ≤ a.space * pages = mul-le-mul_right pages (omega (arith, low.1, other.1)) in absurd (omega (arith, rows)))
  ]
  | inr high ↦ omega (arith, high.1, in_a.vpage)
]

-- what an address of the table names, and what another does
pub entry_inside : (t : EntryTable) (a : Address) → InTable t.size.spaces t.size.pages a → entry_at t a ≡ unwrap_or (slice_get t.list (place_of t.size.pages a)) Absent
entry_inside t a here = ap (λ (b : Bool). if b then unwrap_or (slice_get t.list (place_of t.size.pages a)) Absent else Absent) (is_inside t.size.spaces t.size.pages a here)

pub entry_outside : (t : EntryTable) (a : Address) → is_in_table t.size.spaces t.size.pages a ≡ false → entry_at t a ≡ Absent
entry_outside t a outside = ap (λ (b : Bool). if b then unwrap_or (slice_get t.list (place_of t.size.pages a)) Absent else Absent) outside

pub named_inside : (t : EntryTable) (a : Address) → entry_at t a ≢ Absent → InTable t.size.spaces t.size.pages a
named_inside t a some = elim (table_tells t.size.spaces t.size.pages a) [ inl here ↦ here | inr outside ↦ absurd (some (entry_outside t a outside)) ]

-- an address that is listed under a frame names something
pub listed_some : (t : EntryTable) (a : Address) (frame : ℕ) → is_listed (entry_at t a) frame ≡ true → entry_at t a ≢ Absent
listed_some t a frame is e = let bad : false ≡ true = sym (ap (λ x. is_listed x frame) e) ∙ is in cc

pub listed_inside : (t : EntryTable) (a : Address) (frame : ℕ) → is_listed (entry_at t a) frame ≡ true → InTable t.size.spaces t.size.pages a
listed_inside t a frame is = named_inside t a (listed_some t a frame is)

pub moving_inside : (t : EntryTable) (a : Address) (source : ℕ) → entry_at t a ≡ Migration source → InTable t.size.spaces t.size.pages a
moving_inside t a source is = named_inside t a (λ e. (let bad : Absent ≡ Migration source = sym e ∙ is in cc))

-- the place of an address in a list that is as long as the table says
pub place_in : (t : EntryTable) (size : Size) (a : Address) (place : ℕ) → size ≡ t.size → length t.list ≡ size.spaces * size.pages →
    InTable t.size.spaces t.size.pages a → place ≡ place_of size.pages a → (place ≡ place_of t.size.pages a) × (place < length t.list)
place_in t size a place same count inside at =
    let is : place ≡ place_of t.size.pages a = at ∙ ap (λ (s : Size). place_of s.pages a) same in
    let whole : length t.list ≡ t.size.spaces * t.size.pages = count ∙ ap (λ (s : Size). s.spaces * s.pages) same in
    (is, omega (arith, is, whole, place_within t.size.spaces t.size.pages a inside))

-- an entry that is read by its place
pub entry_got : (t : EntryTable) (a : Address) (place : ℕ) (entry : Entry) → InTable t.size.spaces t.size.pages a → place ≡ place_of t.size.pages a →
    slice_get t.list place ≡ Some entry → entry_at t a ≡ entry
entry_got t a place entry here at got =
    entry_inside t a here
    ∙ ap (λ (p : ℕ). unwrap_or (slice_get t.list p) Absent) (sym at)
    ∙ ap (λ (o : Option Entry). unwrap_or o Absent) got

-- an entry that is read by its place is that of each address with this place
pub read_at : (t : EntryTable) (size : Size) (place : ℕ) (entry : Entry) → size ≡ t.size → slice_get t.list place ≡ Some entry → (a : Address) →
    InTable size.spaces size.pages a → place_of size.pages a ≡ place → entry_at t a ≡ entry
read_at t size place entry same got a inside at =
    entry_got t a place entry (subst (λ (s : Size). InTable s.spaces s.pages a) same inside) (sym at ∙ ap (λ (s : Size). place_of s.pages a) same) got

-- one entry changed, and no other
pub record Changes (old new : EntryTable) (address : Address) (entry : Entry) : Type 0 where
  pub here : entry_at new address ≡ entry
  pub elsewhere : (b : Address) → b ≢ address → entry_at new b ≡ entry_at old b

pub changes : (old : EntryTable) (address : Address) (entry : Entry) (index : ℕ) → InTable old.size.spaces old.size.pages address →
    index ≡ place_of old.size.pages address → index < length old.list → Changes old (with_entry old index entry) address entry
changes old address entry index inside at within = record {
  here = entry_inside (with_entry old index entry) address inside
      ∙ ap (λ (o : Option Entry). unwrap_or o Absent) (slice_get_set_same old.list index (place_of old.size.pages address) entry (sym at) within);
  elsewhere = λ b other. elim (table_tells old.size.spaces old.size.pages b) [
    | inl here ↦ entry_inside (with_entry old index entry) b here
        ∙ ap (λ (o : Option Entry). unwrap_or o Absent) (slice_get_set_other old.list index (place_of old.size.pages b) entry
        (λ e. other (same_place old.size.pages b address here.vpage inside.vpage (e ∙ at))))
        ∙ sym (entry_inside old b here)
    | inr outside ↦ entry_outside (with_entry old index entry) b outside ∙ sym (entry_outside old b outside)
  ];
}

pub changes_only : (old new : EntryTable) (address : Address) (entry : Entry) → Changes old new address entry → ChangesOnly old new address entry
changes_only old new address entry change = record {
  changed = λ a space vpage. ap (entry_at new) (λ i. record { space = space i; vpage = vpage i }) ∙ change.here;
  other_spaces = λ a ne. change.elsewhere a (λ e. ne (ap (λ (x : Address). x.space) e));
  other_pages = λ a ne. change.elsewhere a (λ e. ne (ap (λ (x : Address). x.vpage) e));
}
