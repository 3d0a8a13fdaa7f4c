-- The lists of a zone's tables still agree with its entries after each change.
use Rattle.std.proofs.Common.{◌≡◌, ◌≢◌, ℕ, zero, suc, ◌<◌, true, false, List, [], ◌++◌, length, take, drop, get_or, replicate, ◌⊎◌, inl, inr, refl, sym, ap, subst, ◌∙◌, arith}
use Rattle.std.specs.Prelude.{Option, Some, slice_get, slice_set, unwrap_or}
use Rattle.std.specs.List.{SwappedAt}
use Rattle.std.proofs.lemmas.Bool.{eq-eqb, eqb-true, ne_eqb, both_ways, false_from_ne_true}
use Rattle.std.proofs.lemmas.Bool.Decides.{eqb_tells, leb_tells}
use Rattle.std.proofs.lemmas.List.{length-set, take_all, take-append-le}
use Rattle.std.proofs.lemmas.Option.{slice_get_within, slice_get_past, slice_get-get_or}
use Rattle.frame_core.proofs.Lists.{slice_get_set_same, slice_get_set_other}
use Rattle.frame_core.specs.Address.{InRange}
use Rattle.frame_core.specs.declared.place.Address.{Address}
use Rattle.table_core.specs.declared.entry.Entry.{Entry}
use Rattle.table_core.specs.declared.entry.Entry.TheVariants.{Absent, Present, Migration}
use Rattle.table_core.specs.Listed.{IsListOf, AreListed}
use Rattle.table_core.specs.Names.{IsIn, IsRising, AreJust, order_of, inserted, without}
use Rattle.table_core.specs.Tables.{EntryTable, entry_at, is_listed, IsBlank, Replaces}
use Rattle.table_core.proofs.Places.{address_tells, same_order, Changes}
use Rattle.table_core.proofs.Rising.{from_inserted, to_inserted, rising_inserted, length_inserted, from_without, to_without, rising_without, length_without}

-- a list that is read by its index
pub list_read : (lists : List (List Address)) (frame index : ℕ) (names : List Address) → index ≡ frame → index < length lists → names ≡ get_or lists index names →
    slice_get lists frame ≡ Some names
list_read lists frame index names at within read = ap (slice_get lists) (sym at) ∙ slice_get-get_or lists index names within ∙ ap Some (sym read)

-- a slice that was overwritten as a whole
pub rewritten : {X : Type 0} (old new : List X) (n : ℕ) → length new ≡ n → length old ≡ n → take n (new ++ drop (length new) old) ≡ new
rewritten old new n a b = take-append-le n new (drop (length new) old) (omega arith) ∙ take_all n new (omega arith)

-- two entries are equal or not
pub same_entry : (a b : Entry) → (a ≡ b) ⊎ (a ≢ b)
same_entry Absent Absent = inl refl
same_entry Absent (Present f) = inr (λ e. cc)
same_entry Absent (Migration f) = inr (λ e. cc)
same_entry (Present f) Absent = inr (λ e. cc)
same_entry (Present f) (Present g) = elim (eqb_tells f g) [ inl same ↦ inl (ap Present same.1) | inr other ↦ inr (λ e. let at : f ≡ g = cc in other.1 at) ]
same_entry (Present f) (Migration g) = inr (λ e. cc)
same_entry (Migration f) Absent = inr (λ e. cc)
same_entry (Migration f) (Present g) = inr (λ e. cc)
same_entry (Migration f) (Migration g) = elim (eqb_tells f g) [ inl same ↦ inl (ap Migration same.1) | inr other ↦ inr (λ e. let at : f ≡ g = cc in other.1 at) ]

-- a list has the addresses of a frame where the same ones are listed under it that were listed under the frame of the list
pub moved_list : (old new : EntryTable) (f g : ℕ) (names : List Address) → IsListOf old f names → ((b : Address) → InRange b → is_listed (entry_at new b) g ≡ is_listed (entry_at old b) f) → IsListOf new g names
moved_list old new f g names list same = record {
  few = list.few;
  just = record {
    rising = list.just.rising;
    each = λ b. (
      λ h. (let was = (list.just.each b).0 h in (was.0, same b was.0 ∙ was.1)),
      λ h. (list.just.each b).1 (h.0, sym (same b h.0) ∙ h.1),
    );
  };
}

-- what a change of one entry does to the list of a frame
module _ (old new : EntryTable) (address : Address) (entry : Entry) (range : InRange address) (change : Changes old new address entry) (frame : ℕ) (names : List Address) (list : IsListOf old frame names) where
  at_it : (b : Address) → b ≡ address → is_listed (entry_at new b) frame ≡ is_listed entry frame
  at_it b same = ap (λ (a : Address). is_listed (entry_at new a) frame) same ∙ ap (λ e. is_listed e frame) change.here

  pub list_kept : is_listed (entry_at old address) frame ≡ false → is_listed entry frame ≡ false → IsListOf new frame names
  list_kept before after = moved_list old new frame frame names list (λ b in_b. elim (address_tells b address) [
    | inl same ↦ at_it b same ∙ after ∙ sym (ap (λ a. is_listed (entry_at old a) frame) same ∙ before)
    | inr other ↦ ap (λ e. is_listed e frame) (change.elsewhere b other)
  ])

  pub list_gains : is_listed (entry_at old address) frame ≡ false → is_listed entry frame ≡ true → length names < 4 → IsListOf new frame (inserted names address)
  list_gains before after room = record {
    few = omega (arith, length_inserted names address);
    just = record {
      rising = rising_inserted names address list.just.rising (λ b h at. (let was = (list.just.each b).0 h in
          both_ways _ (ap (λ a. is_listed (entry_at old a) frame) (same_order b address was.0 range at) ∙ before) was.1));
      each = λ b. (
        λ h. elim (from_inserted names address b h) [
          | inl e ↦ (subst InRange e range, at_it b (sym e) ∙ after)
          | inr k ↦ (let was = (list.just.each b).0 k in (
            was.0,
            elim (address_tells b address) [
              | inl same ↦ at_it b same ∙ after
              | inr other ↦ ap (λ e. is_listed e frame) (change.elsewhere b other) ∙ was.1
            ],
          ))
        ],
        λ h. elim (address_tells b address) [
          | inl same ↦ to_inserted names address b (inl (sym same))
          | inr other ↦ to_inserted names address b (inr ((list.just.each b).1 (h.0, sym (ap (λ e. is_listed e frame) (change.elsewhere b other)) ∙ h.1)))
        ],
      );
    };
  }

  pub list_loses : is_listed entry frame ≡ false → IsListOf new frame (without names address)
  list_loses after = record {
    few = omega (arith, list.few, length_without names address);
    just = record {
      rising = rising_without names address list.just.rising;
      each = λ b. (
        λ h. (let k = from_without names address b list.just.rising h in
            let was = (list.just.each b).0 k.0 in
            (was.0, ap (λ e. is_listed e frame) (change.elsewhere b (λ e. k.1 (ap order_of e))) ∙ was.1)),
        λ h. elim (address_tells b address) [
          | inl same ↦ absurd (both_ways _ (at_it b same ∙ after) h.1)
          | inr other ↦ to_without names address b ((list.just.each b).1 (h.0, sym (ap (λ e. is_listed e frame) (change.elsewhere b other)) ∙ h.1))
              (λ e. other (same_order b address h.0 range e))
        ],
      );
    };
  }

-- one list is replaced as its entry changed, and no other list is touched
pub listed_changed : (old new : EntryTable) (lists : List (List Address)) (address : Address) (entry : Entry) (frame : ℕ) (names changed : List Address) →
    AreListed old lists → InRange address → Changes old new address entry →
    slice_get lists frame ≡ Some names → IsListOf new frame changed →
    ((g : ℕ) → g ≢ frame → (is_listed (entry_at old address) g ≡ false) × (is_listed entry g ≡ false)) → AreListed new (slice_set lists frame changed)
listed_changed old new lists address entry frame names changed listed range change at list off = record {
  in_range = λ a some. elim (address_tells a address) [
    | inl same ↦ subst InRange (sym same) range
    | inr other ↦ listed.in_range a (λ e. some (change.elsewhere a other ∙ e))
  ];
  each = λ g xs e. elim (eqb_tells g frame) [
    | inl here ↦ (let both : Some changed ≡ Some xs = sym (slice_get_set_same lists frame g changed here.1 inside) ∙ e in
        let is : changed ≡ xs = cc in
        subst (λ (f : ℕ). IsListOf new f xs) (sym here.1) (subst (IsListOf new frame) is list))
    | inr other ↦ list_kept old new address entry range change g xs (listed.each g xs (sym (slice_get_set_other lists frame g changed other.1) ∙ e)) (off g other.1).0 (off g other.1).1
  ];
  within = λ b g e. elim (address_tells b address) [
    | inl same ↦ elim (eqb_tells g frame) [
      | inl is ↦ omega (arith, is.1, inside, length-set lists frame changed)
      | inr ne ↦ absurd (both_ways _ (off g ne.1).1 (sym (ap (λ e. is_listed e g) (ap (entry_at new) same ∙ change.here)) ∙ e))
    ]
    | inr other ↦ omega (arith, listed.within b g (sym (ap (λ e. is_listed e g) (change.elsewhere b other)) ∙ e), length-set lists frame changed)
  ];
} where
  inside : frame < length lists
  inside = slice_get_within lists frame names at

-- an address is bound to a frame
pub listed_set : (old new : EntryTable) (lists : List (List Address)) (address : Address) (frame : ℕ) (names : List Address) →
    AreListed old lists → InRange address → Changes old new address (Present frame) → entry_at old address ≡ Absent →
    slice_get lists frame ≡ Some names → length names < 4 → AreListed new (slice_set lists frame (inserted names address))
listed_set old new lists address frame names listed range change absent at room =
    listed_changed old new lists address (Present frame) frame names (inserted names address) listed range change at
    (list_gains old new address (Present frame) range change frame names (listed.each frame names at) (ap (λ e. is_listed e frame) absent) (eq-eqb frame frame refl) room)
    (λ g ne. (ap (λ e. is_listed e g) absent, ne_eqb frame g (λ e. ne (sym e))))

-- an address names nothing any more
pub listed_clear : (old new : EntryTable) (lists : List (List Address)) (address : Address) (frame : ℕ) (names : List Address) →
    AreListed old lists → InRange address → Changes old new address Absent → entry_at old address ≡ Present frame →
    slice_get lists frame ≡ Some names → AreListed new (slice_set lists frame (without names address))
listed_clear old new lists address frame names listed range change present at =
    listed_changed old new lists address Absent frame names (without names address) listed range change at
    (list_loses old new address Absent range change frame names (listed.each frame names at) refl)
    (λ g ne. (ap (λ e. is_listed e g) present ∙ ne_eqb frame g (λ e. ne (sym e)), refl))

-- what holds of the absent entry, and at each address in range, holds at every address
pub everywhere : (entries : EntryTable) (lists : List (List Address)) → AreListed entries lists → (Holds : Entry → Type 0) → Holds Absent →
    ((a : Address) → InRange a → Holds (entry_at entries a)) → (a : Address) → Holds (entry_at entries a)
everywhere entries lists listed Holds none here a = elim (same_entry (entry_at entries a) Absent) [
  | inl absent ↦ subst Holds (sym absent) none
  | inr some ↦ here a (listed.in_range a some)
]

-- each address that names something is still in range where one entry took the place of another
pub range_kept : (old new : EntryTable) (lists : List (List Address)) (from to : Entry) → AreListed old lists → Replaces old new from to → from ≢ Absent →
    (a : Address) → entry_at new a ≢ Absent → InRange a
range_kept old new lists from to listed change names a some = elim (same_entry (entry_at old a) from) [
  | inl one ↦ listed.in_range a (λ e. names (sym one ∙ e))
  | inr one ↦ listed.in_range a (λ e. some (change.elsewhere a one ∙ e))
]

-- a page is isolated: its addresses stay listed under the frame that it left
pub listed_moved : (old new : EntryTable) (lists : List (List Address)) (frame : ℕ) → AreListed old lists →
    Replaces old new (Present frame) (Migration frame) → AreListed new lists
listed_moved old new lists frame listed change = record {
  in_range = range_kept old new lists (Present frame) (Migration frame) listed change (λ e. cc);
  each = λ g names e. moved_list old new g g names (listed.each g names e) (λ b range. same b g);
  within = λ b g e. listed.within b g (sym (same b g) ∙ e);
} where
  same : (b : Address) (g : ℕ) → is_listed (entry_at new b) g ≡ is_listed (entry_at old b) g
  same b g = elim (same_entry (entry_at old b) (Present frame)) [
    | inl one ↦ ap (λ x. is_listed x g) (change.there b one) ∙ sym (ap (λ x. is_listed x g) one)
    | inr one ↦ ap (λ x. is_listed x g) (change.elsewhere b one)
  ]

-- two lists change places
pub record Swapped (lists swapped : List (List Address)) (i j : ℕ) : Type 0 where
  pub count : length swapped ≡ length lists
  pub first : slice_get swapped i ≡ slice_get lists j
  pub second : slice_get swapped j ≡ slice_get lists i
  pub others : (k : ℕ) → k ≢ i → k ≢ j → slice_get swapped k ≡ slice_get lists k

pub swapped_at : (lists swapped : List (List Address)) (i j : ℕ) → i < length lists → j < length lists → length swapped ≡ length lists → SwappedAt lists swapped i j → Swapped lists swapped i j
swapped_at lists swapped i j a b count at = record {
  count = count;
  first = slice_get-get_or swapped i [] (omega arith) ∙ ap Some (at.0 []) ∙ sym (slice_get-get_or lists j [] b);
  second = slice_get-get_or swapped j [] (omega arith) ∙ ap Some (at.1 []) ∙ sym (slice_get-get_or lists i [] a);
  others = λ k ni nj. elim (leb_tells (length lists) k) [
    | inl past ↦ slice_get_past swapped k (omega (arith, past.1)) ∙ sym (slice_get_past lists k past.1)
    | inr under ↦ slice_get-get_or swapped k [] (omega (arith, under.1)) ∙ ap Some (at.2 k [] ni nj) ∙ sym (slice_get-get_or lists k [] under.1)
  ];
}

-- a move ends: the addresses of the page are listed under its frame
module _ (old new : EntryTable) (lists swapped : List (List Address)) (source frame : ℕ) (listed : AreListed old lists)
    (change : Replaces old new (Migration source) (Present frame)) (swap : Swapped lists swapped source frame)
    (left : (a : Address) → InRange a → is_listed (entry_at old a) source ≡ true → entry_at old a ≡ Migration source)
    (unnamed : frame ≢ source → (a : Address) → InRange a → is_listed (entry_at old a) frame ≡ false)
    (source_in : source < length lists) (frame_in : frame < length lists) where
  off : (b : Address) → InRange b → entry_at old b ≢ Migration source → is_listed (entry_at old b) source ≡ false
  off b range ne = false_from_ne_true _ (λ e. ne (left b range e))

  here : (b : Address) → InRange b → is_listed (entry_at new b) frame ≡ is_listed (entry_at old b) source
  here b range = elim (same_entry (entry_at old b) (Migration source)) [
    | inl one ↦ ap (λ x. is_listed x frame) (change.there b one) ∙ eq-eqb frame frame refl ∙ sym (ap (λ x. is_listed x source) one ∙ eq-eqb source source refl)
    | inr one ↦ ap (λ x. is_listed x frame) (change.elsewhere b one)
        ∙ elim (eqb_tells frame source) [ inl same ↦ ap (is_listed (entry_at old b)) same.1 | inr other ↦ unnamed other.1 b range ∙ sym (off b range one) ]
  ]

  there : frame ≢ source → (b : Address) → InRange b → is_listed (entry_at new b) source ≡ is_listed (entry_at old b) frame
  there ne b range = elim (same_entry (entry_at old b) (Migration source)) [
    | inl one ↦ ap (λ x. is_listed x source) (change.there b one) ∙ ne_eqb frame source ne ∙ sym (unnamed ne b range)
    | inr one ↦ ap (λ x. is_listed x source) (change.elsewhere b one) ∙ off b range one ∙ sym (unnamed ne b range)
  ]

  apart : (g : ℕ) → g ≢ frame → g ≢ source → (b : Address) → InRange b → is_listed (entry_at new b) g ≡ is_listed (entry_at old b) g
  apart g nf ns b range = elim (same_entry (entry_at old b) (Migration source)) [
    | inl one ↦ ap (λ x. is_listed x g) (change.there b one) ∙ ne_eqb frame g (λ e. nf (sym e)) ∙ sym (ap (λ x. is_listed x g) one ∙ ne_eqb source g (λ e. ns (sym e)))
    | inr one ↦ ap (λ x. is_listed x g) (change.elsewhere b one)
  ]

  pub listed_ended : AreListed new swapped
  listed_ended = record {
    in_range = range_kept old new lists (Migration source) (Present frame) listed change (λ e. cc);
    each = λ g names e. elim (eqb_tells g frame) [
      | inl same ↦ subst (λ (f : ℕ). IsListOf new f names) (sym same.1) (moved_list old new source frame names (listed.each source names (sym swap.second ∙ ap (slice_get swapped) (sym same.1) ∙ e)) here)
      | inr ne ↦ elim (eqb_tells g source) [
        | inl same ↦ subst (λ (f : ℕ). IsListOf new f names) (sym same.1) (moved_list old new frame source names (listed.each frame names (sym swap.first ∙ ap (slice_get swapped) (sym same.1) ∙ e)) (there (λ is. ne.1 (same.1 ∙ sym is))))
        | inr other ↦ moved_list old new g g names (listed.each g names (sym (swap.others g other.1 ne.1) ∙ e)) (apart g ne.1 other.1)
      ]
    ];
    within = λ b g e. elim (same_entry (entry_at old b) (Migration source)) [
      | inl one ↦ (let at : frame ≡ g = eqb-true frame g (sym (ap (λ x. is_listed x g) (change.there b one)) ∙ e) in omega (arith, swap.count))
      | inr one ↦ omega (arith, listed.within b g (sym (ap (λ x. is_listed x g) (change.elsewhere b one)) ∙ e), swap.count)
    ];
  }

-- a list of copies has nothing else at any index
pub all_same : {X : Type 0} (n place : ℕ) (x : X) → unwrap_or (slice_get (replicate n x) place) x ≡ x
all_same zero place x = refl
all_same (suc n) zero x = refl
all_same (suc n) (suc place) x = all_same n place x

-- no address names anything
pub listed_none : (entries : EntryTable) (n : ℕ) → IsBlank entries → AreListed entries (replicate n [])
listed_none entries n blank = record {
  in_range = λ a some. absurd (some (blank a));
  each = λ frame names e. subst (IsListOf entries frame) (sym (all_same n frame []) ∙ ap (λ (o : Option (List Address)). unwrap_or o []) e) (record {
    few = omega arith;
    just = record { rising = tt; each = λ b. (λ h. absurd h, λ h. (let bad : false ≡ true = sym (ap (λ x. is_listed x frame) (blank b)) ∙ h.1 in cc)) };
  });
  within = λ b frame e. (let bad : false ≡ true = sym (ap (λ x. is_listed x frame) (blank b)) ∙ e in cc);
}

-- the addresses of a frame's list that have an entry are all that have it
pub just_those : (entries : EntryTable) (frame : ℕ) (names found : List Address) (entry : Entry) → IsListOf entries frame names → is_listed entry frame ≡ true → IsRising found →
    ((a : Address) → (IsIn found a → IsIn names a × (entry_at entries a ≡ entry)) × (IsIn names a × (entry_at entries a ≡ entry) → IsIn found a)) →
    AreJust found (λ a. entry_at entries a ≡ entry)
just_those entries frame names found entry list under rising those = record {
  rising = rising;
  each = λ a. (
    λ h. (let is = (those a).0 h in (((list.just.each a).0 is.0).0, is.1)),
    λ h. (those a).1 ((list.just.each a).1 (h.0, ap (λ x. is_listed x frame) h.1 ∙ under), h.1),
  );
}
