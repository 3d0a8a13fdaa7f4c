-- A page gets another place, its first, or none: where each page is afterwards, which frames are free, and that the zone stays valid.
use Rattle.std.proofs.Common.{◌≡◌, ◌≢◌, ℕ, zero, suc, ◌+◌, ◌-◌, ◌<◌, ◌≤◌, Bool, true, false, not, List, ◌∷◌, length, ◌⊎◌, inl, inr, refl, sym, ap, ◌∙◌, arith, Option, Some, None, IsSome, IsTrue, is_some, nat_eq, ◌&&◌, ◌||◌, ◌↔◌}
use Rattle.std.specs.FinMap as map
use Rattle.std.specs.FinSet as set
use Rattle.std.specs.Ordering.{nat_cmp}
use Rattle.std.proofs.Math.Bool.{or-false}
use Rattle.std.proofs.lemmas.Bool.{and_parts, both_ways, cases_Bool, eq-eqb, false_from_ne_true, ne_eqb, not-true, or_left, or_right}
use Rattle.std.proofs.lemmas.Bool.Decides.{eqb_tells, leb_tells}
use Rattle.frame_core.proofs.Searches.{some_at, some_none, none_some, count_more, count_none, count_same}
use Rattle.frame_core.specs.Address.{InTable}
use Rattle.frame_core.specs.Below.{one_if, some_below, count_below}
use Rattle.frame_core.specs.declared.place.Address.{Address}
use Rattle.frame_core.specs.declared.record.Record.{Record}
use Rattle.frame_core.specs.Blocks.{handed_out_by, is_marked_by}
use Rattle.frame_core.specs.History.{page_at, maps, pins}
use Rattle.frame_core.specs.Moves.{out, is_out, page_of, IsWellEnded}
use Rattle.frame_core.specs.Truth.{IsTruthful}
use Rattle.state_core.specs.declared.placement.Placement.{Placement}
use Rattle.state_core.specs.declared.placement.Placement.TheVariants.{At, Moving}
use Rattle.state_core.specs.Valid.{IsValidZone, HasValidPages, is_under}
use Rattle.state_core.specs.Swept.{SweptIfQuiet}
use Rattle.state_core.specs.ZoneState.{ZoneState, frame_count, takes_up, is_used, is_held, is_free, noted}
use Rattle.state_core.proofs.Entries.{get_insert_same, get_insert_other, get_remove_same, get_remove_other}
use Rattle.state_core.proofs.Facts.{not_none}
use Rattle.state_core.proofs.Quiet.{begun_more}

-- the placements after a page got this one, or none
abbrev pub put : map.FinMap nat_cmp Placement → ℕ → Option Placement → map.FinMap nat_cmp Placement
put placement page None = map.remove placement page
put placement page (Some place) = map.insert placement page place

-- the zone after a page got this placement, or none
abbrev pub with_place : ZoneState → ℕ → Option Placement → ZoneState
with_place v page place = record v { placement = put v.placement page place }

-- how many pages are moving by a placement: one where it is Moving, and else none
abbrev pub ways_of : Option Placement → ℕ
ways_of None = 0
ways_of (Some (At frame)) = 0
ways_of (Some (Moving serial source target)) = 1

-- how many frames a page with this placement takes up: one where it is in use, and another where it is moving
abbrev pub frames_of : Option Placement → ℕ
frames_of o = one_if (is_some o) + ways_of o

-- a page is out under a serial
abbrev pub IsOutWith : List Record → ℕ → ℕ → Type 0
IsOutWith records page serial = IsTrue (is_out records serial) × (page_of records serial ≡ Some page)

-- what has to hold so that the place of a page may change: each frame that it takes up then is one that it took up, or one that is free
pub record CanChangePlace (v : ZoneState) (page : ℕ) (old new : Option Placement) : Type 0 where
  pub valid : IsValidZone v
  pub at : map.get v.placement page ≡ old
  pub numbered : page < frame_count v
  pub takes : (frame : ℕ) → takes_up new frame ≡ true → (takes_up old frame ≡ true) ⊎ ((is_free v frame ≡ true) × (frame < frame_count v))
  pub elsewhere : (serial source target : ℕ) → new ≡ Some (Moving serial source target) → source ≢ target

get_put_same : (m : map.FinMap nat_cmp Placement) (page q : ℕ) (place : Option Placement) → q ≡ page → map.get (put m page place) q ≡ place
get_put_same m page q None e = get_remove_same m page q e
get_put_same m page q (Some place) e = get_insert_same m page q place e

get_put_other : (m : map.FinMap nat_cmp Placement) (page q : ℕ) (place : Option Placement) → q ≢ page → map.get (put m page place) q ≡ map.get m q
get_put_other m page q None ne = get_remove_other m page q ne
get_put_other m page q (Some place) ne = get_insert_other m page q place ne

pub unheld_frame : (v : ZoneState) (frame : ℕ) → is_free v frame ≡ true → is_held v frame ≡ false
unheld_frame v frame free = not-true _ (and_parts (not (is_used v frame)) _ free).1

-- no page takes up a free frame
pub untaken : (v : ZoneState) → IsValidZone v → (frame : ℕ) → is_free v frame ≡ true → (page : ℕ) → takes_up (map.get v.placement page) frame ≡ false
untaken v law frame free page = by_use (map.get v.placement page) refl where
  by_use : (o : Option Placement) → map.get v.placement page ≡ o → takes_up (map.get v.placement page) frame ≡ false
  by_use None e = ap (λ (o : Option Placement). takes_up o frame) e
  by_use (Some place) e = some_none (λ p. takes_up (map.get v.placement p) frame) (frame_count v) (not-true _ (and_parts _ (not (is_held v frame)) free).0) page (law.pages.numbered page (not_none _ place e))

-- counts add up to the same where their tests do at each number
pub counts_add_up : (a b c d : ℕ → Bool) (n : ℕ) → ((k : ℕ) → k < n → one_if (a k) + one_if (b k) ≡ one_if (c k) + one_if (d k)) → count_below a n + count_below b n ≡ count_below c n + count_below d n
counts_add_up a b c d zero each = refl
counts_add_up a b c d (suc n) each = omega (arith, each n (omega arith), counts_add_up a b c d n (λ k h. each k (omega arith)))

-- counts of two tests that agree at all numbers but one
counts_but_one : (p r : ℕ → Bool) (n k : ℕ) → k < n → ((q : ℕ) → q ≢ k → p q ≡ r q) → count_below p n + one_if (r k) ≡ count_below r n + one_if (p k)
counts_but_one p r zero k h same = absurd (omega arith)
counts_but_one p r (suc n) k h same = elim (leb_tells n k) [
  | inl at ↦
      (let is : n ≡ k = omega (arith, at.1) in
      let rest : count_below p n ≡ count_below r n = count_same p r n (λ q l. let ne : q ≢ k = omega arith in same q ne) in
      omega (arith, rest, ap (λ (m : ℕ). one_if (p m)) is, ap (λ (m : ℕ). one_if (r m)) is))
  | inr under ↦
      (let ne : n ≢ k = omega (arith, under.1) in
      omega (arith, ap one_if (same n ne), counts_but_one p r n k under.1 same))
]

one_frame : (frame n : ℕ) → frame < n → count_below (λ g. nat_eq g frame) n ≡ 1
one_frame frame n h = omega (arith, count_none (λ (g : ℕ). false) n (λ g l. refl), count_more (λ g. false) (λ g. nat_eq g frame) n frame h refl (eq-eqb frame frame refl) (λ g ne. ne_eqb g frame ne))

frames_counted : (o : Option Placement) (n : ℕ) → ((frame : ℕ) → takes_up o frame ≡ true → frame < n) → ((serial source target : ℕ) → o ≡ Some (Moving serial source target) → source ≢ target) → count_below (takes_up o) n ≡ frames_of o
frames_counted None n within elsewhere = count_none (λ (g : ℕ). false) n (λ g l. refl)
frames_counted (Some (At frame)) n within elsewhere = one_frame frame n (within frame (eq-eqb frame frame refl))
frames_counted (Some (Moving serial source target)) n within elsewhere =
    let apart : target ≢ source = λ same. elsewhere serial source target refl (sym same) in
    let high : target < n = within target (or_right (nat_eq target source) _ (eq-eqb target target refl)) in
    let low : source < n = within source (or_left (nat_eq source source) _ (eq-eqb source source refl)) in
    omega (
      arith,
      one_frame source n low,
      count_more (λ g. nat_eq g source) (λ g. nat_eq g source || nat_eq g target) n target high (ne_eqb target source apart) (or_right _ _ (eq-eqb target target refl))
          (λ g ne. ap (λ b. nat_eq g source || b) (ne_eqb g target ne) ∙ or-false (nat_eq g source)),
    )

module _ {v : ZoneState} {page : ℕ} {old new : Option Placement} (can : CanChangePlace v page old new) where
  abbrev next : ZoneState
  next = with_place v page new

  -- the placement of each page after the change
  pub at_page : map.get next.placement page ≡ new
  at_page = get_put_same v.placement page page new refl

  pub at_other : (q : ℕ) → q ≢ page → map.get next.placement q ≡ map.get v.placement q
  at_other q ne = get_put_other v.placement page q new ne

  -- a page has its new placement, or is another page and has the one that it had
  pub where_is : (q : ℕ) → ((q ≡ page) × (map.get v.placement q ≡ old) × (map.get next.placement q ≡ new)) ⊎ ((q ≢ page) × (map.get next.placement q ≡ map.get v.placement q))
  where_is q = elim (eqb_tells q page) [
    | inl same ↦ inl (same.1, ap (map.get v.placement) same.1 ∙ can.at, get_put_same v.placement page q new same.1)
    | inr other ↦ inr (other.1, at_other q other.1)
  ]

  -- where the words of this page aren't lent, those whose words are lent stay where they are
  pub lent_stay : set.contains v.lent_pages page ≡ false → (q : ℕ) → set.contains v.lent_pages q ≡ true → map.get next.placement q ≡ map.get v.placement q
  lent_stay here q lent = at_other q (λ same. both_ways _ (ap (set.contains v.lent_pages) same ∙ here) lent)

  -- a page that takes up a frame after the change is this page or took it up before
  took : (q g : ℕ) → takes_up (map.get next.placement q) g ≡ true → ((q ≡ page) × (takes_up new g ≡ true)) ⊎ ((q ≢ page) × (takes_up (map.get v.placement q) g ≡ true))
  took q g e = elim (where_is q) [
    | inl here ↦ inl (here.0, sym (ap (λ o. takes_up o g) here.2) ∙ e)
    | inr there ↦ inr (there.0, sym (ap (λ o. takes_up o g) there.1) ∙ e)
  ]

  takes_before : (g : ℕ) → takes_up (map.get v.placement page) g ≡ takes_up old g
  takes_before g = ap (λ o. takes_up o g) can.at

  -- no other page takes up a frame of this one, before or after the change
  pub not_old : (q g : ℕ) → q ≢ page → takes_up (map.get v.placement q) g ≡ true → takes_up old g ≡ true → ⊥
  not_old q g ne e mine = ne (can.valid.pages.apart q page g e (takes_before g ∙ mine))

  pub not_new : (q g : ℕ) → q ≢ page → takes_up (map.get v.placement q) g ≡ true → takes_up new g ≡ true → ⊥
  not_new q g ne e mine = elim (can.takes g mine) [ inl had ↦ not_old q g ne e had | inr free ↦ both_ways _ (untaken v can.valid g free.0 q) e ]

  pub new_within : (g : ℕ) → takes_up new g ≡ true → g < frame_count v
  new_within g e = elim (can.takes g e) [ inl had ↦ can.valid.pages.within page g (takes_before g ∙ had) | inr free ↦ free.1 ]

  pub old_clear : (g : ℕ) → takes_up old g ≡ true → is_held v g ≡ false
  old_clear g e = can.valid.pages.clear page g (takes_before g ∙ e)

  pub new_clear : (g : ℕ) → takes_up new g ≡ true → is_held v g ≡ false
  new_clear g e = elim (can.takes g e) [ inl had ↦ old_clear g had | inr free ↦ unheld_frame v g free.0 ]

  pub valid_places : (unmovable : set.FinSet nat_cmp) → ((q : ℕ) → set.contains unmovable q ≡ true → IsSome (map.get next.placement q)) → HasValidPages next.placement unmovable (frame_count v) (is_held v)
  valid_places unmovable stay = record {
    numbered = λ q used. elim (where_is q) [ inl here ↦ omega (arith, here.0, can.numbered) | inr there ↦ can.valid.pages.numbered q (ap is_some (sym there.1) ∙ used) ];
    elsewhere = λ q serial source target e. elim (where_is q) [ inl here ↦ can.elsewhere serial source target (sym here.2 ∙ e) | inr there ↦ can.valid.pages.elsewhere q serial source target (sym there.1 ∙ e) ];
    apart = λ p q g a b. elim (took p g a) [
      | inl x ↦ elim (took q g b) [ inl y ↦ x.0 ∙ sym y.0 | inr y ↦ absurd (not_new q g y.0 y.1 x.1) ]
      | inr x ↦ elim (took q g b) [ inl y ↦ absurd (not_new p g x.0 x.1 y.1) | inr y ↦ can.valid.pages.apart p q g x.1 y.1 ]
    ];
    within = λ q g a. elim (took q g a) [ inl mine ↦ new_within g mine.1 | inr theirs ↦ can.valid.pages.within q g theirs.1 ];
    clear = λ q g a. elim (took q g a) [ inl mine ↦ new_clear g mine.1 | inr theirs ↦ can.valid.pages.clear q g theirs.1 ];
    unmovable = stay;
  }

  -- which frames are free after the change: none that the page takes up, each that it left, and else those that were
  pub free_new : (g : ℕ) → takes_up new g ≡ true → is_free next g ≡ false
  free_new g e = ap (λ b. not b && not (is_held v g)) (some_at (λ p. takes_up (map.get next.placement p) g) (frame_count v) page can.numbered (ap (λ o. takes_up o g) at_page ∙ e))

  pub free_old : (g : ℕ) → takes_up old g ≡ true → is_free v g ≡ false
  free_old g e = ap (λ b. not b && not (is_held v g)) (some_at (λ p. takes_up (map.get v.placement p) g) (frame_count v) page can.numbered (takes_before g ∙ e))

  pub free_left : (g : ℕ) → takes_up old g ≡ true → takes_up new g ≡ false → is_free next g ≡ true
  free_left g had gone =
      let unused : is_used next g ≡ false = none_some (λ p. takes_up (map.get next.placement p) g) (frame_count v) (λ q h. false_from_ne_true _ (λ e. elim (took q g e) [ inl mine ↦ both_ways _ gone mine.1 | inr theirs ↦ not_old q g theirs.0 theirs.1 had ])) in
      λ i. not (unused i) && not (old_clear g had i)

  pub free_kept : (g : ℕ) → takes_up old g ≡ false → takes_up new g ≡ false → is_free next g ≡ is_free v g
  free_kept g not_had not_has = ap (λ (p : ℕ → Bool). not (some_below p (frame_count v)) && not (is_held v g)) (λ i q. same q i) where
    same : (q : ℕ) → takes_up (map.get next.placement q) g ≡ takes_up (map.get v.placement q) g
    same q = elim (where_is q) [
      | inl here ↦ ap (λ o. takes_up o g) here.2 ∙ not_has ∙ sym (ap (λ o. takes_up o g) here.1 ∙ not_had)
      | inr there ↦ ap (λ o. takes_up o g) there.1
    ]

  pub free_same : (g : ℕ) → takes_up old g ≡ takes_up new g → is_free next g ≡ is_free v g
  free_same g e = elim (cases_Bool (takes_up new g)) [ inl has ↦ free_new g has ∙ sym (free_old g (e ∙ has)) | inr hasnt ↦ free_kept g (e ∙ hasnt) hasnt ]

  -- how many frames are free and how many pages are in use, before and after
  balanced : (g : ℕ) → (takes_up old g ≡ true) ⊎ (takes_up old g ≡ false) → (takes_up new g ≡ true) ⊎ (takes_up new g ≡ false) → one_if (is_free next g) + one_if (takes_up new g) ≡ one_if (is_free v g) + one_if (takes_up old g)
  balanced g (inl had) (inl has) = λ i. one_if ((free_new g has ∙ sym (free_old g had)) i) + one_if ((has ∙ sym had) i)
  balanced g (inl had) (inr gone) = (λ i. one_if (free_left g had gone i) + one_if (gone i)) ∙ sym (λ i. one_if (free_old g had i) + one_if (had i))
  balanced g (inr had_not) (inl has) = elim (can.takes g has) [
    | inl had ↦ absurd (both_ways _ had_not had)
    | inr free ↦ (λ i. one_if (free_new g has i) + one_if (has i)) ∙ sym (λ i. one_if (free.0 i) + one_if (had_not i))
  ]
  balanced g (inr had_not) (inr has_not) = λ i. one_if (free_kept g had_not has_not i) + one_if ((has_not ∙ sym had_not) i)

  pub free_count : count_below (is_free next) (frame_count v) + frames_of new ≡ count_below (is_free v) (frame_count v) + frames_of old
  free_count = omega (
    arith,
    counts_add_up (is_free next) (takes_up new) (is_free v) (takes_up old) (frame_count v) (λ g h. balanced g (cases_Bool _) (cases_Bool _)),
    frames_counted new (frame_count v) new_within can.elsewhere,
    frames_counted old (frame_count v) (λ g e. can.valid.pages.within page g (takes_before g ∙ e)) (λ serial source target e. can.valid.pages.elsewhere page serial source target (can.at ∙ e)),
  )

  pub page_count : count_below (λ q. is_some (map.get next.placement q)) (frame_count v) + one_if (is_some old) ≡ count_below (λ q. is_some (map.get v.placement q)) (frame_count v) + one_if (is_some new)
  page_count = omega (
    arith,
    counts_but_one (λ q. is_some (map.get next.placement q)) (λ q. is_some (map.get v.placement q)) (frame_count v) page can.numbered (λ q ne. ap is_some (at_other q ne)),
    ap (λ (o : Option Placement). one_if (is_some o)) at_page,
    ap (λ (o : Option Placement). one_if (is_some o)) can.at,
  )

-- what the record of a call that changes the place of a page has to fulfil, with the pages that are noted as unmovable then
pub record IsTold (v : ZoneState) (page : ℕ) (new : Option Placement) (entry : Record) (unmovable : set.FinSet nat_cmp) : Type 0 where
  pub truthful : IsTruthful (entry ∷ v.records)
  pub well_ended : IsWellEnded (entry ∷ v.records)
  pub spare : 0 < v.room
  pub room_left : length (out (entry ∷ v.records)) ≤ v.room - 1
  pub named : (address : Address) (q : ℕ) → page_at (entry ∷ v.records) address ≡ Some q → InTable v.spaces v.vpages address × IsSome (map.get (put v.placement page new) q)
  pub in_use : (q : ℕ) → IsSome (map.get (put v.placement page new) q) → (0 < maps (entry ∷ v.records) q) × (maps (entry ∷ v.records) q ≤ 4) × (pins (entry ∷ v.records) q ≤ 255)
  -- this page is moving under exactly the serial that it is out with, and the other pages stay out as they were
  pub own_way : (serial : ℕ) → IsTrue (is_under new serial) ↔ IsOutWith (entry ∷ v.records) page serial
  pub other_ways : (q serial : ℕ) → q ≢ page → IsOutWith v.records q serial ↔ IsOutWith (entry ∷ v.records) q serial
  pub ways : length (out (entry ∷ v.records)) + ways_of (map.get v.placement page) ≡ length (out v.records) + ways_of new
  pub handed : (first : ℕ) → handed_out_by (entry ∷ v.records) first ≡ handed_out_by v.records first
  pub marks : (block : ℕ) → is_marked_by (entry ∷ v.records) block ≡ is_marked_by v.records block
  -- the words of this page aren't lent, and the pages whose words are lent keep their pins
  pub here : set.contains v.lent_pages page ≡ false
  pub pins_kept : (q : ℕ) → set.contains v.lent_pages q ≡ true → pins (entry ∷ v.records) q ≡ pins v.records q
  pub stay : (q : ℕ) → set.contains unmovable q ≡ true → IsSome (map.get (put v.placement page new) q)

module _ {v : ZoneState} {page : ℕ} {old new : Option Placement} (can : CanChangePlace v page old new) (entry : Record) (unmovable : set.FinSet nat_cmp) (told : IsTold v page new entry unmovable) where
  abbrev placement_then : map.FinMap nat_cmp Placement
  placement_then = put v.placement page new

  way_then : (q serial : ℕ) → IsTrue (is_under (map.get placement_then q) serial) → IsOutWith (entry ∷ v.records) q serial
  way_then q serial under = elim (where_is can q) [
    | inl here ↦ (let way = (told.own_way serial).0 (sym (ap (λ o. is_under o serial) here.2) ∙ under) in (way.0, way.1 ∙ ap Some (sym here.0)))
    | inr there ↦ (told.other_ways q serial there.0).0 ((can.valid.agrees.under_way q serial).0 (sym (ap (λ o. is_under o serial) there.1) ∙ under))
  ]

  under_then : (q serial : ℕ) → IsOutWith (entry ∷ v.records) q serial → IsTrue (is_under (map.get placement_then q) serial)
  under_then q serial way = elim (where_is can q) [
    | inl here ↦ ap (λ o. is_under o serial) here.2 ∙ (told.own_way serial).1 (way.0, way.1 ∙ ap Some here.0)
    | inr there ↦ ap (λ o. is_under o serial) there.1 ∙ (can.valid.agrees.under_way q serial).1 ((told.other_ways q serial there.0).1 way)
  ]

  pub valid_told : (migrate free : ℕ) → (migrate ≤ free) × (free ≤ frame_count v) → SweptIfQuiet (record (noted (with_place v page new) entry) { unmovable = unmovable; migrate = migrate; free = free }) → IsValidZone (record (noted (with_place v page new) entry) { unmovable = unmovable; migrate = migrate; free = free })
  valid_told migrate free fingers swept =
      let law = can.valid in
      record {
        size = law.size;
        addresses = law.addresses;
        journal = record {
          places = (let before = law.journal.places in let spare = told.spare in omega arith);
          truthful = told.truthful;
          well_ended = told.well_ended;
          room_left = told.room_left;
        };
        agrees = record {
          named = told.named;
          in_use = told.in_use;
          under_way = λ q serial. (way_then q serial, under_then q serial);
          handed = λ first. law.agrees.handed first ∙ sym (told.handed first);
          marks = λ block. law.agrees.marks block ∙ sym (told.marks block);
        };
        pages = valid_places can unmovable told.stay;
        blocks = law.blocks;
        loans = record {
          used = λ q lent. ap is_some (lent_stay can told.here q lent) ∙ law.loans.used q lent;
          pinned = λ q frame lent rests. (let some = law.loans.pinned q frame lent (sym (lent_stay can told.here q lent) ∙ rests) in omega (arith, told.pins_kept q lent));
          lendable = law.loans.lendable;
        };
        fingers = record { ordered = fingers; begun = λ start e. begun_more v.records entry v.round law.fingers.begun start e; swept = swept };
        sum = omega (arith, law.sum, free_count can, page_count can, told.ways, ap ways_of can.at);
      }
