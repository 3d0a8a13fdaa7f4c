-- What the clauses of public calls say of pages, books and seats.
use Rattle.std.proofs.Common.{◌≡◌, ℕ, ◌+◌, Bool, true, false, not, if◌then◌else◌, ◌≤◌, [], length, refl, sym, ap, subst, ◌∙◌, arith}
use Rattle.std.specs.Prelude.{Option, Some, None, is_some, IsSome, IfSome, Result, Ok, Err, IsOk, IfOk, OnOk, ◌↔◌, ◌&&◌, nat_eq, nat_lt}
use Rattle.std.specs.FinMap as map
use Rattle.std.specs.FinSet as set
use Rattle.std.proofs.lemmas.Bool.{eq-eqb, both_ways, ltb-true, ltb-false}
use Rattle.std.proofs.lemmas.List.{nil_from_length}
use Rattle.std.specs.Option.{ok_or}
use Rattle.std.specs.Result.{result_err}
use Rattle.frame_core.specs.declared.record.Record.{Record}
use Rattle.frame_core.specs.Moves.{isolated, moved, put_back, out}
use Rattle.frame_core.proofs.Ends.{is_balanced, ended_once as each_once}
use Rattle.frame_core.specs.Page.{IsolatedPage, Page}
use Rattle.state_core.specs.declared.error.ZoneError.{ZoneError}
use Rattle.state_core.specs.declared.error.ZoneError.TheVariants.{Out}
use Rattle.state_core.specs.declared.information.Audit.{Audit}
use Rattle.state_core.specs.declared.placement.Placement.{Placement}
use Rattle.state_core.specs.declared.placement.Placement.TheVariants.{At, Moving}
use Rattle.zone_core.specs.Books.{AreBooks}
use Rattle.zone_core.specs.Counted.{IsCounted}
use Rattle.state_core.specs.Valid.{IsValidZone, is_under}
use Rattle.state_core.specs.Carrying.{relocated, words_now}
use Rattle.state_core.specs.Ending.{is_own, IsOwnCopy, IsSettled, IsEnded}
use Rattle.state_core.specs.Packed.{IsPacked}
use Rattle.state_core.specs.Pairs.{HaveMet}
use Rattle.zone_core.specs.Seats.{IsAudited, ScanSeat, EndSeat}
use Rattle.zone_core.specs.declared.seats.Answered.TheVariants as answered
use Rattle.state_core.specs.ZoneState.{ZoneState, is_quiet}
use Rattle.state_core.proofs.Entries.{get_insert_same}
use Rattle.state_core.proofs.Packing.{packed_quiet}

neither : (a b : Bool) → b ≡ false → (a && b) ≡ false
neither true b e = e
neither false b e = refl

-- a page whose move has ended isn't moving any more
pub ended_once : (v : ZoneState) (entry : Record) (page frame : ℕ) (p : IsolatedPage) → p.page.number ≡ page → is_own (relocated v entry page (At frame)) p ≡ false
ended_once v entry page frame p e = ap (λ b. b && not (set.contains v.lent_pages p.page.number)) (neither (nat_eq p.page.zone v.number) _ (ap (λ (o : Option Placement). is_under o p.serial) (get_insert_same v.placement page p.page.number (At frame) e)))

-- a page of a copy whose move is found is moving in the zone, and only then
module _ {z v : ZoneState} {serial : ℕ} {page : Page} {copy : IsolatedPage} (same : z ≡ v) (serial_is : serial ≡ copy.serial) (page_is : page ≡ copy.page) where
  found_is : is_own z (record { serial = serial; page = page }) ≡ is_own v copy
  found_is = λ i. is_own (same i) (record { serial = serial_is i; page = page_is i })

  pub own_found : {A : Type 0} {x : A} (way : Option A) → IsSome way ↔ (is_own z (record { serial = serial; page = page }) ≡ true) → way ≡ Some x → is_own v copy ≡ true
  own_found way found is = sym found_is ∙ found.0 (ap is_some is)

  pub none_found : {A : Type 0} (way : Option A) → IsSome way ↔ (is_own z (record { serial = serial; page = page }) ≡ true) → ((x : A) → way ≡ Some x → ⊥)
      → (false ≡ true → IsOwnCopy v copy) × (IsOwnCopy v copy → false ≡ true)
  none_found (Some x) found not = absurd (not x refl)
  none_found None found not = (λ bad. absurd (cc), λ own. found.1 (found_is ∙ own.own))

-- a copy has the words of a page where they are those of what is the same page
pub words_of_copy : {z v : ZoneState} {page copy : Page} {number : ℕ} → z ≡ v → page ≡ copy → number ≡ copy.number → page.words ≡ words_now z number → copy.words ≡ words_now v copy.number
words_of_copy same page_is number_is are = ap (λ (p : Page). p.words) (sym page_is) ∙ are ∙ (λ i. words_now (same i) (number_is i))

-- and it is no copy of the zone's own where it has other words
pub other_words : {z v : ZoneState} {page : Page} {copy : IsolatedPage} {number : ℕ} {has : Bool} → z ≡ v → page ≡ copy.page → number ≡ copy.page.number → has ≡ false
    → (page.words ≡ words_now z number → has ≡ true) → (false ≡ true → IsOwnCopy v copy) × (IsOwnCopy v copy → false ≡ true)
other_words same page_is number_is differ words = (
  λ bad. absurd (cc),
  λ own. sym differ ∙ words (ap (λ (p : Page). p.words) page_is ∙ own.same ∙ sym (λ i. words_now (same i) (number_is i))),
)

-- the end of a move, as the public call says it
pub ended_in : (z v new : ZoneState) (p : IsolatedPage) (page serial source target : ℕ) (kept left : ℕ → ℕ → ℕ) → z ≡ v → p.page.number ≡ page → p.serial ≡ serial → map.get z.placement page ≡ Some (Moving serial source target) → IsSettled z new page (kept source target) (left source target) → IsEnded v new p.page.number p.serial kept left
ended_in z v new p page serial source target kept left view number under way settled =
    subst (λ (u : ZoneState). IsEnded u new p.page.number p.serial kept left) view
    (subst (λ (q : ℕ). IsEnded z new q p.serial kept left) (sym number)
    (subst (λ (s : ℕ). IsEnded z new page s kept left) (sym under)
    (record { source = source; target = target; way = way; settled = settled })))

-- the counts of a zone where no page is out
pub counted : (z v : ZoneState) (o : Option Audit) (error : ZoneError) → z ≡ v → IsValidZone z → IsSome o ↔ (length (out z.records) ≡ 0) → IfSome o (λ a. a.isolated ≡ isolated z.records) → IfSome o (λ a. a.moved ≡ moved z.records) → IfSome o (λ a. a.back ≡ put_back z.records) → IfSome o (λ a. a.moved + a.back ≡ a.isolated) → IfOk (ok_or o error) (λ a. IsCounted v a)
counted z v None error view law none isolated_is moved_is back_is sum = tt
counted z v (Some a) error view law none isolated_is moved_is back_is sum =
    let empty : out z.records ≡ [] = nil_from_length (out z.records) (none.0 refl) in
    subst (λ (w : ZoneState). IsCounted w a) view (record {
      isolated = isolated_is;
      moved = moved_is;
      back = back_is;
      sum = sum;
      none_out = empty;
      once = each_once z.records law.journal.well_ended empty;
    })

none_out : (n : ℕ) (r : Result Audit ZoneError) (test : Bool) → nat_lt 0 n ≡ test → result_err r ≡ (if test then Some Out else None) → IsOk r ↔ (n ≡ 0)
none_out n (Ok a) false is e = (λ ok. omega (arith, ltb-false 0 n is), λ none. refl)
none_out n (Err error) true is e = (λ bad. cc, λ none. absurd (omega (arith, ltb-true 0 n is)))
none_out n _ _ is e = cc

-- the counts of a zone and of its seats, where these agree
module _ {t m b : ℕ} {z : ZoneState} (scan : ScanSeat) (ends : EndSeat) (r : Result Audit ZoneError) (law : IsValidZone z) (books : AreBooks t m b z)
    (s : scan.count ≡ isolated z.records) (in_moved : ends.moved ≡ m) (in_back : ends.back ≡ b) where
  pub audited : (v : ZoneState) → z ≡ v → IfOk r (λ a. IsCounted z a) → IfOk r (λ a. IsAudited v scan ends a)
  audited v view = inner r where
    inner : (q : Result Audit ZoneError) → IfOk q (λ a. IsCounted z a) → IfOk q (λ a. IsAudited v scan ends a)
    inner (Err error) counts = tt
    inner (Ok a) counts = subst (λ (w : ZoneState). IsAudited w scan ends a) view (record {
      isolated = counts.isolated;
      moved = counts.moved;
      back = counts.back;
      sum = counts.sum;
      scan = counts.isolated ∙ sym s;
      ends_moved = counts.moved ∙ sym books.moved ∙ sym in_moved;
      ends_back = counts.back ∙ sym books.back ∙ sym in_back;
      none_out = counts.none_out;
      once = counts.once;
    })

  balanced : length (out z.records) + ends.moved + ends.back ≡ scan.count
  balanced = omega (arith, is_balanced z.records law.journal.well_ended, s, in_moved, in_back, books.moved, books.back)

  -- a whole end seat counts no more pages than were isolated
  pub counts_most : ends.moved + ends.back ≤ scan.count
  counts_most = omega (arith, balanced)

  -- a whole end seat passes an audit exactly where its counts add up to that of the scan seat
  pub passes_exactly : result_err r ≡ (if nat_lt 0 (length (out z.records)) then Some Out else None) → IsOk r ↔ (ends.moved + ends.back ≡ scan.count)
  passes_exactly refused =
      let none = none_out (length (out z.records)) r _ refl refused in
      (λ ok. (let gone = none.0 ok in omega (arith, balanced)), λ sum. none.1 (omega (arith, balanced, sum)))

-- an audit finds a quiet zone packed where the scanners have met
pub ok_packed : (z : ZoneState) (scan : ScanSeat) (ends : EndSeat) (r : Result Audit ZoneError) → IsValidZone z → IfOk r (λ audit. IsAudited z scan ends audit)
    → (scan.last ≡ Some answered.Met → is_quiet z ≡ true → HaveMet z) → OnOk r (is_quiet z ≡ true → scan.last ≡ Some answered.Met → IsPacked z)
ok_packed z scan ends (Ok audit) law audited have_met = λ quiet last. packed_quiet z law quiet (ap length audited.none_out) (have_met last quiet)
ok_packed z scan ends (Err error) law audited have_met = tt

-- an end seat that isn't whole has fewer than 64 parts
pub part_missing : (ends told : EndSeat) → told ≡ ends → nat_eq told.parts 64 ≡ false → told.parts ≤ 64 → 64 ≤ ends.parts → ⊥
part_missing ends told same less most least =
    let all : told.parts ≡ 64 = omega (arith, ap (λ (s : EndSeat). s.parts) same) in
    both_ways _ less (eq-eqb told.parts 64 all)
