-- What the calls of a zone leave of its books.
use Rattle.std.proofs.Common.{◌≡◌, ℕ, ◌+◌, ◌*◌, ◌≤◌, Bool, true, false, if◌then◌else◌, ◌∷◌, ◌∙◌, refl, sym, ap, subst, arith, Option, Some, None, zero, suc, List, [], length}
use Rattle.std.specs.Prelude.{unwrap_or, nat_eq, Result, Ok, Err, IfOk, OnOk, OnErr}
use Rattle.std.proofs.lemmas.Bool.{both_ways}
use Rattle.frame_core.specs.declared.place.Address.{Address}
use Rattle.frame_core.specs.declared.record.Cause.{Cause}
use Rattle.frame_core.specs.declared.record.Cause.TheVariants.{Pinned}
use Rattle.frame_core.specs.declared.record.Record.{Record}
use Rattle.frame_core.specs.declared.record.Record.TheVariants as entry
use Rattle.frame_core.specs.History.{page_at, pins}
use Rattle.frame_core.specs.Moves.{isolated, moved, put_back}
use Rattle.state_core.specs.declared.call.ZoneCall.{ZoneCall}
use Rattle.state_core.specs.declared.call.ZoneCall.TheVariants.{Load, Store, Unmap}
use Rattle.state_core.specs.declared.error.ZoneError.{ZoneError}
use Rattle.state_core.specs.declared.moves.Ended.TheVariants as ended
use Rattle.state_core.specs.declared.moves.Next.{Next}
use Rattle.state_core.specs.declared.moves.Next.TheVariants as next
use Rattle.state_core.specs.declared.round.Pair.{Pair}
use Rattle.state_core.specs.declared.round.RoundStart.{RoundStart}
use Rattle.state_core.specs.Access.{loaded, stored, value_at}
use Rattle.state_core.specs.Bulk.{loaded_all, stored_all}
use Rattle.state_core.specs.Calls.{after, answer_of, record_of}
use Rattle.state_core.specs.Ending.{ended_as, committed, moved_to_target, put_back_to_source}
use Rattle.state_core.specs.Isolating.{next_answer, next_state, Scans}
use Rattle.state_core.specs.Valid.{IsValidZone}
use Rattle.state_core.specs.Pairs.{HaveMet, next_pair}
use Rattle.state_core.specs.Unmapping.{is_last, without_page}
use Rattle.state_core.specs.ZoneState.{ZoneState, is_quiet, is_quiet_since, keeps_quiet, noted}
use Rattle.frame_core.specs.Page.{IsolatedPage}
use Rattle.state_core.proofs.Quiet.{begun_more, quiet_ended, quiet_kept}
use Rattle.state_core.proofs.StaysMet.{met_loaded, met_stored}
use Rattle.zone_core.specs.Books.{AreBooks}
use Rattle.zone_core.specs.Made.{IsMade}
use Rattle.zone_core.specs.Seats.{met_mark, scan_amount}
use Rattle.zone_core.specs.declared.seats.Answered.{Answered}
use Rattle.zone_core.specs.declared.seats.Answered.TheVariants as answered

mark_most : (last : Option Answered) → met_mark last ≤ 1
mark_most (Some answered.Met) = omega arith
mark_most _ = omega arith

marked_met : (last : Option Answered) → met_mark last ≡ 1 → last ≡ Some answered.Met
marked_met (Some answered.Met) e = refl
marked_met _ e = absurd (omega (arith, e))

-- a seat that has the total of the book counted each isolated page, and where its last answer is that the scanners met, they have met
module _ {t m b : ℕ} (count : ℕ) (last : Option Answered) {v : ZoneState} (books : AreBooks t m b v) (told : t ≡ scan_amount count last) where
  both : (2 * isolated v.records) + met_mark books.last ≡ (2 * count) + met_mark last
  both = sym books.counted ∙ told

  pub seat_counted : count ≡ isolated v.records
  seat_counted = omega (arith, both, mark_most last, mark_most books.last)

  pub seat_met : last ≡ Some answered.Met → is_quiet v ≡ true → HaveMet v
  seat_met met quiet =
      let mark : met_mark last ≡ 1 = ap met_mark met in
      let same : met_mark books.last ≡ 1 = omega (arith, both, mark, mark_most books.last) in
      books.met (marked_met books.last same) quiet

-- the latest round began when the journal had no more records than now
abbrev pub HasBegunWithin : ZoneState → Type 0
HasBegunWithin v = (start : RoundStart) → v.round ≡ Some start → start.records ≤ length v.records

-- a call that adds a record, which isn't of an isolation
module _ {t m b m_new b_new : ℕ} {v : ZoneState} (u : ZoneState) (entry : Record) (begun : HasBegunWithin v) (books : AreBooks t m b v)
    (records : u.records ≡ entry ∷ v.records) (round : u.round ≡ v.round) (none : isolated (entry ∷ v.records) ≡ isolated v.records)
    (moved_now : m_new ≡ moved (entry ∷ v.records)) (back_now : b_new ≡ put_back (entry ∷ v.records)) where
  booked : (books.last ≡ Some answered.Met → is_quiet u ≡ true → HaveMet u) → AreBooks t m_new b_new u
  booked met = record {
    last = books.last;
    counted = books.counted ∙ ap (λ (n : ℕ). scan_amount n books.last) (sym (ap isolated records ∙ none));
    met = met;
    moved = moved_now ∙ sym (ap moved records);
    back = back_now ∙ sym (ap put_back records);
  }

  -- where it ends the quiet of the round, nothing is left to show of pairs
  pub booked_loud : keeps_quiet entry ≡ false → AreBooks t m_new b_new u
  booked_loud ends =
      let loud : is_quiet u ≡ false = (λ i. is_quiet_since (records i) (round i)) ∙ quiet_ended v.records entry v.round ends begun in
      booked (λ met quiet. absurd (both_ways (is_quiet u) loud quiet))

  -- where it doesn't, it makes no pair
  pub booked_quiet : keeps_quiet entry ≡ true → (is_quiet v ≡ true → HaveMet v → HaveMet u) → AreBooks t m_new b_new u
  booked_quiet keeps stays = booked (λ met quiet.
      let before : is_quiet v ≡ true = sym ((λ i. is_quiet_since (records i) (round i)) ∙ quiet_kept v.records entry v.round keeps begun) ∙ quiet in
      stays before (books.met met before))

-- the records and the round are the same whether or not an address was the last of its page
same_journal : (b : Bool) (z : ZoneState) (page : ℕ) → ((if b then without_page z page else z).records ≡ z.records) × ((if b then without_page z page else z).round ≡ z.round)
same_journal true z page = (refl, refl)
same_journal false z page = (refl, refl)

module _ {t m b : ℕ} (client : ℕ) where
  pub booked_loaded : (v : ZoneState) (address : Address) (word : ℕ) → HasBegunWithin v → AreBooks t m b v → AreBooks t m b (loaded v client address word)
  booked_loaded v address word begun books =
      booked_quiet _ (entry.Load client address word (value_at v address word)) begun books refl refl refl books.moved books.back refl (λ quiet. met_loaded v client address word)

  pub booked_stored : (v : ZoneState) (address : Address) (word value : ℕ) → HasBegunWithin v → AreBooks t m b v → AreBooks t m b (stored v client address word value)
  booked_stored v address word value begun books =
      booked_quiet _ (entry.Store client address word value) begun books refl refl refl books.moved books.back refl (λ quiet. met_stored v client address word value)

  -- a call that isn't refused
  pub booked_call : {W : ℕ} (call : ZoneCall W) (v : ZoneState) → HasBegunWithin v → AreBooks t m b v → AreBooks t m b (after call client v)
  booked_call (Load address word) v begun books = booked_loaded v address word begun books
  booked_call (Store address word value) v begun books = booked_stored v address word value begun books
  booked_call (Unmap address) v begun books =
      let same = same_journal (is_last v address) (noted v (entry.Unmap client address)) (unwrap_or (page_at v.records address) 0) in
      booked_loud _ (entry.Unmap client address) begun books same.0 same.1 refl books.moved books.back refl
  booked_call call v begun books = booked_loud _ (record_of call client (answer_of call v)) begun books refl refl refl books.moved books.back refl

  -- words that are loaded and stored, one after the other
  pub booked_loaded_all : (v : ZoneState) (address : Address) (from count : ℕ) → HasBegunWithin v → AreBooks t m b v → AreBooks t m b (loaded_all v client address from count)
  booked_loaded_all v address from zero begun books = books
  booked_loaded_all v address from (suc count) begun books =
      booked_loaded_all (loaded v client address from) address (from + 1) count
      (begun_more v.records (entry.Load client address from (value_at v address from)) v.round begun) (booked_loaded v address from begun books)

  pub booked_stored_all : (v : ZoneState) (address : Address) (from : ℕ) (values : List ℕ) → HasBegunWithin v → AreBooks t m b v → AreBooks t m b (stored_all v client address from values)
  booked_stored_all v address from [] begun books = books
  booked_stored_all v address from (value ∷ values) begun books =
      booked_stored_all (stored v client address from value) address (from + 1) values
      (begun_more v.records (entry.Store client address from value) v.round begun) (booked_stored v address from value begun books)

-- the end of a move
module _ {t m b n : ℕ} {v u : ZoneState} (serial page : ℕ) (law : IsValidZone v) (books : AreBooks t m b v) where
  pub booked_back : {cause : Cause} → u ≡ put_back_to_source v serial page cause → n ≡ b + 1 → AreBooks t m n u
  booked_back {cause} step more =
      booked_loud u (entry.Back cause serial) law.fingers.begun books (ap (λ (z : ZoneState). z.records) step) (ap (λ (z : ZoneState). z.round) step) refl
      books.moved (more ∙ ap (λ (k : ℕ). k + 1) books.back) refl

  module _ (step : u ≡ committed v serial page) where
    pub booked_moved : ended_as v page ≡ ended.Moved → n ≡ m + 1 → (is_quiet v ≡ true → HaveMet v → HaveMet u) → AreBooks t n b u
    booked_moved is more stays = by (nat_eq (pins v.records page) 0) is step where
      by : (test : Bool) → (if test then ended.Moved else ended.Back) ≡ ended.Moved → u ≡ (if test then moved_to_target v serial page else put_back_to_source v serial page Pinned) → AreBooks t n b u
      by true same to =
          booked_quiet u (entry.Moved serial) law.fingers.begun books (ap (λ (z : ZoneState). z.records) to) (ap (λ (z : ZoneState). z.round) to) refl
          (more ∙ ap (λ (k : ℕ). k + 1) books.moved) books.back refl stays
      by false same to = absurd (cc)

    pub booked_pinned : ended_as v page ≡ ended.Back → n ≡ b + 1 → AreBooks t m n u
    booked_pinned is more = by (nat_eq (pins v.records page) 0) is step where
      by : (test : Bool) → (if test then ended.Moved else ended.Back) ≡ ended.Back → u ≡ (if test then moved_to_target v serial page else put_back_to_source v serial page Pinned) → AreBooks t m n u
      by true same to = absurd (cc)
      by false same to = booked_back to more

-- where the scanners met, nothing changed
same_met : (o : Option Pair) {v u : ZoneState} → next.Met ≡ next_answer v o → u ≡ next_state v o → u ≡ v
same_met None met step = step
same_met (Some pair) met step = cc

-- the books after the answer that the scanners met
pub booked_met : {t t_new m b : ℕ} {v u : ZoneState} (count : ℕ) (last : Option Answered) (r : Result (Next IsolatedPage) ZoneError) → r ≡ Ok next.Met
    → IfOk r (λ found. found ≡ next_answer v (next_pair v)) → OnOk r (u ≡ next_state v (next_pair v)) → IfOk r (λ found. Scans v u found)
    → AreBooks t m b v → t ≡ scan_amount count last → t_new ≡ scan_amount count (Some answered.Met) → AreBooks t_new m b u
booked_met {t} {t_new} {m} {b} {v} {u} count last r is answer ok scans books told marked =
    let none : next.Met ≡ next_answer v (next_pair v) = subst (λ (q : Result (Next IsolatedPage) ZoneError). IfOk q (λ found. found ≡ next_answer v (next_pair v))) is answer in
    let step : u ≡ next_state v (next_pair v) = subst (λ (q : Result (Next IsolatedPage) ZoneError). OnOk q (u ≡ next_state v (next_pair v))) is ok in
    let have_met : HaveMet v = subst (λ (q : Result (Next IsolatedPage) ZoneError). IfOk q (λ found. Scans v u found)) is scans in
    subst (AreBooks t_new m b) (sym (same_met (next_pair v) none step)) (record {
      last = Some answered.Met;
      counted = marked ∙ ap (λ (n : ℕ). scan_amount n (Some answered.Met)) (seat_counted count last books told);
      met = λ noted quiet. have_met;
      moved = books.moved;
      back = books.back;
    })

-- the books after the answer that a page was isolated
pub booked_page : {t t_new m b : ℕ} {v u : ZoneState} {p : IsolatedPage} (count : ℕ) (last : Option Answered) (r : Result (Next IsolatedPage) ZoneError) → r ≡ Ok (next.Page p)
    → IfOk r (λ found. found ≡ next_answer v (next_pair v)) → OnOk r (u ≡ next_state v (next_pair v))
    → AreBooks t m b v → t ≡ scan_amount count last → t_new ≡ scan_amount (count + 1) (Some answered.Page) → AreBooks t_new m b u
booked_page {t} {t_new} {m} {b} {v} {u} {p} count last r is answer ok books told marked =
    by (next_pair v) (subst (λ (q : Result (Next IsolatedPage) ZoneError). IfOk q (λ found. found ≡ next_answer v (next_pair v))) is answer)
    (subst (λ (q : Result (Next IsolatedPage) ZoneError). OnOk q (u ≡ next_state v (next_pair v))) is ok) where
      by : (o : Option Pair) → next.Page p ≡ next_answer v o → u ≡ next_state v o → AreBooks t_new m b u
      by None found step = absurd (cc)
      by (Some pair) found step = subst (AreBooks t_new m b) (sym step) (record {
        last = Some answered.Page;
        counted = marked ∙ ap (λ (n : ℕ). scan_amount (n + 1) (Some answered.Page)) (seat_counted count last books told);
        met = λ noted quiet. absurd (cc);
        moved = books.moved;
        back = books.back;
      })

-- the books after the answer that the journal is full
pub booked_full : {t t_new m b : ℕ} {v u : ZoneState} {e : ZoneError} (count : ℕ) (last : Option Answered) (r : Result (Next IsolatedPage) ZoneError) → r ≡ Err e → OnErr r (u ≡ v)
    → AreBooks t m b v → t ≡ scan_amount count last → t_new ≡ scan_amount count (Some answered.JournalFull) → AreBooks t_new m b u
booked_full {t} {t_new} {m} {b} {v} {u} count last r is err books told marked =
    subst (AreBooks t_new m b) (sym (subst (λ (q : Result (Next IsolatedPage) ZoneError). OnErr q (u ≡ v)) is err)) (record {
      last = Some answered.JournalFull;
      counted = marked ∙ ap (λ (n : ℕ). scan_amount n (Some answered.JournalFull)) (seat_counted count last books told);
      met = λ noted quiet. absurd (cc);
      moved = books.moved;
      back = books.back;
    })

-- a call that may be refused leaves what held before it, or what holds after its step
pub either_way : {A E : Type 0} (P : ZoneState → Type 0) {old new step : ZoneState} (r : Result A E) → OnErr r (new ≡ old) → OnOk r (new ≡ step) → P old → P step → P new
either_way P (Ok a) err ok before after = subst P (sym ok) after
either_way P (Err e) err ok before after = subst P (sym err) before

pub booked_made : {t m b W client : ℕ} {A : Type 0} {call : ZoneCall W} {old new : ZoneState} {r : Result A ZoneError}
    → IsMade call client old new r → IsValidZone old → AreBooks t m b old → AreBooks t m b new
booked_made {t} {m} {b} {W} {client} {A} {call} {old} {new} {r} made law books =
    either_way (AreBooks t m b) r made.err made.ok books (booked_call client call old law.fingers.begun books)

-- the first of two things that a refused call leaves
pub first_left : {A E : Type 0} (P Q : Type 0) (r : Result A E) → OnErr r (P × Q) → OnErr r P
first_left P Q (Ok a) left = tt
first_left P Q (Err e) left = left.0
