-- What the rule of the pages' queue says of a giver and its takers.
use Rattle.std.proofs.Common.{◌≡◌, ◌≢◌, ℕ, zero, suc, ◌+◌, ◌-◌, ◌*◌, ◌/◌, ◌<◌, ◌≤◌, Bool, true, false, true≢false, if◌then◌else◌, List, [], ◌∷◌, ◌++◌, length, map, All, sym, refl, ap, ◌∙◌, subst, append-nil, length-append, arith}
use Rattle.std.specs.Prelude.{replicate, take, drop}
use Rattle.std.specs.List.{range_with_len}
use Rattle.std.specs.List.Sorted.{IsPermutation}
use Rattle.std.proofs.lemmas.List.Sorted.{IsPermutation-map, length_permutation}
use Rattle.std.proofs.lemmas.List.{length-map}
use Rattle.std.proofs.lemmas.List.Elements.{All-weaker}
use Rattle.std.proofs.Math.Nat.{div-mul-le_self}
use Rattle.std.proofs.Math.Seq.{take-append_seam, drop-append_seam}
use Rattle.frame_core.specs.Page.{IsolatedPage}
use Rattle.frame_core.specs.Serials.{serials_of, HasSerialsFrom}
use Rattle.hand_core.specs.declared.page_queue.Note.{Note}
use Rattle.hand_core.specs.declared.page_queue.Note.TheVariants.{Pages, Mark}
use Rattle.hand_core.specs.declared.page_queue.Known.{Known}
use Rattle.hand_core.specs.HandedOver.{known_to, ends_of, pages_in, Holds, IsHandedOver}
use Rattle.hand_core.specs.Batches.{Batch, pages_of}
use Rattle.hand_core.specs.PageEnds.{Giver, Taker, off, off_by, count_ended}
use Rattle.hand_core.specs.PageQueue.{all_off, all_ended}
use Rattle.hand_core.proofs.PageSteps.{queue_of}
use Rattle.hand_core.proofs.Serials.{serials_front, serials_after}
use Rattle.hand_core.proofs.Hands.{few_in_all}

off_is : (takers : List Taker) → all_off (map known_to takers) ≡ off_by takers
off_is [] = refl
off_is (t ∷ takers) = ap (λ l. off t ++ l) (off_is takers)

ended_is : (takers : List Taker) → all_ended (map known_to takers) ≡ count_ended takers
ended_is [] = refl
ended_is (t ∷ takers) = ap (λ n. (if t.ended then 1 else 0) + n) (ended_is takers)

-- where each taker has ended, they are as many
pub all_have_ended : (takers : List Taker) → All (λ t. t.ended ≡ true) takers → count_ended takers ≡ length takers
all_have_ended [] every = refl
all_have_ended (t ∷ takers) every = counted t.ended (every 0 t (omega arith)) (all_have_ended takers (λ k d low. every (suc k) d (omega arith)))
  where
    counted : (b : Bool) → b ≡ true → count_ended takers ≡ length takers → (if b then 1 else 0) + count_ended takers ≡ suc (length takers)
    counted true is rest = omega arith
    counted false is rest = absurd (true≢false (sym is))

-- end marks have no pages
queue_pages : (waiting : List Batch) (marks : ℕ) → pages_in (queue_of waiting marks) ≡ pages_of waiting
queue_pages [] zero = refl
queue_pages [] (suc marks) = queue_pages [] marks
queue_pages (h ∷ waiting) marks = ap (λ l. h.items ++ l) (queue_pages waiting marks)

-- no more batches wait than there are messages
fewer_batches : (room : ℕ) (waiting : List Batch) (marks : ℕ) (queue : List Note) → queue ≡ queue_of waiting marks → length queue ≤ room → length waiting ≤ room
fewer_batches room waiting marks queue is low =
    let all = length-append (map Pages waiting) (replicate marks Mark) in
    let as_many = length-map waiting Pages in
    let same = ap (λ l. length l) is in omega arith

-- a queue of batches has no room for more pages
pub room_fits : (cap most : ℕ) → cap / most * most ≤ cap
room_fits cap most = div-mul-le_self cap most

pub handed_over : (queue : List Note) (g : Giver) (takers : List Taker) → Holds queue g takers → IsHandedOver queue g takers
handed_over queue g takers holds =
    let r = holds.rule in
    let ends : List Known = ends_of holds.largest g takers in
    let this = r.given 0 _ refl refl in
    let pages : g.given ≡ r.off ++ pages_of r.waiting = this.1 in
    let count : g.marks ≡ all_ended ends + r.marks = this.2 in
    let ended : all_ended ends ≡ count_ended takers = let e = ended_is takers in omega arith in
    let together : IsPermutation (off_by takers) r.off = subst (λ l. IsPermutation l r.off) (off_is takers) r.together in
    let many : length r.off ≡ length (off_by takers) = length_permutation (off_by takers) r.off together in
    let waits : pages_in queue ≡ pages_of r.waiting = ap pages_in r.queued ∙ queue_pages r.waiting r.marks in
    let front : HasSerialsFrom r.base r.off = serials_front r.base r.off (pages_of r.waiting) r.serials in
    let left : g.marks - count_ended takers ≡ r.marks = omega arith in
    let none : 0 < count_ended takers → r.waiting ≡ [] = λ some. r.done (omega arith) in
    record {
      base = r.base;
      given = subst (HasSerialsFrom r.base) (sym pages) r.serials;
      off = subst (IsPermutation (serials_of (off_by takers))) (front ∙ ap (λ n. range_with_len r.base n) many)
          (IsPermutation-map (λ (p : IsolatedPage). p.serial) (off_by takers) r.off together);
      queued = subst (λ n. HasSerialsFrom (r.base + n) (pages_in queue)) many
          (subst (HasSerialsFrom (r.base + length r.off)) (sym waits) (serials_after r.base r.off (pages_of r.waiting) r.serials));
      off_whole = subst (IsPermutation (off_by takers)) (sym (ap (λ l. take (length (off_by takers)) l) pages ∙ ap (λ n. take n (r.off ++ pages_of r.waiting)) (sym many) ∙ take-append_seam r.off (pages_of r.waiting))) together;
      queued_whole = waits ∙ sym (ap (λ l. drop (length (off_by takers)) l) pages ∙ ap (λ n. drop n (r.off ++ pages_of r.waiting)) (sym many) ∙ drop-append_seam r.off (pages_of r.waiting));
      marks = (r.waiting, r.queued ∙ ap (λ m. map Pages r.waiting ++ replicate m Mark) (sym left));
      ended = λ some. sym (ap (λ l. length l) (pages ∙ ap (λ l. r.off ++ pages_of l) (none some) ∙ append-nil r.off) ∙ many);
      few = subst (λ l. length l ≤ g.room * g.most) (sym waits) (few_in_all (λ (h : Batch). h.items) g.room g.most r.waiting (fewer_batches g.room r.waiting r.marks queue r.queued holds.room)
          (All-weaker (λ (h : Batch). length h.items ≤ holds.largest) (λ (h : Batch). length h.items ≤ g.most) (λ h low. let most = holds.most in omega arith) r.waiting (r.fits 0 _ refl refl)));
      empty = λ some all. (let over : r.marks ≡ 0 = omega arith in r.queued ∙ ap (λ l. queue_of l r.marks) (none some) ∙ ap (λ m. queue_of [] m) over);
    }

no_marks : (waiting : List Batch) (marks : ℕ) → [] ≡ queue_of waiting marks → marks ≡ 0
no_marks [] zero is = refl
no_marks [] (suc marks) is = absurd (cc)
no_marks (h ∷ waiting) marks is = absurd (cc)

-- where pages are last in the queue, no mark is in it
pages_last : (queue : List Note) (h : Batch) (waiting : List Batch) (marks : ℕ) → queue ++ Pages h ∷ [] ≡ queue_of waiting marks → (marks ≡ 0) × (waiting ≢ [])
pages_last [] h [] zero is = absurd (cc)
pages_last [] h [] (suc marks) is = absurd (cc)
pages_last [] h (g ∷ waiting) marks is = (no_marks waiting marks (cc), λ none. cc)
pages_last (m ∷ queue) h [] zero is = absurd (cc)
pages_last (m ∷ queue) h [] (suc marks) is = absurd ((pages_last queue h [] marks (cc)).1 refl)
pages_last (m ∷ queue) h (g ∷ waiting) marks is = ((pages_last queue h waiting marks (cc)).0, λ none. cc)

-- pages go in only where no mark was put
pub unmarked : (queue : List Note) (h : Batch) (g : Giver) (takers : List Taker) → Holds (queue ++ Pages h ∷ []) g takers → g.marks ≡ 0
unmarked queue h g takers holds =
    let r = holds.rule in
    let ends : List Known = ends_of holds.largest g takers in
    let count = (r.given 0 _ refl refl).2 in
    let last = pages_last queue h r.waiting r.marks r.queued in
    let marks = last.0 in
    by_count (all_ended ends) r.marks count marks (λ some. last.1 (r.done some))
  where
    by_count : (ended marks : ℕ) → g.marks ≡ ended + marks → marks ≡ 0 → ¬ (0 < ended) → g.marks ≡ 0
    by_count zero marks is none never = omega arith
    by_count (suc ended) marks is none never = absurd (never (omega arith))
