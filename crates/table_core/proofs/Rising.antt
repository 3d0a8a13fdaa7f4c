-- Laws of rising lists of addresses.
use Rattle.std.proofs.Common.{◌≡◌, ◌≢◌, suc, ◌+◌, ◌<◌, ◌≤◌, Bool, true, false, List, [], ◌∷◌, ◌++◌, length, ◌⊎◌, inl, inr, refl, sym, ap, subst, ◌∙◌, arith}
use Rattle.std.specs.Prelude.{nat_le, nat_eq, if◌then◌else◌, insert, remove}
use Rattle.std.proofs.lemmas.Bool.Decides.{leb_tells, eqb_tells}
use Rattle.frame_core.specs.declared.place.Address.{Address}
use Rattle.table_core.specs.Names.{IsIn, IsRising, order_of, rank, inserted, without}

-- where an address is inserted
at_rank : (x : Address) (xs : List Address) (a : Address) (t : Bool) → insert xs (rank xs a) a ≡ inserted xs a →
    insert (x ∷ xs) (if t then 0 else suc (rank xs a)) a ≡ (if t then a ∷ x ∷ xs else x ∷ inserted xs a)
at_rank x xs a false same = ap (λ (ys : List Address). x ∷ ys) same
at_rank x xs a true same = refl

pub insert_at_rank : (xs : List Address) (a : Address) → insert xs (rank xs a) a ≡ inserted xs a
insert_at_rank [] a = refl
insert_at_rank (x ∷ xs) a = at_rank x xs a (nat_le (order_of a) (order_of x)) (insert_at_rank xs a)

from_step : (x : Address) (xs : List Address) (a b : Address) (t : Bool) → (IsIn (inserted xs a) b → (a ≡ b) ⊎ IsIn xs b) →
    IsIn (if t then a ∷ x ∷ xs else x ∷ inserted xs a) b → (a ≡ b) ⊎ IsIn (x ∷ xs) b
from_step x xs a b false rest (inl e) = inr (inl e)
from_step x xs a b false rest (inr h) = elim (rest h) [ inl e ↦ inl e | inr k ↦ inr (inr k) ]
from_step x xs a b true rest (inl e) = inl e
from_step x xs a b true rest (inr h) = inr h

pub from_inserted : (xs : List Address) (a b : Address) → IsIn (inserted xs a) b → (a ≡ b) ⊎ IsIn xs b
from_inserted [] a b (inl e) = inl e
from_inserted [] a b (inr h) = absurd h
from_inserted (x ∷ xs) a b h = from_step x xs a b (nat_le (order_of a) (order_of x)) (from_inserted xs a b) h

to_step : (x : Address) (xs : List Address) (a b : Address) (t : Bool) → ((a ≡ b) ⊎ IsIn xs b → IsIn (inserted xs a) b) →
    (a ≡ b) ⊎ IsIn (x ∷ xs) b → IsIn (if t then a ∷ x ∷ xs else x ∷ inserted xs a) b
to_step x xs a b false rest (inl e) = inr (rest (inl e))
to_step x xs a b false rest (inr (inl e)) = inl e
to_step x xs a b false rest (inr (inr h)) = inr (rest (inr h))
to_step x xs a b true rest (inl e) = inl e
to_step x xs a b true rest (inr h) = inr h

pub to_inserted : (xs : List Address) (a b : Address) → (a ≡ b) ⊎ IsIn xs b → IsIn (inserted xs a) b
to_inserted [] a b (inl e) = inl e
to_inserted [] a b (inr h) = absurd h
to_inserted (x ∷ xs) a b h = to_step x xs a b (nat_le (order_of a) (order_of x)) (to_inserted xs a b) h

length_step : (x : Address) (xs : List Address) (a : Address) (t : Bool) → length (inserted xs a) ≡ length xs + 1 →
    length (if t then a ∷ x ∷ xs else x ∷ inserted xs a) ≡ suc (length xs) + 1
length_step x xs a false rest = omega (arith, rest)
length_step x xs a true rest = omega arith

pub length_inserted : (xs : List Address) (a : Address) → length (inserted xs a) ≡ length xs + 1
length_inserted [] a = refl
length_inserted (x ∷ xs) a = length_step x xs a (nat_le (order_of a) (order_of x)) (length_inserted xs a)

pub rising_inserted : (xs : List Address) (a : Address) → IsRising xs → ((b : Address) → IsIn xs b → order_of b ≢ order_of a) → IsRising (inserted xs a)
rising_inserted [] a r new = (λ b h. absurd h, tt)
rising_inserted (x ∷ xs) a r new =
    elim (leb_tells (order_of a) (order_of x)) [
      | inr low ↦ subst IsRising (sym (ap (λ t. if t then a ∷ x ∷ xs else x ∷ inserted xs a) low.0))
          (λ b h. (elim (from_inserted xs a b h) [ inl e ↦ (let at : order_of a ≡ order_of b = ap order_of e in omega (arith, low.1)) | inr k ↦ r.0 b k ]), rising_inserted xs a r.1 (λ b k. new b (inr k)))
      | inl high ↦ (let ne : order_of x ≢ order_of a = new x (inl refl) in
          subst IsRising (sym (ap (λ t. if t then a ∷ x ∷ xs else x ∷ inserted xs a) high.0))
          (λ b h. (elim h [ inl e ↦ (let at : order_of x ≡ order_of b = ap order_of e in omega (arith, high.1)) | inr k ↦ (let up : order_of x < order_of b = r.0 b k in omega (arith, high.1)) ]), r))
    ]

-- where an address is removed
pub rank_within : (xs : List Address) (a : Address) → IsRising xs → IsIn xs a → rank xs a < length xs
rank_within [] a r h = absurd h
rank_within (x ∷ xs) a r h =
    elim (leb_tells (order_of a) (order_of x)) [
      | inr low ↦ (let is : rank (x ∷ xs) a ≡ suc (rank xs a) = ap (λ t. if t then 0 else suc (rank xs a)) low.0 in
          elim h [
            | inl e ↦ (let at : order_of x ≡ order_of a = ap order_of e in absurd (omega (arith, low.1)))
            | inr k ↦ (let rest = rank_within xs a r.1 k in omega arith)
          ])
      | inl high ↦ (let is : rank (x ∷ xs) a ≡ 0 = ap (λ t. if t then 0 else suc (rank xs a)) high.0 in omega arith)
    ]

pub remove_at_rank : (xs : List Address) (a : Address) → IsRising xs → IsIn xs a → remove xs (rank xs a) ≡ without xs a
remove_at_rank [] a r h = absurd h
remove_at_rank (x ∷ xs) a r h =
    elim (leb_tells (order_of a) (order_of x)) [
      | inr low ↦ elim h [
        | inl e ↦ (let at : order_of x ≡ order_of a = ap order_of e in absurd (omega (arith, low.1)))
        | inr k ↦ elim (eqb_tells (order_of x) (order_of a)) [
          | inl same ↦ absurd (omega (arith, low.1, same.1))
          | inr other ↦
              ap (λ t. remove (x ∷ xs) (if t then 0 else suc (rank xs a))) low.0
              ∙ ap (λ (ys : List Address). x ∷ ys) (remove_at_rank xs a r.1 k)
              ∙ sym (ap (λ t. if t then xs else x ∷ without xs a) other.0)
        ]
      ]
      | inl high ↦ elim (eqb_tells (order_of x) (order_of a)) [
        | inl same ↦ ap (λ t. remove (x ∷ xs) (if t then 0 else suc (rank xs a))) high.0 ∙ sym (ap (λ t. if t then xs else x ∷ without xs a) same.0)
        | inr other ↦ elim h [
          | inl e ↦ absurd (other.1 (ap order_of e))
          | inr k ↦ (let up : order_of x < order_of a = r.0 a k in absurd (omega (arith, high.1)))
        ]
      ]
    ]

pub from_without : (xs : List Address) (a b : Address) → IsRising xs → IsIn (without xs a) b → IsIn xs b × (order_of b ≢ order_of a)
from_without [] a b r h = absurd h
from_without (x ∷ xs) a b r h = elim (eqb_tells (order_of x) (order_of a)) [
  | inl same ↦ (let k : IsIn xs b = subst (λ (ys : List Address). IsIn ys b) (ap (λ t. if t then xs else x ∷ without xs a) same.0) h in
      let up : order_of x < order_of b = r.0 b k in
      (inr k, λ e. absurd (omega (arith, same.1))))
  | inr other ↦ (let k : IsIn (x ∷ without xs a) b = subst (λ (ys : List Address). IsIn ys b) (ap (λ t. if t then xs else x ∷ without xs a) other.0) h in
      elim k [ inl e ↦ (inl e, λ at. other.1 (ap order_of e ∙ at)) | inr l ↦ (let rest = from_without xs a b r.1 l in (inr rest.0, rest.1)) ])
]

pub to_without : (xs : List Address) (a b : Address) → IsIn xs b → order_of b ≢ order_of a → IsIn (without xs a) b
to_without [] a b h ne = absurd h
to_without (x ∷ xs) a b h ne = elim (eqb_tells (order_of x) (order_of a)) [
  | inl same ↦ subst (λ (ys : List Address). IsIn ys b) (sym (ap (λ t. if t then xs else x ∷ without xs a) same.0))
      (elim h [ inl e ↦ absurd (ne (sym (ap order_of e) ∙ same.1)) | inr k ↦ k ])
  | inr other ↦ subst (λ (ys : List Address). IsIn ys b) (sym (ap (λ t. if t then xs else x ∷ without xs a) other.0))
      (elim h [ inl e ↦ inl e | inr k ↦ inr (to_without xs a b k ne) ])
]

without_step : (x : Address) (xs : List Address) (a : Address) (t : Bool) → length (without xs a) ≤ length xs →
    length (if t then xs else x ∷ without xs a) ≤ suc (length xs)
without_step x xs a true rest = omega arith
without_step x xs a false rest = omega (arith, rest)

pub length_without : (xs : List Address) (a : Address) → length (without xs a) ≤ length xs
length_without [] a = omega arith
length_without (x ∷ xs) a = without_step x xs a (nat_eq (order_of x) (order_of a)) (length_without xs a)

pub rising_without : (xs : List Address) (a : Address) → IsRising xs → IsRising (without xs a)
rising_without [] a r = tt
rising_without (x ∷ xs) a r = elim (eqb_tells (order_of x) (order_of a)) [
  | inl same ↦ subst IsRising (sym (ap (λ t. if t then xs else x ∷ without xs a) same.0)) r.1
  | inr other ↦ subst IsRising (sym (ap (λ t. if t then xs else x ∷ without xs a) other.0))
      (λ b h. r.0 b (from_without xs a b r.1 h).0, rising_without xs a r.1)
]

-- an address that comes after all others
pub from_pushed : (xs : List Address) (a b : Address) → IsIn (xs ++ a ∷ []) b → IsIn xs b ⊎ (a ≡ b)
from_pushed [] a b (inl e) = inr e
from_pushed [] a b (inr h) = absurd h
from_pushed (x ∷ xs) a b (inl e) = inl (inl e)
from_pushed (x ∷ xs) a b (inr h) = elim (from_pushed xs a b h) [ inl k ↦ inl (inr k) | inr e ↦ inr e ]

pub to_pushed : (xs : List Address) (a b : Address) → IsIn xs b ⊎ (a ≡ b) → IsIn (xs ++ a ∷ []) b
to_pushed [] a b (inl h) = absurd h
to_pushed [] a b (inr e) = inl e
to_pushed (x ∷ xs) a b (inl (inl e)) = inl e
to_pushed (x ∷ xs) a b (inl (inr h)) = inr (to_pushed xs a b (inl h))
to_pushed (x ∷ xs) a b (inr e) = inr (to_pushed xs a b (inr e))

pub rising_pushed : (xs : List Address) (a : Address) → IsRising xs → ((b : Address) → IsIn xs b → order_of b < order_of a) → IsRising (xs ++ a ∷ [])
rising_pushed [] a r before = (λ b h. absurd h, tt)
rising_pushed (x ∷ xs) a r before = (
  λ b h. (elim (from_pushed xs a b h) [ inl k ↦ r.0 b k | inr e ↦ subst (λ (c : Address). order_of x < order_of c) e (before x (inl refl)) ]),
  rising_pushed xs a r.1 (λ b k. before b (inr k)),
)

-- a rising list has no more addresses than another that has all of them
pub no_longer : (xs ys : List Address) → IsRising xs → IsRising ys → ((a : Address) → IsIn xs a → IsIn ys a) → length xs ≤ length ys
no_longer [] ys r s each = omega arith
no_longer (x ∷ xs) [] r s each = absurd (each x (inl refl))
no_longer (x ∷ xs) (y ∷ ys) r s each =
    elim (each x (inl refl)) [
      | inl e ↦ (let rest : length xs ≤ length ys = no_longer xs ys r.1 s.1 (λ a h.
          (elim (each a (inr h)) [
            | inl f ↦ (let up : order_of x < order_of a = r.0 a h in let at : order_of y ≡ order_of x = ap order_of e in let to : order_of y ≡ order_of a = ap order_of f in absurd (omega arith))
            | inr k ↦ k
          ])) in omega arith)
      | inr k ↦ (let low : order_of y < order_of x = s.0 x k in
          let rest : suc (length xs) ≤ length ys = no_longer (x ∷ xs) ys r s.1 (λ a h.
          (elim (each a h) [
            | inl f ↦ (let to : order_of y ≡ order_of a = ap order_of f in absurd (elim h [
              | inl e ↦ (let at : order_of x ≡ order_of a = ap order_of e in omega arith)
              | inr l ↦ (let up : order_of x < order_of a = r.0 a l in omega arith)
            ]))
            | inr l ↦ l
          ])) in omega arith)
    ]
