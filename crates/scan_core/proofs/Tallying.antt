-- How many pageblocks have some of their frames counted, how many have all of them, and how many are marked.
use Rattle.std.proofs.Common.{◌≡◌, ◌≢◌, ℕ, ◌+◌, ◌-◌, ◌<◌, ◌≤◌, ◌⊎◌, Bool, true, false, not, List, length, length-set, inl, inr, sym, ap, ◌∙◌, slice_index, get_or-set_same, get_or-set_other, refl, replicate, zero, suc, lt-ltb, le-ltb, eq-eqb, ne_eqb, subst, arith}
use Rattle.std.specs.Prelude.{nat_eq, nat_lt, slice_get, slice_set, ◌&&◌, Option, unwrap_or}
use Rattle.std.proofs.Math.Bool.{and-false}
use Rattle.std.proofs.lemmas.Bool.{cases_Bool}
use mir.Val.{bool_byte}
use Rattle.std.proofs.lemmas.Bool.Decides.{eqb_tells, leb_tells}
use Rattle.std.proofs.lemmas.List.{get_or_past, length-replicate}
use Rattle.std.proofs.lemmas.Option.{get_or_from_slice_get, unwrap_or-slice_get}
use Rattle.frame_core.specs.Below.{count_below, one_if, some_below}
use Rattle.frame_core.specs.FixedVec.{FixedVec, with_item}
use Rattle.frame_core.proofs.Lists.{slice_get_replicate}
use Rattle.frame_core.proofs.Searches.{count_all, count_more, count_most, count_none, count_same, count_some, none_some, some_none}
use Rattle.scan_core.specs.FrameCounts.{is_all_counted, is_some_counted}
use Rattle.scan_core.specs.FrameCountsInside.{IsTallied}
use Rattle.scan_core.specs.Frames.{true_at}
use Rattle.scan_core.specs.declared.frame_counts.FrameCounts.TheInside.{Inside}

pub item_of : (counts : List ℕ) (blocks count block : ℕ) → counts ≡ replicate blocks count → block < length counts → slice_index counts block ≡ count
item_of counts blocks count block are within =
    let long : length counts ≡ blocks = ap length are ∙ length-replicate blocks count in
    get_or_from_slice_get counts block count 0 (ap (λ (xs : List ℕ). slice_get xs block) are ∙ slice_get_replicate blocks block count (omega (arith, within, long)))

pub few_long : (counts : List ℕ) (blocks count : ℕ) → counts ≡ replicate blocks count → blocks ≤ 32768 → length counts ≤ 32768
few_long counts blocks count are few = let long : length counts ≡ blocks = ap length are ∙ length-replicate blocks count in omega (arith, long, few)

pub most_each : (counts : List ℕ) (blocks count : ℕ) → counts ≡ replicate blocks count → count ≤ 512 → (block : ℕ) → slice_index counts block ≤ 512
most_each counts blocks count are few block = elim (leb_tells (length counts) block) [
  | inl past ↦ omega (arith, get_or_past counts block 0 past.1)
  | inr under ↦ omega (arith, item_of counts blocks count block are under.1, few)
]

-- of which pageblocks the count passes a test
module _ (test : ℕ → Bool) where
  pub none_pass : (counts : List ℕ) (blocks count : ℕ) → counts ≡ replicate blocks count → test count ≡ false → 0 ≡ count_below (λ k. test (slice_index counts k)) (length counts)
  none_pass counts blocks count are fails = sym (count_none _ (length counts) (λ k h. ap test (item_of counts blocks count k are h) ∙ fails))

  pub all_pass : (counts : List ℕ) (blocks count : ℕ) → counts ≡ replicate blocks count → test count ≡ true → blocks ≡ count_below (λ k. test (slice_index counts k)) (length counts)
  all_pass counts blocks count are passes =
      let long : length counts ≡ blocks = ap length are ∙ length-replicate blocks count in
      sym (count_all _ (length counts) (λ k h. ap test (item_of counts blocks count k are h) ∙ passes) ∙ long)

same_at : (p r : ℕ → Bool) (n k : ℕ) → ((q : ℕ) → q ≢ k → r q ≡ p q) → p k ≡ r k → (q : ℕ) → q < n → p q ≡ r q
same_at p r n k others same q h = elim (eqb_tells q k) [ inl at ↦ (ap p at.1 ∙ same ∙ sym (ap r at.1)) | inr away ↦ sym (others q away.1) ]

-- where one number passes now or not, as many pass as before, but for that one
pub turned : (p r : ℕ → Bool) (n k : ℕ) → k < n → ((q : ℕ) → q ≢ k → r q ≡ p q) → (b d : Bool) → p k ≡ b → r k ≡ d → count_below r n + one_if b ≡ count_below p n + one_if d
turned p r n k h others true true was is = ap (λ m. m + 1) (sym (count_same p r n (same_at p r n k others (was ∙ sym is))))
turned p r n k h others false true was is = omega (arith, count_more p r n k h was is others)
turned p r n k h others true false was is = omega (arith, count_more r p n k h is was (λ q away. sym (others q away)))
turned p r n k h others false false was is = ap (λ m. m + 0) (sym (count_same p r n (same_at p r n k others (was ∙ sym is))))

-- after one count changed
module _ (test : ℕ → Bool) (counts : List ℕ) (block item : ℕ) (within : block < length counts) where
  pub one_turned : count_below (λ k. test (slice_index (slice_set counts block item) k)) (length (slice_set counts block item)) + one_if (test (slice_index counts block))
      ≡ count_below (λ k. test (slice_index counts k)) (length counts) + one_if (test item)
  one_turned =
      ap (λ n. count_below (λ k. test (slice_index (slice_set counts block item) k)) n + one_if (test (slice_index counts block))) (length-set counts block item)
      ∙ turned (λ k. test (slice_index counts k)) (λ k. test (slice_index (slice_set counts block item) k)) (length counts) block within
      (λ q away. ap test (get_or-set_other counts block q item 0 away)) (test (slice_index counts block)) (test item) refl (ap test (get_or-set_same counts block item 0 within))

-- a test as a number
pub byte_one : (b : Bool) → bool_byte b ≡ one_if b
byte_one true = refl
byte_one false = refl

pub one_here : (b : Bool) → b ≡ true → one_if b ≡ 1
one_here b is = ap one_if is

pub none_here : (b : Bool) → b ≡ false → one_if b ≡ 0
none_here b is = ap one_if is

pub some_of : (n : ℕ) → 0 < n → one_if (nat_lt 0 n) ≡ 1
some_of n some = one_here (nat_lt 0 n) (lt-ltb 0 n some)

pub none_of : (n : ℕ) → n ≡ 0 → one_if (nat_lt 0 n) ≡ 0
none_of n none = none_here (nat_lt 0 n) (le-ltb 0 n (omega (arith, none)))

pub all_of : (n : ℕ) → n ≡ 512 → one_if (nat_eq n 512) ≡ 1
all_of n all = one_here (nat_eq n 512) (eq-eqb n 512 all)

pub not_all_of : (n : ℕ) → n ≢ 512 → one_if (nat_eq n 512) ≡ 0
not_all_of n some = none_here (nat_eq n 512) (ne_eqb n 512 some)

pub byte_most : (b : Bool) → bool_byte b ≤ 1
byte_most true = omega arith
byte_most false = omega arith

pub some_few : (c : Inside) → IsTallied c → c.some ≤ 32768
some_few c tallied = omega (arith, tallied.some, count_most (is_some_counted c.counts.items) (length c.counts.items), tallied.few)

pub whole_few : (c : Inside) → IsTallied c → c.whole ≤ 32768
whole_few c tallied = omega (arith, tallied.whole, count_most (is_all_counted c.counts.items) (length c.counts.items), tallied.few)

-- after a count was written, the two numbers are right again where they grew or shrank with it
module _ (c : Inside) (block item : ℕ) (within : block < length c.counts.items) (tallied : IsTallied c) where
  pub some_now : count_below (is_some_counted (slice_set c.counts.items block item)) (length (slice_set c.counts.items block item)) + one_if (nat_lt 0 (slice_index c.counts.items block)) ≡ c.some + one_if (nat_lt 0 item)
  some_now = one_turned (nat_lt 0) c.counts.items block item within ∙ ap (λ n. n + one_if (nat_lt 0 item)) (sym tallied.some)

  pub whole_now : count_below (is_all_counted (slice_set c.counts.items block item)) (length (slice_set c.counts.items block item)) + one_if (nat_eq (slice_index c.counts.items block) 512) ≡ c.whole + one_if (nat_eq item 512)
  whole_now = one_turned (λ n. nat_eq n 512) c.counts.items block item within ∙ ap (λ n. n + one_if (nat_eq item 512)) (sym tallied.whole)

  pub tallied_now : (some whole : ℕ) → item ≤ 512 → some + one_if (nat_lt 0 (slice_index c.counts.items block)) ≡ c.some + one_if (nat_lt 0 item)
      → whole + one_if (nat_eq (slice_index c.counts.items block) 512) ≡ c.whole + one_if (nat_eq item 512)
      → IsTallied (record { counts = record c.counts { items = slice_set c.counts.items block item }; some = some; whole = whole })
  tallied_now some whole few some_is whole_is = record {
    some = omega (arith, some_is, some_now);
    whole = omega (arith, whole_is, whole_now);
    most = λ k. elim (eqb_tells k block) [
      | inl at ↦ omega (arith, ap (slice_index (slice_set c.counts.items block item)) at.1, get_or-set_same c.counts.items block item 0 within, few)
      | inr away ↦ omega (arith, get_or-set_other c.counts.items block k item 0 away.1, tallied.most k)
    ];
    few = omega (arith, length-set c.counts.items block item, tallied.few);
  }

  -- the count is written, and the first of the two numbers is right again
  pub record IsHalfTallied (half : Inside) : Type 0 where
    pub counts : half.counts ≡ with_item c.counts block item
    pub some : half.some + one_if (nat_lt 0 (slice_index c.counts.items block)) ≡ c.some + one_if (nat_lt 0 item)
    pub whole : half.whole ≡ c.whole

  pub tallied_then : (half : Inside) → IsHalfTallied half → (whole : ℕ) → item ≤ 512 → whole + one_if (nat_eq (slice_index c.counts.items block) 512) ≡ half.whole + one_if (nat_eq item 512) → IsTallied (record half { whole = whole })
  tallied_then half is whole few whole_is =
      subst (λ (counts : FixedVec ℕ). IsTallied (record { counts = counts; some = half.some; whole = whole })) (sym is.counts)
      (tallied_now half.some whole few is.some (omega (arith, whole_is, is.whole)))

  -- the first number is one more where none was counted before, and one less where none is counted now
  abbrev pub written_with : ℕ → Inside
  written_with some = record { counts = with_item c.counts block item; some = some; whole = c.whole }

  half_with : (half : Inside) (some : ℕ) → half ≡ written_with some → some + one_if (nat_lt 0 (slice_index c.counts.items block)) ≡ c.some + one_if (nat_lt 0 item) → IsHalfTallied half
  half_with half some is right = record {
    counts = ap (λ (h : Inside). h.counts) is;
    some = omega (arith, ap (λ (h : Inside). h.some) is, right);
    whole = ap (λ (h : Inside). h.whole) is;
  }

  pub half_more : (half : Inside) → slice_index c.counts.items block < item → ((slice_index c.counts.items block ≡ 0) × (half ≡ written_with (c.some + 1))) ⊎ ((slice_index c.counts.items block ≢ 0) × (half ≡ written_with c.some)) → IsHalfTallied half
  half_more half more (inl none) = half_with half (c.some + 1) none.1 (omega (arith, none_of (slice_index c.counts.items block) none.0, some_of item (omega (arith, more))))
  half_more half more (inr some) = half_with half c.some some.1 (omega (arith, some_of (slice_index c.counts.items block) (omega (arith, some.0)), some_of item (omega (arith, more))))

  pub half_fewer : (half : Inside) → item < slice_index c.counts.items block → ((item ≡ 0) × (half ≡ written_with (c.some - 1))) ⊎ ((item ≢ 0) × (half ≡ written_with c.some)) → IsHalfTallied half
  half_fewer half fewer (inl none) = half_with half (c.some - 1) none.1 (omega (arith, some_now, none_of item none.0, some_of (slice_index c.counts.items block) (omega (arith, fewer))))
  half_fewer half fewer (inr some) = half_with half c.some some.1 (omega (arith, some_of item (omega (arith, some.0)), some_of (slice_index c.counts.items block) (omega (arith, fewer))))

-- numbers that are found by how many there are
module _ (p q : ℕ → Bool) where
  none_counted : (n : ℕ) → count_below p n ≡ 0 → (k : ℕ) → k < n → p k ≡ false
  none_counted n none k h = elim (cases_Bool (p k)) [ inl passes ↦ absurd (omega (arith, none, count_some p n k h passes)) | inr fails ↦ fails ]

  pub none_found : (n : ℕ) → count_below p n ≡ 0 → some_below (λ k. not (q k) && p k) n ≡ false
  none_found n none = none_some _ n (λ k h. ap (λ b. not (q k) && b) (none_counted n none k h) ∙ and-false (not (q k)))

  within : (n : ℕ) → ((k : ℕ) → k < n → p k ≡ true → q k ≡ true) → count_below p n ≤ count_below q n
  within zero each = omega arith
  within (suc n) each =
      let rest = within n (λ k h. each k (omega (arith, h))) in
      elim (cases_Bool (p n)) [
        | inl passes ↦ omega (arith, rest, one_here (p n) passes, one_here (q n) (each n (omega arith) passes))
        | inr fails ↦ omega (arith, rest, none_here (p n) fails)
      ]

  longer : (n m : ℕ) → n ≤ m → count_below q n ≤ count_below q m
  longer n zero h = let at : n ≡ 0 = omega (arith, h) in omega (arith, ap (count_below q) at)
  longer n (suc m) h = elim (leb_tells n m) [
    | inl short ↦ omega (arith, longer n m short.1)
    | inr past ↦ (let at : n ≡ suc m = omega (arith, h, past.1) in omega (arith, ap (count_below q) at))
  ]

  found_where : (b d : Bool) → (not d && b) ≡ false → b ≡ true → d ≡ true
  found_where b true is passes = refl
  found_where b false is passes = cc

  -- where more numbers pass one test than another, one of them doesn't pass the other
  pub one_found : (n m : ℕ) → n ≤ m → count_below q m < count_below p n → some_below (λ k. not (q k) && p k) n ≡ true
  one_found n m h more = elim (cases_Bool (some_below (λ k. not (q k) && p k) n)) [
    | inl found ↦ found
    | inr none ↦ absurd (omega (arith, within n (λ k l passes. found_where (p k) (q k) (some_none _ n none k l) passes), longer n m h, more))
  ]

-- how many marks there are after one was set
module _ (marks : List Bool) (block : ℕ) (marked : Bool) (within : block < length marks) where
  pub marks_now : count_below (true_at (slice_set marks block marked)) (length (slice_set marks block marked)) + one_if (true_at marks block) ≡ count_below (true_at marks) (length marks) + one_if marked
  marks_now =
      ap (λ n. count_below (true_at (slice_set marks block marked)) n + one_if (true_at marks block)) (length-set marks block marked)
      ∙ turned (true_at marks) (true_at (slice_set marks block marked)) (length marks) block within
      (λ q away. unwrap_or-slice_get (slice_set marks block marked) q false ∙ get_or-set_other marks block q marked false away ∙ sym (unwrap_or-slice_get marks q false))
      (true_at marks block) marked refl (unwrap_or-slice_get (slice_set marks block marked) block false ∙ get_or-set_same marks block marked false within)

pub no_marks : (marks : List Bool) (blocks : ℕ) → marks ≡ replicate blocks false → 0 ≡ count_below (true_at marks) (length marks)
no_marks marks blocks are = sym (count_none (true_at marks) (length marks) (λ k h. ap (λ (bs : List Bool). true_at bs k) are ∙ ap (λ (o : Option Bool). unwrap_or o false) (slice_get_replicate blocks k false (omega (arith, h, ap length are, length-replicate {A = Bool} blocks false)))))
