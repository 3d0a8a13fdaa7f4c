-- How many blocks are handed out when one is taken or given back.
use Rattle.std.proofs.Common.{◌≡◌, ◌≢◌, ℕ, ◌+◌, ◌-◌, ◌<◌, ◌≤◌, true, false, List, length, inl, inr, refl, sym, ap, ◌∙◌, arith}
use Rattle.std.specs.Prelude.{Option, Some, None, is_some, slice_set}
use Rattle.std.specs.Option.{option_and_then}
use Rattle.frame_core.specs.FixedVec.{with_item}
use Rattle.std.proofs.lemmas.Bool.{both_ways}
use Rattle.std.proofs.lemmas.Bool.Decides.{leb_tells}
use Rattle.std.proofs.lemmas.Option.{slice_get_past}
use Rattle.std.proofs.lemmas.List.{length-set}
use Rattle.frame_core.proofs.Lists.{slice_get_set_same, slice_get_set_other}
use Rattle.frame_core.proofs.Searches.{count_more, count_most}
use Rattle.frame_core.specs.Below.{count_below}
use Rattle.zone_tables.specs.declared.handed_out.HandedOut.TheInside.{Inside}
use Rattle.zone_tables.specs.HandedOut.{order_of}
use Rattle.zone_tables.specs.HandedOutInside.{IsCounted}

module _ (orders : List (Option ℕ)) (first : ℕ) (o : Option ℕ) (within : first < length orders) where
  pub order_here : order_of (slice_set orders first o) first ≡ o
  order_here = ap (option_and_then (λ (order : Option ℕ). order)) (slice_get_set_same orders first first o refl within)

  pub order_there : (q : ℕ) → q ≢ first → order_of (slice_set orders first o) q ≡ order_of orders q
  order_there q other = ap (option_and_then (λ (order : Option ℕ). order)) (slice_get_set_other orders first q o other)

-- a block that is handed out begins at a frame of the list
pub order_within : (orders : List (Option ℕ)) (first : ℕ) → is_some (order_of orders first) ≡ true → first < length orders
order_within orders first some = elim (leb_tells (length orders) first) [
  | inr below ↦ below.1
  | inl past ↦ absurd (both_ways _ (ap (λ (o : Option (Option ℕ)). is_some (option_and_then (λ (order : Option ℕ). order) o)) (slice_get_past orders first past.1)) some)
]

-- one more block is counted
more_blocks : (fewer more : List (Option ℕ)) (first : ℕ) → length fewer ≡ length more → first < length more → is_some (order_of fewer first) ≡ false → is_some (order_of more first) ≡ true → ((q : ℕ) → q ≢ first → order_of more q ≡ order_of fewer q)
    → count_below (λ q. is_some (order_of more q)) (length more) ≡ count_below (λ q. is_some (order_of fewer q)) (length fewer) + 1
more_blocks fewer more first same below without here others =
    count_more (λ q. is_some (order_of fewer q)) (λ q. is_some (order_of more q)) (length more) first below without here (λ q ne. ap is_some (others q ne))
    ∙ ap (λ n. count_below (λ q. is_some (order_of fewer q)) n + 1) (sym same)

module _ (z : Inside) (counted : IsCounted z) (first order : ℕ) (within : first < length z.orders.items) (none : order_of z.orders.items first ≡ None) where
  abbrev taken : List (Option ℕ)
  taken = slice_set z.orders.items first (Some order)

  same_taken : length z.orders.items ≡ length taken
  same_taken = sym (length-set z.orders.items first (Some order))

  pub taken_counted : IsCounted (record z { orders = with_item z.orders first (Some order); blocks = z.blocks + 1 })
  taken_counted = record {
    few = omega (arith, counted.few, same_taken);
    blocks = omega (arith, counted.blocks, more_blocks z.orders.items taken first same_taken (omega (arith, within, same_taken)) (ap is_some none) (ap is_some (order_here z.orders.items first (Some order) within)) (order_there z.orders.items first (Some order) within));
  }

  pub taken_few : z.blocks + 1 ≤ 16777216
  taken_few = omega (arith, taken_counted.few, taken_counted.blocks, count_most (λ q. is_some (order_of taken q)) (length taken))

module _ (z : Inside) (counted : IsCounted z) (first : ℕ) (some : is_some (order_of z.orders.items first) ≡ true) where
  abbrev given : List (Option ℕ)
  given = slice_set z.orders.items first None

  within : first < length z.orders.items
  within = order_within z.orders.items first some

  same_given : length given ≡ length z.orders.items
  same_given = length-set z.orders.items first None

  fewer_blocks : z.blocks ≡ count_below (λ q. is_some (order_of given q)) (length given) + 1
  fewer_blocks = counted.blocks ∙ more_blocks given z.orders.items first same_given within (ap is_some (order_here z.orders.items first None within)) some (λ q ne. sym (order_there z.orders.items first None within q ne))

  pub given_some : 1 ≤ z.blocks
  given_some = omega (arith, fewer_blocks)

  pub given_counted : IsCounted (record z { orders = with_item z.orders first None; blocks = z.blocks - 1 })
  given_counted = record { few = omega (arith, counted.few, same_given); blocks = omega (arith, fewer_blocks) }
