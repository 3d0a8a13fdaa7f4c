-- The moves whose words C has: those of the frame that a page leaves, and of the one that it goes to.
use Rattle.std.specs.Prelude.{◌≡◌, ◌^◌, ℕ, Bool, true, not, length, nat_eq, is_some, if◌then◌else◌, IfSome, Option, Some, None}
use Rattle.std.specs.Option.{option_and_then, option_map}
use Rattle.fewest_core.specs.Sending.{next_move_from, send_refusal}
use Rattle.state_core.specs.declared.moves.Next.{Next}
use Rattle.state_core.specs.declared.moves.Next.TheVariants as next
use Rattle.state_core.specs.LentMoves.{IsLentMove, LentMove, is_lent_move, lend_move_refusal}
use Rattle.state_core.specs.Pairs.{next_pair}
use Rattle.state_core.specs.ZoneState.{ZoneState}
use Rattle.state_core.specs.declared.error.ZoneError.{ZoneError}
use Rattle.state_core.specs.declared.error.ZoneError.TheVariants.{Range, Stranger}
use Rattle.compactd_c.specs.Answers.{number_for, IsCall}
use Rattle.compactd_c.specs.Ranges.{is_block, ranged}
use Rattle.compactd_c.specs.declared.lent_moves.HeldMove.{HeldMove}

-- the move that C has, where it has words of both frames
abbrev pub move_of : HeldMove → Option LentMove
move_of held = option_and_then (λ from. option_map (λ to. record { page = held.page; serial = held.serial; source = held.source; target = held.target; from = from; to = to }) held.to.row) held.from.row

-- C has the numbers of a move that it had
abbrev pub HasNumbers : HeldMove → HeldMove → Type 0
HasNumbers old new = (new.serial ≡ old.serial) × (new.page ≡ old.page) × (new.source ≡ old.source) × (new.target ≡ old.target)

-- C has what it had of a move
pub record IsKept (old new : HeldMove) : Type 0 where
  pub numbers : HasNumbers old new
  pub words : (new.from.row ≡ old.from.row) × (new.to.row ≡ old.to.row)

-- C has no words of a move
abbrev pub HasNone : HeldMove → Type 0
HasNone held = (held.from.row ≡ None) × (held.to.row ≡ None)

-- C gets the move that is next with its words, or nothing where none is, and the zone lends what the relation says
abbrev pub Holds : (Next LentMove → Type 0) → Option HeldMove → Type 0
Holds Lends None = Lends next.Met
Holds Lends (Some held) = (m : LentMove) × (move_of held ≡ Some m) × Lends (next.Page m)

-- the number of an answer: that of its refusal, 0 where a page is next, or `none`
abbrev pub lend_number : Option ZoneError → Bool → ℕ → ℕ
lend_number refusal is_next none =
    if is_some refusal then number_for refusal
    else if is_next then 0
    else none

-- that number where a round isolates its next page, with 53 where the scanners have met
abbrev pub lend_move_number : ZoneState → ℕ
lend_move_number z = lend_number (lend_move_refusal z) (is_some (next_pair z)) 53

-- why sending the next page out of a run is refused, if it is: a number is out of its range, or the zone refuses it
abbrev pub send_refused : ℕ → ℕ → ZoneState → Option ZoneError
send_refused first order z = ranged (is_block first order) (send_refusal z first order)

-- the number then, with 55 where no page goes
abbrev pub send_number : ℕ → ℕ → ZoneState → ℕ
send_number first order z = lend_number (send_refused first order z) (is_some (next_move_from first (2 ^ order) z)) 55

-- the words that C has of a move are copied
abbrev pub IsCopied : HeldMove → Type 0
IsCopied held = IfSome (move_of held) (λ m. m.to.words ≡ m.from.words)

-- they are those that the zone lent, where it has lent the words of such a move
abbrev pub HasItsWords : HeldMove → ZoneState → Type 0
HasItsWords held z = IfSome (move_of held) (λ m. is_lent_move z m ≡ true → IsLentMove z m)

-- both, where a pool has such a zone
pub record HasCopied (held : HeldMove) (zone : Option ZoneState) : Type 0 where
  pub copied : IsCopied held
  pub rows : (z : ZoneState) → zone ≡ Some z → HasItsWords held z

-- why the end of a move is refused, if it is: C lacks words of it, or has more of one frame, or the zone hasn't lent the words of such a move
abbrev pub end_move_refusal : Option LentMove → ZoneState → Option ZoneError
end_move_refusal None z = Some Range
end_move_refusal (Some m) z =
    if not (nat_eq (length m.from.words) (length m.to.words)) then Some Range
    else if is_lent_move z m then None
    else Some Stranger

-- the zone after the words came back and this step ended the move
abbrev pub held_ended : (ZoneState → LentMove → ZoneState) → Option LentMove → ZoneState → ZoneState
held_ended step None z = z
held_ended step (Some m) z = step z m

-- C brought a move back, which a step of the zone ended, or the call was refused and changed nothing
pub record IsBroughtBack (step : ZoneState → LentMove → ZoneState) (old new : Option ZoneState) (held held_new : HeldMove) (number : ℕ) : Type 0 where
  pub call : IsCall (end_move_refusal (move_of held)) (held_ended step (move_of held)) old new number
  pub taken : number ≡ 0 → HasNone held_new
  pub kept : ¬ (number ≡ 0) → IsKept held held_new
