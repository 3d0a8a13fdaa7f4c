-- The scanner's step in the words of the call that isolates.
use Rattle.std.proofs.Common.{◌≡◌, cond, refl, sym, ap, ◌∙◌, Option, Some, None, is_none}
use Rattle.state_core.specs.declared.error.ZoneError.{ZoneError}
use Rattle.state_core.specs.declared.moves.Next.TheVariants as next
use Rattle.state_core.specs.declared.round.Pair.{Pair}
use Rattle.state_core.specs.Isolating.{isolate_refusal, next_answer, next_state}
use Rattle.state_core.specs.Pairs.{next_pair}
use Rattle.state_core.specs.ZoneState.{ZoneState}
use Rattle.zone_core.specs.ByHand.{scan_pair, scan_step}

-- the step of a call that wasn't refused
pub stepped : (z : ZoneState) → None ≡ isolate_refusal z → next_state z (next_pair z) ≡ scan_step z
stepped z e = ap (λ refusal. next_state z (cond (is_none refusal) (next_pair z) None)) e

pub met_none : (z : ZoneState) (o : Option Pair) → next.Met ≡ next_answer z o → o ≡ None
met_none z None e = refl
met_none z (Some pair) e = cc

-- the scanner stops where the scanners met, and where the isolation is refused
pub met_stops : (z : ZoneState) → None ≡ isolate_refusal z → next.Met ≡ next_answer z (next_pair z) → scan_pair z ≡ None
met_stops z e met = ap (λ refusal. cond (is_none refusal) (next_pair z) None) (sym e) ∙ met_none z (next_pair z) met

pub full_stops : (z : ZoneState) (error : ZoneError) → Some error ≡ isolate_refusal z → scan_pair z ≡ None
full_stops z error e = ap (λ refusal. cond (is_none refusal) (next_pair z) None) (sym e)
