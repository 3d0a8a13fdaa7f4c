-- How the move of a page ends that was sent out of a run.
use Rattle.std.proofs.Common.{◌≡◌, ◌≢◌, ◌∙◌, ◌<◌, true, refl, sym, ap, subst}
use Rattle.std.specs.Prelude.{nat_eq}
use Rattle.std.proofs.lemmas.Bool.{eq-eqb, or_left}
use Rattle.state_core.specs.declared.moves.Ended.{Ended}
use Rattle.state_core.specs.declared.moves.Ended.TheVariants as ended
use Rattle.state_core.specs.Claiming.{claimed_at}
use Rattle.state_core.specs.Ending.{IsSettled}
use Rattle.state_core.specs.LentMoves.{LentEnds, LentMove, is_lent_move}
use Rattle.state_core.specs.Valid.{IsValidZone}
use Rattle.state_core.specs.ZoneState.{ZoneState, frame_count, takes_up}
use Rattle.state_core.proofs.Entries.{contains_insert_same}
use Rattle.state_core.proofs.LentMoves.{lent_way}
use Rattle.zone_core.specs.LentMoves.{IsSentOff, SentEnds}

-- the frame that a page leaves whose words are lent is in the zone
pub source_within : (z : ZoneState) (m : LentMove) → IsValidZone z → is_lent_move z m ≡ true → m.source < frame_count z
source_within z m law lent =
    law.pages.within m.page m.source (ap (λ o. takes_up o m.source) (lent_way z m lent).0 ∙ or_left (nat_eq m.source m.source) _ (eq-eqb m.source m.source refl))

-- a page that was moved is sent off once its source is claimed
module _ (old mid new : ZoneState) (m : LentMove) (step : new ≡ claimed_at mid m.source) where
  claimed_off : IsSettled old mid m.page m.target m.source → IsSentOff old (claimed_at mid m.source) m
  claimed_off is = record {
    here = is.here;
    shut = contains_insert_same mid.claimed m.source m.source refl;
    flags = is.flags;
    words = is.words;
    others = is.others;
    names = is.names;
  }

  pub sent_off : LentEnds old mid m ended.Moved → SentEnds old new m ended.Moved
  sent_off is = subst (λ u. IsSentOff old u m) (sym step) (claimed_off is)

-- one that wasn't moved is back
pub ends_back : (old new : ZoneState) (m : LentMove) (e : Ended) → e ≢ ended.Moved → LentEnds old new m e → SentEnds old new m e
ends_back old new m ended.Moved ne is = absurd (ne refl)
ends_back old new m ended.Back ne is = is
