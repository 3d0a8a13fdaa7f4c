-- What the lines of a client are answered during a round, in whatever schedule, and what a turn of it needs and comes to.
use Rattle.std.specs.Prelude.{◌≡◌, ◌≢◌, ℕ, ◌≤◌, ⊤, List, [], ◌∷◌, Option, Some, None, MatchOption, Result, Ok, Err, IfOk, vec_len, vec_capacity}
use Rattle.state_core.specs.declared.call.ZoneAnswer.{ZoneAnswer}
use Rattle.state_core.specs.declared.call.ZoneCall.{ZoneCall}
use Rattle.state_core.specs.declared.error.ZoneError.TheVariants.{Moving}
use Rattle.state_core.specs.Calls.{refusal_of}
use Rattle.hand_core.specs.Told.{Pair}
use Rattle.zone_core.specs.declared.seats.Seats.{Seats}
use Rattle.round_core.specs.Rounds.{IsRefusedEarly, IsRound, IsUnlimited}
use Rattle.client_core.specs.declared.error.ClientError.{ClientError}
use Rattle.client_core.specs.declared.error.ClientError.TheVariants.{Zone}
use Rattle.client_core.specs.Calls.{HasMade, IsFailed}
use Rattle.client_core.specs.Errors.{number_of}
use Rattle.client_core.specs.Receipts.{Client}
use Rattle.text_core.specs.declared.reply.Reply.{Reply}
use Rattle.text_core.specs.declared.reply.Reply.TheVariants.{Refused}
use Rattle.machine_core.specs.Machine.{reply_for}
use Rattle.text_core.specs.Script.{Answer, ClientLine}
use Rattle.script_core.specs.declared.beside.ClientAndRound.{ClientAndRound}
use Rattle.script_core.specs.declared.beside.ClientTurn.{ClientTurn}

-- a call failed for want of memory, or because a zone refused it, and the client has no receipt of it
pub record IsRefusedCall (old : Client) (call : ZoneCall 8) (error : ClientError) (new : Client) : Type 0 where
  pub failed : IsFailed ⊤ (refusal_of call) error
  pub there : error ≢ Zone Moving
  pub same : new ≡ old

-- how a client's call went, and the client afterwards
abbrev pub IsMade : Client → ZoneCall 8 → Result ZoneAnswer ClientError → Client → Type 0
IsMade old call (Ok answer) new = HasMade old call answer new
IsMade old call (Err error) new = IsRefusedCall old call error new

-- the reply to a call that went like this
abbrev pub reply_of : ZoneCall 8 → Result ZoneAnswer ClientError → Reply
reply_of call (Ok answer) = reply_for call answer
reply_of call (Err error) = Refused (number_of error)

-- a client's call was made, and this is its reply
pub record IsCallReply (old : Client) (call : ZoneCall 8) (answer : Reply) (new : Client) : Type 0 where
  pub result : Result ZoneAnswer ClientError
  pub made : IsMade old call result new
  pub answer_is : answer ≡ reply_of call result

-- the reply to a client's line, and the client afterwards; an argument that is out of its range is refused before any call
abbrev pub IsClientReply : Client → Option (ZoneCall 8) → Reply → Client → Type 0
IsClientReply old None answer new = (answer ≡ Refused 1) × (new ≡ old)
IsClientReply old (Some call) answer new = IsCallReply old call answer new

-- the answers to a client's lines, one for each, where each is answered as the lines before left the client
abbrev pub AreClientAnswers : Client → List ClientLine → List Answer → Client → Type 0
AreClientAnswers old [] [] new = new ≡ old
AreClientAnswers old (c ∷ clients) (a ∷ answers) new =
    (next : Client) × (a.line ≡ c.line) × IsClientReply old c.call a.reply next × AreClientAnswers next clients answers new
AreClientAnswers old [] (a ∷ answers) new = ⊥
AreClientAnswers old (c ∷ clients) [] new = ⊥

-- no line has its answer yet, and there is room for one to each
abbrev pub HasRoomForAnswers : {J : Type 0} → ClientTurn J → Type 0
HasRoomForAnswers turn = (turn.answers.items ≡ []) × (vec_len turn.lines ≤ vec_capacity turn.answers)

-- the client may make calls, with the slip of this pair if it has one, and there is room for the answers to its lines
pub record MayPlay {J : Type 0} (allows : ℕ → Option Pair → Type 0) (pair : Option Pair) (turn : ClientTurn J) : Type 0 where
  pub allowed : allows turn.client.number pair
  pub room : HasRoomForAnswers turn

-- the client's lines were answered, and the round went from the first seats to the others, or was refused early
pub record IsRunBeside {J I N M B : Type 0} (turn : ClientTurn J) (seats seats_new : Seats I N M B) (both : ClientAndRound J) : Type 0 where
  pub played : AreClientAnswers turn.client turn.lines.items both.answers.items both.client
  pub round : IfOk both.round (λ r. IsRound seats.scan seats_new.scan seats.ends seats_new.ends r)
  pub early : IsRefusedEarly seats.scan seats_new.scan seats.ends seats_new.ends both.round
  pub unlimited : IsUnlimited both.round

-- both ran, or the client's thread couldn't be started: then nothing ran, and the seats are as before
abbrev pub RunsBeside : {J I N M B : Type 0} → ClientTurn J → (seats seats_new : Seats I N M B) → Option (ClientAndRound J) → Type 0
RunsBeside turn seats seats_new ran = MatchOption ran ((seats_new.scan ≡ seats.scan) × (seats_new.ends ≡ seats.ends)) (IsRunBeside turn seats seats_new)
