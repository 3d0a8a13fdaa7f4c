-- A client's call that a zone accepts adds one record to the journal, which is of the client.
use Rattle.std.proofs.Common.{◌≡◌, ℕ, true, ◌&&◌, nat_eq, refl, ap, ◌∙◌, eq-eqb}
use Rattle.std.specs.Prelude.{IsTrue}
use Rattle.state_core.specs.declared.call.ZoneAnswer.{ZoneAnswer}
use Rattle.state_core.specs.declared.call.ZoneCall.{ZoneCall}
use Rattle.state_core.specs.declared.call.ZoneCall.TheVariants.{TakeOrder}
use Rattle.state_core.specs.Calls.{answer_of, after, is_of_client, record_of}
use Rattle.state_core.specs.ZoneState.{ZoneState}
use Rattle.state_core.proofs.Calls.{call_recorded}
use Rattle.round_core.specs.Calls.{is_of, IsCall}

-- the record of a call is of its client where a client may make the call, and else of none
of_caller : {W : ℕ} (call : ZoneCall W) (client : ℕ) (answer : ZoneAnswer) → is_of client (record_of call client answer) ≡ (is_of_client call && nat_eq client client)
of_caller (TakeOrder order) client answer = refl
of_caller _ client answer = refl

pub own_record : {W : ℕ} (call : ZoneCall W) (client : ℕ) (answer : ZoneAnswer) → IsTrue (is_of_client call) → is_of client (record_of call client answer) ≡ true
own_record call client answer own = of_caller call client answer ∙ (rw own (eq-eqb client client refl))

-- what a zone is after such a call
abbrev pub noted_by : {W : ℕ} (call : ZoneCall W) (client : ℕ) (z z_new : ZoneState) → IsTrue (is_of_client call) → z_new ≡ after call client z → IsCall client z z_new
noted_by {W = W} call client z z_new own is = record {
  entry = record_of call client (answer_of call z);
  own = own_record call client (answer_of call z) own;
  more = ap (λ (left : ZoneState). left.records) is ∙ call_recorded W call client z;
}
