-- The calls of a zone in four tables, with a row for each call: why it is refused, what it answers, what it leaves, and its record.
use Rattle.std.specs.Prelude.{ℕ, ◌≤◌, ⊤, Bool, true, false, Option, unwrap_or}
use Rattle.frame_core.specs.declared.record.Record.{Record}
use Rattle.frame_core.specs.declared.record.Record.TheVariants as entry
use Rattle.state_core.specs.declared.call.ZoneAnswer.{ZoneAnswer}
use Rattle.state_core.specs.declared.call.ZoneAnswer.TheVariants.{Done, Mapped, Frame, Value}
use Rattle.state_core.specs.declared.call.ZoneCall.{ZoneCall}
use Rattle.state_core.specs.declared.call.ZoneCall.TheVariants.{Map, MapAt, Load, Store, Share, Unmap, Pin, Unpin, TakeOrder, GiveOrder, Mark, Unmark}
use Rattle.state_core.specs.declared.error.ZoneError.{ZoneError}
use Rattle.state_core.specs.Access.{access_refusal, value_at, loaded, stored}
use Rattle.state_core.specs.HandingOut.{lowest_run, take_order_refusal, give_order_refusal, block_taken, block_given}
use Rattle.state_core.specs.Mapping.{map_refusal, map_at_refusal, mapped}
use Rattle.state_core.specs.Marking.{mark_refusal, unmark_refusal, block_marked, block_unmarked}
use Rattle.state_core.specs.Pinning.{pin_refusal, unpin_refusal, pinned, unpinned}
use Rattle.state_core.specs.Sharing.{share_refusal, shared}
use Rattle.state_core.specs.Unmapping.{unmap_refusal, unmapped}
use Rattle.state_core.specs.ZoneState.{ZoneState, frame_for, lowest_unused_page}

-- why a call is refused, if it is
abbrev pub refusal_of : {W : ℕ} → ZoneCall W → ZoneState → Option ZoneError
refusal_of (Map address unmovable) z = map_refusal z address
refusal_of (MapAt address unmovable frame) z = map_at_refusal z address frame
refusal_of (Load address word) z = access_refusal z address
refusal_of (Store address word value) z = access_refusal z address
refusal_of (Share address alias) z = share_refusal z address alias
refusal_of (Unmap address) z = unmap_refusal z address
refusal_of (Pin address) z = pin_refusal z address
refusal_of (Unpin address) z = unpin_refusal z address
refusal_of (TakeOrder order) z = take_order_refusal z order
refusal_of (GiveOrder first order) z = give_order_refusal z first order
refusal_of (Mark block) z = mark_refusal z block
refusal_of (Unmark block) z = unmark_refusal z block

-- what a call answers that isn't refused
abbrev pub answer_of : {W : ℕ} → ZoneCall W → ZoneState → ZoneAnswer
answer_of (Map address unmovable) z = Mapped (unwrap_or (lowest_unused_page z) 0) (unwrap_or (frame_for z unmovable) 0)
answer_of (MapAt address unmovable frame) z = Mapped (unwrap_or (lowest_unused_page z) 0) frame
answer_of (Load address word) z = Value (value_at z address word)
answer_of (Store address word value) z = Done
answer_of (Share address alias) z = Done
answer_of (Unmap address) z = Done
answer_of (Pin address) z = Done
answer_of (Unpin address) z = Done
answer_of (TakeOrder order) z = Frame (unwrap_or (lowest_run z order) 0)
answer_of (GiveOrder first order) z = Done
answer_of (Mark block) z = Done
answer_of (Unmark block) z = Done

-- the zone after a call of a client that isn't refused
abbrev pub after : {W : ℕ} → ZoneCall W → ℕ → ZoneState → ZoneState
after (Map address unmovable) client z = mapped z client address unmovable (unwrap_or (frame_for z unmovable) 0)
after (MapAt address unmovable frame) client z = mapped z client address unmovable frame
after (Load address word) client z = loaded z client address word
after (Store address word value) client z = stored z client address word value
after (Share address alias) client z = shared z client address alias
after (Unmap address) client z = unmapped z client address
after (Pin address) client z = pinned z client address
after (Unpin address) client z = unpinned z client address
after (TakeOrder order) client z = block_taken z (unwrap_or (lowest_run z order) 0) order
after (GiveOrder first order) client z = block_given z first order
after (Mark block) client z = block_marked z block
after (Unmark block) client z = block_unmarked z block

-- whether this is an answer to such a call
abbrev pub answers : {W : ℕ} → ZoneCall W → ZoneAnswer → Bool
answers (Map address unmovable) (Mapped page frame) = true
answers (MapAt address unmovable at) (Mapped page frame) = true
answers (Load address word) (Value value) = true
answers (TakeOrder order) (Frame first) = true
answers (Store address word value) Done = true
answers (Share address alias) Done = true
answers (Unmap address) Done = true
answers (Pin address) Done = true
answers (Unpin address) Done = true
answers (GiveOrder first order) Done = true
answers (Mark block) Done = true
answers (Unmark block) Done = true
answers call answer = false

-- the page, the value and the first frame that an answer tells, and 0 where it tells none
abbrev page_in : ZoneAnswer → ℕ
page_in (Mapped page frame) = page
page_in _ = 0

abbrev value_in : ZoneAnswer → ℕ
value_in (Value value) = value
value_in _ = 0

abbrev first_in : ZoneAnswer → ℕ
first_in (Frame first) = first
first_in _ = 0

-- the record that a call of a client leaves that was answered so
abbrev pub record_of : {W : ℕ} → ZoneCall W → ℕ → ZoneAnswer → Record
record_of (Map address unmovable) client answer = entry.Map client address (page_in answer)
record_of (MapAt address unmovable frame) client answer = entry.Map client address (page_in answer)
record_of (Load address word) client answer = entry.Load client address word (value_in answer)
record_of (Store address word value) client answer = entry.Store client address word value
record_of (Share address alias) client answer = entry.Share client address alias
record_of (Unmap address) client answer = entry.Unmap client address
record_of (Pin address) client answer = entry.Pin client address
record_of (Unpin address) client answer = entry.Unpin client address
record_of (TakeOrder order) client answer = entry.TakeHuge (first_in answer) order
record_of (GiveOrder first order) client answer = entry.GiveHuge first order
record_of (Mark block) client answer = entry.Mark block
record_of (Unmark block) client answer = entry.Unmark block

-- whether a client may make the call beside a round: it names an address
abbrev pub is_of_client : {W : ℕ} → ZoneCall W → Bool
is_of_client (TakeOrder order) = false
is_of_client (GiveOrder first order) = false
is_of_client (Mark block) = false
is_of_client (Unmark block) = false
is_of_client _ = true

-- whether a call reads or writes a word
abbrev pub is_access : {W : ℕ} → ZoneCall W → Bool
is_access (Load address word) = true
is_access (Store address word value) = true
is_access _ = false

-- the argument of a call is in range that a valid zone rests on: the order of a block that is to be handed out
abbrev pub IsInRange : {W : ℕ} → ZoneCall W → Type 0
IsInRange (TakeOrder order) = (3 ≤ order) × (order ≤ 9)
IsInRange _ = ⊤
