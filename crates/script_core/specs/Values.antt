-- The values in the replies to loads are those that were stored.
use Rattle.std.specs.Prelude.{◌≡◌, ℕ, zero, suc, ◌+◌, List, [], ◌∷◌, length, ⊤, IsSomeAnd}
use Rattle.frame_core.specs.declared.record.Record.{Record}
use Rattle.frame_core.specs.declared.record.Record.TheVariants as record_of
use Rattle.frame_core.specs.History.{page_at, last}
use Rattle.state_core.specs.declared.call.ZoneCall.{ZoneCall}
use Rattle.state_core.specs.declared.call.ZoneCall.TheVariants.{Map, MapAt, Store, Load, Share, Unmap}
use Rattle.text_core.specs.declared.command.Calls.{Calls}
use Rattle.text_core.specs.declared.command.Calls.TheVariants.{Zone, One, Series as SeriesOf}
use Rattle.text_core.specs.declared.command.Repeated.{Repeated}
use Rattle.text_core.specs.declared.command.Command.{Command}
use Rattle.text_core.specs.declared.command.Command.TheVariants.{On}
use Rattle.text_core.specs.declared.reply.Reply.{Reply}
use Rattle.text_core.specs.declared.reply.Reply.TheVariants as reply
use Rattle.machine_core.specs.Machine.{call_at}
use Rattle.text_core.specs.Script.{Answer, Numbered}

-- a history with what an accepted call adds to it, the newest record first: a page for an address, or a stored value. A fresh
-- page is named by the number of records before it.
abbrev pub accepted : List Record → ZoneCall 8 → List Record
accepted older (Map a unmovable) = record_of.Map 0 a (length older) ∷ older
accepted older (MapAt a unmovable frame) = record_of.Map 0 a (length older) ∷ older
accepted older (Share a alias) = record_of.Share 0 a alias ∷ older
accepted older (Unmap a) = record_of.Unmap 0 a ∷ older
accepted older (Store a word value) = record_of.Store 0 a word value ∷ older
accepted older _ = older

-- a history with what n accepted calls of a series add to it, from page v of space s on
abbrev pub repeated : Repeated → (s v further n : ℕ) → List Record → List Record
repeated c s v further zero older = older
repeated c s v further (suc n) older = repeated c s (v + further) further n (accepted older (call_at c (record { space = s; vpage = v })))

-- how many calls of a series were accepted
abbrev pub accepted_count : Reply → ℕ
accepted_count (reply.AllDone n) = n
accepted_count (reply.DoneUntil n refusal) = n
accepted_count _ = 0

-- a history with what answered calls add to it: a refused call adds nothing, and only calls of the zone add something
abbrev pub called : List Record → Calls → Reply → List Record
called older (Zone c) (reply.Refused number) = older
called older (Zone c) _ = accepted older c
called older (One c) r = older
called older (SeriesOf s) r = repeated s.call s.space s.first s.step (accepted_count r) older

-- a history with what an answered command adds to it
abbrev pub told : List Record → Command → Reply → List Record
told older (On zone c) r = called older c r
told older _ r = older

-- a load gives the value that was stored last in that word of the page that its address names, since the page was
-- mapped, through whatever address, or 0 before the first store; no other command gives a value
abbrev pub IsLast : List Record → Command → ℕ → Type 0
IsLast older (On zone (Zone (Load a word))) x = IsSomeAnd (page_at older a) (λ page. x ≡ last older page word)
IsLast older c x = ⊥

-- the value in a reply, if it has one, is the one stored last
abbrev pub IsLastStored : List Record → Command → Reply → Type 0
IsLastStored older c (reply.Value x) = IsLast older c x
IsLastStored older c _ = ⊤

-- each reply to these commands has the value stored last, where this history comes before the first of them
abbrev pub ValuesAreStored : List Record → List Numbered → List Answer → Type 0
ValuesAreStored older [] answers = ⊤
ValuesAreStored older (c ∷ commands) [] = ⊤
ValuesAreStored older (c ∷ commands) (a ∷ answers) =
    IsLastStored older c.command a.reply × ValuesAreStored (told older c.command a.reply) commands answers
