-- A script of profile 1 after the line `profile 2`.
use Rattle.std.specs.Prelude.{◌≡◌, ℕ, ◌+◌, List, ◌∷◌, ◌++◌, codes, map, Option, None}
use Rattle.text_core.specs.declared.profile.Profile.TheVariants.{One}
use Rattle.text_core.specs.declared.reply.Reply.{Reply}
use Rattle.text_core.specs.declared.reply.Reply.TheVariants as reply
use Rattle.text_core.specs.declared.fault.RunError.{RunError}
use Rattle.text_core.specs.Script.{Answer, by, fault_from, fault_of, parts_of}

-- the first fault of an input where each line is read by profile 1, so that `profile 2` is a fault too
abbrev pub fault_in_profile_1 : List ℕ → Option RunError
fault_in_profile_1 input = fault_from (by One) 1 (parts_of input)

-- an input with the line `profile 2` before it
abbrev pub after_profile_2 : List ℕ → List ℕ
after_profile_2 input = codes "profile 2\n" ++ input

-- what a reply of profile 1 is in profile 2: the reply to `info` ends with the number of frames that are handed out
abbrev pub with_held : Reply → Reply
with_held (reply.Info i) = reply.InfoWithHeld i
with_held r = r

-- what the replies of a script in profile 1 are in profile 2: `ok` comes first, and then the same replies, each to the line after its own
abbrev pub in_profile_2 : List Answer → List Answer
in_profile_2 answers = record { line = 1; reply = reply.Done } ∷ map (λ a. record { line = a.line + 1; reply = with_held a.reply }) answers

-- a script without a fault in profile 1 has no fault by itself, none after `profile 2`, and the same replies there, from what answers inputs so
pub record IsSameInProfile2 (answers_to : List ℕ → List Answer) (input : List ℕ) : Type 0 where
  pub fault : fault_of input ≡ None
  pub fault_in_profile_2 : fault_of (after_profile_2 input) ≡ None
  pub answers : answers_to (after_profile_2 input) ≡ in_profile_2 (answers_to input)
