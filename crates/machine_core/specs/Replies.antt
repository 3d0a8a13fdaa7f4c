-- What is written for a script on one thread.
use Rattle.std.specs.Prelude.{ℕ, List, [], ◌∷◌, length, Option, None}
use Rattle.machine_core.specs.World.{WorldState}
use Rattle.text_core.specs.declared.totals.Totals.{Totals}
use Rattle.text_core.specs.Reply.{newlines}
use Rattle.machine_core.specs.Machine.{step}
use Rattle.text_core.specs.Script.{Answer, Numbered, commands_of, texts}

-- the machine's replies to commands, where it has this world before the first of them
abbrev pub answers_from : ℕ → Option WorldState → List Numbered → List Answer
answers_from places w [] = []
answers_from places w (c ∷ commands) = let s = step places w c.command in
    record { line = c.line; reply = s.reply } ∷ answers_from places s.world commands

-- the machine's world after commands, where it has this world before the first of them
abbrev pub world_after : ℕ → Option WorldState → List Numbered → Option WorldState
world_after places w [] = w
world_after places w (c ∷ commands) = world_after places (step places w c.command).world commands

-- the machine's replies to an input
abbrev pub answers_of : ℕ → List ℕ → List Answer
answers_of places input = answers_from places None (commands_of input)

-- what is written for an input, where a zone that it opens has this many places in its journal
abbrev pub output_of : ℕ → List ℕ → List ℕ
output_of places input = texts (answers_of places input)

-- the number of lines in an input, and the number of replies to it
abbrev pub totals_of : ℕ → List ℕ → Totals
totals_of places input = record { lines = newlines input; replies = length (answers_of places input) }
