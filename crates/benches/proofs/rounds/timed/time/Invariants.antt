use Rattle.benches.proofs.rounds.timed.time.Given as goal

-- the zone that is shared
abbrev pub ghosts-time_rounds : goal.ghosts-time_rounds
ghosts-time_rounds g a = record { number = a.zone.number; blocks = a.zone.blocks }
