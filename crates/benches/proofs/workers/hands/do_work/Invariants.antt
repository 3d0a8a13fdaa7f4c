use Rattle.benches.proofs.workers.hands.do_work.Given as goal

abbrev pub ghosts-by_workers-K-StartIdentity : goal.ghosts-by_workers-K-StartIdentity
ghosts-by_workers-K-StartIdentity g a = record { start = a.zone }

abbrev pub ghosts-by_workers-K-RunsIdentity : goal.ghosts-by_workers-K-RunsIdentity
ghosts-by_workers-K-RunsIdentity g a = record { runs = a.runs }
