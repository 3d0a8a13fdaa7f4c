use Rattle.worker_tests.proofs.tests.emptying.large.Given as goal

abbrev pub ghosts-large_in-K-StartIdentity : goal.ghosts-large_in-K-StartIdentity
ghosts-large_in-K-StartIdentity g a = record { start = a.zone }

abbrev pub ghosts-large_in-K-RunsIdentity : goal.ghosts-large_in-K-RunsIdentity
ghosts-large_in-K-RunsIdentity g a = record { runs = a.runs }
