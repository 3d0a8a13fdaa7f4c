use Rattle.worker_tests.proofs.tests.emptying.emptied.Given as goal

abbrev pub ghosts-emptied_in-K-StartIdentity : goal.ghosts-emptied_in-K-StartIdentity
ghosts-emptied_in-K-StartIdentity g a = record { start = a.zone }

abbrev pub ghosts-emptied_in-K-RunsIdentity : goal.ghosts-emptied_in-K-RunsIdentity
ghosts-emptied_in-K-RunsIdentity g a = record { runs = a.runs }
