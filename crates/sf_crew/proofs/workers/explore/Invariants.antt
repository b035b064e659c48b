use Rattle.sf_crew.proofs.workers.explore.Given as goal

-- the exploration that was just opened
abbrev pub ghosts-run_all : goal.ghosts-run_all
ghosts-run_all g a = record { stack = a.opened.stack; budget = a.opened.budget }
