use Rattle.cells_tests.proofs.lent.give_all.Given as goal

-- the store stays in order
abbrev pub invariant-loop-step : goal.invariant-loop-step
invariant-loop-step g l = g.S.Meaning.ok l.store
