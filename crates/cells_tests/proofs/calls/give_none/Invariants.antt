use Rattle.cells_tests.proofs.calls.give_none.Given as goal

-- the store stays in order
abbrev pub invariant-loop-number : goal.invariant-loop-number
invariant-loop-number g l = g.S.Meaning.ok l.store
