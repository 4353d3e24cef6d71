use Rattle.sheet_trees.proofs.trees.+put_nested.Given as goal

abbrev pub decreases-put_nested : goal.decreases-put_nested
decreases-put_nested l = l.levels
