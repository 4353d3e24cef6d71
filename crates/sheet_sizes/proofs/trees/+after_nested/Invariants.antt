use Rattle.sheet_sizes.proofs.trees.+after_nested.Given as goal

abbrev pub decreases-after_nested : goal.decreases-after_nested
decreases-after_nested l = l.levels
