use Rattle.task_table.proofs.halves.+fill.Given as goal

abbrev pub decreases-fill : goal.decreases-fill
decreases-fill l = l.depth
