use Rattle.task_table.proofs.halves.+draw.Given as goal

abbrev pub decreases-draw : goal.decreases-draw
decreases-draw l = l.depth
