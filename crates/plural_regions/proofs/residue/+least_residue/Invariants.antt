use Rattle.plural_regions.proofs.residue.+least_residue.Given as goal

abbrev pub decreases-least_residue : goal.decreases-least_residue
decreases-least_residue l = l.m
