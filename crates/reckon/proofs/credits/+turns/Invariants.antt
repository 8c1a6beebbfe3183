use Rattle.reckon.proofs.credits.+turns.Given as goal

-- each turn lowers the rest
abbrev pub decreases-turns : goal.decreases-turns
decreases-turns l = l.rest
