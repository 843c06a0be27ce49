use Rattle.screen_elements.proofs.+put_filled.Given as goal

abbrev pub decreases-put_filled : goal.decreases-put_filled
decreases-put_filled l = l.n
