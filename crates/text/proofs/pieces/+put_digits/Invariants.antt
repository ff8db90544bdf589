use Rattle.text.proofs.pieces.+put_digits.Given as goal

-- the most digits that x may have
abbrev pub decreases-put_digits : goal.decreases-put_digits
decreases-put_digits l = l.k
