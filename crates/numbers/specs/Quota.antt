-- The rounded quotient: the one place that says how a share is rounded (ticket 3 of 02). Assumes nothing.
-- All else goes by its laws (proofs/QuotaLaws.antt) and never by this text.
use Rattle.std.specs.Prelude.{ℕ, ◌+◌, ◌*◌, ◌/◌}

-- floor((2 × a + b) ÷ (2 × b)), that is a ÷ b to nearest with halves up, and 0 where b is 0
unfoldable pub quota : ℕ → ℕ → ℕ
quota a b = (2 * a + b) / (2 * b)
