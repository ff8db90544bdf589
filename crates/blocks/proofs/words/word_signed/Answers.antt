-- `blocks::words::word_signed` meets its contract: two's complement, by whether the word is below 2 ^ 31.
use Rattle.std.proofs.Common.{◌≡◌, ℕ, ◌<◌, negsuc, w32, to_z, of_z, arith, ap, le-ltb, lt-ltb, ◌∙◌}
use mir.ValLaws.{of_z-to_z}
use native.Mathlib.Decide.{dec_lt}
use Rattle.blocks.specs.Words.{word_signed}
use Rattle.blocks.proofs.words.word_signed.Goals as goal

same : (x : ℕ) → to_z w32 x ≡ word_signed x
unfolding word_signed
same x = go (dec_lt x 2147483648)
  where
    go : Dec (x < 2147483648) → to_z w32 x ≡ word_signed x
    go (yes l) = unfold word_signed in (rw (lt-ltb x 2147483648 l))
    go (no l) = unfold word_signed in (rw (le-ltb x 2147483648 (omega arith)) (ap negsuc (omega arith)))

pub returns : goal.returns
returns c =
    let x = c.args.x in
    ap (λ z. to_z w32 (of_z w32 z)) c.cast_signed.ensures ∙ ap (to_z w32) (of_z-to_z w32 x c.ranges.x) ∙ same x
