-- `blocks::words::signed_word` meets its contract: two's complement, by the number's sign.
use Rattle.std.proofs.Common.{◌≡◌, ℤ, pos, negsuc, w32, of_z, arith, refl, ap, ◌∙◌}
use mir.ValLaws.{to_z-of_z}
use Rattle.blocks.specs.Words.{signed_word}
use Rattle.blocks.proofs.words.signed_word.Goals as goal

same : (z : ℤ) → of_z w32 z ≡ signed_word z
unfolding signed_word
same (pos n) = refl
same (negsuc n) = omega arith

pub returns : goal.returns
returns c = c.cast_unsigned.ensures ∙ ap (of_z w32) (to_z-of_z w32 c.args.z c.ranges.z) ∙ same c.args.z
