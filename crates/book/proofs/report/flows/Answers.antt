-- `book::report::flows` meets its contract: the sums so far are those of the records passed, at most 2 ^ 31 for each of them.
use mathlib.Core.Path.{◌≡◌, refl, ap, ◌∙◌, subst}
use native.Mathlib.Numerals.{add-one}
use native.Mathlib.Omega.{arith}
use Rattle.numbers.specs.Sums.{ℕ_adds, sum_to}
use mir.Syntax.{w32, w64}
use mir.Val.{to_z, of_z}
use mir.ValLaws.{to_z-of_z}
use lib.IntN.{ℤ, pos, ◌-ℤ◌}
use lib.Signed.{mag}
use Prim.Native.Nat.{◌^◌, ◌<◌}
use Rattle.numbers.specs.Signed.{over, under}
use Rattle.numbers.proofs.SignedLaws.{read_back, minus-parts, one-part, about}
use Rattle.numbers.proofs.SumLaws.{sum_to-next}
use Rattle.blocks.specs.Words.{word_signed}
use Rattle.book.proofs.report.flows.Invariants.{source}
use Rattle.book.proofs.report.flows.Goals as goal

pub loop-i-init : goal.loop-i-init
unfolding sum_to
loop-i-init c = record { inflow = refl; outflow = refl; most = omega arith; most_out = omega arith }

pub loop-i-preserved : goal.loop-i-preserved
loop-i-preserved c =
    let file = c.args.file.now in
    let i = c.loop-i.i in
    let z : ℤ = source file i in
    let w = c.word_signed-source in
    let is : w.result ≡ z = w.ensures ∙ ap word_signed c.payload_word.ensures in
    let small : mag z < 2 ^ 31 = subst (λ y. mag y < 2 ^ 31) is w.type_inv in
    let wide : to_z w32 (of_z w32 w.result) ≡ z = to_z-of_z w32 w.result (record { sfits = w.type_inv }) ∙ is in
    let read : to_z w64 (of_z w64 z) ≡ z = read_back z (omega (arith, small)) in
    let up : c.above-inflow.result ≡ over z = c.above-inflow.ensures ∙ ap (λ y. over (to_z w64 (of_z w64 y))) (c.from-in-loop-i.ensures ∙ wide) ∙ ap over read in
    let d = pos 0 -ℤ z in
    let back : to_z w64 (of_z w64 d) ≡ d = read_back d (omega (arith, about d, minus-parts (pos 0) z, about z, small)) in
    let down : c.above-below.result ≡ under z =
    c.above-below.ensures
    ∙ ap (λ y. over (to_z w64 (of_z w64 (pos 0 -ℤ y)))) (ap (λ y. to_z w64 (of_z w64 y)) (c.from.ensures ∙ wide) ∙ read)
    ∙ ap over back
    ∙ omega (arith, minus-parts (pos 0) z, one-part d, one-part z) in
    rw add-one
    (record {
      inflow = omega (arith, sum_to-next ℕ_adds i (λ j. over (source file j)), up);
      outflow = omega (arith, sum_to-next ℕ_adds i (λ j. under (source file j)), down);
      most = omega (arith, up, about z, small);
      most_out = omega (arith, down, about z, small);
    })
