-- What the verdict of a report means, and the contract by the verdict, over any text and any room. Assumes nothing.
use Rattle.std.specs.Prelude.{Ok}
use mathlib.Core.Path.{◌≡◌, refl, sym, ◌∙◌, ap}
use mathlib.Core.List.{List, [], ◌∷◌}
use Prim.Native.Nat.{ℕ, ◌≤◌}
use native.Mathlib.Omega.{arith}
use lib.ListN.{length, take}
use lib.Seq.{length-take-le}
use Rattle.numbers.specs.Checks.{Answered, refused, Decides, RefuseWith}
use Rattle.numbers.proofs.CheckLaws.{long-decides}
use Rattle.numbers.proofs.ChainLaws.{refuse-with}
use Rattle.numbers.proofs.PartLaws.{length-kept}
use Rattle.text.specs.Text.{Put}
use Rattle.text.specs.Reports.{report_verdict, report_rule, Reports}
use Rattle.text.proofs.TextLaws.{front}

-- ---- the verdict

pub report-decides : (room : ℕ) (out : List ℕ) → Decides (report_verdict room out) (report_rule room out)
report-decides room out = long-decides (length out) room

-- it refuses with 3 alone
pub report-numbers : (room : ℕ) (out : List ℕ) → RefuseWith (report_rule room out ∷ []) (3 ∷ [])
report-numbers room out = refuse-with (report_rule room out ∷ []) (3 ∷ []) refl refl

-- ---- the contract

pub report-refused : (text : List ℕ) {room number place : ℕ} {out : List ℕ} → report_verdict room out ≡ refused number place → Reports text room out (refused number place) out
report-refused text e =
    record {
      answers = rw e;
      writes = rw e;
      fits = λ k f. let z : ◌≡◌ {A = ℕ} 0 1 = cc in absurd (omega arith);
    }

pub report-written : {text : List ℕ} {room k : ℕ} {out out' : List ℕ} → report_verdict room out ≡ Ok tt → length text ≤ room → Put out out' 0 k text → Reports text room out (Ok k) out'
report-written {text} {room} {k} {out} {out'} e h p =
    let l : room ≤ length out = (report-decides room out).passes.0 e in
    let n : k ≡ length text = omega arith in
    let m = ap length p.bytes ∙ length-kept out 0 text (omega arith) in
    record {
      answers = rw e (ap Ok n);
      writes = rw e p.bytes;
      fits = λ j f. let z : k ≡ j = cc in omega (arith, m);
    }

-- a text that was put together at the front of another list
pub report-front : {d d' text out out' : List ℕ} {n room : ℕ} {answer : Answered ℕ} → Put d d' 0 n text → Reports (take n d') room out answer out' → Reports text room out answer out'
report-front p r = rw (front p) at r

-- a text that was told fits into the lent list: what a part of its first k bytes asks
pub text-fits : {text out out' : List ℕ} {room k : ℕ} → Reports text room out (Ok k) out' → (k ≤ length out') × (k ≡ length (take k out'))
text-fits {out' = out'} {k = k} p = let h = p.fits k refl in (h, sym (length-take-le k out' h))
