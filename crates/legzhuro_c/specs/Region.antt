-- Edits stay in their region (ticket 13 of 02), of the call on files: what two calls return and write alike. Assumes nothing.
use Rattle.std.specs.Prelude.{◌≡◌, List, ℕ}
use Rattle.numbers.specs.Lists.{written}
use Rattle.qlt_spec.specs.declared.Repair.{Repair}
use Rattle.qlt_spec.specs.Field.{Field}
use Rattle.qlt_spec.specs.Region.{SameRepair}
use Rattle.files_spec.specs.AnswerFile.{answer_bytes}

-- both return 0 and have written the answer files of repairs that are the same outside v; or both return one number and have written nothing
pub data SameReturns (F : Field) (v : ℕ) (answer left answer' left' : List ℕ) : ℕ → ℕ → Type 0 where
  both_written : {r q : Repair} {xs ys : List ℕ} → left ≡ written answer 0 (answer_bytes F.n r xs) → left' ≡ written answer' 0 (answer_bytes F.n q ys)
      → SameRepair F v r q xs ys → SameReturns F v answer left answer' left' 0 0
  both_refused : {number : ℕ} → left ≡ answer → left' ≡ answer' → SameReturns F v answer left answer' left' number number
