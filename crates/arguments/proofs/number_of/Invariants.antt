-- `arguments::number_of` meets its contract: `ReadTo` holds from turn to turn (`read-start`, `read-turn`), and a byte that is no digit
-- makes the argument too large (`argument-strange`).
use Rattle.arguments.proofs.ArgumentLaws.{ReadTo}
use Rattle.arguments.proofs.number_of.Given as goal

abbrev pub invariant-loop-byte : goal.invariant-loop-byte
invariant-loop-byte l = ReadTo l.text l.byte-index l.value
