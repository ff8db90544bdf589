-- `field_file::verdict::head_verdict` meets its contract: a length that passes leaves a first block to read; then the checks in order.
use Rattle.std.proofs.Common.{rules}
use Rattle.qlt_spec.specs.Field.{lists_of}
use Rattle.field_file.proofs.Laws.{head-chain}
use Rattle.field_file.proofs.verdict.head_verdict.Goals as goal

pub returns-in_err-check_file_length : goal.returns-in_err-check_file_length
returns-in_err-check_file_length c = rw (head-chain c.args.file.now (lists_of c.args.field.now)) (search rules)

pub returns-in_err-head_block : goal.returns-in_err-head_block
returns-in_err-head_block c = rw (head-chain c.args.file.now (lists_of c.args.field.now)) (search rules)

pub returns : goal.returns
returns c = rw (head-chain c.args.file.now (lists_of c.args.field.now)) (search rules)
