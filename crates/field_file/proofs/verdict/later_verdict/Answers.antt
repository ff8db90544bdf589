-- `field_file::verdict::later_verdict` meets its contract: the blocks of the cells, then those of the parents.
use Rattle.std.proofs.Common.{rules}
use Rattle.files_spec.proofs.ReadLaws.{later-tables}
use Rattle.field_file.proofs.verdict.later_verdict.Goals as goal

pub returns-in_err-check_table : goal.returns-in_err-check_table
returns-in_err-check_table c = rw (later-tables c.args.file.now) (search rules)

pub returns : goal.returns
returns c = rw (later-tables c.args.file.now) (search rules)
