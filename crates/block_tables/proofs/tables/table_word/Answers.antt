-- `block_tables::tables::table_word` meets its contract: the word lies in the payload of its block.
use Rattle.block_tables.specs.Tables.{table_word}
use Rattle.block_tables.proofs.tables.table_word.Goals as goal

pub returns : goal.returns
unfolding table_word
returns c = c.payload_word.ensures
