-- `field_reader::work::read_lists` meets its contract: seven lists, each read by the sizes of block 1, for which it has room.
use Rattle.qlt_spec.specs.Field.{lists}
use Rattle.field_reader.proofs.Laws.{lists-are}
use Rattle.field_reader.proofs.work.read_lists.Goals as goal

pub returns : goal.returns
returns c =
    lists-are c.args.file.now (lists c.args.targets.now c.args.lows.now c.args.highs.now c.args.safe_lows.now c.args.safe_highs.now c.args.weights.now c.args.parents.now) c.payload_word-n.ensures c.payload_word-m.ensures c.table_blocks.ensures
    c.read_column.ensures
    c.read_column-2.ensures
    c.read_column-3.ensures
    c.read_column-4.ensures
    c.read_column-5.ensures
    c.read_column-6.ensures
    c.read_column-7.ensures
