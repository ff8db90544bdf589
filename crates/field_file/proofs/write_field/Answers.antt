-- `field_file::write_field` meets its contract: a call that passes has room.
use Rattle.qlt_spec.specs.Field.{lists_of}
use Rattle.files_spec.specs.WriteField.{field_write_call}
use Rattle.field_file.proofs.Laws.{write-fits}
use Rattle.field_file.proofs.write_field.Goals as goal

pub put_field-requires : goal.put_field-requires
put_field-requires c =
    let a = c.args in
    let f = write-fits (field_write_call a.cells a.nodes a.total (lists_of a.field.now) a.buffer.now) (c.in_ok-write_verdict.ensures a.total) in
    (f.few, f.nodes_few, f.space, f.room)

pub file_length-requires : goal.file_length-requires
file_length-requires c =
    let a = c.args in
    let f = write-fits (field_write_call a.cells a.nodes a.total (lists_of a.field.now) a.buffer.now) (c.in_ok-write_verdict.ensures a.total) in
    (f.few, f.nodes_few)
