-- `text::pieces::put_bytes` meets its contract: the word is copied over the part from `at` on that has its length.
use Rattle.text.proofs.TextLaws.{copied}
use Rattle.text.proofs.pieces.put_bytes.Goals as goal

pub returns : goal.returns
returns c = copied c.args.out.now c.args.word.now c.copy_from_slice.new.self c.args.at c.requires c.copy_from_slice.ensures.after
