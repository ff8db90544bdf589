-- `family_calls::list::put_member` meets its contract: two stores in a row are one written part.
use native.Mathlib.Numerals.{add-one}
use Rattle.numbers.proofs.PartLaws.{sets-written}
use Rattle.family_calls.specs.List.{member_words}
use Rattle.family_calls.proofs.list.put_member.Goals as goal

pub returns : goal.returns
returns c = rw (c.entry.ensures, c.from.ensures, add-one) (sets-written (member_words c.args.m) c.args.list.now c.args.at c.requires.1)
