-- `block_tables::tables::put_list` meets its contract: the blocks before k stand in the buffer, the rest is as it was.
use mathlib.Core.Path.{refl, ap, ◌∙◌}
use Prim.Native.Nat.{◌+◌, ◌*◌, ◌-◌}
use native.Mathlib.Omega.{arith}
use Rattle.numbers.specs.Lists.{at, written}
use Rattle.blocks.specs.Blocks.{block_bytes}
use Rattle.block_tables.specs.Tables.{list_table, list_block}
use Rattle.block_tables.proofs.TableLaws.{list_fits, table_none, table-next}
use Rattle.block_tables.proofs.tables.put_list.Goals as goal

pub loop-k-init : goal.loop-k-init
loop-k-init c = let a = c.args in (table_none list_table list_fits a.n (λ i j. at a.list.now i) _ a.from, refl)

pub loop-k-preserved : goal.loop-k-preserved
loop-k-preserved c =
    let l = c.loop-k in
    let a = c.args in
    let p = c.put_list_block in (
      p.ensures
          ∙ ap (λ x. written x (512 * (a.from + l.k - 1)) (block_bytes (a.from + l.k) (list_block a.n a.list.now l.k))) l.invariant.0
          ∙ table-next list_table list_fits a.n (λ i j. at a.list.now i) a.buffer.now a.from l.k _ refl c.requires.0 (omega (arith, c.requires)),
      p.auto.buffer ∙ l.invariant.1,
    )
