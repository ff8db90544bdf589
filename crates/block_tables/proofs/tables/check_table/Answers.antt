-- `block_tables::tables::check_table` meets its contract: the verdict is that of the blocks from b on.
use Rattle.std.proofs.Common.{rules, Err}
use mathlib.Core.Path.{◌≡◌, sym, ap, ◌∙◌}
use mathlib.Core.List.{List}
use Prim.Native.Nat.{ℕ, ◌-◌}
use native.Mathlib.Omega.{arith}
use Rattle.numbers.specs.Checks.{Checked, each_from}
use Rattle.numbers.proofs.CheckLaws.{each_on, each-here, each_none}
use Rattle.blocks.specs.Blocks.{check_block}
use Rattle.block_tables.specs.declared.tables.Table.{Table}
use Rattle.block_tables.specs.Tables.{table_used, check_table}
use Rattle.block_tables.proofs.TableLaws.{used-same}
use Rattle.block_tables.proofs.tables.check_table.Goals as goal

-- the check of each block
abbrev check : List ℕ → Table → ℕ → ℕ → ℕ → Checked
check file table from n = check_block file (λ i. table_used table n (i - from))

pub loop-b-init : goal.loop-b-init
unfolding check_table
loop-b-init c =
    let a = c.args in
    ap (each_from (check a.file.now a.table a.from a.n) a.from) (omega arith)

pub returns-in_err-check_block : goal.returns-in_err-check_block
returns-in_err-check_block c =
    let a = c.args in
    let l = c.loop-b in
    let r : c.from_residual.result ≡ Err c.in_err-check_block.field-0.0 = search rules in
    let e = sym (c.check_block.ensures ∙ used-same _ (λ i. _) (λ i. table_used a.table a.n (i - a.from)) _ c.table_used.ensures.0) ∙ c.in_err-check_block.was in
    r ∙ sym (l.invariant ∙ each-here (check a.file.now a.table a.from a.n) l.b _ (omega arith) e)

pub loop-b-preserved : goal.loop-b-preserved
loop-b-preserved c =
    let a = c.args in
    let l = c.loop-b in
    let e = sym (c.check_block.ensures ∙ used-same _ (λ i. _) (λ i. table_used a.table a.n (i - a.from)) _ c.table_used.ensures.0) ∙ c.in_ok-check_block.was in
    l.invariant ∙ each_on (check a.file.now a.table a.from a.n) l.b _ (omega arith) e

pub returns : goal.returns
returns c =
    let a = c.args in
    let l = c.loop-b in
    sym (l.invariant ∙ each_none (check a.file.now a.table a.from a.n) l.b _ (omega arith))
