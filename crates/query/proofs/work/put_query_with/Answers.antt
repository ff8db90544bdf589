-- `query::work::put_query_with` meets its contract: a file that reading refuses has the line of its refusal (`line-unread`), and the fronts of the lists
-- that were read are the file's field (`line_read`).
use mathlib.Core.Path.{◌≡◌, ◌∙◌}
use native.Mathlib.Omega.{arith}
use lib.ListN.{length}
use Rattle.qlt_spec.specs.Field.{Lists, lists}
use Rattle.files_spec.proofs.ReadLaws.{read_done}
use Rattle.repair_file.proofs.FileLaws.{Roomy}
use Rattle.query.proofs.LineLaws.{line-unread, line_read}
use Rattle.query.proofs.work.put_query_with.Goals as goal

roomy :
    {s : Lists} → length s.targets ≡ 512 → length s.lows ≡ 512 → length s.highs ≡ 512 → length s.safe_lows ≡ 512
    → length s.safe_highs ≡ 512 → length s.weights ≡ 512 → length s.parents ≡ 1024 → Roomy s
roomy a b c d e f g =
    record {
      targets = a;
      lows = b;
      highs = c;
      safe_lows = d;
      safe_highs = e;
      weights = f;
      parents = g;
    }

pub put_cell-requires : goal.put_cell-requires
put_cell-requires c =
    let p = c.requires.in_bounds in
    let q = c.requires.safe_highs_len in
    let k = c.read_field-read.auto in
    let f = read_done c.in-Ok.ensures in
    record {
      cells_bound = (omega (arith, f.1.0, f.0.head.few), omega (arith, f.1.1.0, f.0.head.nodes_few), p.0, k.targets ∙ p.1, k.lows ∙ p.2, k.highs ∙ p.3, k.safe_lows ∙ p.4);
      safe_highs_len = (k.safe_highs ∙ q.0, k.weights ∙ q.1, k.parents ∙ q.2, q.3);
    }

pub returns-in-Err : goal.returns-in-Err
returns-in-Err c =
    let a = c.args in
    let p = c.requires.in_bounds in
    let q = c.requires.safe_highs_len in
    let s = lists a.targets.now a.lows.now a.highs.now a.safe_lows.now a.safe_highs.now a.weights.now a.parents.now in
    let t = c.put_refusal.ensures in
    (rw (line-unread a.file.now a.cell s (roomy p.1 p.2 p.3 p.4 q.0 q.1 q.2) c.in-Err.ensures) at t.0, omega (arith, t.1))

pub returns-in-Ok : goal.returns-in-Ok
returns-in-Ok c =
    let a = c.args in
    let p = c.requires.in_bounds in
    let q = c.requires.safe_highs_len in
    let s = lists a.targets.now a.lows.now a.highs.now a.safe_lows.now a.safe_highs.now a.weights.now a.parents.now in
    let t = c.put_cell.ensures in (
      rw
          (line_read a.file.now a.cell s (roomy p.1 p.2 p.3 p.4 q.0 q.1 q.2) c.in-Ok.ensures a.masses.now a.scratch.now
          q.3 q.4)
          at t.0,
      t.1,
    )
