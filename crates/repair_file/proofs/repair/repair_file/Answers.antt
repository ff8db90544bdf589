-- `repair_file::repair::repair_file` meets its contract: a file that reading refuses is refused with the same number and place, and the fronts
-- of the lists that were read are the file's field.
use mathlib.Core.Path.{◌≡◌, ◌∙◌}
use native.Mathlib.Omega.{arith}
use lib.ListN.{length}
use Rattle.std.proofs.lemmas.Result.{err_from_is_err_and}
use Rattle.qlt_spec.specs.Field.{Lists, lists}
use Rattle.files_spec.proofs.ReadLaws.{read_done}
use Rattle.repair_file.proofs.FileLaws.{Roomy, file-unread, file-read}
use Rattle.repair_file.proofs.repair.repair_file.Goals as goal

roomy :
    {s : Lists} → (length s.targets ≡ 512) × (length s.lows ≡ 512) × (length s.highs ≡ 512) × (length s.safe_lows ≡ 512)
    → length s.safe_highs ≡ 512 → length s.weights ≡ 512 → length s.parents ≡ 1024 → Roomy s
roomy h a b c =
    record {
      targets = h.0;
      lows = h.1;
      highs = h.2;
      safe_lows = h.3;
      safe_highs = a;
      weights = b;
      parents = c;
    }

pub repair_lists-requires : goal.repair_lists-requires
repair_lists-requires c =
    let p = c.requires.targets_len in
    let q = c.requires.safe_highs_len in
    let k = c.read_field.auto in
    let f = read_done c.in_ok-sizes.ensures in
    record {
      cells_bound = (omega (arith, f.1.0, f.0.head.few), omega (arith, f.1.1.0, f.0.head.nodes_few), k.targets ∙ p.0, k.lows ∙ p.1, k.highs ∙ p.2, k.safe_lows ∙ p.3);
      safe_highs_len = (k.safe_highs ∙ q.0, k.weights ∙ q.1, k.parents ∙ q.2, q.3);
    }

pub returns-in_err-sizes : goal.returns-in_err-sizes
returns-in_err-sizes c =
    let a = c.args in
    let q = c.requires.safe_highs_len in
    let s = lists a.targets.now a.lows.now a.highs.now a.safe_lows.now a.safe_highs.now a.weights.now a.parents.now in
    let r = err_from_is_err_and c.from_residual.result c.from_residual.ensures.1 in
    rw (r.1, r.2) (file-unread a.file.now s (roomy c.requires.targets_len q.0 q.1 q.2) a.masses.now a.scratch.now c.in_err-sizes.ensures)

pub returns : goal.returns
returns c =
    let a = c.args in
    let q = c.requires.safe_highs_len in
    let s = lists a.targets.now a.lows.now a.highs.now a.safe_lows.now a.safe_highs.now a.weights.now a.parents.now in
    file-read a.file.now s (roomy c.requires.targets_len q.0 q.1 q.2) c.in_ok-sizes.ensures a.masses.now a.scratch.now q.3 q.4 _ _ _ c.repair_lists.ensures
