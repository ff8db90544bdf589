-- `solve::descend::descend` meets its contract: linking leaves what the masses go by (`planned-same`), and `DescendState` holds from turn to turn
-- (`down-start`, `down_turn`); at k all inner nodes from there on are split (`down_to`). What is
-- shared out stays below 2 ^ 42 (`shared-small`, `deficit-small`).
use mathlib.Core.Path.{◌∙◌, ap}
use native.Mathlib.Omega.{arith}
use lib.IntN.{nat_abs}
use Rattle.scratch_spec.proofs.NodeLaws.{deficit-small, deficit-read}
use Rattle.solve_spec.proofs.DescentLaws.{valid-one, planned-same, down-start, down-splitting, shared-small, down_turn, down_to}
use Rattle.solve.proofs.descend.descend.Goals as goal

pub link-requires : goal.link-requires
link-requires c =
    let p = c.requires in
    let d = p.by_index.1.1 in
    record { valid = valid-one d.plan.valid; m_in_bounds = p.k_le_m.1; m_in_bounds_2 = d.plan.size; by_index = d.heads; m_bound = d.plan.few }

pub loop-v-init : goal.loop-v-init
loop-v-init c = record { state = down-start (planned-same c.requires.by_index.1.1.plan c.link.ensures.same_data) c.link.ensures.linked; from = c.requires.k_le_m.0 }

pub split_group-d-requires : goal.split_group-d-requires
split_group-d-requires c = down-splitting (planned-same c.requires.by_index.1.1.plan c.link.ensures.same_data) c.link.ensures.linked c.loop-v.invariant.state (omega (arith, c.requires.by_index.1.0))

pub overflow_add-shared : goal.overflow_add-shared
overflow_add-shared c =
    let ready = down-splitting (planned-same c.requires.by_index.1.1.plan c.link.ensures.same_data) c.link.ensures.linked c.loop-v.invariant.state (omega (arith, c.requires.by_index.1.0)) in
    record {
      fits =
          omega (
            arith,
            shared-small (planned-same c.requires.by_index.1.1.plan c.link.ensures.same_data) c.link.ensures.linked c.loop-v.invariant.state (omega (arith, c.requires.by_index.1.0)),
            c.unsigned_abs-shared.ensures.value ∙ ap nat_abs (deficit-read ready c.split_group-d.ensures.value),
            deficit-small ready,
          );
    }

pub loop-v-preserved : goal.loop-v-preserved
loop-v-preserved c =
    let same = planned-same c.requires.by_index.1.1.plan c.link.ensures.same_data in
    let ready = down-splitting same c.link.ensures.linked c.loop-v.invariant.state (omega (arith, c.requires.by_index.1.0)) in
    record {
      state =
          down_turn same c.link.ensures.linked c.loop-v.invariant.state (omega (arith, c.requires.by_index.1.0)) c.split_group-d.ensures.split_done
          (c.unsigned_abs-shared.ensures.value ∙ ap nat_abs (deficit-read ready c.split_group-d.ensures.value));
      from = omega arith;
    }

pub shape_of-s : goal.shape_of-s
shape_of-s c = c.loop-v.invariant.state.kept.long ∙ c.link.ensures.same_data.long

pub returns : goal.returns
returns c = down_to c.link.ensures.same_data c.link.ensures.linked c.loop-v.invariant.state (omega arith)
