use Rattle.std.proofs.Common.{[], ap, sym, subst}
use Rattle.tw_engine.specs.Past.{IsPast}
use Rattle.tw_process.specs.Behaviour.{simulation_of}
use Rattle.tw_engine.proofs.past.Past.new.Goals as goal

pub invariant_of-result : goal.invariant_of-result
invariant_of-result g c =
    let model = c.args.model.now in
    let m = simulation_of g.M.Event.Timed.parts g.M.Event.Ord.cmp (g.M.ProcessModel.behaviour model) in
    let past = IsPast m (g.M.ProcessModel.behaviour model).latest (g.M.ProcessModel.is_note model) c.args.number in
    let known = g.M.ProcessModel.known c.in_ok-state.state in (
      c.in_ok-state.ensures.state,
      subst (λ xs. past xs known 0 c.new-2.result.items) (sym (ap (λ s. s.past) c.new.ensures))
          (subst (past [] known 0) (sym c.new-2.ensures.items) (record { here = c.requires; known = c.in_ok-state.ensures.known; noted = tt; early = tt })),
      ap (λ s. s.model) c.new.ensures,
      ap (λ s. s.number) c.new.ensures,
    )
