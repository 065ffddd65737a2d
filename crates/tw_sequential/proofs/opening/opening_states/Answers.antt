use Rattle.std.proofs.Common.{◌≡◌, Some, slice_get, sym, ◌∙◌, subst, inl, inr, arith}
use Rattle.tw_sequential.proofs.States.{get_push}
use Rattle.tw_sequential.proofs.opening.opening_states.Goals as goal

pub loop-number-preserved : goal.loop-number-preserved
loop-number-preserved g c =
    let before = c.loop-number.states.items in
    let i = c.loop-number.number in
    let count = c.loop-number.invariant.count in
    record {
      count = grind (arith, Rattle.std.proofs.lemmas.Grind.common_steps);
      each = λ r s h. elim (get_push before c.in_ok-begin.field-0 r s (subst (λ xs. slice_get xs r ≡ Some s) c.in_ok-push.ensures.items h)) [
        | inl k ↦ c.loop-number.invariant.each r s k
        | inr k ↦ (
            let is : r ≡ i = k.0 ∙ count in
            subst (λ q. g.M.ProcessModel.is_state c.args.model.now q s × (g.M.ProcessModel.known s ≡ (g.M.ProcessModel.behaviour c.args.model.now).start q)) (sym is)
            (subst (λ x. g.M.ProcessModel.is_state c.args.model.now i x × (g.M.ProcessModel.known x ≡ (g.M.ProcessModel.behaviour c.args.model.now).start i)) (sym k.1)
            (c.in_ok-begin.ensures.state, c.in_ok-begin.ensures.known)))
      ];
    }
