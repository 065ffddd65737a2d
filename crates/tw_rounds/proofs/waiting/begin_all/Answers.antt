use Rattle.std.proofs.Common.{◌≡◌, Some, slice_get, ap, sym, ◌∙◌, subst, inl, inr, arith}
use Rattle.tw_rounds.proofs.Lists.{get_snoc}
use Rattle.tw_rounds.specs.Members.{beginning_of}
use Rattle.tw_rounds.proofs.waiting.begin_all.Goals as goal

pub loop-number-preserved : goal.loop-number-preserved
loop-number-preserved g c =
    let model = c.args.model.now in
    let before = c.loop-number.members.items in
    let count = c.loop-number.invariant.count in
    record {
      count = grind (arith, Rattle.std.proofs.lemmas.Grind.common_steps);
      each = λ i x h. elim (get_snoc before c.in_ok-begin.field-0 i x (subst (λ xs. slice_get xs i ≡ Some x) c.in_ok-push.ensures.items h)) [
        | inl k ↦ c.loop-number.invariant.each i x k
        | inr k ↦ k.1 ∙ (c.in_ok-begin.ensures ∙ ap (beginning_of model) (sym (k.0 ∙ count)))
      ];
    }
