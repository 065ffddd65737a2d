use Rattle.std.proofs.Common.{◌≡◌, ◌∙◌, ap, sym, List, length, ◌+◌, replicate, false, ℕ, rules}
use Rattle.std.proofs.lemmas.Result.{IfOk-weaker}
use Rattle.tw_event.specs.declared.event.PathNo.{PathNo}
use Rattle.tw_instance.specs.Tables.{row}
use Rattle.tw_model.specs.State.{State}
use Rattle.tw_policy.specs.Left.{round_left}
use Rattle.tw_elimination.specs.Marks.{all_marked, picked}
use Rattle.tw_elimination.proofs.Rounds.{round_is, take_written}
use Rattle.tw_elimination.proofs.remaining.remaining_at.Goals as goal

pub returns : goal.returns
returns c =
    let r = c.args.router.now in
    let left = row c.args.left.now in
    let begin = c.in_ok-given.ensures.items_if_clones_equal (search rules) in
    let begins : c.in_ok-given.given.items ≡ replicate (length r.state.order + 1) false = begin ∙ ap (λ (xs : List PathNo). replicate (length xs + 1) false) c.order.ensures.value in
    let orders = c.order-2.ensures.value in
    let given : c.deref.result.now ≡ all_marked r left c.in_ok-given.given.items = c.deref.ensures.value
    ∙ (take_written c.in_ok-given.given.len c.mark_all-reach.new.given c.in_ok-given.given.items (sym (c.mark_all-reach.auto.given ∙ c.deref_mut.ensures.len))
    ∙ (c.mark_all-reach.ensures.given ∙ ap (all_marked r left) c.deref_mut.ensures.value)) in
    record {
      value = IfOk-weaker c.pick.result (λ next. next.items ≡ picked c.order-2.result.now c.deref.result.now c.mark_all-reach.result)
          (λ next. (states : ℕ → State) → states r.node ≡ r.state → next.items ≡ round_left r.net states left r.node)
          (λ next e states at. round_is r c.node.ensures.net c.node.ensures.state left c.order-2.result.now c.deref.result.now c.in_ok-given.given.items c.mark_all-reach.result next.items
          (λ z. c.if-node-eq0.false (c.node.ensures.value ∙ z)) orders begins given c.mark_all-reach.ensures.reach e states at) c.pick.ensures;
    }
