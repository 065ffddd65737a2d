use Rattle.std.proofs.Common.{ap, ◌≤◌, ◌∙◌, List, fold, get_or, max, subst, true, false, ◌≡◌, map, length, sym, rules}
use Rattle.std.specs.List.{All}
use Rattle.tw_event.specs.declared.event.PathNo.{PathNo}
use Rattle.tw_model.specs.declared.limits.TheConstants.{MOST_PATHS}
use Rattle.tw_model.specs.Net.{is_own}
use Rattle.tw_model.specs.State.{fresh_row, none_barred}
use Rattle.tw_router.specs.Ranks.{rank}
use Rattle.tw_router.proofs.Greatest.{of_zeros}
use Rattle.tw_router.proofs.Opening.{IsState-opening, none_barred_at}
use Rattle.tw_router.proofs.Ranking.{rank_fresh}
use Rattle.tw_router.proofs.router.Router.open.Goals as goal

pub invariant_of-result : goal.invariant_of-result
invariant_of-result c =
    let order = c.in_ok-from_slice.field-0.items in
    let barred = c.in_ok-unbarred.field-0.items in
    let barred_is : barred ≡ none_barred c.args.instance.now c.args.node =
    c.in_ok-unbarred.ensures ∙ ap (map (λ (q : PathNo). false)) c.permitted-permitted.ensures.value in
    record {
      valid = record {
        net = c.hops-hops.ensures.net;
        node = c.requires.below;
        state = IsState-opening c.args.instance.now c.args.node c.args.counters _ _ _ c.requires.counted
            (c.in_ok-fresh_rows.ensures ∙ ap (map fresh_row) c.hops-hops.ensures.value)
            (c.in_ok-from_slice.ensures.items ∙ c.permitted-permitted.ensures.value)
            barred_is
            (subst (λ (order : List PathNo). All (λ q. is_own c.args.instance.now c.args.node q ≡ true) order) c.permitted-permitted.ensures.value c.permitted-permitted.ensures.own);
      };
      few = subst (λ (order : List PathNo). length order ≤ MOST_PATHS) (sym c.in_ok-from_slice.ensures.items) c.permitted-permitted.ensures.few;
      ranks = c.in_ok-vec.ensures.items_if_clones_equal (search rules)
          ∙ (rank_fresh c.args.instance.now c.args.node order barred c.hops-hops.result.now
          ∙ sym (ap (map (rank c.args.instance.now c.args.node order barred)) c.in_ok-fresh_rows.ensures));
      greatest = of_zeros (length c.hops-hops.result.now) ∙ ap (fold max 0) (sym (c.in_ok-vec.ensures.items_if_clones_equal (search rules)));
      order = λ h. (
        c.in_ok-from_slice.ensures.items ∙ c.permitted-permitted.ensures.value,
        λ k. ap (λ bs. get_or bs k false) barred_is ∙ none_barred_at c.args.instance.now c.args.node k,
      );
    }
