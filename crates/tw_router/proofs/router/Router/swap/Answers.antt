use Rattle.std.proofs.Common.{◌≡◌, ◌≢◌, ◌-◌, ap, ap₂, sym, ◌∙◌, ◌≤◌, ℕ, arith, fold, length, map, max, subst, List}
use Rattle.std.proofs.lemmas.Grind.{elements}
use Rattle.std.proofs.lemmas.List.Edits.{length-swap}
use Rattle.std.specs.List.{AllPairs}
use Rattle.tw_event.specs.declared.event.PathNo.{PathNo}
use Rattle.tw_model.proofs.Paths.{distinct-swap}
use Rattle.tw_model.specs.declared.limits.TheConstants.{MOST_PATHS}
use Rattle.tw_model.specs.Effect.{with_swap}
use Rattle.tw_model.specs.State.{Router as ARouter}
use Rattle.tw_router.specs.Ranks.{rank}
use Rattle.tw_router.proofs.Places.{take-written}
use Rattle.tw_router.proofs.router.Router.swap.Goals as goal

pub invariant_of-self : goal.invariant_of-self
invariant_of-self c =
    let s = c.self.invariant.valid.state in
    let long : length c.self.inside.order.items ≡ length c.args.self.now.state.order = ap (λ (x : ARouter). length x.state.order) c.self.view_is in
    let same_length = ap (λ (order : List PathNo). length order) c.swap.ensures.items ∙ length-swap c.self.inside.order.items _ _ in
    record {
      valid = record {
        net = c.self.invariant.valid.net;
        node = c.self.invariant.valid.node;
        state = record {
          rib = s.rib;
          hops = s.hops;
          heard = s.heard;
          sessions = s.sessions;
          places = same_length ∙ s.places;
          order = grind (arith, elements, s.order);
          distinct = subst (AllPairs (λ (p q : PathNo). p ≢ q)) (sym c.swap.ensures.items)
              (distinct-swap c.self.inside.order.items (c.args.first - 1) (c.args.second - 1) (omega arith) (omega arith) s.distinct);
          barred = s.barred;
          counters = s.counters;
        };
      };
      few = subst (λ (n : ℕ). n ≤ MOST_PATHS) (sym same_length) c.self.invariant.few;
      ranks = take-written c.self.inside.ranks.len c.refresh.new.ranks c.self.inside.ranks.items (sym (c.refresh.auto.ranks ∙ c.deref_mut.ensures.len))
          ∙ (c.refresh.ensures
          ∙ (ap (λ net. map (rank net c.self.inside.node c.deref.result.now c.deref-2.result.now) c.deref-3.result.now) (c.requires.own ∙ ap (λ (x : ARouter). x.net) (sym c.self.view_is))
          ∙ (ap₂ (λ order barred. map (rank c.self.inside.instance.now c.self.inside.node order barred) c.deref-3.result.now) c.deref.ensures.value c.deref-2.ensures.value
          ∙ ap (map (rank c.self.inside.instance.now c.self.inside.node c.swap.new.self.items c.self.inside.barred.items)) c.deref-3.ensures.value)));
      greatest = c.best_rank-self-inside.ensures.value ∙ ap (fold max 0) c.deref-4.ensures.value;
      order = λ h. cc;
    }

pub returns : goal.returns
returns c =
    let a = c.self.inside in
    let written : List PathNo → ARouter = λ order.
    record { net = a.instance.now; node = a.node; state = record { rib = a.rib; rows = a.rows.items; order = order; barred = a.barred.items; counters = a.counters } } in
    ap written c.swap.ensures.items ∙ ap (λ (r : ARouter). record r { state = with_swap r.state c.args.first c.args.second }) c.self.view_is
