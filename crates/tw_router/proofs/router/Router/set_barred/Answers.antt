use Rattle.std.proofs.Common.{◌≡◌, Bool, false, ap, ap₂, ◌-◌, fold, get_or, map, max, set, subst, sym, ◌∙◌}
use Rattle.std.proofs.lemmas.Bool.{or_parts}
use Rattle.std.proofs.lemmas.List.{length-set}
use Rattle.tw_model.specs.Effect.{with_bar}
use Rattle.tw_model.specs.State.{Router as ARouter}
use Rattle.tw_router.specs.Ranks.{rank}
use Rattle.tw_router.proofs.Opening.{none_barred_then}
use Rattle.tw_router.proofs.Places.{take-written}
use Rattle.tw_router.proofs.router.Router.set_barred.Goals as goal

pub invariant_of-self : goal.invariant_of-self
invariant_of-self c =
    let a = c.self.inside in
    let s = c.self.invariant.valid.state in
    record {
      valid = record {
        net = c.self.invariant.valid.net;
        node = c.self.invariant.valid.node;
        state = record {
          rib = s.rib;
          hops = s.hops;
          heard = s.heard;
          sessions = s.sessions;
          places = s.places;
          order = s.order;
          distinct = s.distinct;
          barred = length-set a.barred.items (c.args.line - 1) c.args.barred ∙ s.barred;
          counters = s.counters;
        };
      };
      few = c.self.invariant.few;
      ranks = take-written a.ranks.len c.refresh.new.ranks a.ranks.items (sym (c.refresh.auto.ranks ∙ c.deref_mut.ensures.len))
          ∙ (c.refresh.ensures
          ∙ (ap (λ net. map (rank net a.node c.deref.result.now c.deref-2.result.now) c.deref-3.result.now) (c.requires.own ∙ ap (λ (x : ARouter). x.net) (sym c.self.view_is))
          ∙ (ap₂ (λ order barred. map (rank a.instance.now a.node order barred) c.deref-3.result.now) c.deref.ensures.value c.deref-2.ensures.value
          ∙ ap (map (rank a.instance.now a.node a.order.items _)) c.deref-3.ensures.value)));
      greatest = c.best_rank-self-inside.ensures.value ∙ ap (fold max 0) c.deref-4.ensures.value;
      order = λ h.
          let calm = or_parts a.altered c.args.barred h in
          let kept = c.self.invariant.order calm.0 in (
            kept.0,
            λ k. subst (λ (b : Bool). get_or (set a.barred.items (c.args.line - 1) b) k false ≡ false) (sym calm.1)
                (none_barred_then a.barred.items (c.args.line - 1) k kept.1),
          );
    }

pub returns : goal.returns
returns c = ap (λ (r : ARouter). record r { state = with_bar r.state c.args.line c.args.barred }) c.self.view_is
