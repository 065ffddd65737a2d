use Rattle.std.proofs.Common.{rules, ◌∙◌, ap, ap₂, fold, max, set, sym}
use Rattle.tw_model.specs.Effect.{with_row}
use Rattle.tw_model.specs.State.{Router as ARouter}
use Rattle.tw_router.specs.Ranks.{rank}
use Rattle.tw_router.proofs.Greatest.{written_back}
use Rattle.tw_router.proofs.Places.{take-written}
use Rattle.tw_router.proofs.Ranking.{ranks_set}
use Rattle.tw_router.proofs.router.Router.set_row.Goals as goal

pub invariant_of-self : goal.invariant_of-self
invariant_of-self c =
    let a = c.self.inside in
    record {
      valid = search rules;
      few = c.self.invariant.few;
      ranks = take-written a.ranks.len c.refresh_slot.new.ranks a.ranks.items (sym (c.refresh_slot.auto.ranks ∙ c.deref_mut.ensures.len))
          ∙ (c.refresh_slot.ensures
          ∙ (ap (λ ranks. set ranks c.args.slot (rank c.args.instance.now a.node c.deref.result.now c.deref-2.result.now c.args.row)) c.deref_mut.ensures.value
          ∙ ranks_set (record { net = a.instance.now; node = a.node; state = record { rib = a.rib; rows = a.rows.items; order = a.order.items; barred = a.barred.items; counters = a.counters } })
          a.ranks.items c.args.slot c.args.row _ c.self.invariant.ranks
          (ap (λ net. rank net a.node c.deref.result.now c.deref-2.result.now c.args.row) (c.requires.own ∙ ap (λ (x : ARouter). x.net) (sym c.self.view_is))
          ∙ ap₂ (λ order barred. rank a.instance.now a.node order barred c.args.row) c.deref.ensures.value c.deref-2.ensures.value)));
      greatest = c.greatest_after-self-inside.ensures ∙ ap (fold max 0) c.deref-3.ensures.value;
      order = c.self.invariant.order;
    }

pub greatest_after-self-inside-requires-clause-greatest : goal.greatest_after-self-inside-requires-clause-greatest
greatest_after-self-inside-requires-clause-greatest c =
    let a = c.self.inside in
    let new = rank c.args.instance.now a.node c.deref.result.now c.deref-2.result.now c.args.row in
    let written = c.deref-3.ensures.value
    ∙ (take-written a.ranks.len c.refresh_slot.new.ranks a.ranks.items (sym (c.refresh_slot.auto.ranks ∙ c.deref_mut.ensures.len))
    ∙ (c.refresh_slot.ensures ∙ ap (λ ranks. set ranks c.args.slot new) c.deref_mut.ensures.value)) in
    c.self.invariant.greatest ∙ ap (fold max 0) (sym (ap (λ ranks. set ranks c.args.slot c.index-before.result.now) written ∙ written_back a.ranks.items c.args.slot new c.index-before.result.now c.index-before.ensures))

pub returns : goal.returns
returns c = ap (λ (r : ARouter). record r { state = with_row r.state c.args.slot c.args.row }) c.self.view_is
