use Rattle.std.proofs.Common.{◌∙◌, ap, ap₂, fold, max, set, sym}
use Rattle.tw_model.specs.State.{Router as ARouter, row}
use Rattle.tw_router.specs.Ranks.{rank}
use Rattle.tw_router.proofs.Places.{take-written}
use Rattle.tw_router.proofs.Ranking.{ranks_set_again}
use Rattle.tw_router.proofs.router.Router.refresh_slot.Goals as goal

pub invariant_of-self : goal.invariant_of-self
invariant_of-self c =
    let a = c.self.inside in
    let again = take-written a.ranks.len c.refresh_slot.new.ranks a.ranks.items (sym (c.refresh_slot.auto.ranks ∙ c.deref_mut.ensures.len))
    ∙ (c.refresh_slot.ensures
    ∙ (ap (λ ranks. set ranks c.args.slot (rank c.args.instance.now a.node c.deref.result.now c.deref-2.result.now c.row-row.result)) c.deref_mut.ensures.value
    ∙ ranks_set_again (record { net = a.instance.now; node = a.node; state = record { rib = a.rib; rows = a.rows.items; order = a.order.items; barred = a.barred.items; counters = a.counters } })
    a.ranks.items c.args.slot c.row-row.result _ c.self.invariant.ranks
    (c.row-row.ensures.value ∙ ap (λ (x : ARouter). row x.state c.args.slot) (sym c.self.view_is))
    (ap (λ net. rank net a.node c.deref.result.now c.deref-2.result.now c.row-row.result) (c.requires.own ∙ ap (λ (x : ARouter). x.net) (sym c.self.view_is))
    ∙ ap₂ (λ order barred. rank a.instance.now a.node order barred c.row-row.result) c.deref.ensures.value c.deref-2.ensures.value))) in
    record {
      valid = c.self.invariant.valid;
      few = c.self.invariant.few;
      ranks = again;
      greatest = c.self.invariant.greatest ∙ ap (fold max 0) (c.self.invariant.ranks ∙ sym again);
      order = c.self.invariant.order;
    }

pub returns : goal.returns
returns c = c.self.view_is
