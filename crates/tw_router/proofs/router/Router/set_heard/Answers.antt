use Rattle.std.proofs.Common.{◌≡◌, rules, ◌∙◌, ap, ap₂, fold, length, max, set, sym, arith}
use Rattle.std.proofs.lemmas.List.{get_or_default}
use Rattle.tw_model.specs.declared.state.Row.{Row}
use Rattle.tw_model.specs.Effect.{with_row}
use Rattle.tw_model.specs.State.{Router as ARouter, State, no_row, row}
use Rattle.tw_router.specs.Ranks.{rank}
use Rattle.tw_router.proofs.Greatest.{written_back}
use Rattle.tw_router.proofs.Places.{take-written}
use Rattle.tw_router.proofs.Ranking.{ranks_set}
use Rattle.tw_router.proofs.router.Router.set_heard.Goals as goal

pub invariant_of-self : goal.invariant_of-self
invariant_of-self c =
    let a = c.self.inside in
    let told = λ (x : Row). record x { heard = c.args.path } in
    let at = c.index_mut.result.now in
    let here : c.row.result ≡ row (record { rib = a.rib; rows = a.rows.items; order = a.order.items; barred = a.barred.items; counters = a.counters }) c.args.slot
    = c.row.ensures.value ∙ ap (λ (x : ARouter). row x.state c.args.slot) (sym c.self.view_is) in
    let long = ap (λ (x : ARouter). length x.state.rows) c.self.view_is in
    let same : c.row.result ≡ at = here ∙ (get_or_default a.rows.items c.args.slot no_row at (omega (arith, long, c.requires.slot)) ∙ sym c.index_mut.ensures.value) in
    record {
      valid = search rules;
      few = c.self.invariant.few;
      ranks = take-written a.ranks.len c.refresh_slot.new.ranks a.ranks.items (sym (c.refresh_slot.auto.ranks ∙ c.deref_mut.ensures.len))
          ∙ (c.refresh_slot.ensures
          ∙ (ap (λ ranks. set ranks c.args.slot (rank c.args.instance.now a.node c.deref.result.now c.deref-2.result.now (told c.row.result))) c.deref_mut.ensures.value
          ∙ ranks_set (record { net = a.instance.now; node = a.node; state = record { rib = a.rib; rows = a.rows.items; order = a.order.items; barred = a.barred.items; counters = a.counters } })
          a.ranks.items c.args.slot (told at) _ c.self.invariant.ranks
          (ap (λ net. rank net a.node c.deref.result.now c.deref-2.result.now (told c.row.result)) (c.requires.own ∙ ap (λ (x : ARouter). x.net) (sym c.self.view_is))
          ∙ (ap₂ (λ order barred. rank a.instance.now a.node order barred (told c.row.result)) c.deref.ensures.value c.deref-2.ensures.value
          ∙ ap (λ x. rank a.instance.now a.node a.order.items a.barred.items (told x)) same))));
      greatest = c.greatest_after-self-inside.ensures ∙ ap (fold max 0) c.deref-3.ensures.value;
      order = c.self.invariant.order;
    }

pub greatest_after-self-inside-requires-clause-greatest : goal.greatest_after-self-inside-requires-clause-greatest
greatest_after-self-inside-requires-clause-greatest c =
    let a = c.self.inside in
    let told = λ (x : Row). record x { heard = c.args.path } in
    let new = rank c.args.instance.now a.node c.deref.result.now c.deref-2.result.now (told c.row.result) in
    let written = c.deref-3.ensures.value
    ∙ (take-written a.ranks.len c.refresh_slot.new.ranks a.ranks.items (sym (c.refresh_slot.auto.ranks ∙ c.deref_mut.ensures.len))
    ∙ (c.refresh_slot.ensures ∙ ap (λ ranks. set ranks c.args.slot new) c.deref_mut.ensures.value)) in
    c.self.invariant.greatest ∙ ap (fold max 0) (sym (ap (λ ranks. set ranks c.args.slot c.index-before.result.now) written ∙ written_back a.ranks.items c.args.slot new c.index-before.result.now c.index-before.ensures))

pub returns : goal.returns
returns c =
    let a = c.self.inside in
    let s : State = record { rib = a.rib; rows = a.rows.items; order = a.order.items; barred = a.barred.items; counters = a.counters } in
    let at = c.index_mut.result.now in
    let long = ap (λ (x : ARouter). length x.state.rows) c.self.view_is in
    let is : at ≡ row s c.args.slot = c.index_mut.ensures.value ∙ sym (get_or_default a.rows.items c.args.slot no_row at (omega (arith, long, c.requires.slot))) in
    ap (λ (x : Row). record { net = a.instance.now; node = a.node; state = with_row s c.args.slot (record x { heard = c.args.path }) }) is
    ∙ ap (λ (r : ARouter). record r { state = with_row r.state c.args.slot (record (row r.state c.args.slot) { heard = c.args.path }) }) c.self.view_is
