use Rattle.std.proofs.Common.{◌≡◌, ◌<◌, length, remove, set, slice_get, ap, ◌∙◌, arith}
use Rattle.std.specs.List.{prefix_len}
use Rattle.tw_pending.specs.Order.{is_other}
use Rattle.tw_pending.specs.Ring.{lists_of}
use Rattle.tw_pending.proofs.Days.{day_is, lists_set}
use Rattle.tw_pending.proofs.Removed.{found, missing}
use Rattle.tw_pending.proofs.ring.remove_at.Goals as goal

pub returns-then-at-len-clause-none : goal.returns-then-at-len-clause-none
returns-then-at-len-clause-none g c = λ day there.
    let own = c.index_mut-day.result.now in
    let is = c.as_slice.ensures.value ∙ day_is c.args.days.now.items c.args.place own day c.requires c.index_mut-day.ensures.value there in
    let at = c.place_of-at.ensures.value ∙ ap (prefix_len (is_other g.E.Ord.cmp c.args.event.now)) is in
    let long = ap length is in
    missing g.E.Ord.cmp c.args.event.now day (omega (arith, c.if-at-len.true, c.len.ensures, c.as_slice.ensures.len))

pub returns-clause-yes : goal.returns-clause-yes
returns-clause-yes g c = λ day there.
    let e = c.args.event.now in
    let own = c.index_mut-day.result.now in
    let at = c.place_of-at.result in
    let own_is = day_is c.args.days.now.items c.args.place own day c.requires c.index_mut-day.ensures.value there in
    let is = c.as_slice.ensures.value ∙ own_is in
    let place : at ≡ prefix_len (is_other g.E.Ord.cmp e) day = c.place_of-at.ensures.value ∙ ap (prefix_len (is_other g.E.Ord.cmp e)) is in
    let long = ap length is in
    let within : at < length day = omega (arith, c.if-at-len.false, c.len.ensures, c.as_slice.ensures.len) in (
      at,
      within,
      ap (slice_get day) place ∙ found g.E.Ord.cmp g.met.E.Ord.total g.met.E.Timed.exact e day (omega (arith, place, within)),
      lists_set c.args.days.now.items c.args.place c.remove.new.self
          ∙ ap (set (lists_of c.args.days.now.items) c.args.place) (c.remove.ensures.items ∙ ap (λ xs. remove xs at) own_is),
    )
