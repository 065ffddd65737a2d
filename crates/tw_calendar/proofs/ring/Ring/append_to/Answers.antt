use Rattle.std.proofs.Common.{◌++◌, ap, ◌∙◌, arith}
use Rattle.tw_event.specs.Order.{event_before, event_same}
use Rattle.tw_sim.specs.Ordered.{times}
use Rattle.tw_ordered.specs.Buckets.{together}
use Rattle.tw_calendar.specs.Ring.{hand_of}
use Rattle.tw_ordered.proofs.Events.{event_law}
use Rattle.tw_ordered.proofs.Lists.{times-append}
use Rattle.tw_ordered.proofs.Ordered.{times-in_order}
use Rattle.tw_calendar.proofs.ring.Ring.append_to.Goals as goal

pub returns : goal.returns
returns c = record {
  ok = λ e.
      let inside = c.self.inside in
      let hand = hand_of inside in
      let all = together inside.buckets.items in
      let a = ap (times event_same e) (c.in_ok-append_all.ensures ∙ ap (λ lists. c.append_from.new.events.items ++ together lists) c.deref-2.ensures.value) in
      let b = times-append e c.append_from.new.events.items all in
      let j = ap (times event_same e) (c.in_ok-append_from.ensures ∙ ap (λ xs. xs ++ hand) c.reserve.ensures.items) in
      let g = times-append e c.args.events.now.items hand in
      let i = times-append e hand all in
      let d = times-in_order event_before event_same event_law e (hand ++ all) in
      let f = ap (times event_same e) c.self.view_is in
      omega arith;
}
