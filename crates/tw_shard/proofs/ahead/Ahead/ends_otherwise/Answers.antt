use Rattle.std.proofs.Common.{◌≡◌, ◌-◌, ap, arith, false, length, not, sym, ◌∙◌, subst, true}
use Rattle.std.proofs.lemmas.Bool.{OnTrue_from}
use Rattle.tw_event.specs.Order.{event_same}
use Rattle.tw_shard.specs.Ahead.{EndsOtherwise}
use Rattle.tw_shard.proofs.Rings.{other_event, other_number, some_at, some_there}
use Rattle.tw_shard.proofs.ahead.Ahead.ends_otherwise.Goals as goal
use Rattle.tw_shard.proofs.ahead.Ahead.ends_otherwise.Goals.{then-self-event, else-self-event}

pub returns-then-told : goal.returns-then-told
returns-then-told c = OnTrue_from _ _ (λ some.
    let a = c.self.inside in
    let e = c.args.event.now in
    let steps = a.steps.items in
    let count = some_there (length steps) (subst (λ b. not b ≡ true) c.is_empty.ensures some) in
    let newest = some_at steps (length steps - 1) (omega arith) in
    let noted = c.self.invariant newest.0 newest.1 in
    let other : event_same e newest.0.event ≡ false = elim c.if-self-event.branch [
      | then-self-event w ↦ other_event e newest.0.event (λ same. w.if-self-event.true (sym noted.0 ∙ sym (ap (λ x. x.time) same)))
      | else-self-event w ↦ other_event e newest.0.event (λ same.
          other_number a.newest_seq e.seq (sym w.told-is ∙ c.if-told.true) (sym noted.1 ∙ sym (ap (λ x. x.seq) same)))
    ] in
    subst (EndsOtherwise e) c.self.view_is (newest.0, newest.1, other))
