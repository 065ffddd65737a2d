use Rattle.std.proofs.Common.{◌≡◌, ◌⊎◌, false, inl, inr, length, ap, sym, ◌∙◌, subst, arith}
use Rattle.std.proofs.lemmas.Bool.{false≢true}
use Rattle.std.proofs.lemmas.List.{nil_from_length}
use Rattle.std.specs.List.{AllByRecursion}
use Rattle.std.specs.Vec.Iter.{into_iter_items}
use Rattle.tw_threads.proofs.Joins.{AreJoined, all_joined, one_joined}
use Rattle.tw_threads.specs.Started.{MaySit, was_refused}
use Rattle.tw_threads.proofs.join.join_all.Goals as goal

-- of what is known of one further, only how it left
halted_too : {A B C : Type 0} → A ⊎ (B × C) → A ⊎ B
halted_too (inl a) = inl a
halted_too (inr both) = inr both.0

pub loop-one-preserved : goal.loop-one-preserved
loop-one-preserved g c =
    let was = c.loop-one.invariant in
    let step = c.in-Some.ensures.steps in
    let of = g.W.Work.share in
    let to = g.W.Work.stop in
    let t = c.args.table.now in
    let aside = subst (AllByRecursion (MaySit of to t)) step.0 was.aside in
    let worker = c.push_reserved.ensures in
    let seat = c.push_reserved-in-loop-one.ensures in
    record {
      aside = aside.1;
      joined = λ before each. one_joined of to t before c.in-Some.one (into_iter_items c.next.new.self) c.loop-one.workers.items c.push_reserved.new.self.items
          c.loop-one.seats.items c.push_reserved-in-loop-one.new.self.items c.loop-one.cause c.join-left.result.worker c.join-left.result.seat c.join-left.result.why c.worse-cause.result
          (subst (λ rest. AreJoined of to t before rest c.loop-one.workers.items c.loop-one.seats.items c.loop-one.cause) step.0 (was.joined before each))
          worker.items seat.items (λ s is. c.join-left.ensures s is) c.worse-cause.ensures.full (λ e. halted_too (c.worse-cause.ensures.refused e)) c.worse-cause.ensures.lower;
      told = λ none.
          let old = was.told none in
          let rest = subst (AllByRecursion (λ one. was_refused one ≡ false)) step.0 old.0 in (
            rest.1,
            λ e. elim (c.worse-cause.ensures.refused e) [
              | inl known ↦ old.1 known
              | inr this ↦ false≢true (sym rest.0 ∙ (sym c.was_refused-no_thread.ensures ∙ this.1))
            ],
          );
      workers = omega (arith, was.workers, step.1, worker.len, worker.capacity);
      seats = omega (arith, was.seats, step.1, seat.len, seat.capacity);
      rest = (let long = ap length step.0 in omega (arith, was.rest, step.1, long));
    }

pub join-left-requires : goal.join-left-requires
join-left-requires g c =
    (subst (AllByRecursion (MaySit g.W.Work.share g.W.Work.stop c.args.table.now)) c.in-Some.ensures.steps.0 c.loop-one.invariant.aside).0

pub returns-clause-thread : goal.returns-clause-thread
returns-clause-thread g c = λ none. (c.loop-one.invariant.told none).1

pub returns-clause-left : goal.returns-clause-left
returns-clause-left g c = λ before each.
    let was = c.loop-one.invariant in
    let of = g.W.Work.share in
    let to = g.W.Work.stop in
    let t = c.args.table.now in
    let none = nil_from_length (into_iter_items c.loop-one.one-iterator) (was.rest ∙ c.in-None.ensures.steps.0) in
    all_joined of to t before c.loop-one.workers.items c.loop-one.seats.items c.loop-one.cause
    (subst (λ rest. AreJoined of to t before rest c.loop-one.workers.items c.loop-one.seats.items c.loop-one.cause) none (was.joined before each))
