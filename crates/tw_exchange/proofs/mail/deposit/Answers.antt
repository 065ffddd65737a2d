use Rattle.std.proofs.Common.{arith, ◌≡◌, ◌<◌, ◌∙◌, ◌++◌, ◌∷◌, [], length, map, min, get_or, refl, ap, subst, sym}
use Rattle.std.proofs.lemmas.List.{drop_all}
use Rattle.tw_exchange.specs.AnyBoard.{followed, worker_for}
use Rattle.tw_exchange.specs.Owners.{list_of}
use Rattle.tw_exchange.specs.Rows.{items, soonest_of}
use Rattle.tw_exchange.proofs.Followed.{followed_nil, long_row, pushed, soonest_pushed}
use Rattle.tw_exchange.proofs.Homes.{alike, all_home, home_at, home_now}
use Rattle.tw_exchange.proofs.Refusals.{on_err}
use Rattle.tw_exchange.proofs.Rooms.{items_same}
use Rattle.tw_exchange.proofs.mail.deposit.Goals as goal
use Rattle.tw_sim.specs.declared.machine.Signed.{Signed}

pub loop-message-init : goal.loop-message-init
loop-message-init g c = record { mail = refl; soonest = c.requires.soonest }

pub worker_for-worker-requires : goal.worker_for-worker-requires
worker_for-worker-requires g c = subst (λ n. 0 < n) (sym c.loop-message.auto.mail) c.requires.some

-- the worker of the message at hand is one of them
pub bounds-mail-worker : goal.bounds-mail-worker
bounds-mail-worker g c =
    let step = c.loop-message in
    home_now g.E.Timed.parts (list_of c.args.owners.now) (length step.mail) (length c.args.mail.now) c.args.out.now step.message-index c.worker_for-worker.result c.dst.result c.message-item.result
    step.auto.mail c.worker_for-worker.ensures c.dst.ensures c.message-item.is c.requires.home c.loop-message-test.true

pub bounds-soonest-worker : goal.bounds-soonest-worker
bounds-soonest-worker g c =
    let step = c.loop-message in
    long_row g.E.Timed.parts step.soonest step.mail c.worker_for-worker.result step.invariant.soonest
    (home_now g.E.Timed.parts (list_of c.args.owners.now) (length step.mail) (length c.args.mail.now) c.args.out.now step.message-index c.worker_for-worker.result c.dst.result c.message-item.result
    step.auto.mail c.worker_for-worker.ensures c.dst.ensures c.message-item.is c.requires.home c.loop-message-test.true)

pub bounds-soonest-worker-in-loop-message : goal.bounds-soonest-worker-in-loop-message
bounds-soonest-worker-in-loop-message g c =
    let step = c.loop-message in
    long_row g.E.Timed.parts step.soonest step.mail c.worker_for-worker.result step.invariant.soonest
    (home_now g.E.Timed.parts (list_of c.args.owners.now) (length step.mail) (length c.args.mail.now) c.args.out.now step.message-index c.worker_for-worker.result c.dst.result c.message-item.result
    step.auto.mail c.worker_for-worker.ensures c.dst.ensures c.message-item.is c.requires.home c.loop-message-test.true)

pub loop-message-preserved : goal.loop-message-preserved
loop-message-preserved g c =
    let step = c.loop-message in
    let n = length c.args.mail.now in
    let m = length step.mail in
    let owners = list_of c.args.owners.now in
    let who = worker_for owners n in
    let out = c.args.out.now in
    let i = step.message-index in
    let o = c.worker_for-worker.result in
    let row = c.push.new.self in
    let old = c.index-mail-worker.result in
    let same : m ≡ n = step.auto.mail in
    let d = c.message-item.result in
    let whose = c.worker_for-worker.ensures ∙ (ap (worker_for owners m) c.dst.ensures ∙ ap (λ (x : Signed g.row.E.Denot). worker_for owners m (g.E.Timed.parts.dst x.event)) c.message-item.is) in
    let least = c.min.ensures ∙ (ap (min (get_or step.soonest o 0)) c.time.ensures ∙ ap (λ (x : Signed g.row.E.Denot). min (get_or step.soonest o 0) (g.E.Timed.parts.time x.event)) c.message-item.is) in
    let more = c.loop-message-test.true in
    let inside : o < n = home_at g.E.Timed.parts who n out i o d (alike g.E.Timed.parts owners m n out i o d same whose) (all_home g.E.Timed.parts owners n out c.requires.home) more in
    let below : o < m = omega arith in
    let put = c.in_ok-push.ensures.items ∙ ap (λ (x : Signed g.row.E.Denot). (get_or step.mail o old).items ++ x ∷ []) c.message-item.is in
    record {
      mail = pushed g.E.Timed.parts who step.mail out i o d row old (alike g.E.Timed.parts owners m n out i o d same whose) more below put ∙ step.invariant.mail;
      soonest = soonest_pushed g.E.Timed.parts step.soonest step.mail o c.min.result (get_or out i d) row old step.invariant.soonest below put least;
    }

pub returns-clause-ok : goal.returns-clause-ok
returns-clause-ok g c =
    let whose = worker_for (list_of c.args.owners.now) (length c.args.mail.now) in
    sym (followed_nil g.E.Timed.parts whose 0 (items c.loop-message.mail))
    ∙ (ap (λ xs. followed g.E.Timed.parts whose 0 xs (items c.loop-message.mail)) (sym (drop_all c.loop-message.message-index c.args.out.now c.loop-message-test.false)) ∙ c.loop-message.invariant.mail)

pub returns-in_err-push-clause-soonest : goal.returns-in_err-push-clause-soonest
returns-in_err-push-clause-soonest g c =
    c.loop-message.invariant.soonest
    ∙ ap (map (soonest_of g.E.Timed.parts)) (sym (items_same c.loop-message.mail c.worker_for-worker.result c.push.new.self c.index-mail-worker.result c.in_err-push.ensures.items))

pub returns-clause-soonest : goal.returns-clause-soonest
returns-clause-soonest g c = c.loop-message.invariant.soonest

pub returns-in_err-push-clause-wanted : goal.returns-in_err-push-clause-wanted
returns-in_err-push-clause-wanted g c = let more = c.loop-message-test.true in on_err (0 < length c.args.out.now) c.from_residual.result (omega arith)
