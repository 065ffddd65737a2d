use Rattle.std.proofs.Common.{rules, length, ◌<◌, ◌≡◌, ◌≤◌, Err, false, max, ap, sym, ◌∙◌, subst, drop}
use Rattle.tw_exchange.specs.Board.{AreDealt, handed, is_early, is_homeless, visited, workers}
use Rattle.tw_table.proofs.Rules.{IsGiven, own_part}
use Rattle.tw_table.specs.Seats.{exchange_of, share_of, taken_by}
use Rattle.tw_table.specs.Shares.{MayBeGiven, Share, board_of, share}
use Rattle.tw_workers.proofs.Places.{drop_none}
use Rattle.tw_workers.proofs.Visits.{IsVisited, for_memory, not_early, not_homeless, report_left, stayed_given, taken_up, visited_whole, work_given}
use Rattle.tw_workers.proofs.meeting.visit.Goals.{After-told}
use Rattle.tw_workers.proofs.meeting.visit.Goals as goal

-- what the worker has after a visit
abbrev after : After-told → Share
after c = share c.raise_bound.new.self (record { mail = c.visit_dealt.new.mail; next = 0; out = c.clear-in-Ok.new.self })

-- it and the exchange after a visit
is_visited : (c : After-told) → IsVisited (taken_by c.args.held.now) (exchange_of c.visit_dealt.new.self) (share_of c.args.held.now) (share c.args.shard.now c.args.hand.now) (after c)
is_visited c =
    let q = share c.args.shard.now c.args.hand.now in
    let z = exchange_of c.args.held.now in
    let w = (share_of c.args.held.now).shard.terms.worker in
    let out = c.args.hand.now.out.items in
    let told = c.in-Ok.ensures in
    let report = c.requires.report in
    let fresh = c.requires.taken.fresh in
    let dealt = taken_up c.args.dealt (AreDealt z.owners (workers z) out c.args.parcels.now) (λ why is. c.in_default.not-Err why is) c.requires.dealt.dealt in
    record {
      board = told.board out dealt ∙ (λ i. visited w out (report i) (fresh i));
      shard = c.raise_bound.ensures ∙ (λ i. record q.shard { bound = max q.shard.bound (told.bound i) });
      mail = drop_none c.visit_dealt.new.mail.items ∙ (told.mail out dealt ∙ (λ i. handed w out (fresh i)));
      unsent = c.clear-in-Ok.ensures.items;
    }

visit_given : (c : After-told) → IsGiven (taken_by c.args.held.now) (share_of c.args.held.now) (exchange_of c.visit_dealt.new.self) (after c)
visit_given c =
    let x = taken_by c.args.held.now in
    let y = exchange_of c.visit_dealt.new.self in
    let s = share_of c.args.held.now in
    let q = share c.args.shard.now c.args.hand.now in
    let rises = subst (λ b. b ≤ y.bound) (ap (λ b. b.bound) c.requires.taken.fresh) c.visit_dealt.ensures.rising in
    visited_whole x y c.args.stop s q (after c) c.requires.taken.met c.requires.taken.board c.requires.taken.stop c.requires.ready.preserved c.requires.ready.delivered c.requires.ready.sorted rises (is_visited c)

pub returns-in-Ok-clause-given : goal.returns-in-Ok-clause-given
returns-in-Ok-clause-given c =
    own_part (taken_by c.args.held.now) (exchange_of c.visit_dealt.new.self) (share_of c.args.held.now) (after c) (visit_given c).case (visit_given c).give

pub returns-in-Ok-clause-work : goal.returns-in-Ok-clause-work
returns-in-Ok-clause-work c =
    work_given (taken_by c.args.held.now) (exchange_of c.visit_dealt.new.self) c.args.stop (share_of c.args.held.now) (after c) c.requires.taken.met c.requires.taken.stop (visit_given c)

pub returns-in-Ok-clause-told : goal.returns-in-Ok-clause-told
returns-in-Ok-clause-told c = λ taken. record {
  bound = search rules;
  sent = search rules;
  report =
      report_left (taken_by c.args.held.now) (exchange_of c.visit_dealt.new.self) (share_of c.args.held.now) (share c.args.shard.now c.args.hand.now) (after c) c.requires.taken.met (is_visited c);
}

-- ---- without a visit

-- what could not be dealt lacked memory
pub refuse-requires : goal.refuse-requires
refuse-requires c =
    let x = taken_by c.args.held.now in
    let s = share_of c.args.held.now in
    let q = share c.args.shard.now c.args.hand.now in
    let out = c.args.hand.now.out.items in
    let home : is_homeless out (exchange_of c.args.held.now) ≡ false =
    ap (is_homeless out) c.requires.taken.fresh ∙ not_homeless x c.args.stop s q c.requires.taken.met c.requires.taken.stop c.requires.ready.preserved in
    record {
      memory = for_memory c.in-Err.why (λ why. c.requires.dealt.no_worker (c.in-Err.is ∙ ap Err why)) (λ why. c.requires.dealt.early (c.in-Err.is ∙ ap Err why))
          (λ why. cc (home, c.requires.dealt.no_router (c.in-Err.is ∙ ap Err why)));
    }

pub returns-in-Err-clause-given : goal.returns-in-Err-clause-given
returns-in-Err-clause-given c =
    stayed_given (taken_by c.args.held.now) (exchange_of c.refuse.new.held) c.args.stop (share_of c.args.held.now) (share c.args.shard.now c.args.hand.now) c.requires.taken.met c.requires.taken.stop
    c.requires.ready.preserved (c.refuse.ensures.board ∙ ap board_of c.requires.taken.fresh)

-- and what could not be deposited did
pub refuse-requires-in-Err-visit_dealt : goal.refuse-requires-in-Err-visit_dealt
refuse-requires-in-Err-visit_dealt c =
    let x = taken_by c.args.held.now in
    let s = share_of c.args.held.now in
    let z = exchange_of c.args.held.now in
    let q = share c.args.shard.now c.args.hand.now in
    let out = c.args.hand.now.out.items in
    let told = c.in-Err-visit_dealt.ensures in
    let dealt = taken_up c.args.dealt (AreDealt z.owners (workers z) out c.args.parcels.now) (λ why is. c.in_default.not-Err why is) c.requires.dealt.dealt in
    let soon : is_early out c.args.report z ≡ false =
    (λ i. is_early out (c.requires.report i) (c.requires.taken.fresh i)) ∙ not_early x c.args.stop s q c.requires.taken.met c.requires.taken.stop c.requires.ready.preserved c.requires.ready.delivered in
    record { memory = for_memory c.in-Err-visit_dealt.why (λ why. told.there (ap Err why)) (λ why. cc (soon, (told.early out dealt).0 (ap Err why))) (λ why. told.no_router (ap Err why)) }

pub returns-in-Err-visit_dealt-clause-given : goal.returns-in-Err-visit_dealt-clause-given
returns-in-Err-visit_dealt-clause-given c =
    let x = taken_by c.args.held.now in
    let s = share_of c.args.held.now in
    let hand = c.args.hand.now in
    let shard = c.args.shard.now in
    let y = exchange_of c.refuse-in-Err-visit_dealt.new.held in
    let board : board_of y ≡ board_of x = c.refuse-in-Err-visit_dealt.ensures.board ∙ ap board_of (c.in-Err-visit_dealt.ensures.err ∙ c.requires.taken.fresh) in
    let mail : drop hand.next hand.mail.items ≡ drop 0 c.visit_dealt.new.mail.items = c.requires.ready.delivered ∙ sym (drop_none c.visit_dealt.new.mail.items ∙ c.in-Err-visit_dealt.ensures.no_mail) in
    subst (λ m. MayBeGiven x s y (record { shard = shard; mail = m; unsent = hand.out.items })) mail
    (stayed_given x y c.args.stop s (share shard hand) c.requires.taken.met c.requires.taken.stop c.requires.ready.preserved board)

wanted_memory : (c : goal.After-refuse-in-Err-visit_dealt) → 0 < length c.args.hand.now.out.items
wanted_memory c =
    let x = taken_by c.args.held.now in
    let s = share_of c.args.held.now in
    let z = exchange_of c.args.held.now in
    let q = share c.args.shard.now c.args.hand.now in
    let out = c.args.hand.now.out.items in
    let told = c.in-Err-visit_dealt.ensures in
    let dealt = taken_up c.args.dealt (AreDealt z.owners (workers z) out c.args.parcels.now) (λ why is. c.in_default.not-Err why is) c.requires.dealt.dealt in
    let soon : is_early out c.args.report z ≡ false =
    (λ i. is_early out (c.requires.report i) (c.requires.taken.fresh i)) ∙ not_early x c.args.stop s q c.requires.taken.met c.requires.taken.stop c.requires.ready.preserved c.requires.ready.delivered in
    told.memory out dealt
    (ap Err (for_memory c.in-Err-visit_dealt.why (λ why. told.there (ap Err why)) (λ why. cc (soon, (told.early out dealt).0 (ap Err why))) (λ why. told.no_router (ap Err why))))

pub returns-in-Err-visit_dealt-clause-answer : goal.returns-in-Err-visit_dealt-clause-answer
returns-in-Err-visit_dealt-clause-answer c = record {
  goes_on = search rules;
  settled = search rules;
  full = search rules;
  refused = λ refused. wanted_memory c;
  halts = search rules;
  heard = search rules;
  obeys = search rules;
}
