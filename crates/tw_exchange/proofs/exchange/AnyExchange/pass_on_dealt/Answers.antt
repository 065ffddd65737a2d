use Rattle.smallvec.proofs.SmallVecLemmas.{items-with_items}
use Rattle.smallvec.specs.SmallVec.{with_items}
use Rattle.std.proofs.Common.{arith, false, ◌≡◌, ◌<◌, List, [], length, map, min, refl, set, get_or, ap, sym, ◌∙◌, subst}
use Rattle.std.proofs.lemmas.List.{length-set}
use Rattle.std.specs.List.{flat_map, fold}
use Rattle.std.specs.Option.{option_to_list}
use Rattle.tw_exchange.specs.AnyBoard.{AreDealt, AnyBoard, followed, handed, is_early, least_report, visited, worker_for, workers}
use Rattle.tw_exchange.specs.Inside.{board_of}
use Rattle.tw_exchange.specs.Owners.{list_of}
use Rattle.tw_exchange.specs.Rows.{behind, items, soonest_of}
use Rattle.tw_exchange.specs.declared.exchange.AnyExchange.TheInside.{Inside}
use Rattle.tw_exchange.proofs.Boards.{visited_rises}
use Rattle.tw_exchange.proofs.Dealt.{behind_dealt, early_dealt, none_dealt}
use Rattle.tw_exchange.proofs.Moves.{board_kept, exchange_kept}
use Rattle.tw_exchange.proofs.Refusals.{on_err}
use Rattle.tw_exchange.proofs.Visits.{IsPassedOn, board_after, exchange_after, handed_out, mail_for_all}
use Rattle.tw_exchange.proofs.exchange.AnyExchange.pass_on_dealt.Goals as goal
use Rattle.tw_exchange.proofs.exchange.AnyExchange.pass_on_dealt.Given.{Over}
use Rattle.tw_exchange.proofs.exchange.AnyExchange.pass_on_dealt.Goals.{After-self-6-1}
use Rattle.tw_sim.specs.declared.machine.Signed.{Signed}

-- the fields afterwards
abbrev after : (g : Over) (c : After-self-6-1 g) → Inside g.row.E.Denot
after g c =
    let a = c.self.inside in
    record {
      alloc = a.alloc;
      workers = a.workers;
      owners = a.owners;
      mail = with_items (with_items a.mail c.join_to.new.mail) c.hand_over-least.new.mail;
      soonest = with_items (with_items a.soonest c.join_to.new.soonest) c.hand_over-least.new.soonest;
      reports = with_items a.reports (set c.deref_mut-5.result.now c.args.worker c.report_with.result);
      bound = c.least_of-self-inside.result;
      stop = a.stop;
      halted = a.halted;
    }

-- what is dealt, for as many workers as there are rows
here : (g : Over) (c : After-self-6-1 g) (out : List (Signed g.row.E.Denot)) → AreDealt g.E.Timed.parts c.args.self.now.owners (workers c.args.self.now) out c.args.parcels.now
    → AreDealt g.E.Timed.parts (list_of c.self.inside.owners) (length c.self.inside.mail.items) out c.args.parcels.now
here g c out is =
    let a = c.self.inside in
    let p = c.args.parcels.now in
    subst (λ n. AreDealt g.E.Timed.parts (list_of a.owners) n out p) (sym (mail_for_all g.E.Timed.parts a c.self.invariant)) (subst (λ (x : AnyBoard g.row.E.Denot). AreDealt g.E.Timed.parts x.owners (workers x) out p) (sym c.self.view_is) is)

-- the row that the deposit leaves, and then what is handed out leaves
mail_between : (g : Over) (c : After-self-6-1 g) → (with_items c.self.inside.mail c.join_to.new.mail).items ≡ c.join_to.new.mail
mail_between g c = items-with_items c.self.inside.mail c.join_to.new.mail (c.join_to.auto.mail ∙ ap length c.deref_mut.ensures.value)

mail_after : (g : Over) (c : After-self-6-1 g) → (after g c).mail.items ≡ c.hand_over-least.new.mail
mail_after g c = items-with_items (with_items c.self.inside.mail c.join_to.new.mail) c.hand_over-least.new.mail (c.hand_over-least.auto.mail ∙ ap length c.deref_mut-3.ensures.value)

soonest_after : (g : Over) (c : After-self-6-1 g) → (after g c).soonest.items ≡ c.hand_over-least.new.soonest
soonest_after g c = items-with_items (with_items c.self.inside.soonest c.join_to.new.soonest) c.hand_over-least.new.soonest (c.hand_over-least.auto.soonest ∙ ap length c.deref_mut-4.ensures.value)

reports_after : (g : Over) (c : After-self-6-1 g) → (after g c).reports.items ≡ set c.self.inside.reports.items c.args.worker c.report_with.result
reports_after g c =
    let a = c.self.inside in
    let rows = c.deref_mut-5.result.now in
    let w = c.args.worker in
    let told = c.report_with.result in
    items-with_items a.reports (set rows w told) (length-set rows w told ∙ ap length c.deref_mut-5.ensures.value) ∙ ap (λ l. set l w told) c.deref_mut-5.ensures.value

-- all mail after the deposit
all_mail : (g : Over) (c : After-self-6-1 g) (out : List (Signed g.row.E.Denot)) → AreDealt g.E.Timed.parts (list_of c.self.inside.owners) (length c.self.inside.mail.items) out c.args.parcels.now
    → items c.deref_mut-3.result.now ≡ followed g.E.Timed.parts (worker_for (list_of c.self.inside.owners) (length c.self.inside.mail.items)) 0 out (items c.self.inside.mail.items)
all_mail g c out is =
    let a = c.self.inside in
    ap items (c.deref_mut-3.ensures.value ∙ mail_between g c)
    ∙ (c.in_ok-join_to.ensures.ok ∙ (ap (λ rows. behind (items rows) c.args.parcels.now) c.deref_mut.ensures.value
    ∙ behind_dealt g.E.Timed.parts (list_of a.owners) (length a.mail.items) out c.args.parcels.now (items a.mail.items) is))

handed_is : (g : Over) (c : After-self-6-1 g) (out : List (Signed g.row.E.Denot)) → AreDealt g.E.Timed.parts (list_of c.self.inside.owners) (length c.self.inside.mail.items) out c.args.parcels.now
    → c.hand_over-least.new.list.items ≡ handed g.E.Timed.parts c.args.worker out (board_of c.self.inside)
handed_is g c out is =
    let a = c.self.inside in
    let w = c.args.worker in
    let few : w < length a.mail.items = subst (λ n. w < n) (sym (mail_for_all g.E.Timed.parts a c.self.invariant ∙ ap (λ (x : AnyBoard g.row.E.Denot). length x.reports) c.self.view_is)) c.requires.within in
    c.hand_over-least.ensures.value ∙ (ap (λ mail. get_or mail w []) (all_mail g c out is) ∙ handed_out g.E.Timed.parts a w out c.self.invariant few)

passed_on : (g : Over) (c : After-self-6-1 g) (out : List (Signed g.row.E.Denot)) → AreDealt g.E.Timed.parts (list_of c.self.inside.owners) (length c.self.inside.mail.items) out c.args.parcels.now
    → IsPassedOn g.E.Timed.parts c.self.inside (after g c) c.args.worker out c.args.report
passed_on g c out is =
    let a = c.self.inside in
    let w = c.args.worker in
    record {
      owners = refl;
      mail = ap items (mail_after g c) ∙ (c.hand_over-least.ensures.rest ∙ ap (λ mail. set mail w []) (all_mail g c out is));
      soonest = soonest_after g c ∙ (c.hand_over-least.ensures.soonest ∙ ap (λ mail. map (soonest_of g.E.Timed.parts) (items mail)) (sym (mail_after g c)));
      reports = reports_after g c ∙ ap (λ r. set a.reports.items w r) (c.report_with.ensures ∙ ap (least_report g.E.Timed.parts c.args.report) (c.deref.ensures.value ∙ handed_is g c out is));
      bound = c.least_of-self-inside.ensures ∙ λ i. fold min (fold min a.stop (c.deref-3.ensures i)) (flat_map option_to_list (c.deref-2.ensures i));
      workers = refl;
      stop = refl;
      halted = refl;
    }

-- where memory is refused, the rows have the same items
pub invariant_of-self : goal.invariant_of-self
invariant_of-self g c =
    exchange_kept g.E.Timed.parts c.self.inside c.join_to.new.mail c.join_to.new.soonest (c.join_to.auto.mail ∙ ap length c.deref_mut.ensures.value) (c.join_to.auto.soonest ∙ ap length c.deref_mut-2.ensures.value)
    (c.in_err-join_to.ensures.err ∙ ap items c.deref_mut.ensures.value) c.join_to.ensures.soonest c.self.invariant

pub returns-in_err-join_to-clause-err : goal.returns-in_err-join_to-clause-err
returns-in_err-join_to-clause-err g c =
    on_err _ c.from_residual.result (board_kept g.E.Timed.parts c.self.inside c.join_to.new.mail c.join_to.new.soonest (c.join_to.auto.mail ∙ ap length c.deref_mut.ensures.value)
    (c.in_err-join_to.ensures.err ∙ ap items c.deref_mut.ensures.value) ∙ c.self.view_is)

pub hand_over-least-requires-clause-soonest : goal.hand_over-least-requires-clause-soonest
hand_over-least-requires-clause-soonest g c =
    let a = c.self.inside in
    let rows = c.deref_mut-3.ensures.value ∙ items-with_items a.mail c.join_to.new.mail (c.join_to.auto.mail ∙ ap length c.deref_mut.ensures.value) in
    c.deref_mut-4.ensures.value
    ∙ (items-with_items a.soonest c.join_to.new.soonest (c.join_to.auto.soonest ∙ ap length c.deref_mut-2.ensures.value)
    ∙ (c.join_to.ensures.soonest ∙ ap (λ m. map (soonest_of g.E.Timed.parts) (items m)) (sym rows)))

pub report_with-requires : goal.report_with-requires
report_with-requires g c = c.hand_over-least.ensures.least ∙ ap (soonest_of g.E.Timed.parts) (sym c.deref.ensures.value)

pub invariant_of-self-2 : goal.invariant_of-self-2
invariant_of-self-2 g c =
    let given = c.requires.dealt in
    exchange_after g.E.Timed.parts c.self.inside (after g c) c.args.worker given.0 c.args.report c.self.invariant (passed_on g c given.0 (here g c given.0 given.1)) (omega arith)

pub returns-clause-board : goal.returns-clause-board
returns-clause-board g c = λ out is.
    board_after g.E.Timed.parts c.self.inside (after g c) c.args.worker out c.args.report c.self.invariant (passed_on g c out (here g c out is)) (omega arith)
    ∙ ap (visited g.E.Timed.parts c.args.worker out c.args.report) c.self.view_is

pub returns-clause-mail : goal.returns-clause-mail
returns-clause-mail g c = λ out is. handed_is g c out (here g c out is) ∙ ap (handed g.E.Timed.parts c.args.worker out) c.self.view_is

pub returns-clause-empty : goal.returns-clause-empty
returns-clause-empty g c =
    let a = c.self.inside in
    let given = c.requires.dealt in
    let rows = c.deref_mut.ensures.value in
    none_dealt g.E.Timed.parts (list_of a.owners) (length a.mail.items) given.0 c.args.parcels.now c.join_to.new.self (here g c given.0 given.1)
    (λ w below. c.in_ok-join_to.ensures.empty w (let same = ap length rows in omega arith))
    (λ w past. c.in_ok-join_to.ensures.past w (let same = ap length rows in omega arith))

pub returns-clause-rising : goal.returns-clause-rising
returns-clause-rising g c =
    let a = c.self.inside in
    let x = c.args.self.now in
    let w = c.args.worker in
    let report = c.args.report in
    let given = c.requires.dealt in
    let out = given.0 in
    let late : is_early g.E.Timed.parts out report (board_of a) ≡ false =
    ap (is_early g.E.Timed.parts out report) c.self.view_is ∙ (sym (early_dealt g.E.Timed.parts x out c.args.parcels.now report given.1) ∙ c.requires.late) in
    let new : c.least_of-self-inside.result ≡ (visited g.E.Timed.parts w out report (board_of a)).bound =
    ap (λ (y : AnyBoard g.row.E.Denot). y.bound) (board_after g.E.Timed.parts a (after g c) w out report c.self.invariant (passed_on g c out (here g c out given.1)) (omega arith)) in
    let old : a.bound ≡ x.bound = ap (λ (y : AnyBoard g.row.E.Denot). y.bound) c.self.view_is in
    let rises = visited_rises g.E.Timed.parts w out report (board_of a) c.self.invariant.board late in
    omega arith
