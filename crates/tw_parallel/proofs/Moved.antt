-- A run in which a router goes from one worker to another is one still, and its machine stays.
use Rattle.std.proofs.Common.{◌≡◌, ℕ, zero, suc, ◌+◌, ◌<◌, ◌≤◌, ◌==◌, ◌||◌, not, true, cond, Err, List, [], ◌∷◌, Ok, Some, get_or, length, map, set, slice_get, take, ◌++◌, refl, ap, sym, ◌∙◌, subst, inl, inr, arith}
use Rattle.std.proofs.lemmas.Bool.{and_parts, cases_Bool, eqb-true, ne_eqb}
use Rattle.std.proofs.lemmas.List.{length-map, length-set}
use Rattle.std.proofs.lemmas.List.FromFn.{length-range_with_len}
use Rattle.std.specs.List.{AllByRecursion, range_with_len}
use Rattle.std.specs.Prelude.{OnErr, OnOk, Result, vec_len}
use Rattle.std.proofs.Math.Seq.{take-append_seam}
use Rattle.tw_core.proofs.Sums.{all_map}
use Rattle.tw_core.specs.Machine.{Core, IsSameMachine}
use Rattle.tw_event.specs.declared.event.Event.{Event}
use Rattle.tw_exchange.specs.Board.{Board, IsListed, all_mail, listed, who, workers}
use Rattle.tw_exchange.proofs.Moving.{same_listed}
use Rattle.tw_model.proofs.Within.{suits_within}
use Rattle.tw_model.specs.Case.{Case, simulation}
use Rattle.tw_parallel.proofs.Owners.{all_shards, law, own_there}
use Rattle.tw_parallel.proofs.Shares.{share_there, worker_there}
use Rattle.tw_parallel.specs.declared.sim.Sim.TheInside.{Inside}
use Rattle.tw_parallel.specs.Inside.{IsInside, sim_of}
use Rattle.tw_parallel.specs.Moving.{AreEnds, HasMovedBetween, IsRearranged, MayPass}
use Rattle.tw_parallel.specs.Sim.{AreOf, IsSim, Sim, machine}
use Rattle.tw_rule.proofs.Moved.{get_beside}
use Rattle.tw_rule.proofs.Places.{all_at, get_map}
use Rattle.tw_table.proofs.Lists.{all_set}
use Rattle.tw_rule.specs.Board as rule
use Rattle.tw_rule.specs.Place.{Place}
use Rattle.tw_rule.specs.Rule.{Rule, Stands}
use Rattle.tw_sim.specs.declared.machine.Signed.{Signed}
use Rattle.tw_sim.specs.Simulation.{Simulation, one}
use Rattle.tw_table.proofs.Moving.{machine_stays, ruled_moves}
use Rattle.tw_table.specs.Moving.{HasMoved, moved_board}
use Rattle.tw_shard.specs.Shard.{Shard, no_shard, owns}
use Rattle.tw_table.specs.declared.hand.Hand.{Hand}
use Rattle.tw_table.specs.Shares.{IsRuled, Share, board_of, place_of, share}

-- ---- machines that are the same but for the order of their lists

module _ (case : Case) where
  pub same_self : (C : Core Event) → IsSameMachine (simulation case) C C
  same_self C = record {
    history = λ r l. refl;
    done = λ r l. refl;
    past = λ r l. refl;
    room = λ r l. refl;
    pending = λ e. refl;
    kept = λ e. refl;
    plus = λ e. refl;
    minus = λ e. refl;
    held = λ e. refl;
    bound = refl;
    stop = refl;
  }

  pub same_both : (C D E : Core Event) → IsSameMachine (simulation case) C D → IsSameMachine (simulation case) D E → IsSameMachine (simulation case) C E
  same_both C D E one two = record {
    history = λ r l. two.history r l ∙ one.history r l;
    done = λ r l. two.done r l ∙ one.done r l;
    past = λ r l. two.past r l ∙ one.past r l;
    room = λ r l. two.room r l ∙ one.room r l;
    pending = λ e. two.pending e ∙ one.pending e;
    kept = λ e. two.kept e ∙ one.kept e;
    plus = λ e. two.plus e ∙ one.plus e;
    minus = λ e. two.minus e ∙ one.minus e;
    held = λ e. two.held e ∙ one.held e;
    bound = two.bound ∙ one.bound;
    stop = two.stop ∙ one.stop;
  }

pub rearranged_self : (s : Sim) → IsRearranged s s
rearranged_self s = record {
  same = same_self s.case (machine s);
  goes_on = record { case = refl; workers = refl; retains = λ k. k; cancels = refl; bound = omega arith };
  stop = refl;
}

pub rearranged_both : (s t u : Sim) → IsRearranged s t → IsRearranged t u → IsRearranged s u
rearranged_both s t u one two =
    let later : IsSameMachine (simulation s.case) (machine t) (machine u) = subst (λ c. IsSameMachine (simulation c) (machine t) (machine u)) one.goes_on.case two.same in
    record {
      same = same_both s.case (machine s) (machine t) (machine u) one.same later;
      goes_on = record {
        case = two.goes_on.case ∙ one.goes_on.case;
        workers = two.goes_on.workers ∙ one.goes_on.workers;
        retains = λ k. two.goes_on.retains (one.goes_on.retains k);
        cancels = two.goes_on.cancels ∙ one.goes_on.cancels;
        bound = (let a = one.goes_on.bound in let b = two.goes_on.bound in omega arith);
      };
      stop = two.stop ∙ one.stop;
    }

-- ---- shares two of which are others

module _ {X : Type 0} where
  -- what is read of each is the same where it is so of the one that is another
  map_set_same : {Y : Type 0} (f : X → Y) (xs : List X) (i : ℕ) (x y : X) → slice_get xs i ≡ Some x → f y ≡ f x → map f (set xs i y) ≡ map f xs
  map_set_same f [] i x y there same = cc
  map_set_same f (z ∷ xs) zero x y there same = (let is : z ≡ x = cc in λ i. (same ∙ ap f (sym is)) i ∷ map f xs)
  map_set_same f (z ∷ xs) (suc i) x y there same = ap (λ l. f z ∷ l) (map_set_same f xs i x y there same)

module _ (s : Sim) (is : IsSim s) (r from to : ℕ) (apart : from ≡ to → ⊥) (listed : IsListed r s.board) (known : r < s.case.net.nodes) (was : who s.board r ≡ from) (later : List Share)
    (between : HasMovedBetween r from to s.board s.shares later) where
  abbrev moved : HasMoved r s.board between.share between.other between.share_later between.other_later
  moved = between.moved

  abbrev t : Sim
  t = record { case = s.case; board = moved_board r to s.board; shares = later }

  worker_from : between.share.shard.terms.worker ≡ from
  worker_from = let there = worker_there 0 (workers s.board) from s.shares between.share is.order between.there in omega arith

  worker_to : between.other.shard.terms.worker ≡ to
  worker_to = let there = worker_there 0 (workers s.board) to s.shares between.other is.order between.other_there in omega arith

  -- what holds of each share, and of the two as they are later, holds of each later
  each_later : (P : Share → Type 0) → AllByRecursion P s.shares → (P between.share → P between.share_later) → (P between.other → P between.share → P between.other_later) → AllByRecursion P later
  each_later P all first second =
      let one = all_at P s.shares from between.share between.there all in
      let two = all_at P s.shares to between.other between.other_there all in
      subst (AllByRecursion P) (sym between.later_is) (all_set P (set s.shares from between.share_later) to between.other_later (all_set P s.shares from between.share_later all (first one)) (second two one))

  map_later : {Y : Type 0} (f : Share → Y) → f between.share_later ≡ f between.share → f between.other_later ≡ f between.other → map f later ≡ map f s.shares
  map_later f first second =
      ap (map f) between.later_is
      ∙ (map_set_same f (set s.shares from between.share_later) to between.other between.other_later
      (get_beside s.shares from to between.other between.share_later apart between.other_there) second
      ∙ map_set_same f s.shares from between.share between.share_later between.there first)

  same_workers : workers t.board ≡ workers s.board
  same_workers = length-set s.board.reports to (Some s.board.bound)

  -- a router that either has later is one of the case
  left_owned : (k : ℕ) → owns between.share_later.shard k ≡ true → owns between.share.shard k ≡ true
  left_owned k own = (and_parts (owns between.share.shard k) (not (k == r)) (sym (moved.left.routers k) ∙ own)).0

  came_owned : AreOf s.case between.other → (k : ℕ) → owns between.other_later.shard k ≡ true → k < s.case.net.nodes
  came_owned old k own = elim (cases_Bool (owns between.other.shard k)) [
    | inl b ↦ old k b
    | inr b ↦ (
        let is_r : (k == r) ≡ true = ap (λ c. c || k == r) (sym b) ∙ (sym (moved.came.routers k) ∙ own) in
        subst (λ z. z < s.case.net.nodes) (sym (eqb-true k r is_r)) known)
  ]

  -- it is still a run
  pub moved_sim : IsSim t
  moved_sim = record {
    some = subst (λ n. 0 < n) (sym same_workers) is.some;
    order = map_later (λ u. u.shard.terms.worker) (ap (λ x. x.worker) moved.left.terms) (ap (λ x. x.worker) moved.came.terms) ∙ (is.order ∙ ap (range_with_len 0) (sym same_workers));
    ruled = subst (λ w. IsRuled s.case (moved_board r w s.board) later) worker_to
        (subst (IsRuled s.case (moved_board r between.other.shard.terms.worker s.board)) (sym between.later_is)
        (ruled_moves s.case s.board s.shares is.ruled r from to between.share between.other between.share_later between.other_later between.there between.other_there
        (λ same. apart (sym worker_from ∙ (same ∙ worker_to))) listed known (was ∙ sym worker_from) moved));
    known = each_later (AreOf s.case) is.known (λ old k own. old k (left_owned k own)) (λ old first k own. came_owned old k own);
    alike = record {
      retains = is.alike.retains;
      cancel = is.alike.cancel;
      each = each_later (λ u. (u.shard.terms.retains ≡ is.alike.retains) × (u.shard.terms.cancel ≡ is.alike.cancel)) is.alike.each
          (λ old. (ap (λ x. x.retains) moved.left.terms ∙ old.0, ap (λ x. x.cancel) moved.left.terms ∙ old.1)) (λ old first. (ap (λ x. x.retains) moved.came.terms ∙ old.0, ap (λ x. x.cancel) moved.came.terms ∙ old.1));
    };
    stop = is.stop;
  }

  -- and its machine stays
  pub moved_rearranged : IsRearranged s t
  moved_rearranged = record {
    same = subst (λ w. IsSameMachine (simulation s.case) (machine s) (machine (record { case = s.case; board = moved_board r w s.board; shares = later }))) worker_to
        (subst (λ l. IsSameMachine (simulation s.case) (machine s) (machine (record { case = s.case; board = moved_board r between.other.shard.terms.worker s.board; shares = l }))) (sym between.later_is)
        (machine_stays s.case s.board s.shares is.ruled r from to between.share between.other between.share_later between.other_later between.there between.other_there
        (λ same. apart (sym worker_from ∙ (same ∙ worker_to))) listed known (was ∙ sym worker_from) moved));
    goes_on = record {
      case = refl;
      workers = same_workers;
      retains = λ keep. each_later (λ u. u.shard.terms.retains ≡ true) keep (λ old. ap (λ x. x.retains) moved.left.terms ∙ old) (λ old first. ap (λ x. x.retains) moved.came.terms ∙ old);
      cancels = map_later (λ u. u.shard.terms.cancel) (ap (λ x. x.cancel) moved.left.terms) (ap (λ x. x.cancel) moved.came.terms);
      bound = omega arith;
    };
    stop = refl;
  }

-- ---- whether it went over or memory was refused

-- what two facts of a success and two of a failure both lead to
pub by_result : {T E : Type 0} (r : Result T E) (A B C D P : Type 0) → OnOk r A → OnOk r B → OnErr r C → OnErr r D → (A → B → P) → (C → D → P) → P
by_result (Ok x) A B C D P a b c d good bad = good a b
by_result (Err e) A B C D P a b c d good bad = bad c d

pub all_taken : {X : Type 0} (xs ys : List X) (n : ℕ) → length xs ≡ n → take n (xs ++ ys) ≡ xs
all_taken xs ys n long = ap (λ k. take k (xs ++ ys)) (sym long) ∙ take-append_seam xs ys

module _ (s : Sim) (is : IsSim s) (r from to : ℕ) (apart : from ≡ to → ⊥) (listed : IsListed r s.board) (known : r < s.case.net.nodes) (was : who s.board r ≡ from) (x : Board) (later : List Share) where
  abbrev u : Sim
  u = record { case = s.case; board = x; shares = later }

  pub sim_later : x ≡ moved_board r to s.board → HasMovedBetween r from to s.board s.shares later → IsSim u × IsRearranged s u
  sim_later same between = subst (λ b. IsSim (record { case = s.case; board = b; shares = later }) × IsRearranged s (record { case = s.case; board = b; shares = later })) (sym same)
      (moved_sim s is r from to apart listed known was later between, moved_rearranged s is r from to apart listed known was later between)

  pub sim_kept : x ≡ s.board → later ≡ s.shares → IsSim u × IsRearranged s u
  sim_kept board shares =
      let back = sym board in
      let again = sym shares in
      let same : s ≡ u = λ i. record { case = s.case; board = back i; shares = again i } in
      subst (λ (t : Sim). IsSim t × IsRearranged s t) same (is, rearranged_self s)

-- a router may go from its worker's shard to any other
module _ (a : Inside) (is : IsInside a) (r from to : ℕ) (known : r < a.case.now.net.nodes) (within : to < workers a.exchange) (from_is : from ≡ who a.exchange r) (ne : from ≡ to → ⊥) where
  apart : who a.exchange r ≡ to → ⊥
  apart same = ne (from_is ∙ same)

  abbrev v : Sim
  v = sim_of a

  abbrev ss : List Shard
  ss = a.shards.items

  many : length ss ≡ workers a.exchange
  many = all_shards a is

  pub as_many : vec_len a.shards ≡ workers a.exchange
  as_many = a.shards.ok.0 ∙ many

  pub are_ends : AreEnds from to (vec_len a.shards)
  are_ends = record {
    from_within = (let w = (own_there a is r known).0 in let l = a.shards.ok.0 in let same = from_is in omega arith);
    to_within = (let l = as_many in omega arith);
    apart = ne;
  }

  target_share : (h : Hand) × (slice_get v.shares to ≡ Some (share (get_or ss to no_shard) h))
  target_share = (let m = many in share_there ss a.hands.items to no_shard is.hands (omega arith))

  source_share : (h : Hand) × (slice_get v.shares (who a.exchange r) ≡ Some (share (get_or ss (who a.exchange r) no_shard) h))
  source_share = share_there ss a.hands.items (who a.exchange r) no_shard is.hands (own_there a is r known).0

  -- what all shares have alike
  alike : (k : ℕ) (h : Hand) → slice_get v.shares k ≡ Some (share (get_or ss k no_shard) h)
      → ((get_or ss k no_shard).terms.case ≡ v.case) × ((get_or ss k no_shard).terms.retains ≡ is.sim.alike.retains) × ((get_or ss k no_shard).terms.cancel ≡ is.sim.alike.cancel)
  alike k h there =
      let t = share (get_or ss k no_shard) h in
      let terms = all_at (λ (u : Share). (u.shard.terms.retains ≡ is.sim.alike.retains) × (u.shard.terms.cancel ≡ is.sim.alike.cancel)) v.shares k t there is.sim.alike.each in
      (all_at (λ (u : Share). u.shard.terms.case ≡ v.case) v.shares k t there is.sim.ruled.cases, terms.0, terms.1)

  passes : MayPass r (who a.exchange r) to ss
  passes =
      let one = alike (who a.exchange r) source_share.0 source_share.1 in
      let two = alike to target_share.0 target_share.1 in
      let t = share (get_or ss to no_shard) target_share.0 in
      let place = get_map place_of v.shares to t target_share.1 in
      let stands = all_at (Stands (simulation v.case) (who v.board) (board_of v.board)) (map place_of v.shares) to (place_of t) place is.sim.ruled.rule.each in
      let worker : t.shard.terms.worker ≡ 0 + to = worker_there 0 (workers v.board) to v.shares t is.sim.order target_share.1 in
      record {
        like = record { case = two.0 ∙ sym one.0; retains = two.1 ∙ sym one.1; cancel = two.2 ∙ sym one.2 };
        own = (own_there a is r known).1;
        new = stands.owns r known ∙ ne_eqb (who a.exchange r) t.shard.terms.worker (λ same. apart (same ∙ (let is_to : t.shard.terms.worker ≡ to = omega arith in is_to)));
      }

  pub may_pass : MayPass r from to ss
  may_pass = subst (λ f. MayPass r f to ss) (sym from_is) passes

-- ---- a list that says what is so is no change

module _ {S E : Type 0} (m : Simulation S E) (who one : ℕ → ℕ) (same : (r : ℕ) → r < m.routers → one r ≡ who r) where
  stands_renamed : (x : rule.Board E) (p : Place E) → Stands m who x p → Stands m one x p
  stands_renamed x p h = record {
    worker = h.worker;
    owns = λ r l. h.owns r l ∙ ap (λ w. w == p.worker) (sym (same r l));
    place = h.place;
    reported = h.reported;
    bound = h.bound;
  }

  rule_renamed : (x : rule.Board E) (ps : List (Place E)) → Rule m who x ps → Rule m one x ps
  rule_renamed x ps h = record {
    board = h.board;
    each = all_map (Stands m who x) (Stands m one x) (stands_renamed x) ps h.each;
    places = h.places;
    routers = λ r l. subst (λ w. w < rule.workers x) (sym (same r l)) (h.routers r l);
    balance = h.balance;
  }

module _ (s : Sim) (is : IsSim s) (n : ℕ) (count : n ≡ s.case.net.nodes) where
  pub listed_sim : IsSim (record s { board = listed n s.board })
  listed_sim = record {
    some = is.some;
    order = is.order;
    ruled = record {
      is_case = is.ruled.is_case;
      cases = is.ruled.cases;
      count = is.ruled.count;
      rule = rule_renamed (simulation s.case) (who s.board) (who (listed n s.board)) (λ r l. same_listed s.board n r (subst (λ k. r < k) (sym count) l)) (board_of s.board) (map place_of s.shares)
          is.ruled.rule;
    };
    known = is.known;
    alike = is.alike;
    stop = is.stop;
  }

  -- each router has a worker, and all mail is for routers
  pub all_owned : (r : ℕ) → r < n → who s.board r < workers s.board
  all_owned r l = is.ruled.rule.routers r (subst (λ k. r < k) count l)

  mail_below : (xs : List (Signed Event)) → ((e : Event) → 0 < rule.times_among (simulation s.case) e xs → (simulation s.case).suits e ≡ true) → AllByRecursion (λ m. m.event.dst < n) xs
  mail_below [] h = tt
  mail_below (x ∷ xs) h = (
    subst (λ k. x.event.dst < k) (sym count) (suits_within s.case.net x.event.dst x.event is.ruled.is_case.net (h x.event (among_first x xs))),
    mail_below xs (λ e some. h e (let a = among_more e x xs in omega arith)),
  ) where
    one_self : (e : Event) → one (simulation s.case) e e ≡ 1
    one_self e = ap (λ b. cond b (suc zero) zero) ((law s is).same_self e)

    among_first : (x : Signed Event) (xs : List (Signed Event)) → 0 < rule.times_among (simulation s.case) x.event (x ∷ xs)
    among_first x xs = (let one = one_self x.event in elim (cases_Bool x.plus) [ inl b ↦ rw b (omega arith) | inr b ↦ rw b (omega arith) ])

    among_more : (e : Event) (x : Signed Event) (xs : List (Signed Event)) → rule.times_among (simulation s.case) e xs ≤ rule.times_among (simulation s.case) e (x ∷ xs)
    among_more e x xs = omega arith

  pub mail_known : AllByRecursion (λ m. m.event.dst < n) (all_mail s.board)
  mail_known = mail_below (all_mail s.board) is.ruled.rule.board.suit

  pub all_listed : (r : ℕ) → r < n → IsListed r (listed n s.board)
  all_listed r l = (let many = length-map (range_with_len 0 n) (who s.board) in let long = length-range_with_len 0 n in omega arith)
