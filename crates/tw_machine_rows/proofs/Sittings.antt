-- What keeps a worker ready to take the exchange, and what lets it give the exchange back.
use Rattle.std.specs.Prelude.{true}
use Rattle.std.proofs.Common.{◌≡◌, ℕ, ◌<◌, ◌≤◌, ◌==◌, ◌&&◌, nat_lt, List, [], ◌∷◌, ◌++◌, drop, length, map, max, Ok, Some, refl, ap, sym, ◌∙◌, subst, arith, slice_get, slice_index_or, IfSome, None, Option, slice_set}
use Rattle.std.specs.List.{AllByRecursion}
use Rattle.tw_core.specs.Machine.{Core}
use Rattle.tw_event.specs.declared.event.Event.{Event}
use Rattle.tw_exchange.specs.Board.{Board, IsBoard, handed, new_board, visited}
use Rattle.tw_machine_rows.specs.Sitting.{AreBeginning, IsReadyToTake}
use Rattle.tw_model.specs.Case.{Case, IsCase}
use Rattle.tw_shard.specs.Shard.{IsOpeningShard, IsSameShare, Shard, handling, no_shard, opening_core, owns, shard_core}
use Rattle.tw_sim.specs.declared.machine.Cancel.{Cancel}
use Rattle.tw_sim.specs.declared.machine.Cancel.TheVariants.{Aggressive}
use Rattle.tw_sim.specs.Owners.{owner}
use Rattle.tw_table.specs.declared.hand.Hand.{Hand}
use Rattle.tw_table.specs.declared.seat.Held.{Held}
use Rattle.tw_table.specs.declared.seat.Seat.{Seat}
use Rattle.tw_table.specs.declared.table.Table.{Table}
use Rattle.tw_table.specs.Seats.{IsSameSeat, IsSeatOf, exchange_of, share_at, share_of, stop_at, taken_by}
use Rattle.tw_table.specs.Openings.{AreNew, IsNew}
use Rattle.tw_table.specs.Shares.{IsRuled, MayBeGiven, Share, no_share, share, shares_of}
use Rattle.tw_table.specs.Views.{IsMet}
use Rattle.tw_workers.proofs.Moves.{kept_sent}
use Rattle.tw_workers.proofs.Places.{kept_both, kept_handled, kept_same, work_kept}
use Rattle.tw_workers.proofs.Visits.{IsVisited, told_of, visited_given}
use Rattle.tw_workers.specs.Work.{IsAtWork, PreservesShare}

-- a router of its own handles
pub ready_handled : (t : Table) (s : Seat) (q : Share) (u : Shard) (r : ℕ) → IsReadyToTake t s q → IsSameShare q.shard u → handling 20 q.shard r ≡ Ok (shard_core 20 u)
    → IsReadyToTake t s (record q { shard = u })
ready_handled t s q u r is same done =
    let new : Share = record q { shard = u } in
    let kept = kept_handled 20 r q new is.work same done refl refl in
    record {
      seat = is.seat;
      stop = is.stop;
      kept = kept_both 20 (share_at s) q new is.kept kept;
      work = work_kept 20 q new is.work kept;
      mail = is.mail;
      unsent = is.unsent;
    }

-- what its routers have sent is unsent
abbrev pub sent : Share → Share
sent q = record { shard = record q.shard { outgoing = [] }; mail = q.mail; unsent = q.unsent ++ q.shard.outgoing }

-- it has taken the exchange, deposited that, and has its mail
pub may_give : (t : Table) (s : Seat) (h k : Held) (q v : Share) → IsReadyToTake t s q → share_of h ≡ share_at s → exchange_of h ≡ taken_by h → IsMet (share_at s ∷ []) (taken_by h)
    → IsBoard (taken_by h) → (taken_by h).stop ≡ stop_at s → IsSameSeat h k → (exchange_of h).bound ≤ (exchange_of k).bound
    → exchange_of k ≡ visited (share_of h).shard.terms.worker q.shard.outgoing (told_of q) (exchange_of h)
    → v.shard ≡ record q.shard { outgoing = []; bound = max q.shard.bound (exchange_of k).bound }
    → v.mail ≡ handed (share_of h).shard.terms.worker q.shard.outgoing (exchange_of h) → v.unsent ≡ []
    → MayBeGiven (taken_by k) (share_of k) (exchange_of k) v
may_give t s h k q v is own fresh met board stop same rising now shard mail unsent =
    let x = taken_by h in
    let y = exchange_of k in
    let w = share_at s in
    let kept = kept_both 20 w q (sent q) is.kept (kept_sent 20 q is.work) in
    let out : q.shard.outgoing ≡ (sent q).unsent = sym (ap (λ l. l ++ q.shard.outgoing) is.unsent) in
    let rises = subst (λ (b : Board). b.bound ≤ y.bound) fresh rising in
    let visit : IsVisited x y w (sent q) v = record {
      board = now ∙ (λ i. visited (own i).shard.terms.worker (out i) (told_of q) (fresh i));
      shard = shard;
      mail = mail ∙ (λ i. handed (own i).shard.terms.worker (out i) (fresh i));
      unsent = unsent;
    } in
    let may = visited_given x y 20 w (sent q) v met board (stop ∙ is.stop) kept is.mail refl rises visit in
    subst (λ b. MayBeGiven b (share_of k) y v) (sym same.taken) (subst (λ u. MayBeGiven x u y v) (sym (same.share ∙ own)) may)

-- a shard that begins, with an empty hand
pub new_share : (case : Case) (k : ℕ) (cancel : Cancel) (s : Shard) (h : Hand) → ((stop : ℕ) → shard_core stop s ≡ opening_core case k 2 cancel stop) → s.terms.case ≡ case → s.terms.worker ≡ k
    → ((r : ℕ) → owns s r ≡ (nat_lt r case.net.nodes && (owner 2 r == k))) → s.terms.workers ≡ 2 → h.mail.items ≡ [] → h.next ≡ 0 → h.out.items ≡ [] → IsNew case k 2 (share s h)
new_share case k cancel s h is same own routers many mail next out =
    let told : s.terms.cancel ≡ cancel = ap (λ (C : Core Event). C.cancel) (is 0) in
    record { core_is = λ stop. is stop ∙ ap (λ c. opening_core case k 2 c stop) (sym told); case_is = same; worker = own; owns_are = routers; count = many; mail = λ i. drop (next i) (mail i); unsent = out }

-- a list of two
pub two_of : {A : Type 0} (xs : List A) → length xs ≡ 2 → (x : A) × (y : A) × (xs ≡ x ∷ y ∷ [])
two_of [] is = absurd (omega (arith, is))
two_of (x ∷ []) is = absurd (omega (arith, is))
two_of (x ∷ y ∷ []) is = (x, y, refl)
two_of (x ∷ y ∷ z ∷ xs) is = absurd (omega (arith, is))

-- an empty hand
pub record IsEmpty (h : Hand) : Type 0 where
  pub mail : h.mail.items ≡ []
  pub next : h.next ≡ 0
  pub out : h.out.items ≡ []

-- two shards that begin, with empty hands
pub begun : (case : Case) (shards : List Shard) (g h : Hand) → length shards ≡ 2 → ((k : ℕ) → k < 2 → IsOpeningShard case k 2 true Aggressive (slice_index_or shards k no_shard))
    → IsEmpty g → IsEmpty h → AreBeginning case shards (g ∷ h ∷ [])
begun case shards g h two each first second =
    let l = two_of shards two in
    let same : shards ≡ l.0 ∷ l.1 ∷ [] = l.2 in
    let here = subst (λ (ss : List Shard). (k : ℕ) → k < 2 → IsOpeningShard case k 2 true Aggressive (slice_index_or ss k no_shard)) same each in
    let one : IsOpeningShard case 0 2 true Aggressive l.0 = here 0 (omega arith) in
    let other : IsOpeningShard case 1 2 true Aggressive l.1 = here 1 (omega arith) in
    record {
      two_shards = two;
      two_hands = refl;
      new = subst (λ (ss : List Shard). AreNew case 0 2 (shares_of ss (g ∷ h ∷ []))) (sym same) (
        new_share case 0 Aggressive l.0 g one.core_is (ap (λ x. x.case) one.terms) (ap (λ x. x.worker) one.terms) one.owns_are (ap (λ x. x.workers) one.terms) first.mail first.next first.out,
        (new_share case 1 Aggressive l.1 h other.core_is (ap (λ x. x.case) other.terms) (ap (λ x. x.worker) other.terms) other.owns_are (ap (λ x. x.workers) other.terms) second.mail second.next second.out, tt),
      );
    }

-- a new exchange to stop 20, and the shares of its two workers as they begin
pub record IsBeginning (case : Case) (x : Board) (shares : List Share) : Type 0 where
  pub is_case : IsCase case
  pub board : x ≡ new_board 2 0 20
  pub count : length shares ≡ 2
  pub new : AreNew case 0 (length shares) shares

-- it is such an exchange
pub at_first : (case : Case) (x : Board) (shards : List Shard) (hands : List Hand) → IsCase case → x ≡ new_board 2 0 20 → AreBeginning case shards hands → IsBeginning case x (shares_of shards hands)
at_first case x shards hands is board begin =
    let l = two_of shards begin.two_shards in
    let m = two_of hands begin.two_hands in
    let two : length (shares_of shards hands) ≡ 2 = λ i. length (shares_of (l.2 i) (m.2 i)) in
    record { is_case = is; board = board; count = two; new = subst (λ n. AreNew case 0 n (shares_of shards hands)) (sym two) begin.new }

module _ (case : Case) (x : Board) (shares : List Share) (is : IsBeginning case x shares) where
  -- so they keep the rule, by this law
  pub ruled_so : ((c : Case) (stop : ℕ) (ss : List Share) → IsCase c → 0 < length ss → AreNew c 0 (length ss) ss → IsRuled c (new_board (length ss) 0 stop) ss) → IsRuled case x shares
  ruled_so law =
      let some : 0 < length shares = (let two = is.count in omega (arith, two)) in
      subst (λ y. IsRuled case y shares) (ap (λ n. new_board n 0 20) is.count ∙ sym is.board) (law case 20 shares is.is_case some is.new)

-- a worker at a table that was opened with its share
ready : (t : Table) (s : Seat) (q : Share) → IsSeatOf t s → stop_at s ≡ 20 → share_at s ≡ q → IsAtWork 20 q → q.mail ≡ [] → q.unsent ≡ [] → IsReadyToTake t s q
ready t s q seat stop own work mail unsent =
    record { seat = seat; stop = stop; kept = subst (λ w. PreservesShare 20 w q) (sym own) (kept_same 20 q work); work = work; mail = mail; unsent = unsent }

-- both workers are ready
pub both_ready : (t : Table) (case : Case) (x : Board) (seats : List Seat) (shards : List Shard) (hands : List Hand) (a b : Seat) (s u : Shard) (g h : Hand)
    → IsBeginning case x (shares_of shards hands) → AllByRecursion (IsSeatOf t) seats → AllByRecursion (λ c. stop_at c ≡ x.stop) seats → map share_at seats ≡ shares_of shards hands
    → ((i : ℕ) (q : Share) → slice_get (shares_of shards hands) i ≡ Some q → IsAtWork x.stop q)
    → (others : List Seat) × (seats ≡ a ∷ b ∷ others) → shards ≡ s ∷ u ∷ [] → hands ≡ g ∷ h ∷ []
    → IsReadyToTake t a (share s g) × IsReadyToTake t b (share u h)
both_ready t case x seats shards hands a b s u g h is of stops own work sits ss hs =
    let shares : shares_of shards hands ≡ share s g ∷ share u h ∷ [] = λ i. shares_of (ss i) (hs i) in
    let now : map share_at (a ∷ b ∷ sits.0) ≡ share s g ∷ share u h ∷ [] = sym (ap (map share_at) sits.1) ∙ (own ∙ shares) in
    let new = subst (AreNew case 0 (length (shares_of shards hands))) shares is.new in
    let seated = subst (AllByRecursion (IsSeatOf t)) sits.1 of in
    let stop : x.stop ≡ 20 = ap (λ (y : Board). y.stop) is.board in
    let stopping = subst (AllByRecursion (λ c. stop_at c ≡ x.stop)) sits.1 stops in
    let first = subst (λ n. IsAtWork n (share s g)) stop (work 0 (share s g) (ap (λ l. slice_get l 0) shares)) in
    let second = subst (λ n. IsAtWork n (share u h)) stop (work 1 (share u h) (ap (λ l. slice_get l 1) shares)) in (
      ready t a (share s g) seated.0 (stopping.0 ∙ stop) (ap (λ l. slice_index_or l 0 no_share) now) first new.0.mail new.0.unsent,
      ready t b (share u h) seated.1.0 (stopping.1.0 ∙ stop) (ap (λ l. slice_index_or l 1 no_share) now) second new.1.0.mail new.1.0.unsent,
    )

-- each worker's seat, for the shard and the hand at its place
abbrev pub AreReady : Table → Seat → Seat → List Shard → List Hand → Type 0
AreReady t a b shards hands = (s u : Shard) (g h : Hand) → shards ≡ s ∷ u ∷ [] → hands ≡ g ∷ h ∷ [] → IsReadyToTake t a (share s g) × IsReadyToTake t b (share u h)

pub ready_first : (t : Table) (a b : Seat) (shards : List Shard) (hands : List Hand) (s : Shard) (g : Hand) → AreReady t a b shards hands → length shards ≡ 2 → length hands ≡ 2
    → IsReadyToTake t a (share (slice_index_or shards 0 s) (slice_index_or hands 0 g))
ready_first t a b shards hands s g are two pair =
    let l = two_of shards two in
    let m = two_of hands pair in
    let both = are l.0 l.1 m.0 m.1 l.2 m.2 in
    subst (λ (ss : List Shard). IsReadyToTake t a (share (slice_index_or ss 0 s) (slice_index_or hands 0 g))) (sym l.2)
    (subst (λ (hs : List Hand). IsReadyToTake t a (share l.0 (slice_index_or hs 0 g))) (sym m.2) both.0)

-- and the second's, where the first shard and the first hand have changed
pub ready_second : (t : Table) (a b : Seat) (shards : List Shard) (hands : List Hand) (s new : Shard) (g other : Hand) → AreReady t a b shards hands → length shards ≡ 2 → length hands ≡ 2
    → IsReadyToTake t b (share (slice_index_or (slice_set shards 0 new) 1 s) (slice_index_or (slice_set hands 0 other) 1 g))
ready_second t a b shards hands s new g other are two pair =
    let l = two_of shards two in
    let m = two_of hands pair in
    let both = are l.0 l.1 m.0 m.1 l.2 m.2 in
    subst (λ (ss : List Shard). IsReadyToTake t b (share (slice_index_or (slice_set ss 0 new) 1 s) (slice_index_or (slice_set hands 0 other) 1 g))) (sym l.2)
    (subst (λ (hs : List Hand). IsReadyToTake t b (share l.1 (slice_index_or (slice_set hs 0 other) 1 g))) (sym m.2) both.1)

-- both seats of a table, where they are the first two of a list
pub both_seated : (table : Table) (seats : List Seat) (shards : List Shard) (hands : List Hand) (o : Option (Table × Seat × Seat)) → IfSome o (λ r. r.0 ≡ table)
    → IfSome o (λ r. (others : List Seat) × (seats ≡ r.1 ∷ r.2 ∷ others)) → ((a b : Seat) → (others : List Seat) × (seats ≡ a ∷ b ∷ others) → AreReady table a b shards hands)
    → IfSome o (λ r. AreReady r.0 r.1 r.2 shards hands)
both_seated table seats shards hands None same two are = tt
both_seated table seats shards hands (Some r) same two are = subst (λ t. AreReady t r.1 r.2 shards hands) (sym same) (are r.1 r.2 two)
