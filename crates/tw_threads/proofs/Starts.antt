-- Workers that are started one after the other.
use Rattle.std.proofs.Common.{◌≡◌, ℕ, List, [], ◌∷◌, ◌++◌, drop, length, ap, sym, ◌∙◌, subst, append_assoc, arith, slice_index_or}
use Rattle.std.proofs.lemmas.List.{append-nil}
use Rattle.std.specs.List.{AllZip}
use Rattle.tw_table.specs.Shares.{Share, no_share}
use Rattle.tw_table.specs.declared.seat.Seat.{Seat}
use Rattle.tw_table.specs.declared.table.Table.{Table}
use Rattle.tw_threads.specs.Started.{AreSeated, IsStarted}
use Rattle.tw_threads.specs.declared.start.Started.{Started}
use Rattle.tw_workers.specs.Seated.{IsSeated}

module _ {W : Type 0} (of : W → Share) (to : W → ℕ) where
  -- these seats and workers are still to be started, and those before them were
  pub record AreWaiting (t : Table) (all left : List Seat) (workers : List W) (done : List (Started W)) : Type 0 where
    pub seated : AreSeated of to t left workers
    pub started : (more : List (Started W)) → AllZip (IsStarted of to t) left more → AllZip (IsStarted of to t) all (done ++ more)

  pub none_started : (t : Table) (all : List Seat) (workers : List W) (started : List (Started W)) → started ≡ [] → AreSeated of to t all workers → AreWaiting t all all workers started
  none_started t all workers started none seated = record {
    seated = seated;
    started = λ more h. subst (λ ss. AllZip (IsStarted of to t) all (ss ++ more)) (sym none) h;
  }

  -- no seat is left before all workers are started
  pub some_left : (t : Table) (all : List Seat) (w : W) (workers : List W) (started : List (Started W)) → AreWaiting t all [] (w ∷ workers) started → ⊥
  some_left t all w workers started h = let long = ap length h.seated.shares in omega arith

  -- the first worker has the first seat
  pub next_is : (t : Table) (all : List Seat) (s : Seat) (seats : List Seat) (w : W) (workers : List W) (started : List (Started W))
      → AreWaiting t all (s ∷ seats) (w ∷ workers) started → IsSeated t s (of w) (to w)
  next_is t all s seats w workers started h = record {
    seat = h.seated.own.0;
    share = ap (λ xs. slice_index_or xs 0 no_share) h.seated.shares;
    stop = ap (λ xs. slice_index_or xs 0 0) h.seated.stops;
  }

  pub one_started : (t : Table) (all : List Seat) (s : Seat) (seats : List Seat) (w : W) (workers : List W) (started next : List (Started W)) (one : Started W)
      → AreWaiting t all (s ∷ seats) (w ∷ workers) started → IsStarted of to t s one → next ≡ started ++ one ∷ [] → AreWaiting t all seats workers next
  one_started t all s seats w workers started next one h is added = record {
    seated = record { own = h.seated.own.1; shares = ap (drop 1) h.seated.shares; stops = ap (drop 1) h.seated.stops };
    started = λ more each. subst (AllZip (IsStarted of to t) all) (sym (ap (λ ss. ss ++ more) added ∙ append_assoc started (one ∷ []) more)) (h.started (one ∷ more) (is, each));
  }

  pub all_started : (t : Table) (all seats : List Seat) (started : List (Started W)) → AreWaiting t all seats [] started → AllZip (IsStarted of to t) all started
  all_started t all [] started h = subst (AllZip (IsStarted of to t) all) (append-nil started) (h.started [] tt)
  all_started t all (s ∷ seats) started h = absurd (let long = ap length h.seated.shares in omega arith)
