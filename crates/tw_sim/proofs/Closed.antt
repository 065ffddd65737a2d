-- The sequential run handles exactly the events before its end that are opening ones or sent by others that it handles.
use Rattle.std.proofs.Common.{◌≡◌, ℕ, suc, zero, ◌+◌, ◌<◌, ◌≤◌, true, false, List, [], ◌∷◌, ap, sym, subst, inl, inr, arith, nat_lt}
use Rattle.std.proofs.lemmas.Bool.{cases_Bool, false_from_ne_true, ltb-true, ltb-false, true_from_ne_false}
use Rattle.tw_sim.specs.Simulation.{Simulation, IsLawful, IsNumbered, AreClosed, IsClosed, IsFalling, all_sent, only, sent, state, times}
use Rattle.tw_sim.specs.Seq.{World, begin, finished, log, rest, seq, turn, turns, weight}
use Rattle.tw_sim.proofs.Counts.{in_cons, none, one_self, times-append, times-insert_all}
use Rattle.tw_sim.proofs.Seq.{Ends, IsOver, ends, over, over_finished, soon, turn_over, turn_soon}
use Rattle.tw_sim.proofs.Rising.{IsRising, rising-begin, rising-insert_all}
use Rattle.tw_sim.proofs.Unique.{list_closed, same_histories, same_lists, sent_by_source}

module _ {S E : Type 0} (m : Simulation S E) (law : IsLawful m) (numbered : IsNumbered m) where
  -- what a router has sent has numbers below its counter
  pub sent_number : (r : ℕ) (xs : List E) (e : E) → 0 < times m e (sent m r xs) → m.seq e < m.number (state m r xs)
  sent_number r [] e h = absurd (omega arith)
  sent_number r (x ∷ xs) e h =
      let all = times-append m e (m.sends (state m r xs) x) (sent m r xs) in
      let grows = numbered.rising (state m r xs) x in
      elim (cases_Bool (nat_lt 0 (times m e (sent m r xs)))) [
        | inl b ↦ (let k = sent_number r xs e (ltb-true 0 (times m e (sent m r xs)) b) in omega arith)
        | inr b ↦ (
            let no_old = ltb-false 0 (times m e (sent m r xs)) b in
            (numbered.numbered (state m r xs) x e (omega arith)).1)
      ]

  -- a router sends an event at most once
  pub sent_once : (r : ℕ) (xs : List E) (e : E) → times m e (sent m r xs) ≤ 1
  sent_once r [] e = omega arith
  sent_once r (x ∷ xs) e =
      let all = times-append m e (m.sends (state m r xs) x) (sent m r xs) in
      let more = sent_once r xs e in
      let new = numbered.once (state m r xs) x e in
      elim (cases_Bool (nat_lt 0 (times m e (sent m r xs)))) [
        | inr b ↦ (let no_old = ltb-false 0 (times m e (sent m r xs)) b in omega arith)
        | inl b ↦ (
            let old = sent_number r xs e (ltb-true 0 (times m e (sent m r xs)) b) in
            let no_new = none (times m e (m.sends (state m r xs) x)) (λ k. let n = (numbered.numbered (state m r xs) x e k).0 in absurd (omega arith)) in
            omega arith)
      ]

  -- an opening event is never sent
  pub sent_strange : (r : ℕ) (xs : List E) (e : E) → 0 < times m e (sent m r xs) → times m e m.opening ≡ 0
  sent_strange r [] e h = absurd (omega arith)
  sent_strange r (x ∷ xs) e h =
      let all = times-append m e (m.sends (state m r xs) x) (sent m r xs) in
      elim (cases_Bool (nat_lt 0 (times m e (sent m r xs)))) [
        | inl b ↦ sent_strange r xs e (ltb-true 0 (times m e (sent m r xs)) b)
        | inr b ↦ (
            let no_old = ltb-false 0 (times m e (sent m r xs)) b in
            numbered.strange (state m r xs) x e (omega arith))
      ]

  -- an event is asked for at most once
  pub asked_once : (r : ℕ) (xs : List E) (e : E) → times m e m.opening + times m e (sent m r xs) ≤ 1
  asked_once r xs e =
      let opening = numbered.opening_once e in
      let sends = sent_once r xs e in
      elim (cases_Bool (nat_lt 0 (times m e (sent m r xs)))) [
        | inl b ↦ (let strange = sent_strange r xs e (ltb-true 0 (times m e (sent m r xs)) b) in omega arith)
        | inr b ↦ (let no_old = ltb-false 0 (times m e (sent m r xs)) b in omega arith)
      ]

  -- what holds of a run to t after each turn
  pub record IsRunning (t : ℕ) (w : World E) : Type 0 where
    pub falling : IsFalling m w.log
    pub rising : IsRising m w.rest
    pub soon : (e : E) → 0 < times m e w.log → m.time e < t
    pub ahead : (e x : E) → 0 < times m e w.rest → 0 < times m x w.log → m.before e x ≡ false
    pub balance : (e : E) → times m e w.log + times m e w.rest ≡ times m e m.opening + times m e (all_sent m w.log)

  -- each event stands once, handled or pending
  pub running_once : (t : ℕ) (w : World E) → IsRunning t w → (e : E) → times m e w.log + times m e w.rest ≤ 1
  running_once t w run e =
      let balance = run.balance e in
      let source = sent_by_source m law w.log e in
      let once = asked_once (m.src e) (only m (m.src e) w.log) e in
      omega arith

  running_begin : (t : ℕ) → IsRunning t (begin m)
  running_begin t = record {
    falling = tt;
    rising = rising-begin m law;
    soon = λ e h. absurd (omega arith);
    ahead = λ e x h k. absurd (omega arith);
    balance = λ e. (let k = times-insert_all m e m.opening [] in omega arith);
  }

  running_turn : (t : ℕ) (w : World E) → Ends m t w → IsRunning t w → IsRunning t (turn m t w.log w.rest)
  running_turn t w (over h) run = subst (IsRunning t) (sym (turn_over m t w h)) run
  running_turn t w (soon {log} {x} {rest} h) run =
      let sends = m.sends (state m (m.dst x) (only m (m.dst x) log)) x in
      let self = one_self m law x in
      let once = running_once t w run x in
      let strict : (e : E) → 0 < times m e log → m.before e x ≡ true = λ e there.
      true_from_ne_false (m.before e x) (λ k.
      let same = law.total e x k (run.ahead x e (omega arith) there) in
      let twice : 0 < times m x log = subst (λ z. 0 < times m z log) same there in
      omega arith) in
      let later : (e : E) → 0 < times m e sends → m.time x < m.time e = λ e k. law.later (state m (m.dst x) (only m (m.dst x) log)) x e k in
      subst (IsRunning t) (sym (turn_soon m t log x rest h)) (record {
        falling = (strict, run.falling);
        rising = rising-insert_all m law sends rest run.rising.1;
        soon = λ e there. elim (in_cons m law e x log there) [
          | inl is ↦ subst (λ z. m.time z < t) (sym is) h
          | inr old ↦ run.soon e old
        ];
        ahead = λ e y there past.
            let all = times-insert_all m e sends rest in
            elim (cases_Bool (nat_lt 0 (times m e rest))) [
              | inl b ↦ (
                  let old = ltb-true 0 (times m e rest) b in
                  elim (in_cons m law y x log past) [
                    | inl is ↦ subst (λ z. m.before e z ≡ false) (sym is) (run.rising.0 e old)
                    | inr k ↦ run.ahead e y (omega arith) k
                  ])
              | inr b ↦ (
                  let no_old = ltb-false 0 (times m e rest) b in
                  let after = later e (omega arith) in
                  false_from_ne_true (m.before e y) (λ k.
                  let order = law.timely e y k in
                  elim (in_cons m law y x log past) [
                    | inl is ↦ (let same : m.time y ≡ m.time x = ap m.time is in omega arith)
                    | inr old ↦ (let before_x = law.timely y x (strict y old) in omega arith)
                  ]))
            ];
        balance = λ e.
            let all = times-insert_all m e sends rest in
            let both = times-append m e sends (all_sent m log) in
            let old = run.balance e in
            omega arith;
      })

  running_turns : (n t : ℕ) (w : World E) → IsRunning t w → IsRunning t (turns m n t w)
  running_turns zero t w run = run
  running_turns (suc n) t w run = running_turns n t (turn m t w.log w.rest) (running_turn t w (ends m t w) run)

  pub running_seq : (t : ℕ) → IsRunning t (seq m t)
  unfolding finished
  running_seq t = running_turns (weight m t (begin m).rest) t (begin m) (running_begin t)

  over_rest : (t : ℕ) (xs : List E) → IsRising m xs → IsOver m t xs → (e : E) → 0 < times m e xs → t ≤ m.time e
  over_rest t [] r o e h = absurd (omega arith)
  over_rest t (x ∷ xs) r o e h =
      elim (in_cons m law e x xs h) [
        | inl is ↦ subst (λ z. t ≤ m.time z) (sym is) o
        | inr k ↦ elim (cases_Bool (m.before x e)) [
          | inl b ↦ (let order = law.timely x e b in omega arith)
          | inr b ↦ subst (λ z. t ≤ m.time z) (sym (law.total e x (r.0 e k) b)) o
        ]
      ]

  -- what is pending at the end of a run to t is not before t
  pub rest_late : (t : ℕ) (e : E) → 0 < times m e (rest m t) → t ≤ m.time e
  rest_late t e h = over_rest t (rest m t) (running_seq t).rising (over_finished m law t (begin m)) e h

  -- the events handled to t are closed below t
  pub log_closed : (t : ℕ) → IsClosed m t (log m t)
  log_closed t = record {
    falling = (running_seq t).falling;
    exact = λ e. (
      (λ h. let balance = (running_seq t).balance e in ((running_seq t).soon e h, omega arith)),
      (λ p. let balance = (running_seq t).balance e in
          elim (cases_Bool (nat_lt 0 (times m e (rest m t)))) [
            | inl b ↦ (let late = rest_late t e (ltb-true 0 (times m e (rest m t)) b) in absurd (omega arith))
            | inr b ↦ (let empty = ltb-false 0 (times m e (rest m t)) b in omega arith)
          ]),
    );
  }

  -- every list that is closed below t is that of the sequential run
  pub closed_is_log : (t : ℕ) (events : List E) → IsClosed m t events → events ≡ log m t
  closed_is_log t events closed = same_lists m law t events (log m t) closed (log_closed t)

  -- and closed histories are its histories
  pub histories_are_log : (t : ℕ) (hist : ℕ → List E) → AreClosed m t hist → (r : ℕ) → hist r ≡ only m r (log m t)
  histories_are_log t hist closed r = same_histories m law t hist (λ q. only m q (log m t)) closed (list_closed m law t (log m t) (log_closed t)) r
